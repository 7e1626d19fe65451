-- What the contracts of private functions say.
-- Assumes nothing.
use Rattle.kangarootwelve.specs.Model as kt
use Rattle.journal.specs.declared.Answer.{Answer}

-- an answer of KT128 as a day's
abbrev pub as_day : kt.Answer → Answer
as_day a = record { journal = record { run = a.run }; status = a.status }
