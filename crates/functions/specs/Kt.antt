-- The calls of the KT function that is chosen: those of its strength.
-- Assumes nothing.
use Rattle.std.specs.Prelude.{List, ℕ}
use Rattle.sponge.specs.Transcript.{Call}
use Rattle.kangarootwelve.specs.Model.{answer_of, answer_abreast}
use Rattle.kangarootwelve.specs.declared.Run.{Run}
use Rattle.functions.specs.declared.kt.KtFunction.{KtFunction}
use Rattle.functions.specs.declared.kt.KtFunction.TheVariants.{Kt128, Kt256}
use Rattle.functions.specs.declared.kt.KtAnswer.{KtAnswer}

abbrev pub rate_of : KtFunction → ℕ
rate_of Kt128 = 168
rate_of Kt256 = 136

abbrev pub chaining_of : KtFunction → ℕ
chaining_of Kt128 = 32
chaining_of Kt256 = 64

-- the status, and the run handed back
abbrev pub answer_in : KtFunction → Run → Call (List ℕ) → KtAnswer
answer_in f r c = record { run = (answer_of (rate_of f) (chaining_of f) r c).run; status = (answer_of (rate_of f) (chaining_of f) r c).status }

-- the same of a message feed that lends n words
abbrev pub abreast_in : KtFunction → Run → ℕ → List ℕ → KtAnswer
abreast_in f r n p = record { run = (answer_abreast (rate_of f) (chaining_of f) r n p).run; status = (answer_abreast (rate_of f) (chaining_of f) r n p).status }
