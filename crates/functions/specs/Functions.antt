-- A function by its numbers, and its calls: those of `hasher`.
-- Assumes nothing.
use Rattle.std.specs.Prelude.{ℕ}
use Rattle.sponge.specs.Status.{done}
use Rattle.hasher.specs.Function as hasher
use Rattle.hasher.specs.Model.{Ending, function_of}
use Rattle.turboshake.specs.Transcript.{domain_status}
use Rattle.functions.specs.declared.Closing.{Closing}
use Rattle.functions.specs.declared.Closing.TheVariants.{Domain, Last}
use Rattle.functions.specs.declared.Function.{Function}

-- the numbers of a function whose close takes a domain byte, and of one whose close has no argument
abbrev pub with_domain : hasher.Function ℕ → Function
with_domain F = record { numbers = record { rate = F.rate; rounds = F.rounds; limit = F.output_limit }; closing = Domain }

abbrev pub with_last : hasher.Function (Unit {0}) → Function
with_last F = record { numbers = record { rate = F.rate; rounds = F.rounds; limit = F.output_limit }; closing = Last (F.byte tt) }

-- what `hasher` is given: the numbers, and the close's byte with its status, by a domain byte where the function takes one
abbrev pub given : Function → hasher.Function Ending
given f = function_of f.numbers

abbrev pub ending : Closing → ℕ → Ending
ending Domain d = record { byte = d; status = domain_status d }
ending (Last byte) d = record { byte = byte; status = done }

abbrev pub closing : Function → ℕ → Ending
closing f d = ending f.closing d
