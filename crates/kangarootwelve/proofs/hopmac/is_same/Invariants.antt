use mathlib.Core.Path.{◌≡◌}
use mathlib.Core.Bool.{◌&&◌}
use lib.Dec.{eqb}
use lib.ListN.{length, drop}
use Rattle.kangarootwelve.specs.Mac.{same_bytes}
use Rattle.kangarootwelve.proofs.hopmac.is_same.Given as goal

abbrev pub invariant-loop-x : goal.invariant-loop-x
invariant-loop-x l = (eqb l.difference 0 && same_bytes (drop (length l.yielded) l.expected) (drop (length l.yielded) l.presented)) ≡ same_bytes l.expected l.presented
