use mathlib.Core.Path.{◌≡◌}
use mathlib.Core.List.{◌++◌}
use Prim.Native.Nat.{◌-◌, ◌^◌, ◌≤◌, ◌<◌}
use lib.ListN.{length, take, drop}
use Rattle.sponge.specs.Digits.{digits}
use Rattle.kangarootwelve.proofs.length_encode.Given as goal

abbrev pub invariant-loop-rest : goal.invariant-loop-rest
invariant-loop-rest l =
    (length l.bytes ≡ 9) × (l.start ≤ 8) × (l.rest < 256 ^ l.start) × (digits l.rest l.rest ++ take (8 - l.start) (drop l.start l.bytes) ≡ digits l.x l.x) × (take l.start l.bytes ≡ take l.start l.initial.bytes)

abbrev pub decreases-loop-rest : goal.decreases-loop-rest
decreases-loop-rest l = l.rest
