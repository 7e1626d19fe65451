use mathlib.Core.Path.{ap, ◌∙◌}
use mathlib.Core.List.{List}
use Prim.Native.Nat.{ℕ, ◌<◌}
use native.Mathlib.Omega.{arith}
use Rattle.keccak.specs.Permutation.{last_rounds}
use Rattle.sponge.proofs.Blocks.{ready_full, ready_other}
use Rattle.sponge.proofs.next_position.Goals as goal

pub returns-then-position-rate : goal.returns-then-position-rate
returns-then-position-rate c =
    let a = c.args in record {
      upper_bound = omega arith;
      result_after = ap (λ (m : List ℕ). record { value = m; position = 0 }) c.permute_in_place.ensures.lanes_after ∙ ready_full (last_rounds a.rounds) a.rate a.lanes.now a.position c.if-position-rate.true;
    }

pub returns : goal.returns
returns c =
    let a = c.args in
    let h : a.position < a.rate = omega (arith, c.if-position-rate.false) in record {
      upper_bound = h;
      result_after = ready_other (last_rounds a.rounds) a.rate a.lanes.now a.position h;
    }
