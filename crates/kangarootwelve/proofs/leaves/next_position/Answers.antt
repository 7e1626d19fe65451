use mathlib.Core.Path.{ap, ◌∙◌}
use mathlib.Core.List.{List}
use Prim.Native.Nat.{ℕ, ◌<◌}
use native.Mathlib.Omega.{arith}
use Rattle.keccak.specs.Permutation.{permuted}
use Rattle.abreast.specs.Four.{state_at}
use Rattle.sponge.proofs.Blocks.{ready_full, ready_other}
use Rattle.kangarootwelve.proofs.Abreast.{twelve_each}
use Rattle.kangarootwelve.proofs.leaves.next_position.Goals as goal

pub returns-then-position-strength : goal.returns-then-position-strength
returns-then-position-strength c =
    let a = c.args in
    let p = twelve_each a.states.now c.permute_in_place-full.new.states c.requires.0 c.permute_in_place-full.ensures.states_after in record {
      upper_bound = omega arith;
      sponges = record {
        words = p.words;
        each =
            λ k g.
            ap (λ (m : List ℕ). record { value = m; position = 0 }) (p.each k g)
            ∙ ready_full permuted a.strength.rate (state_at k a.states.now) a.position c.if-position-strength.true;
      };
    }

pub returns : goal.returns
returns c =
    let a = c.args in
    let h : a.position < a.strength.rate = omega (arith, c.if-position-strength.false) in record {
      upper_bound = h;
      sponges = record { words = c.requires.0; each = λ k g. ready_other permuted a.strength.rate (state_at k a.states.now) a.position h };
    }
