use mathlib.Core.Path.{◌≡◌, refl, sym, ap, ◌∙◌}
use mathlib.Core.List.{List}
use Prim.Native.Nat.{ℕ, ◌-◌}
use native.Mathlib.Nat.{sub-zero}
use native.Mathlib.Omega.{arith}
use lib.ListN.{length}
use Rattle.keccak.specs.Permutation.{permuted}
use Rattle.abreast.specs.Four.{state_at}
use Rattle.sponge.specs.Published.{bytes_from}
use Rattle.sponge.specs.Model.{Sponge, Outcome, absorb_bytes, absorb_call}
use Rattle.sponge.proofs.Published.{length-bytes_from}
use Rattle.turboshake.specs.Published.{turboshake_rounds}
use Rattle.kangarootwelve.specs.Leaves.{states_bytes}
use Rattle.kangarootwelve.proofs.Nodes.{absorbed_is, absorb_in}
use Rattle.kangarootwelve.proofs.Values.{value_is, values_step}
use Rattle.kangarootwelve.proofs.leaves.absorb_values.Goals as goal

pub loop-j-init : goal.loop-j-init
loop-j-init c =
    let a = c.args in (
      omega arith,
      refl,
      ap (λ (m : ℕ). absorb_bytes permuted a.strength.rate (record { value = a.node.now; position = a.position }) (states_bytes (length a.value.now) a.states.now m 0)) (sub-zero a.count),
    )

pub read-read-requires : goal.read-read-requires
read-read-requires c = tt

pub absorb-absorbed-requires : goal.absorb-absorbed-requires
absorb-absorbed-requires c = tt

pub loop-j-preserved : goal.loop-j-preserved
loop-j-preserved c =
    let rate = c.args.strength.rate in
    let t : List ℕ = c.args.states.now in
    let n : ℕ = length c.args.value.now in
    let j = c.loop-j.j in
    let s : Sponge = record { value = c.loop-j.node; position = c.loop-j.p } in
    let o : Outcome = record { status = c.absorb-absorbed.result.status; state = record { value = c.absorb-absorbed.new.lanes; position = c.absorb-absorbed.result.position } } in
    let v : List ℕ = c.read-read.new.out in
    let ev : v ≡ bytes_from (state_at j t) 0 n =
    value_is t c.loop-j.value v j n c.requires.position_bound.1 (omega (arith, c.loop-j-test.true, c.requires.position_bound.2)) c.loop-j.invariant.1 c.requires.value_len_bound.0 c.requires.value_len_bound.1 c.read-read.ensures.out_after in
    let eo : o ≡ absorb_call turboshake_rounds rate s v = c.absorb-absorbed.ensures in
    let is : o.state ≡ absorb_bytes permuted rate s v = absorbed_is rate c.args.strength.bounds.0 c.args.strength.bounds.1 s v o c.loop-j.invariant.0 eo in (
      rw (ap (λ (u : Sponge). u.position) is) (absorb_in rate c.args.strength.bounds.0 s v c.loop-j.invariant.0),
      ap length ev ∙ length-bytes_from (state_at j t) 0 n,
      values_step rate c.args.strength.bounds.0 c.args.strength.bounds.1 n t c.args.count j s v o c.loop-j-test.true c.loop-j.invariant.0 ev eo ∙ c.loop-j.invariant.2,
    )

pub shape_of-value : goal.shape_of-value
shape_of-value c = c.loop-j.invariant.1

pub returns : goal.returns
returns c =
    let t : List ℕ = c.args.states.now in
    let n : ℕ = length c.args.value.now in
    let e : c.args.count - c.loop-j.j ≡ 0 = omega (arith, c.loop-j-test.false) in record {
      upper_bound = c.loop-j.invariant.0;
      result_after = sym (ap (λ (m : ℕ). absorb_bytes permuted c.args.strength.rate (record { value = c.loop-j.node; position = c.loop-j.p }) (states_bytes n t m c.loop-j.j)) e)
          ∙ c.loop-j.invariant.2;
    }
