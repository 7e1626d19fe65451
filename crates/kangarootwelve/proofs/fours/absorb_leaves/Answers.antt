-- `kangarootwelve::fours::absorb_leaves` meets its contract. The loop's invariant: what is left takes the tree to where all of it takes it.
-- Assumes nothing.
use mathlib.Core.Path.{◌≡◌, refl, sym, ap, ◌∙◌, subst}
use Prim.Native.Nat.{ℕ, ◌+◌, ◌%◌, ◌≤◌}
use native.Mathlib.Omega.{arith}
use lib.ListN.{length}
use mathlib.Core.List.{List}
use Rattle.keccak.specs.Permutation.{permuted}
use Rattle.sponge.specs.Model.{absorb_bytes}
use Rattle.kangarootwelve.specs.Leaves.{values_of}
use Rattle.kangarootwelve.specs.Tree.{absorb_tree}
use Rattle.kangarootwelve.specs.Inside.{tree_of}
use Rattle.kangarootwelve.specs.declared.Place.{Place}
use Rattle.kangarootwelve.proofs.FourLeaves.{closed_row}
use Rattle.kangarootwelve.proofs.fours.absorb_leaves.Goals as goal

pub loop-rest-init : goal.loop-rest-init
loop-rest-init c =
    (c.requires.leaf_begins.7, omega arith, c.requires.leaf_begins.2, c.requires.leaf_begins.0, c.requires.leaf_begins.1, c.requires.leaf_begins.3, c.requires.leaf_begins.6, refl, refl)

pub absorb_four-position-requires : goal.absorb_four-position-requires
absorb_four-position-requires c =
    let a = c.args in
    let e : length c.loop-rest.value ≡ a.strength.chaining = c.loop-rest.invariant.7 ∙ c.requires.value_len in record {
      position_bound = c.loop-rest.invariant.3;
      chunks_len = (c.split_at.ensures.front_len, c.loop-rest.invariant.6, subst (λ (n : ℕ). n ≤ a.strength.rate) (sym e) c.args.strength.bounds.6, subst (λ (n : ℕ). n % 8 ≡ 0) (sym e) c.args.strength.bounds.5);
    }

pub loop-rest-preserved : goal.loop-rest-preserved
loop-rest-preserved c =
    let a = c.args in
    let t = c.loop-rest-test.true in
    let f = c.absorb_four-position in
    let p = c.loop-rest.place in
    let r = c.loop-rest.rest.now in
    let back = c.split_at-in-loop-rest.ensures.back_len in
    let o = c.opened-place.ensures in
    let index : c.opened-place.result.index ≡ p.index + 4 = ap (λ (q : Place). q.index) o in (
      omega (arith, t, back),
      omega (arith, index, back, c.loop-rest.invariant.1),
      omega (arith, index),
      subst (λ (n : ℕ). n ≤ a.strength.rate) (sym (ap (λ (q : Place). q.node) o)) f.ensures.upper_bound.0,
      ap (λ (q : Place). q.leaf) o,
      ap (λ (q : Place). q.position) o,
      f.ensures.upper_bound.1,
      f.auto.value ∙ c.loop-rest.invariant.7,
      ap (λ (q : Place). absorb_tree a.strength.rate a.strength.chaining (tree_of f.new.node a.leaf.now q) c.split_at-in-loop-rest.result.1.now) o
          ∙ rw c.split_at-in-loop-rest.ensures.back (closed_row a.strength.rate a.strength.chaining a.strength.bounds.0 a.strength.bounds.1 (record { value = c.loop-rest.node; position = p.node }) (record { value = f.new.node; position = f.result }) a.leaf.now p.leaf p.index
          p.position c.loop-rest.value r c.requires.leaf_begins.5 c.loop-rest.invariant.4 c.loop-rest.invariant.2 c.loop-rest.invariant.5 (c.loop-rest.invariant.7 ∙ c.requires.value_len) (omega (arith, t))
          (f.ensures.result_after ∙ ap (λ (m : List ℕ). absorb_bytes permuted a.strength.rate (record { value = c.loop-rest.node; position = p.node }) (values_of a.strength.rate (length c.loop-rest.value) 4 m)) c.split_at.ensures.front))
          ∙ c.loop-rest.invariant.8,
    )

pub absorb_last-requires : goal.absorb_last-requires
absorb_last-requires c =
    record {
      value_len = c.loop-rest.invariant.7 ∙ c.requires.value_len;
      leaf_begins = (c.loop-rest.invariant.3, c.loop-rest.invariant.4, c.loop-rest.invariant.2, c.loop-rest.invariant.5, omega (arith, c.loop-rest.invariant.1, c.requires.leaf_begins.4), c.requires.leaf_begins.5, c.loop-rest.invariant.6);
    }

pub shape_of-states : goal.shape_of-states
shape_of-states c =
    ap length c.absorb_last.ensures.fits.1 ∙ sym (ap length c.requires.leaf_begins.6)

pub shape_of-value : goal.shape_of-value
shape_of-value c = c.absorb_last.auto.value ∙ c.loop-rest.invariant.7

pub returns : goal.returns
returns c =
    let e = c.absorb_last.ensures in record {
      fits = e.fits;
      index_bound = omega (arith, e.index_bound, c.loop-rest.invariant.1);
      result_after = e.result_after ∙ c.loop-rest.invariant.8;
    }
