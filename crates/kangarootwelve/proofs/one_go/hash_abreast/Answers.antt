use mathlib.Core.Path.{refl, ap, sym, ◌∙◌, subst}
use Prim.Native.Nat.{ℕ, zero-le}
use native.Mathlib.Omega.{arith}
use lib.ListN.{length, replicate}
use Rattle.sponge.proofs.Lent.{lent-refused}
use Rattle.kangarootwelve.specs.Model.{states_after}
use Rattle.kangarootwelve.specs.Inside.{Fits, tree_of}
use Rattle.kangarootwelve.specs.declared.Place.{Place}
use Rattle.kangarootwelve.proofs.Values.{cleared_is, cleared-length}
use Rattle.kangarootwelve.proofs.OneGo.{hash-fits, hash_12, hash_100, abreast_kept, abreast_written, whole_row}
use Rattle.kangarootwelve.proofs.one_go.hash_abreast.Goals as goal

pub returns-then-states-ne100 : goal.returns-then-states-ne100
returns-then-states-ne100 c =
    let a = c.args in
    let e = hash_12 (length a.states.now) (length a.message.now) (length a.customization.now) (length a.out.now) c.if-states-ne100.true in record {
      value = e;
      out_after = abreast_kept a.strength.rate a.strength.chaining (length a.states.now) a.message.now a.customization.now a.out.now (λ z. omega (arith, e, z));
      states_after = refl;
    }

pub returns-then-refusal-ne-DONE : goal.returns-then-refusal-ne-DONE
returns-then-refusal-ne-DONE c =
    let a = c.args in
    let n = c.hash_status-refusal in
    let e = n.ensures ∙ hash_100 (length a.states.now) (length a.message.now) (length a.customization.now) (length a.out.now) c.if-states-ne100.false in record {
      value = e;
      out_after = abreast_kept a.strength.rate a.strength.chaining (length a.states.now) a.message.now a.customization.now a.out.now (λ z. c.if-refusal-ne-DONE.true (e ∙ z));
      states_after = lent-refused n.result c.if-refusal-ne-DONE.true _ a.states.now;
    }

pub absorb-last-requires : goal.absorb-last-requires
absorb-last-requires c =
    let a = c.args in
    let o = c.opened-first.ensures in
    let few = hash-fits (length a.message.now) (length a.customization.now) (length a.out.now) (sym c.hash_status-refusal.ensures ∙ c.if-refusal-ne-DONE.false) in record {
      place_fits = (subst (λ (p : Place). Fits a.strength.rate (tree_of (replicate 25 0) (replicate 25 0) p)) (sym o) (record { final-fits = zero-le; leaf-fits = zero-le; position-fits = zero-le }), omega (arith, few.0, ap (λ (p : Place). p.index) o));
      states_cleared = cleared_is a.states.now _ c.clear.ensures c.if-states-ne100.false;
    }

pub finalize-requires : goal.finalize-requires
finalize-requires c =
    let a = c.args in
    let m = c.absorb-last.ensures in
    let o = ap (λ (p : Place). p.index) c.opened-first.ensures in
    let few = hash-fits (length a.message.now) (length a.customization.now) (length a.out.now) (sym c.hash_status-refusal.ensures ∙ c.if-refusal-ne-DONE.false) in
    (m.fits.0, omega (arith, m.index_bound, o, few.0, few.1))

pub returns : goal.returns
returns c =
    let a = c.args in
    let m = c.absorb-last in
    let f = c.finalize in
    let q = c.squeeze-squeezed in
    let hundred = c.if-states-ne100.false in
    let done = sym (hash_100 (length a.states.now) (length a.message.now) (length a.customization.now) (length a.out.now) hundred) ∙ sym c.hash_status-refusal.ensures ∙ c.if-refusal-ne-DONE.false in
    let row = whole_row a.strength.rate c.args.strength.bounds.0 c.args.strength.bounds.1 a.strength.chaining a.message.now a.customization.now a.out.now f.new.node c.opened-first.result (tree_of m.new.node m.new.leaf m.result)
    (record { status = q.result.status; state = record { value = q.new.lanes; position = q.result.position } }) q.new.out c.opened-first.ensures m.ensures.result_after f.ensures q.ensures.position_after q.ensures.out_after in record {
      value = row.0 ∙ sym done;
      out_after = row.1 ∙ abreast_written a.strength.rate a.strength.chaining (length a.states.now) a.message.now a.customization.now a.out.now done;
      states_after = m.ensures.fits.1 ∙ sym (cleared_is a.states.now _ refl hundred) ∙ ap (λ (k : ℕ). states_after k a.states.now) (sym row.0);
    }

pub shape_of-states : goal.shape_of-states
shape_of-states c = ap length c.absorb-last.ensures.fits.1 ∙ cleared-length ∙ sym c.if-states-ne100.false
