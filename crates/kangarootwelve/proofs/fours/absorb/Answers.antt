-- `kangarootwelve::fours::absorb` meets its contract.
-- Assumes nothing.
use mathlib.Core.Path.{◌≡◌, sym, ap, ◌∙◌, subst}
use mathlib.Core.List.{List}
use Prim.Native.Nat.{ℕ, suc, ◌-◌}
use native.Mathlib.Omega.{arith}
use lib.Seq.{length-take-le}
use Rattle.sponge.specs.Waiting.{At}
use Rattle.kangarootwelve.specs.Tree.{Tree, absorb_tree}
use Rattle.kangarootwelve.specs.Inside.{tree_of, Fits}
use Rattle.kangarootwelve.proofs.Published.{chunk_is}
use Rattle.kangarootwelve.proofs.Nodes.{value-length, end_fits}
use Rattle.kangarootwelve.proofs.FourLeaves.{rest_is, rest_length, lead_row, ended_leaf}
use Rattle.kangarootwelve.proofs.fours.absorb.Goals as goal

pub overflow_sub-lead : goal.overflow_sub-lead
overflow_sub-lead c = omega (arith, c.requires.place_fits.0.position-fits, chunk_is)

pub returns-then-piece-lead : goal.returns-then-piece-lead
returns-then-piece-lead c =
    let e = c.absorb.ensures in record {
      fits = (e.fits, c.requires.states_cleared);
      index_bound = omega (arith, e.index_bound);
      result_after = e.result_after;
    }

pub slice_bounds-absorb-end : goal.slice_bounds-absorb-end
slice_bounds-absorb-end c =
    let a = c.args in
    sym (length-take-le (8192 - a.at.position) a.piece.now (omega (arith, c.if-piece-lead.false)))

pub absorb-full-requires : goal.absorb-full-requires
absorb-full-requires c =
    let a = c.args in
    let n = length-take-le (8192 - a.at.position) a.piece.now (omega (arith, c.if-piece-lead.false)) in
    (c.requires.place_fits.0, omega (arith, n, c.if-piece-lead.false, c.requires.place_fits.1))

pub end_chunk-next-requires : goal.end_chunk-next-requires
end_chunk-next-requires c =
    let a = c.args in
    let e = c.absorb-full.ensures in
    let n = length-take-le (8192 - a.at.position) a.piece.now (omega (arith, c.if-piece-lead.false)) in
    (e.fits, omega (arith, e.index_bound, n, c.if-piece-lead.false, c.requires.place_fits.1))

pub absorb_leaves-requires : goal.absorb_leaves-requires
absorb_leaves-requires c =
    let a = c.args in
    let f = c.absorb-full in
    let e = c.end_chunk-next in
    let t = c.if-piece-lead.false in
    let lead : ℕ = 8192 - a.at.position in
    let u : At Tree = tree_of f.new.node f.new.leaf f.result in
    let w : At Tree = tree_of e.new.node e.new.leaf e.result in
    let fits : Fits a.strength.rate w = subst (Fits a.strength.rate) (sym e.ensures) (end_fits a.strength.rate c.args.strength.bounds.0 a.strength.chaining u f.ensures.fits) in
    let index : e.result.index ≡ suc f.result.index = ap (λ (x : At Tree). x.value.index) e.ensures in
    let n = length-take-le lead a.piece.now (omega (arith, t)) in
    let k = rest_length lead a.piece.now in record {
      value_len = value-length a.strength.chaining c.args.strength.bounds.4;
      leaf_begins = (fits.final-fits, ap (λ (x : At Tree). x.value.leaf.position) e.ensures, omega (arith, index), ap (λ (x : At Tree). x.position) e.ensures, omega (arith, index, f.ensures.index_bound, n, k, t, c.requires.place_fits.1), ended_leaf a.strength.rate a.strength.chaining c.args.strength.bounds.0 c.args.strength.bounds.1 u.value w e.ensures, c.requires.states_cleared, omega (arith, k, t));
    }

pub returns : goal.returns
returns c =
    let a = c.args in
    let f = c.absorb-full in
    let e = c.end_chunk-next in
    let l = c.absorb_leaves in
    let t = c.if-piece-lead.false in
    let lead : ℕ = 8192 - a.at.position in
    let p : List ℕ = a.piece.now in
    let u : At Tree = tree_of f.new.node f.new.leaf f.result in
    let w : At Tree = tree_of e.new.node e.new.leaf e.result in
    let index : e.result.index ≡ suc f.result.index = ap (λ (x : At Tree). x.value.index) e.ensures in
    let n = length-take-le lead p (omega (arith, t)) in
    let k = rest_length lead p in record {
      fits = l.ensures.fits;
      index_bound = omega (arith, l.ensures.index_bound, index, f.ensures.index_bound, n, k, t);
      result_after = l.ensures.result_after ∙ ap (absorb_tree a.strength.rate a.strength.chaining w) (rest_is lead p)
          ∙ lead_row a.strength.rate a.strength.chaining c.args.strength.bounds.0 c.args.strength.bounds.1 (tree_of a.node.now a.leaf.now a.at) u w lead p (omega (arith, c.requires.place_fits.0.position-fits, chunk_is)) (omega (arith, t)) f.ensures.result_after e.ensures;
    }
