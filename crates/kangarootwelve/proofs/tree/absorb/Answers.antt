use mathlib.Core.Path.{◌≡◌, sym, ap, ◌∙◌, subst}
use Prim.Native.Nat.{◌+◌, ◌≤◌, ◌<◌}
use native.Mathlib.Omega.{arith}
use Rattle.std.proofs.lemmas.Bool.Decides.{nat_tests}
use lib.ListN.{length, take}
use Rattle.sponge.specs.Waiting.{At}
use Rattle.kangarootwelve.specs.Published.{chunk}
use Rattle.kangarootwelve.specs.Tree.{Tree}
use Rattle.kangarootwelve.specs.Inside.{tree_of, Fits}
use Rattle.kangarootwelve.proofs.Published.{chunk_is, index-put}
use Rattle.kangarootwelve.proofs.Nodes.{next_of, part_is, part_fits, tree_part}
use Rattle.kangarootwelve.proofs.tree.absorb.Goals as goal

pub overflow_sub-next : goal.overflow_sub-next
overflow_sub-next c =
    let s = c.args.strength in
    let n = next_of s.rate s.bounds.0 s.chaining _ _ c.next_byte-next.ensures c.loop-rest.invariant.1 in
    omega (arith, n.inside, chunk_is)

pub absorb_part-place-requires : goal.absorb_part-place-requires
absorb_part-place-requires c =
    let s = c.args.strength in
    let n = next_of s.rate s.bounds.0 s.chaining _ _ c.next_byte-next.ensures c.loop-rest.invariant.1 in
    (n.fits, omega (arith, n.inside, chunk_is, c.split_at.ensures.front_len))

pub loop-rest-smaller : goal.loop-rest-smaller
loop-rest-smaller c =
    let s = c.args.strength in
    let n = next_of s.rate s.bounds.0 s.chaining _ _ c.next_byte-next.ensures c.loop-rest.invariant.1 in
    let some : 0 < length c.loop-rest.rest.now = grind (arith, nat_tests) in
    omega (arith, n.inside, chunk_is, c.split_at.ensures.back_len)

pub loop-rest-preserved : goal.loop-rest-preserved
loop-rest-preserved c =
    let s = c.args.strength in
    let r = c.loop-rest.rest.now in
    let k = c.min-k.result in
    let t = tree_of c.loop-rest.node c.loop-rest.leaf c.loop-rest.place in
    let u = tree_of c.next_byte-next.new.node c.next_byte-next.new.leaf c.next_byte-next.result in
    let v = tree_of c.absorb_part-place.new.node c.absorb_part-place.new.leaf c.absorb_part-place.result in
    let n = next_of s.rate s.bounds.0 s.chaining t u c.next_byte-next.ensures c.loop-rest.invariant.1 in
    let fits : k ≤ length r = omega arith in
    let room : u.position + k ≤ chunk = omega (arith, n.inside, chunk_is) in
    let w = c.absorb_part-place.ensures ∙ part_is s.rate s.bounds.0 u r c.split_at.result.0.now k c.split_at.ensures.front fits in
    let index_is : c.absorb_part-place.result.index ≡ c.next_byte-next.result.index =
    ap (λ (x : At Tree). x.value.index) w ∙ index-put s.rate s.chaining u.value.index u.value.final u.value.leaf (take k r) in
    let some : 0 < length r = grind (arith, nat_tests) in
    let count = n.counted in (
      omega (arith, n.inside, chunk_is, c.split_at.ensures.back_len),
      subst (Fits s.rate) (sym w) (part_fits s.rate s.bounds.0 u r k n.fits room fits),
      rw c.split_at.ensures.back (tree_part s.rate s.bounds.0 s.chaining t u v c.next_byte-next.ensures n.inside r k w some room fits ∙ c.loop-rest.invariant.2),
    )
