use mathlib.Core.Path.{ap, sym, ◌∙◌}
use Prim.Native.Nat.{◌-◌, ◌*◌, ◌/◌}
use native.Mathlib.Omega.{arith}
use lib.ListN.{length, take, drop}
use Rattle.sponge.specs.Waiting.{At}
use Rattle.kangarootwelve.specs.Tree.{Tree, fresh_tree, absorb_tree}
use Rattle.kangarootwelve.proofs.Published.{chunk_is}
use Rattle.kangarootwelve.specs.Inside.{tree_of, ended_chunks}
use Rattle.kangarootwelve.proofs.OneGo.{hash-fits, hash-refused, hash-written, part_rest, rest_length, chunks_left, hash_row}
use Rattle.kangarootwelve.proofs.one_go.hash.Goals as goal

pub returns-then-refusal-ne-DONE : goal.returns-then-refusal-ne-DONE
returns-then-refusal-ne-DONE c =
    let a = c.args in
    let s = c.hash_status-refusal in record {
      value = s.ensures;
      out_after = hash-refused a.strength.rate a.strength.chaining a.message.now a.customization.now a.out.now (λ e. c.if-refusal-ne-DONE.true (s.ensures ∙ e));
    }

pub finalize-requires : goal.finalize-requires
finalize-requires c =
    let m = c.absorb-last in
    let part = rest_length (length c.args.message.now / 8192) c.args.message.now in
    let few = hash-fits (length c.args.message.now) (length c.args.customization.now) (length c.args.out.now) (sym c.hash_status-refusal.ensures ∙ c.if-refusal-ne-DONE.false) in
    (m.ensures.fits, omega (arith, m.ensures.index_bound))

pub returns : goal.returns
returns c =
    let a = c.args in
    let chunks = c.absorb_chunks-position in
    let rest = c.absorb-last in
    let s = c.squeeze-squeezed in
    let n = length a.message.now / 8192 in
    let row = hash_row a.strength.rate c.args.strength.bounds.0 c.args.strength.bounds.1 a.strength.chaining a.message.now a.customization.now a.out.now c.finalize.new.node n
    (tree_of rest.new.node rest.new.leaf rest.result) (record { status = s.result.status; state = record { value = s.new.lanes; position = s.result.position } }) s.new.out (rw chunk_is (omega arith))
    (rest.ensures.result_after
    ∙ ap (λ (t : At Tree). absorb_tree a.strength.rate a.strength.chaining t (take (length a.message.now - n * 8192) (drop (n * 8192) a.message.now)))
    (chunks_left a.strength.rate c.args.strength.bounds.0 c.args.strength.bounds.1 a.strength.chaining chunks.new.node chunks.result n a.message.now chunks.ensures.count_after)
    ∙ ap (absorb_tree a.strength.rate a.strength.chaining (record { value = ended_chunks a.strength.rate a.strength.chaining n fresh_tree a.message.now; position = 0 })) (part_rest n a.message.now))
    c.finalize.ensures s.ensures.position_after s.ensures.out_after in
    let zero_is = sym c.hash_status-refusal.ensures ∙ c.if-refusal-ne-DONE.false in record {
      value = row.0 ∙ sym zero_is;
      out_after = row.1 ∙ hash-written a.strength.rate a.strength.chaining a.message.now a.customization.now a.out.now zero_is;
    }
