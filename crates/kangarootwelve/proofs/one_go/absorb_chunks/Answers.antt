use mathlib.Core.Path.{◌≡◌, ap, sym, ◌∙◌}
use mathlib.Core.List.{List}
use Prim.Native.Nat.{ℕ, suc, ◌-◌, ◌*◌}
use native.Mathlib.Nat.{zero-mul, sub-zero}
use native.Mathlib.Numerals.{add-one}
use native.Mathlib.Omega.{arith}
use lib.ListN.{drop}
use Rattle.sponge.specs.Model.{fresh}
use Rattle.kangarootwelve.specs.Published.{chunk}
use Rattle.kangarootwelve.specs.Tree.{Tree}
use Rattle.kangarootwelve.specs.Inside.{ended_chunk, ended_chunks}
use Rattle.kangarootwelve.proofs.OneGo.{chunk-length, part_chunk, chunks_step, chunks_done}
use Rattle.kangarootwelve.proofs.one_go.absorb_chunks.Goals as goal

pub loop-i-init : goal.loop-i-init
loop-i-init c =
    let a = c.args in (
      omega arith,
      ap (λ (s : List ℕ). ended_chunks a.strength.rate a.strength.chaining (a.count - 0) (record { final = record { value = a.node.now; position = 0 }; leaf = fresh; index = 0 }) s) (ap (λ (n : ℕ). drop n a.message.now) (zero-mul chunk))
          ∙ ap (λ (n : ℕ). ended_chunks a.strength.rate a.strength.chaining n (record { final = record { value = a.node.now; position = 0 }; leaf = fresh; index = 0 }) a.message.now) (sub-zero a.count),
    )

pub absorb_chunk-p-requires : goal.absorb_chunk-p-requires
absorb_chunk-p-requires c =
    (c.loop-i.invariant.0, chunk-length c.loop-i.i c.args.message.now)

pub loop-i-preserved : goal.loop-i-preserved
loop-i-preserved c =
    let a = c.args in
    let i = c.loop-i.i in
    let t : Tree = record { final = record { value = c.loop-i.node; position = c.loop-i.p }; leaf = fresh; index = i } in
    let w = c.absorb_chunk-p.ensures.index_after ∙ ap (ended_chunk a.strength.rate a.strength.chaining t) (part_chunk i a.message.now) in (
      c.absorb_chunk-p.ensures.upper_bound,
      rw add-one
          (ap (λ (u : Tree). ended_chunks a.strength.rate a.strength.chaining (a.count - suc i) u (drop (suc i * chunk) a.message.now)) w
          ∙ chunks_step a.strength.rate c.args.strength.bounds.0 c.args.strength.bounds.1 a.strength.chaining a.count i t a.message.now c.loop-i-test.true)
          ∙ c.loop-i.invariant.1,
    )

pub returns : goal.returns
returns c =
    let a = c.args in
    let e : c.loop-i.i ≡ a.count = omega (arith, c.loop-i-test.false) in
    let t : Tree = record { final = record { value = c.loop-i.node; position = c.loop-i.p }; leaf = fresh; index = c.loop-i.i } in record {
      upper_bound = c.loop-i.invariant.0;
      count_after = ap (λ (n : ℕ). record { final = record { value = c.loop-i.node; position = c.loop-i.p }; leaf = fresh; index = n }) (sym e)
          ∙ sym (chunks_done a.strength.rate c.args.strength.bounds.0 c.args.strength.bounds.1 a.strength.chaining a.count c.loop-i.i t a.message.now e) ∙ c.loop-i.invariant.1;
    }
