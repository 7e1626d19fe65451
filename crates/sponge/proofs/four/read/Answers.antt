use mathlib.Core.Path.{◌≡◌, refl, sym, ◌∙◌}
use lib.ListN.{length}
use Rattle.sponge.specs.Four.{read_status}
use Rattle.sponge.proofs.Abreast.{read_taken, read-refused, read_done}
use Rattle.sponge.proofs.four.read.Goals as goal

pub returns-then-refusal-ne-DONE : goal.returns-then-refusal-ne-DONE
returns-then-refusal-ne-DONE c =
    let a = c.args in
    let e = c.read_status-refusal.ensures in record {
      value = e;
      out_after = read-refused a.states.now a.j a.out.now c.read_status-refusal.result e c.if-refusal-ne-DONE.true;
    }

pub read_words-requires : goal.read_words-requires
read_words-requires c =
    let was : (0 ≡ read_status (length c.args.states.now) c.args.j (length c.args.out.now)) = (sym c.if-refusal-ne-DONE.false ∙ c.read_status-refusal.ensures) in
    read_taken _ _ _ (sym (was))

pub returns : goal.returns
returns c =
    let was : (0 ≡ read_status (length c.args.states.now) c.args.j (length c.args.out.now)) = (sym c.if-refusal-ne-DONE.false ∙ c.read_status-refusal.ensures) in
    let a = c.args in record {
      value = was;
      out_after = c.read_words.ensures ∙ read_done a.states.now a.j a.out.now 0 (was) refl;
    }
