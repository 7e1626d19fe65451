use mathlib.Core.Path.{◌≡◌, refl, sym, ◌∙◌}
use lib.ListN.{length}
use Rattle.sponge.specs.Four.{xor_status}
use Rattle.sponge.proofs.Abreast.{xor-taken, xor-refused, xor_done}
use Rattle.sponge.proofs.four.xor_block.Goals as goal

pub returns-then-refusal-ne-DONE : goal.returns-then-refusal-ne-DONE
returns-then-refusal-ne-DONE c =
    let a = c.args in
    let e = c.xor_status-refusal.ensures in record {
      value = e;
      states_after = xor-refused a.states.now a.strings.now a.from a.count c.xor_status-refusal.result e c.if-refusal-ne-DONE.true;
    }

pub xor_words-requires : goal.xor_words-requires
xor_words-requires c =
    let was : (0 ≡ xor_status (length c.args.states.now) (length c.args.strings.now) c.args.from c.args.count) = (sym c.if-refusal-ne-DONE.false ∙ c.xor_status-refusal.ensures) in
    xor-taken _ _ _ _ (sym (was))

pub returns : goal.returns
returns c =
    let was : (0 ≡ xor_status (length c.args.states.now) (length c.args.strings.now) c.args.from c.args.count) = (sym c.if-refusal-ne-DONE.false ∙ c.xor_status-refusal.ensures) in
    let a = c.args in record {
      value = was;
      states_after = xor_done a.states.now a.strings.now a.from a.count 0 (was) refl c.xor_words.new.states c.xor_words.ensures;
    }
