use mathlib.Core.Path.{ap, sym, ◌∙◌}
use Prim.Native.Nat.{ℕ}
use lib.ListN.{length}
use Rattle.kangarootwelve.specs.Published.{hopmac}
use Rattle.kangarootwelve.proofs.Nodes.{value-length}
use Rattle.kangarootwelve.proofs.Mac.{mac_refused, mac_written}
use Rattle.kangarootwelve.proofs.hopmac.tag.Goals as goal

pub returns-then-refusal-ne-DONE : goal.returns-then-refusal-ne-DONE
returns-then-refusal-ne-DONE c =
    let a = c.args in
    let s = c.mac_status-refusal in record {
      value = s.ensures;
      out_after = mac_refused a.strength.rate a.strength.chaining a.key.now a.message.now a.customization.now a.inner a.out.now (λ e. c.if-refusal-ne-DONE.true (s.ensures ∙ e));
    }

pub mac_over-requires : goal.mac_over-requires
mac_over-requires c =
    let n = value-length c.args.inner c.requires.1 in
    (rw n c.requires.0, rw n c.requires.1, sym c.mac_status-refusal.ensures ∙ c.if-refusal-ne-DONE.false)

pub returns : goal.returns
returns c =
    let a = c.args in
    let o = c.mac_over in
    let zero_is = sym c.mac_status-refusal.ensures ∙ c.if-refusal-ne-DONE.false in record {
      value = o.ensures.value ∙ sym zero_is;
      out_after = o.ensures.out_after
          ∙ ap (λ (n : ℕ). hopmac a.strength.rate a.strength.chaining n a.key.now a.message.now a.customization.now (length a.out.now)) (value-length a.inner c.requires.1)
          ∙ mac_written a.strength.rate a.strength.chaining a.key.now a.message.now a.customization.now a.inner a.out.now zero_is;
    }
