use mathlib.Core.Path.{refl, sym, ◌∙◌, subst}
use Prim.Native.Nat.{ℕ, ◌≤◌}
use lib.ListN.{length}
use Rattle.hasher.specs.Function.{long_output}
use Rattle.sp800_185.specs.Start.{kmac_prefix}
use Rattle.sp800_185.specs.Model.{fixes, given}
use Rattle.sp800_185.proofs.Digest.{said_few, asked, kmac-status, kmac_untouched, kmac-within, kmac_few, kmac-written}
use Rattle.sp800_185.proofs.kmac.tag.Goals as goal

pub returns-then-number-ne-DONE : goal.returns-then-number-ne-DONE
returns-then-number-ne-DONE c =
    let w = c.one_go_status-number in
    let t = c.start_status-refusal in
    let a = c.args in
    let f = a.numbers in record {
      value = kmac-status f.rate (fixes f.closing) a.key.now a.string.now a.message.now a.out.now t.result w.result t.ensures w.ensures;
      out_after = kmac_untouched f.rate (fixes f.closing) a.key.now a.string.now a.message.now a.out.now t.result w.result t.ensures w.ensures c.if-number-ne-DONE.true;
    }

pub kmac_start-run-requires : goal.kmac_start-run-requires
kmac_start-run-requires c =
    let w = c.one_go_status-number in
    let t = c.start_status-refusal in
    let a = c.args in
    let f = a.numbers in
    let h = kmac-within f.rate (fixes f.closing) a.key.now a.string.now a.message.now a.out.now t.result w.result t.ensures w.ensures c.if-number-ne-DONE.false in
    (f.usable.0, f.usable.1, h.0, h.1)

pub digest-requires : goal.digest-requires
digest-requires c =
    let s = c.kmac_start-run in
    let l = c.said-said in
    let w = c.one_go_status-number in
    let t = c.start_status-refusal in
    let a = c.args in
    let f = a.numbers in
    let most = kmac_few f.rate (fixes f.closing) a.key.now a.string.now a.message.now a.out.now t.result w.result t.ensures w.ensures c.if-number-ne-DONE.false in
    let few : l.result ≤ long_output = subst (λ (n : ℕ). n ≤ long_output) (sym l.ensures) (said_few (fixes f.closing) (length a.out.now) most) in
    asked f f.rate refl f.usable.0 f.usable.1 (kmac_prefix f.rate a.key.now a.string.now) s.result l.result s.ensures few

pub returns : goal.returns
returns c =
    let d = c.digest in
    let s = c.kmac_start-run in
    let l = c.said-said in
    let w = c.one_go_status-number in
    let t = c.start_status-refusal in
    let a = c.args in
    let f = a.numbers in record {
      value = d.ensures.value ∙ sym c.if-number-ne-DONE.false
          ∙ kmac-status f.rate (fixes f.closing) a.key.now a.string.now a.message.now a.out.now t.result w.result t.ensures w.ensures;
      out_after = kmac-written (given f) f.usable.0 c.requires a.key.now a.string.now a.message.now a.out.now t.result w.result t.ensures w.ensures
          c.if-number-ne-DONE.false l.result s.result d.new.out l.ensures s.ensures d.ensures.out_after;
    }
