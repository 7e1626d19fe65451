use mathlib.Core.Path.{sym, ap, ◌∙◌}
use mathlib.Core.List.{◌++◌}
use Prim.Native.Nat.{ℕ, zero-le}
use lib.ListN.{length}
use Rattle.sp800_185.specs.Published.{encode_string, bytepad, shake_byte}
use Rattle.sp800_185.specs.Start.{start_run}
use Rattle.sp800_185.specs.Function.{Function, cshake_at}
use Rattle.sp800_185.specs.Model.{plain}
use Rattle.sp800_185.specs.Cshake.{shake_at}
use Rattle.hasher.specs.Model as hasher
use Rattle.hasher.specs.declared.Numbers.{Numbers}
use Rattle.sp800_185.proofs.Digest.{asked, cshake-status, cshake_untouched, cshake-within, cshake-written}
use Rattle.sp800_185.proofs.OneGo.{shake-status, shake-output}
use Rattle.sp800_185.proofs.cshake.CShake.hash.Goals as goal

pub returns-then-number-ne-DONE-clause-value : goal.returns-then-number-ne-DONE-clause-value
returns-then-number-ne-DONE-clause-value g c =
    let w = c.one_go_status-number in
    let t = c.start_status-refusal in
    let a = c.args in
    cshake-status g.Self.CShake.RATE a.name.now a.string.now a.message.now a.out.now t.result w.result t.ensures w.ensures

pub returns-then-number-ne-DONE-clause-out_after : goal.returns-then-number-ne-DONE-clause-out_after
returns-then-number-ne-DONE-clause-out_after g c =
    let w = c.one_go_status-number in
    let t = c.start_status-refusal in
    let a = c.args in
    cshake_untouched g.Self.CShake.RATE a.name.now a.string.now a.message.now a.out.now t.result w.result t.ensures w.ensures c.if-number-ne-DONE.true

pub returns-then-both_empty-clause-value : goal.returns-then-both_empty-clause-value
returns-then-both_empty-clause-value g c =
    let rate = g.Self.CShake.RATE in
    let r = g.met.Self.CShake.in_range in
    let b = sym c.both_empty.ensures ∙ c.if-both_empty.true in
    let a = c.args in
    let m = length a.message.now in
    let n = length a.out.now in
    c.hash.ensures.value ∙ ap (λ (f : Numbers). hasher.hash_at_status f.rate f.rounds f.limit m 0 n) c.shake_numbers.ensures
    ∙ ap (λ (k : ℕ). hasher.one_go_status (shake_at k) m tt n) c.RATE.ensures ∙ shake-status rate r.0 r.1 a.name.now a.string.now b m n

pub returns-then-both_empty-clause-out_after : goal.returns-then-both_empty-clause-out_after
returns-then-both_empty-clause-out_after g c =
    let rate = g.Self.CShake.RATE in
    let r = g.met.Self.CShake.in_range in
    let b = sym c.both_empty.ensures ∙ c.if-both_empty.true in
    let a = c.args in
    c.hash.ensures.out_after ∙ ap (λ (f : Numbers). hasher.hash_at_output f.rate f.rounds f.limit a.message.now 0 shake_byte a.out.now) c.shake_numbers.ensures
    ∙ ap (λ (k : ℕ). hasher.one_go_output (shake_at k) a.message.now tt a.out.now) c.RATE.ensures
    ∙ shake-output rate r.0 r.1 a.name.now a.string.now b a.message.now a.out.now

pub cshake_start-run-requires : goal.cshake_start-run-requires
cshake_start-run-requires g c =
    let r = g.met.Self.CShake.in_range in
    let w = c.one_go_status-number in
    let t = c.start_status-refusal in
    let a = c.args in
    let h = cshake-within g.Self.CShake.RATE a.name.now a.string.now a.message.now a.out.now t.result w.result t.ensures w.ensures c.if-number-ne-DONE.false in
    rw c.RATE-3.ensures (r.0, r.1, h.0, h.1)

pub digest-requires : goal.digest-requires
digest-requires g c =
    let r = g.met.Self.CShake.in_range in
    let s = c.cshake_start-run in
    let p = λ (k : ℕ). bytepad (encode_string c.args.name.now ++ encode_string c.args.string.now) k in
    let rate = g.Self.CShake.RATE in
    asked c.cshake-numbers.result rate (ap (λ (f : Function ℕ). f.rate) c.cshake-numbers.ensures ∙ c.RATE-2.ensures) r.0 r.1 (p rate) s.result 0
    (s.ensures ∙ ap (λ (k : ℕ). start_run k (p k)) c.RATE-3.ensures) zero-le

pub returns-clause-value : goal.returns-clause-value
returns-clause-value g c =
    let w = c.one_go_status-number in
    let t = c.start_status-refusal in
    let a = c.args in
    c.digest.ensures.value ∙ sym c.if-number-ne-DONE.false
    ∙ cshake-status g.Self.CShake.RATE a.name.now a.string.now a.message.now a.out.now t.result w.result t.ensures w.ensures

pub returns-clause-out_after : goal.returns-clause-out_after
returns-clause-out_after g c =
    let rate = g.Self.CShake.RATE in
    let f = c.cshake-numbers in
    let s = c.cshake_start-run in
    let b = sym c.both_empty.ensures ∙ c.if-both_empty.false in
    let w = c.one_go_status-number in
    let t = c.start_status-refusal in
    let a = c.args in
    let p = λ (k : ℕ). bytepad (encode_string a.name.now ++ encode_string a.string.now) k in
    cshake-written rate a.name.now a.string.now a.message.now a.out.now t.result w.result t.ensures w.ensures g.met.Self.CShake.in_range.0 c.if-number-ne-DONE.false b g.Self.CShake.PREFIX_BLOCKS _ s.result c.digest.new.out
    (f.ensures ∙ (λ i. plain (cshake_at (c.RATE-2.ensures i) (c.PREFIX_BLOCKS.ensures i))))
    (s.ensures ∙ ap (λ (k : ℕ). start_run k (p k)) c.RATE-3.ensures) c.digest.ensures.out_after
