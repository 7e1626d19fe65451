-- `digest::absorb_read` meets its contract: the piece is taken or refused.
-- Assumes nothing.
use mathlib.Core.Path.{refl, sym, ap, ◌∙◌}
use Prim.Native.Nat.{ℕ}
use lib.ListN.{length, take}
use Rattle.sponge.specs.Transcript.{Call.absorb}
use Rattle.kangarootwelve.specs.Model.{Answer, answer_of}
use Rattle.digest.specs.Digest.{read_len}
use Rattle.digest.proofs.Pieces.{taken_absorbed, refused_long}
use Rattle.digest.proofs.absorb_read.Goals as goal

pub returns : goal.returns
returns c =
    let a = c.args in
    let answer = c.absorb-answer in
    let is = answer.ensures ∙ ap (λ (n : ℕ). answer_of 168 32 a.hasher.run (absorb (take n a.buffer.now))) c.count-n.ensures.value in
    let done = c.if-answer-ne-DONE.false in (
      sym is ∙ ap {B = Answer} (λ (s : ℕ). record { status = s; run = answer.result.hasher.run }) done,
      taken_absorbed a.hasher.run (take (read_len a.got (length a.buffer.now)) a.buffer.now) c.requires _ is done,
    )

pub returns-then-answer-ne-DONE : goal.returns-then-answer-ne-DONE
returns-then-answer-ne-DONE c =
    let a = c.args in
    let is = c.absorb-answer.ensures ∙ ap (λ (n : ℕ). answer_of 168 32 a.hasher.run (absorb (take n a.buffer.now))) c.count-n.ensures.value in
    (sym (ap (λ (x : Answer). x.status) is) ∙ refused_long a.hasher.run (take (read_len a.got (length a.buffer.now)) a.buffer.now) c.requires _ is c.if-answer-ne-DONE.true, refl)
