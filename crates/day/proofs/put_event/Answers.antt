-- `day::put_event` meets its contract: the event, and after it its length encoding.
-- Assumes nothing.
use mathlib.Core.Path.{◌≡◌, sym, ap, ap₂, ◌∙◌}
use mathlib.Core.List.{List, ◌++◌, append_assoc}
use Prim.Native.Nat.{ℕ, ◌≤◌}
use native.Mathlib.Omega.{arith}
use lib.ListN.{length, take}
use Rattle.kangarootwelve.specs.Published.{length_encode}
use Rattle.kangarootwelve.proofs.Encoding.{encoding_short, encoding_slice}
use Rattle.journal.proofs.Messages.{framed_is}
use borrow.Author.Rules.{rules}
use Rattle.day.proofs.put_event.Goals as goal

pub put-requires : goal.put-requires
put-requires c =
    let a = c.args in
    let n = c.length_encode-encoding in
    let slice : c.as_slice.result.now ≡ length_encode (length a.event.now) = encoding_slice (length a.event.now) n.result n.ensures c.as_slice.result.now c.as_slice.ensures in
    let short : length c.as_slice.result.now ≤ 9 = rw slice (encoding_short (length a.event.now) 8 (omega arith)) in
    search rules

pub returns : goal.returns
returns c =
    let a = c.args in
    let first = c.put-end in
    let second = c.put in
    let n = c.length_encode-encoding in
    let before : List ℕ = take a.at a.day.now in
    let slice : c.as_slice.result.now ≡ length_encode (length a.event.now) = encoding_slice (length a.event.now) n.result n.ensures c.as_slice.result.now c.as_slice.ensures in
    let short : length c.as_slice.result.now ≤ 9 = rw slice (encoding_short (length a.event.now) 8 (omega arith)) in record {
      upper_bound = search rules;
      day_after = second.ensures.day_after
          ∙ ap₂ (λ (l m : List ℕ). l ++ m) first.ensures.day_after slice
          ∙ append_assoc before a.event.now (length_encode (length a.event.now))
          ∙ ap (λ (l : List ℕ). before ++ l) (sym (framed_is a.event.now));
    }
