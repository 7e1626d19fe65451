-- The worked examples of specs/CountExamples.antt: the totals that the book has after the calls tell the number.
-- Assumes nothing.
use mathlib.Core.Path.{◌≡◌, refl, sym, ap, ◌∙◌}
use mathlib.Core.List.{List, [], ◌∷◌, ◌++◌}
use Prim.Native.Nat.{ℕ, ◌+◌, ◌≤◌}
use native.Mathlib.Nat.{zero-add}
use native.Mathlib.Omega.{arith}
use lib.ListN.{length, length-append}
use borrow.Author.Tests.{le-leb}
use Rattle.sponge.specs.Transcript.{Call, Call.absorb, Call.customize, Call.finalize, Call.squeeze, Phase.absorbing, Phase.customizing, Phase.squeezing, Transcript, transcribe}
use Rattle.sponge.specs.Lending.{plainly}
use Rattle.sponge.specs.Waiting.{position_after, index_after}
use Rattle.turboshake.specs.Transcript.{message_limit, output_limit}
use Rattle.kangarootwelve.specs.Published.{chunk, length_encode, merged}
use Rattle.kangarootwelve.specs.Transcript.{customization_limit, customization_status, rules}
use Rattle.kangarootwelve.specs.Count.{closed_tree, open_kt, closed_kt}
use Rattle.kangarootwelve.specs.Claims.{told, told_count}
use Rattle.kangarootwelve.specs.CountExamples.{after, Examples}
use Rattle.kangarootwelve.proofs.Claims.{counts}

by_totals : (cs : List (Call (List ℕ))) (t : Transcript (List ℕ)) (n : ℕ) → (told 168 32 (plainly cs)).left ≡ t → told_count 168 32 t ≡ n → after cs ≡ n
by_totals cs t n e f = (counts 168 32 (omega arith)).totals (plainly cs) ∙ ap (told_count 168 32) e ∙ f

-- the book after M alone, of n bytes; after M and C; and after M, the close without C, and k bytes read
open_told : (m : List ℕ) → length m ≤ message_limit → (told 168 32 (plainly (absorb m ∷ []))).left ≡ record { absorbed = m; phase = absorbing; squeezed = 0 }
unfolding transcribe rules
open_told m l = rw (zero-add, le-leb (length m) message_limit l)

customized-told : (m c : List ℕ) → length m ≤ message_limit → length c ≤ customization_limit
    → (told 168 32 (plainly (absorb m ∷ customize c ∷ []))).left ≡ record { absorbed = m; phase = customizing c; squeezed = 0 }
unfolding transcribe rules
customized-told m c l k = rw (zero-add, le-leb (length m) message_limit l, zero-add, le-leb (length c) customization_limit k)

closed_told : (m : List ℕ) → length m ≤ message_limit → (told 168 32 (plainly (absorb m ∷ finalize [] ∷ []))).left ≡ record { absorbed = m; phase = squeezing []; squeezed = 0 }
unfolding transcribe rules customization_status
closed_told m l = rw (zero-add, le-leb (length m) message_limit l)

read_told : (m c : List ℕ) (k : ℕ) → length m ≤ message_limit → length c ≤ customization_limit → k ≤ output_limit
    → (told 168 32 (plainly (absorb m ∷ finalize c ∷ squeeze k ∷ []))).left ≡ record { absorbed = m; phase = squeezing c; squeezed = k }
unfolding transcribe rules customization_status
read_told m c k l n h = rw (zero-add, le-leb (length m) message_limit l, le-leb (length c) customization_limit n, zero-add, le-leb k output_limit h)

opened : (m : List ℕ) (n k : ℕ) → length m ≡ n → n ≤ message_limit → open_kt 168 32 (n + 0) ≡ k → after (absorb m ∷ []) ≡ k
opened m n k e l f = by_totals (absorb m ∷ []) (record { absorbed = m; phase = absorbing; squeezed = 0 }) k (open_told m (rw e l)) (rw e f)

read : (m : List ℕ) (j k : ℕ) → length m ≡ 8192 → j ≤ output_limit → closed_kt 168 32 (8192 + 0) 0 j ≡ k → after (absorb m ∷ finalize [] ∷ squeeze j ∷ []) ≡ k
read m j k e h f =
    by_totals (absorb m ∷ finalize [] ∷ squeeze j ∷ []) (record { absorbed = m; phase = squeezing []; squeezed = j }) k (read_told m [] j (rw e (omega arith)) (omega arith) h) (rw e f)

-- S of 8,193 bytes
whole_is : (m c : List ℕ) → length (merged m c) ≡ 8193 → length m + length c + length (length_encode (length c)) ≡ 8193
unfolding merged
whole_is m c e = sym (length-append (m ++ c) (length_encode (length c)) ∙ ap (λ (n : ℕ). n + length (length_encode (length c))) (length-append m c)) ∙ e

request : (m c : List ℕ) → length (merged m c) ≡ 8193 → after (absorb m ∷ finalize c ∷ squeeze 32 ∷ []) ≡ 51
unfolding closed_kt chunk length_encode
request m c e =
    let w = whole_is m c e in
    by_totals (absorb m ∷ finalize c ∷ squeeze 32 ∷ []) (record { absorbed = m; phase = squeezing c; squeezed = 32 }) 51
    (read_told m c 32 (omega (arith, w)) (omega (arith, w)) (omega arith)) (ap (λ (n : ℕ). closed_tree 168 32 (index_after chunk n) (position_after chunk n) 32) w)

pub examples : Examples
unfolding open_kt closed_kt chunk length_encode
examples = record {
  block_full = λ m e. opened m 168 0 e (omega arith) refl;
  block_next = λ m e. opened m 169 1 e (omega arith) refl;
  leaf_full = λ m e. opened m 16384 96 e (omega arith) refl;
  leaf_next = λ m e. opened m 16385 97 e (omega arith) refl;
  customization_opens = λ m c e f.
      by_totals (absorb m ∷ customize c ∷ []) (record { absorbed = m; phase = customizing c; squeezed = 0 }) 48 (customized-told m c (rw e (omega arith)) (rw f (omega arith))) (rw (e, f));
  request = request;
  closed = λ m e. by_totals (absorb m ∷ finalize [] ∷ []) (record { absorbed = m; phase = squeezing []; squeezed = 0 }) 51 (closed_told m (rw e (omega arith))) (rw e);
  read_0 = λ m e. read m 0 51 e (omega arith) refl;
  read_1 = λ m e. read m 1 51 e (omega arith) refl;
  read_32 = λ m e. read m 32 51 e (omega arith) refl;
  read_168 = λ m e. read m 168 51 e (omega arith) refl;
  read_169 = λ m e. read m 169 52 e (omega arith) refl;
}
