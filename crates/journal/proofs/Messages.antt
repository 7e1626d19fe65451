-- No two lists of events have one message. An event with its length encoding is one step of the merged string, the message so far as M and
-- the event as C, so this is what `merged-injective` says, event by event from the last.
-- Assumes nothing.
use mathlib.Core.Path.{◌≡◌, refl, sym, ap, ap₂, ◌∙◌}
use mathlib.Core.List.{List, [], ◌∷◌, ◌++◌, append-nil, append_assoc, reverse, reverse-cons, reverse-reverse}
use Prim.Native.Nat.{ℕ}
use lib.ListN.{length}
use Rattle.kangarootwelve.specs.Published.{length_encode, merged}
use Rattle.kangarootwelve.proofs.Merged.{merged_is, merged_some, merged-injective}
use Rattle.journal.specs.Published.{framed, message}

pub message-append : (es fs : List (List ℕ)) → message (es ++ fs) ≡ message es ++ message fs
message-append [] fs = refl
message-append (e ∷ es) fs = ap (λ (l : List ℕ). framed e ++ l) (message-append es fs) ∙ sym (append_assoc (framed e) (message es) (message fs))

-- one event more
pub message_next : (es : List (List ℕ)) (e : List ℕ) → message (es ++ e ∷ []) ≡ message es ++ framed e
message_next es e = message-append es (e ∷ []) ∙ ap (λ (l : List ℕ). message es ++ l) (append-nil (framed e))

pub message-merged : (es : List (List ℕ)) (e : List ℕ) → message (es ++ e ∷ []) ≡ merged (message es) e
unfolding framed
message-merged es e = message_next es e ∙ sym (merged_is (message es) e)

-- what the crates above know of an event in a message
pub framed_is : (e : List ℕ) → framed e ≡ e ++ length_encode (length e)
unfolding framed
framed_is e = refl

-- the message of the events es, the last one first
from_last : List (List ℕ) → List ℕ
from_last [] = []
from_last (e ∷ es) = merged (from_last es) e

from_last_lem : (es : List (List ℕ)) → from_last es ≡ message (reverse es)
unfolding from_last
from_last_lem [] = refl
from_last_lem (e ∷ es) = ap (λ (m : List ℕ). merged m e) (from_last_lem es) ∙ sym (message-merged (reverse es) e) ∙ ap message (sym (reverse-cons e es))

last_injective : (es fs : List (List ℕ)) → from_last es ≡ from_last fs → es ≡ fs
unfolding from_last
last_injective [] [] h = refl
last_injective [] (f ∷ fs) h = absurd (merged_some (from_last fs) f (sym h))
last_injective (e ∷ es) [] h = absurd (merged_some (from_last es) e h)
last_injective (e ∷ es) (f ∷ fs) h =
    let p = merged-injective (from_last es) e (from_last fs) f h in
    ap₂ (λ (x : List ℕ) (xs : List (List ℕ)). x ∷ xs) p.1 (last_injective es fs p.0)

from-reverse : (es : List (List ℕ)) → from_last (reverse es) ≡ message es
from-reverse es = from_last_lem (reverse es) ∙ ap message (reverse-reverse es)

-- request Q-1: over all lists of events, of whatever lengths
pub message-injective : (es fs : List (List ℕ)) → message es ≡ message fs → es ≡ fs
message-injective es fs h =
    let same : reverse es ≡ reverse fs = last_injective (reverse es) (reverse fs) (from-reverse es ∙ h ∙ sym (from-reverse fs)) in
    sym (reverse-reverse es) ∙ ap reverse same ∙ reverse-reverse fs

-- nor do two days with different events or different names have one merged string, which is what is hashed
pub day-injective : (es fs : List (List ℕ)) (name other : List ℕ) → merged (message es) name ≡ merged (message fs) other → (es ≡ fs) × (name ≡ other)
day-injective es fs name other h =
    let p = merged-injective (message es) name (message fs) other h in
    (message-injective es fs p.0, p.1)
