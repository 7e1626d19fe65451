-- The worked examples of specs/Encodings.antt.
-- Assumes nothing.
use mathlib.Core.Path.{◌≡◌, refl, ap, ◌∙◌}
use mathlib.Core.List.{List, ◌∷◌, ◌++◌, append-nil}
use Prim.Native.Nat.{ℕ, ◌+◌, ◌-◌, ◌*◌}
use lib.ListN.{length, replicate, length-append}
use Rattle.sponge.specs.Cut.{ceil}
use Rattle.sp800_185.specs.Published.{left_encode, right_encode, encode_string, bytepad}
use Rattle.sp800_185.specs.Encodings.{Encodings}

-- the zeros of bytepad, by the length of what it holds
padded_with : (w n : ℕ) (s : List ℕ) → length s ≡ n
    → bytepad s w ≡ left_encode w ++ s ++ replicate (ceil w (length (left_encode w) + n) * w - (length (left_encode w) + n)) 0
unfolding bytepad
padded_with w n s e =
    ap (λ (i : ℕ). left_encode w ++ s ++ replicate (ceil w i * w - i) 0) (length-append (left_encode w) s ∙ ap (λ (i : ℕ). length (left_encode w) + i) e)

pub encodings : Encodings
unfolding left_encode right_encode encode_string
encodings = record {
  left_encodes = refl;
  right_encodes = refl;
  strings = refl;
  full_168 = λ s e. padded_with 168 166 s e ∙ ap (λ (t : List ℕ). 1 ∷ 168 ∷ t) (append-nil s);
  next_168 = λ s e. padded_with 168 167 s e;
  full_136 = λ s e. padded_with 136 134 s e ∙ ap (λ (t : List ℕ). 1 ∷ 136 ∷ t) (append-nil s);
  next_136 = λ s e. padded_with 136 135 s e;
}
