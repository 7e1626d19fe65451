-- What becomes of words that are XORed in another order: nine of them three by three, and five with one more in each. Over any operation with XOR's
-- laws, since `simp` would unfold `bit_xor` itself.
-- Assumes nothing.
use mathlib.Core.Path.{◌≡◌, sym, ap, ◌∙◌}
use Prim.Native.Nat.{ℕ}
use lib.Bits.{bit_xor, xor_comm, xor_self, xor_zero_r}
use Rattle.keccak.proofs.Xor.{xor_assoc}

module _ (op : ℕ → ℕ → ℕ) (assoc : (a b c : ℕ) → op (op a b) c ≡ op a (op b c)) (comm : (a b : ℕ) → op a b ≡ op b a)
    (self : (a : ℕ) → op a a ≡ 0) (zero-r : (a : ℕ) → op a 0 ≡ a) where
  left_comm : (a b c : ℕ) → op a (op b c) ≡ op b (op a c)
  left_comm a b c = sym (assoc a b c) ∙ ap (λ (x : ℕ). op x c) (comm a b) ∙ assoc b a c

  zero-l : (a : ℕ) → op 0 a ≡ a
  zero-l a = comm 0 a ∙ zero-r a

  again : (a b : ℕ) → op a (op a b) ≡ b
  again a b = sym (assoc a a b) ∙ ap (λ (x : ℕ). op x b) (self a) ∙ zero-l b

  ninefold : (a b c d e f g h i : ℕ)
      → op (op a (op b c)) (op (op d (op e f)) (op g (op h i))) ≡ op (op a (op d g)) (op (op b (op e h)) (op c (op f i)))
  ninefold a b c d e f g h i = simp (assoc, left_comm)

  pairs : (a b c e f i : ℕ) → op (op a (op b c)) (op (op b (op e f)) (op c (op f i))) ≡ op a (op e i)
  pairs a b c e f i = simp (assoc, left_comm, again)

  cancelled : (a b c d e : ℕ) → op (op a (op b e)) (op (op c (op d b)) (op d (op e c))) ≡ a
  cancelled a b c d e = simp (assoc, comm, left_comm, again, self, zero-l)

  fivefold : (a b c d e x : ℕ) → op (op (op (op (op a x) (op b x)) (op c x)) (op d x)) (op e x) ≡ op (op (op (op (op a b) c) d) e) x
  fivefold a b c d e x = simp (assoc, comm, left_comm, self, zero-l)

-- nine words, three by three
unfoldable pub nine : ℕ → ℕ → ℕ → ℕ → ℕ → ℕ → ℕ → ℕ → ℕ → ℕ
nine a b c d e f g h i = bit_xor (bit_xor a (bit_xor b c)) (bit_xor (bit_xor d (bit_xor e f)) (bit_xor g (bit_xor h i)))

pub xor_ninefold : (a b c d e f g h i : ℕ) → nine a b c d e f g h i ≡ nine a d g b e h c f i
unfolding nine
xor_ninefold = ninefold bit_xor xor_assoc xor_comm xor_self xor_zero_r

pub xor_pairs : (a b c e f i : ℕ) → nine a b c b e f c f i ≡ bit_xor a (bit_xor e i)
unfolding nine
xor_pairs = pairs bit_xor xor_assoc xor_comm xor_self xor_zero_r

pub xor_cancelled : (a b c d e : ℕ) → nine a b e c d b d e c ≡ a
unfolding nine
xor_cancelled = cancelled bit_xor xor_assoc xor_comm xor_self xor_zero_r

pub xor_fivefold : (a b c d e x : ℕ)
    → bit_xor (bit_xor (bit_xor (bit_xor (bit_xor a x) (bit_xor b x)) (bit_xor c x)) (bit_xor d x)) (bit_xor e x)
    ≡ bit_xor (bit_xor (bit_xor (bit_xor (bit_xor a b) c) d) e) x
xor_fivefold = fivefold bit_xor xor_assoc xor_comm xor_self xor_zero_r
