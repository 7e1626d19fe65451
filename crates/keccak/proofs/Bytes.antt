-- Bytes to lanes and back: the 200 bytes of a state and the state of 200 bytes undo each other.
-- Assumes nothing.
use mathlib.Core.Path.{◌≡◌, refl, sym, ap, ap₂, ◌∙◌, subst}
use mathlib.Core.List.{List, [], ◌∷◌}
use Prim.Native.Nat.{ℕ, zero, suc, ◌+◌, ◌*◌, ◌/◌, ◌%◌, ◌^◌, ◌<◌, suc-le-suc}
use native.Mathlib.Nat.{zero-div, div-one, mul-suc, add_comm, mul_comm, mod-eq_of_lt, mod-one, zero-add, zero-lt-suc}
use native.Mathlib.Omega.{arith}
use lib.ListN.{length, get_or, take, drop, length-drop}
use lib.Pow.{shr-shr, mod-pow-add}
use lib.Seq.{get_or-take, get_or-drop, ext_get_or, length-take-le}
use Rattle.keccak.specs.State.{State, byte_at, bytes_of, word, state_of}
use Rattle.keccak.proofs.Grid.{from-length, from_at}

-- byte j of w, the least significant first
abbrev digit : ℕ → ℕ → ℕ
digit w j = w / 2 ^ (8 * j) % 256

digit-zero : (w : ℕ) → digit w 0 ≡ w % 256
digit-zero w = ap (λ (n : ℕ). n % 256) (div-one w)

digit-suc : (w j : ℕ) → digit w (suc j) ≡ digit (w / 256) j
digit-suc w j =
    ap (λ (k : ℕ). w / 2 ^ k % 256) (mul-suc 8 j ∙ add_comm (8 * j) 8) ∙ ap (λ (n : ℕ). n % 256) (sym (shr-shr w 8 (8 * j)))

-- the bytes of a word made of bytes
word-digit : (s : List ℕ) → ((k : ℕ) → k < length s → get_or s k 0 < 256) → (j : ℕ) → digit (word s) j ≡ get_or s j 0
unfolding word
word-digit [] h j = ap (λ (n : ℕ). n % 256) (zero-div (2 ^ (8 * j)))
word-digit (b ∷ s) h zero =
    let hb : b < 256 = h 0 (zero-lt-suc (length s)) in
    digit-zero (b + 256 * word s) ∙ omega arith
word-digit (b ∷ s) h (suc j) =
    let hb : b < 256 = h 0 (zero-lt-suc (length s)) in
    let e : (b + 256 * word s) / 256 ≡ word s = omega arith in
    digit-suc (b + 256 * word s) j ∙ ap (λ (w : ℕ). digit w j) e ∙ word-digit s (λ k g. h (suc k) (suc-le-suc g)) j

-- the word made of the bytes of w
digit-word : (s : List ℕ) (w : ℕ) → ((j : ℕ) → j < length s → get_or s j 0 ≡ digit w j) → word s ≡ w % 2 ^ (8 * length s)
unfolding word
digit-word [] w h = sym (mod-one w)
digit-word (b ∷ s) w h =
    let tail : word s ≡ w / 256 % 2 ^ (8 * length s) = digit-word s (w / 256) (λ j g. h (suc j) (suc-le-suc g) ∙ digit-suc w j) in
    let first : b ≡ w % 256 = h 0 (zero-lt-suc (length s)) ∙ digit-zero w in
    ap₂ (λ (u v : ℕ). u + 256 * v) first tail
    ∙ add_comm (w % 256) _ ∙ ap (λ (n : ℕ). n + w % 256) (mul_comm 256 _)
    ∙ sym (mod-pow-add w (8 * length s) 8) ∙ ap (λ (k : ℕ). w % 2 ^ k) (sym (mul-suc 8 (length s)))

-- the number of no bytes, and of a byte more
pub word_nil : word [] ≡ 0
unfolding word
word_nil = refl

pub word_cons : (b : ℕ) (s : List ℕ) → word (b ∷ s) ≡ b + 256 * word s
unfolding word
word_cons b s = refl

-- byte i is byte i % 8 of lane i / 8
pub byte_is : (a : List ℕ) (i : ℕ) → byte_at a i ≡ get_or a (i / 8) 0 / 2 ^ (8 * (i % 8)) % 256
unfolding byte_at
byte_is a i = refl

-- byte j of lane k
pub byte_of_lane : (a : List ℕ) (k j : ℕ) → j < 8 → byte_at a (8 * k + j) ≡ get_or a k 0 / 2 ^ (8 * j) % 256
unfolding byte_at
byte_of_lane a k j h =
    let ek : (8 * k + j) / 8 ≡ k = omega arith in
    let ej : (8 * k + j) % 8 ≡ j = omega arith in
    ap₂ (λ (u v : ℕ). digit (get_or a u 0) v) ek ej

-- the eight bytes of lane k
group : List ℕ → ℕ → List ℕ
group s k = take 8 (drop (8 * k) s)

group_at : (s : List ℕ) (k j : ℕ) → j < 8 → get_or (group s k) j 0 ≡ get_or s (8 * k + j) 0
unfolding group
group_at s k j h = get_or-take 8 (drop (8 * k) s) j 0 h ∙ get_or-drop (8 * k) s j 0

group_length : (s : List ℕ) (k : ℕ) → k < 25 → length s ≡ 200 → length (group s k) ≡ 8
unfolding group
group_length s k h e = length-take-le 8 (drop (8 * k) s) (simp length-drop (omega arith))

group_bytes : (s : List ℕ) (k : ℕ) → k < 25 → length s ≡ 200 → ((j : ℕ) → get_or s j 0 < 256) → (j : ℕ) → j < length (group s k) → get_or (group s k) j 0 < 256
group_bytes s k hk e h j g =
    let g' : j < 8 = subst (λ (n : ℕ). j < n) (group_length s k hk e) g in
    rw (group_at s k j g') (h (8 * k + j))

pub bytes-length : (a : List ℕ) → length (bytes_of a) ≡ 200
unfolding bytes_of
bytes-length a = from-length (byte_at a) 0 200

pub bytes_at : (a : List ℕ) (i : ℕ) → i < 200 → get_or (bytes_of a) i 0 ≡ byte_at a i
unfolding bytes_of
bytes_at a i h = from_at (byte_at a) 0 200 i h ∙ ap (byte_at a) (zero-add i)

pub state-length : (s : List ℕ) → length (state_of s) ≡ 25
unfolding state_of
state-length s = from-length _ 0 25

state_at_lem : (s : List ℕ) (k : ℕ) → k < 25 → get_or (state_of s) k 0 ≡ word (group s k)
unfolding state_of group
state_at_lem s k h = from_at (λ j. word (group s j)) 0 25 k h ∙ ap (λ (j : ℕ). word (group s j)) (zero-add k)

-- bytes to lanes and back
pub bytes_of-state : (s : List ℕ) → length s ≡ 200 → ((k : ℕ) → get_or s k 0 < 256) → bytes_of (state_of s) ≡ s
unfolding byte_at
bytes_of-state s e h =
    ext_get_or 0 (bytes_of (state_of s)) s (bytes-length (state_of s) ∙ sym e)
    λ i g.
    let g' : i < 200 = subst (λ (n : ℕ). i < n) (bytes-length (state_of s)) g in
    let hk : i / 8 < 25 = omega arith in
    let hj : i % 8 < 8 = omega arith in
    let ei : 8 * (i / 8) + i % 8 ≡ i = omega arith in
    bytes_at (state_of s) i g' ∙ ap (λ (w : ℕ). digit w (i % 8)) (state_at_lem s (i / 8) hk)
    ∙ word-digit (group s (i / 8)) (group_bytes s (i / 8) hk e h) (i % 8)
    ∙ group_at s (i / 8) (i % 8) hj ∙ ap (λ (n : ℕ). get_or s n 0) ei

lane_byte : (a : List ℕ) (k j : ℕ) → k < 25 → j < 8 → get_or (group (bytes_of a) k) j 0 ≡ digit (get_or a k 0) j
lane_byte a k j hk hj =
    let hi : 8 * k + j < 200 = omega arith in
    group_at (bytes_of a) k j hj ∙ bytes_at a (8 * k + j) hi ∙ byte_of_lane a k j hj

-- lanes to bytes and back
pub state_of-bytes : (a : List ℕ) → State a → state_of (bytes_of a) ≡ a
state_of-bytes a s =
    ext_get_or 0 (state_of (bytes_of a)) a (state-length (bytes_of a) ∙ sym s.lanes)
    λ k g.
    let g' : k < 25 = subst (λ (n : ℕ). k < n) (state-length (bytes_of a)) g in
    let eight : length (group (bytes_of a) k) ≡ 8 = group_length (bytes_of a) k g' (bytes-length a) in
    state_at_lem (bytes_of a) k g'
    ∙ digit-word (group (bytes_of a) k) (get_or a k 0) (λ j h. lane_byte a k j g' (subst (λ (n : ℕ). j < n) eight h))
    ∙ ap (λ (n : ℕ). get_or a k 0 % 2 ^ (8 * n)) eight ∙ mod-eq_of_lt (s.words k)
