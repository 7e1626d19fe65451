-- What is claimed of the lane-wise steps, on every state: each is the standard's step on bits, and so are the round and the rounds (request Q-13).
-- Assumes nothing.
use Rattle.std.specs.Prelude.{◌≡◌, List, ℕ, ◌<◌, ◌≤◌, get_or}
use Rattle.keccak.specs.State.{State, bytes_of}
use Rattle.keccak.specs.Round.{theta, rho, pi, chi, iota, round}
use Rattle.keccak.specs.Permutation.{round_constants, last_rounds}
use Rattle.keccak.specs.Rules as rules
use Rattle.keccak.specs.Bitwise.{StateArray, bits_of, string_of, array_of, Same, θ, ρ, π, χ, rc, ι, rnd, keccak_p}

-- f on lanes is F on bits: a state goes to a state, and both give the same bit at every place
abbrev pub OnBits : (List ℕ → List ℕ) → (StateArray → StateArray) → Type 0
OnBits f F = (a : List ℕ) → State a → State (f a) × Same (bits_of (f a)) (F (bits_of a))

pub record Claims : Type 0 where
  -- the bits of the lanes are those of the state's 200 bytes
  pub string_bits : (a : List ℕ) → Same (bits_of a) (array_of (string_of (bytes_of a)))
  pub theta_bits : OnBits theta θ
  pub rho_bits : OnBits rho ρ
  pub pi_bits : OnBits pi π
  pub chi_bits : OnBits chi χ
  -- the register of `Rules`, a number, gives the bits that the standard's string gives
  pub rc_bits : (t : ℕ) → rules.rc t ≡ rc t
  -- round i, with the constant of the code's table
  pub iota_bits : (i : ℕ) → i < 24 → OnBits (iota (get_or round_constants i 0)) (λ A. ι A i)
  pub round_bits : (i : ℕ) → i < 24 → OnBits (round (get_or round_constants i 0)) (λ A. rnd A i)
  pub rounds_bits : (n : ℕ) → n ≤ 24 → OnBits (last_rounds n) (keccak_p n)
  -- the same from string to string
  pub string-rounds : (n : ℕ) → n ≤ 24 → (a : List ℕ) → State a → Same (array_of (string_of (bytes_of (last_rounds n a)))) (keccak_p n (array_of (string_of (bytes_of a))))
