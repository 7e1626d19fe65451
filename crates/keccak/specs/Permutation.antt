-- Keccak-p[1600, n]: FIPS 202, sections 3.3 and 3.4, for n up to 24.
-- Assumes nothing.
use Rattle.std.specs.Prelude.{List, [], ◌∷◌, cond, ℕ, ◌-◌, leb, drop}
use Rattle.keccak.specs.Round.{round}

-- a round for each constant, in order
unfoldable pub rounds : List ℕ → List ℕ → List ℕ
rounds [] a = a
rounds (rc ∷ rcs) a = rounds rcs (round rc a)

-- the round constants of the 24 rounds of Keccak-f[1600]; the last twelve, which are TurboSHAKE's, are document 01's
abbrev pub round_constants : List ℕ
round_constants =
    0x0000000000000001 ∷ 0x0000000000008082 ∷ 0x800000000000808A ∷ 0x8000000080008000 ∷ 0x000000000000808B ∷ 0x0000000080000001
    ∷ 0x8000000080008081 ∷ 0x8000000000008009 ∷ 0x000000000000008A ∷ 0x0000000000000088 ∷ 0x0000000080008009 ∷ 0x000000008000000A
    ∷ 0x000000008000808B ∷ 0x800000000000008B ∷ 0x8000000000008089 ∷ 0x8000000000008003 ∷ 0x8000000000008002 ∷ 0x8000000000000080
    ∷ 0x000000000000800A ∷ 0x800000008000000A ∷ 0x8000000080008081 ∷ 0x8000000000008080 ∷ 0x0000000080000001 ∷ 0x8000000080008008 ∷ []

-- the number of document 01's table for more than 24 rounds, which request Q-5 adds
abbrev pub too_many_rounds : ℕ
too_many_rounds = 16

-- the status of n rounds
abbrev pub rounds_status : ℕ → ℕ
rounds_status n = cond (leb n 24) 0 too_many_rounds

-- Keccak-p[1600, n]: the last n of the 24 rounds (section 3.3); more than 24, which are refused, permute nothing
unfoldable pub last_rounds : ℕ → List ℕ → List ℕ
last_rounds n a = cond (leb n 24) (rounds (drop (24 - n) round_constants) a) a

-- twelve rounds: TurboSHAKE's KP (draft-irtf-cfrg-kangarootwelve-16, section 2.2)
abbrev pub permuted : List ℕ → List ℕ
permuted = last_rounds 12
