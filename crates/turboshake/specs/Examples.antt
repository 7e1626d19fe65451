-- Worked examples of the permutations of the definition so far (request Q-10), of TurboSHAKE128, whose rate is 168 bytes: for every message of such a
-- length and every D that is taken.
-- Assumes nothing.
use Rattle.std.specs.Prelude.{◌≡◌, List, [], ◌∷◌, ℕ, length}
use Rattle.sponge.specs.Status.{done}
use Rattle.sponge.specs.Transcript.{Call.absorb, Call.finalize, Call.squeeze}
use Rattle.hasher.specs.Claims.{ran}
use Rattle.turboshake.specs.Transcript.{domain_status, function}

-- of the run that is left once m is absorbed, once it is closed with d, and once k bytes are read
abbrev pub when_open : List ℕ → ℕ
when_open m = (ran (function 168) (absorb m ∷ [])).left.permutations

abbrev pub when_closed : List ℕ → ℕ → ℕ
when_closed m d = (ran (function 168) (absorb m ∷ finalize d ∷ [])).left.permutations

abbrev pub when_read : List ℕ → ℕ → ℕ → ℕ
when_read m d k = (ran (function 168) (absorb m ∷ finalize d ∷ squeeze k ∷ [])).left.permutations

pub record Examples : Type 0 where
  -- a full block waits for its next byte
  pub open_168 : (m : List ℕ) → length m ≡ 168 → when_open m ≡ 0
  pub open_169 : (m : List ℕ) → length m ≡ 169 → when_open m ≡ 1
  -- after 167 bytes D and 80 share the block's last byte; after 168 they have a block of their own
  pub closed_167 : (m : List ℕ) (d : ℕ) → length m ≡ 167 → domain_status d ≡ done → when_closed m d ≡ 1
  pub closed_168 : (m : List ℕ) (d : ℕ) → length m ≡ 168 → domain_status d ≡ done → when_closed m d ≡ 2
  -- the first 168 bytes of output need no permutation beyond the close's
  pub read_0 : (m : List ℕ) (d : ℕ) → length m ≡ 168 → domain_status d ≡ done → when_read m d 0 ≡ 2
  pub read_1 : (m : List ℕ) (d : ℕ) → length m ≡ 168 → domain_status d ≡ done → when_read m d 1 ≡ 2
  pub read_168 : (m : List ℕ) (d : ℕ) → length m ≡ 168 → domain_status d ≡ done → when_read m d 168 ≡ 2
  pub read_169 : (m : List ℕ) (d : ℕ) → length m ≡ 168 → domain_status d ≡ done → when_read m d 169 ≡ 3
