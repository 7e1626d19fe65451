-- What HopMAC in one go and its tag check do on every input, over the rate, the length of a chaining value and that of an inner digest.
-- Assumes nothing.
use Rattle.std.specs.Prelude.{List, [], ◌∷◌, Bool, true, false, cond, ◌&&◌, ℕ, length, eqb, leb}
use Rattle.sponge.specs.Status.{done, input_too_long, bad_length, first_of}
use Rattle.sponge.specs.Transcript.{lent}
use Rattle.turboshake.specs.Transcript.{message_limit}
use Rattle.kangarootwelve.specs.Published.{hopmac}
use Rattle.kangarootwelve.specs.Transcript.{customization_status}
use Rattle.kangarootwelve.specs.Model.{hash_status}
use Rattle.kangarootwelve.specs.declared.Verdict.{Verdict}

-- the status of a key, or a message, of n bytes
abbrev pub input_status : ℕ → ℕ
input_status n = cond (leb n message_limit) done input_too_long

-- ---- the tag in one go

-- the status of a key, a message and a customization string of these lengths, and n bytes asked: 2, 4, 7, 6 in this order
unfoldable pub mac_status : ℕ → ℕ → ℕ → ℕ → ℕ
mac_status key m c n = first_of (input_status key) (hash_status m c n)

-- what the lent output holds after the call
unfoldable pub mac_output : ℕ → ℕ → ℕ → List ℕ → List ℕ → List ℕ → List ℕ → List ℕ
mac_output rate chaining inner key m c out = lent (mac_status (length key) (length m) (length c) (length out)) (hopmac rate chaining inner key m c (length out)) out

-- ---- the tag check

-- the most bytes of a presented tag
abbrev pub tag_limit : ℕ
tag_limit = 64

-- the status of a presented tag of n bytes: 1 to 64 are taken
abbrev pub tag_status : ℕ → ℕ
tag_status n = cond (eqb n 0) bad_length (cond (leb n tag_limit) done bad_length)

-- the status of a key, a message, a customization string and a presented tag of these lengths: 2, 4, 7 in this order
unfoldable pub check_status : ℕ → ℕ → ℕ → ℕ → ℕ
check_status key m c t = first_of (input_status key) (first_of (input_status m) (first_of (customization_status c) (tag_status t)))

-- two strings are equal: as long as each other, and equal byte by byte
abbrev pub same_bytes : List ℕ → List ℕ → Bool
same_bytes [] [] = true
same_bytes [] (y ∷ b) = false
same_bytes (x ∷ a) [] = false
same_bytes (x ∷ a) (y ∷ b) = eqb x y && same_bytes a b

-- the answer: document 01's yes exactly where the call is done and the presented tag is the HopMAC of as many bytes
unfoldable pub verdict_of : ℕ → ℕ → ℕ → List ℕ → List ℕ → List ℕ → List ℕ → Verdict
verdict_of rate chaining inner key m c t = record {
  status = check_status (length key) (length m) (length c) (length t);
  valid = cond (eqb (check_status (length key) (length m) (length c) (length t)) 0) (same_bytes (hopmac rate chaining inner key m c (length t)) t) false;
}
