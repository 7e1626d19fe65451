-- The message and the digest of a day, as request Q-1 has them in place of document 01's: each event is followed by length_encode of its
-- length, so that no two lists of events have one message.
-- Assumes nothing.
use Rattle.std.specs.Prelude.{List, ◌++◌, map, ℕ, length}
use Rattle.sponge.specs.Streaming.{joined}
use Rattle.kangarootwelve.specs.Published.{length_encode, kt128}

-- an event as the message has it: its bytes, then length_encode of their number; the P of a day's book
unfoldable pub framed : List ℕ → List ℕ
framed e = e ++ length_encode (length e)

-- the message of a day: its events in order
abbrev pub message : List (List ℕ) → List ℕ
message es = joined (map framed es)

-- n bytes of the digest of a day: KT128 of its message, with the station's name as customization string
abbrev pub digest : List (List ℕ) → List ℕ → ℕ → List ℕ
digest es name n = kt128 (message es) name n
