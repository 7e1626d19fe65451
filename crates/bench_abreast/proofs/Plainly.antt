-- A feed that lends 100 words, and a call in one go that does: they are the plain ones.
-- Assumes nothing.
use mathlib.Core.Path.{◌≡◌, ap, ◌∙◌}
use mathlib.Core.List.{List}
use Prim.Native.Nat.{ℕ, ◌<◌}
use lib.ListN.{length}
use Rattle.sponge.specs.Transcript.{Call.absorb}
use Rattle.kangarootwelve.specs.Model as kt
use Rattle.kangarootwelve.specs.declared.Run.{Run}
use Rattle.kangarootwelve.proofs.Claims.{joining}

pub fed : (rate chaining : ℕ) → 0 < rate → (r : Run) (n : ℕ) (p : List ℕ) → n ≡ 100 → kt.answer_abreast rate chaining r n p ≡ kt.answer_of rate chaining r (absorb p)
fed rate chaining positive r n p h = ap (λ (k : ℕ). kt.answer_abreast rate chaining r k p) h ∙ (joining rate chaining positive).abreast_plain r p

-- r is the status, and the output holds o
pub one_go : (rate chaining : ℕ) (m c out : List ℕ) (r : ℕ) (o : List ℕ) → r ≡ kt.abreast_status 100 (length m) (length c) (length out) → o ≡ kt.abreast_output rate chaining 100 m c out
    → (r ≡ kt.hash_status (length m) (length c) (length out)) × (o ≡ kt.hash_output rate chaining m c out)
unfolding kt.abreast_status kt.abreast_output kt.hash_output
one_go rate chaining m c out r o e w = (e, w)
