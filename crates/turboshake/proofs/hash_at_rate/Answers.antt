use mathlib.Core.Path.{ap, ◌∙◌}
use Prim.Native.Nat.{ℕ}
use lib.ListN.{length}
use Rattle.hasher.specs.Model as hasher
use Rattle.turboshake.specs.Published.{turboshake_rounds}
use Rattle.turboshake.specs.Transcript.{output_limit}
use Rattle.turboshake.proofs.hash_at_rate.Goals as goal

pub returns : goal.returns
returns c =
    let h = c.hash in
    let a = c.args in record {
      value = h.ensures.value ∙ ap (λ (s : ℕ). hasher.hash_at_status a.rate turboshake_rounds output_limit (length a.message.now) s (length a.out.now)) c.domain_status-refusal.ensures;
      out_after = h.ensures.out_after ∙ ap (λ (s : ℕ). hasher.hash_at_output a.rate turboshake_rounds output_limit a.message.now s a.domain a.out.now) c.domain_status-refusal.ensures;
    }
