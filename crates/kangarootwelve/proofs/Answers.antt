-- The words of the contracts, for crates above: each is the generic run's, in the code's structs.
-- Assumes nothing.
use mathlib.Core.Path.{◌≡◌, refl, sym}
use mathlib.Core.List.{List}
use Prim.Native.Nat.{ℕ}
use lib.ListN.{length}
use Rattle.sponge.specs.Transcript.{Call, Call.squeeze, Customization.up_to, lent}
use Rattle.sponge.specs.Runs.{fresh_run, perform}
use Rattle.turboshake.specs.Transcript.{message_limit, output_limit}
use Rattle.kangarootwelve.specs.Published.{kt}
use Rattle.kangarootwelve.specs.Transcript.{customization_limit, customization_status, rules}
use Rattle.kangarootwelve.specs.Model.{Nodes, machine, seen, held, fresh_of, answer_of, output_of, hash_status, hash_output}
use Rattle.kangarootwelve.specs.declared.Run.{Run}
use Rattle.kangarootwelve.proofs.OneGo.{hash-written}

module _ (rate chaining : ℕ) where
  pub fresh_is : fresh_of rate chaining ≡ held (fresh_run (rules rate chaining) (machine rate chaining))
  unfolding fresh_of
  fresh_is = refl

  pub answer_is : (r : Run) (c : Call (List ℕ))
      → answer_of rate chaining r c ≡ record { status = (perform (rules rate chaining) (machine rate chaining) (seen r) c).status; run = held (perform (rules rate chaining) (machine rate chaining) (seen r) c).left }
  unfolding answer_of
  answer_is r c = refl

  pub output_is : (r : Run) (out : List ℕ)
      → output_of rate chaining r out
      ≡ lent (perform (rules rate chaining) (machine rate chaining) (seen r) (squeeze (length out))).status (perform (rules rate chaining) (machine rate chaining) (seen r) (squeeze (length out))).bytes out
  unfolding output_of
  output_is r out = refl

  -- what the rules say: any piece is taken by itself, and C by its length
  pub piece-taken : (n : ℕ) → (rules rate chaining).piece n ≡ 0
  unfolding rules
  piece-taken n = refl

  pub argument_is : (c : List ℕ) → (rules rate chaining).argument c ≡ customization_status (length c)
  unfolding rules
  argument_is c = refl

  pub limits_are : ((rules rate chaining).input_limit ≡ message_limit) × ((c : List ℕ) → (rules rate chaining).output_limit c ≡ output_limit)
  unfolding rules
  limits_are = (refl, λ c. refl)

  pub limit_is : (s : Nodes) → (machine rate chaining).limit s ≡ output_limit
  unfolding machine
  limit_is s = refl

  pub customization_is : (rules rate chaining).customization ≡ up_to customization_limit (λ c. c)
  unfolding rules
  customization_is = refl

  -- the customization bytes of a run are those that it counts
  pub customized_is : (s : Nodes) → (machine rate chaining).customized s ≡ s.customized
  unfolding machine
  customized_is s = refl

  pub output-published : (m c : List ℕ) (n : ℕ) → (rules rate chaining).output m c n ≡ kt rate chaining m c n
  unfolding rules
  output-published m c n = refl

  -- a call in one go that is done wrote the published function
  pub hash_done : (m c out : List ℕ) → hash_status (length m) (length c) (length out) ≡ 0 → hash_output rate chaining m c out ≡ kt rate chaining m c (length out)
  hash_done m c out e = sym (hash-written rate chaining m c out e)
