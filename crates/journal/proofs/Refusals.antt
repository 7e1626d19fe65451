-- Calls on any day, reached or not: what a refusal leaves, what an event and a piece of the name add, squeezes and pieces of the name in a row, and
-- the two closes.
-- Assumes nothing.
use mathlib.Core.Path.{◌≡◌, sym, ap, ap₂, ◌∙◌}
use mathlib.Core.List.{List, [], ◌++◌}
use mathlib.Core.Bool.{true}
use Prim.Native.Nat.{ℕ, suc, ◌+◌, ◌≤◌}
use lib.ListN.{length}
use Rattle.sponge.specs.Transcript.{Call, Call.absorb, Call.customize, Call.finalize, Call.finish, Call.squeeze, Reply, lent}
use Rattle.sponge.specs.Runs as runs
use Rattle.sponge.specs.Runs.{perform}
use Rattle.sponge.proofs.Joining as joining
use Rattle.sponge.proofs.PieceStatus as pieces
use Rattle.sponge.proofs.Corollaries.{Joins}
use Rattle.turboshake.specs.Transcript.{output_limit}
use Rattle.kangarootwelve.specs.Transcript as kt
use Rattle.kangarootwelve.specs.Transcript.{customization_limit}
use Rattle.kangarootwelve.specs.Model.{Nodes, machine, seen}
use Rattle.kangarootwelve.proofs.Streaming as kt-streaming
use Rattle.kangarootwelve.proofs.Answers.{limit_is, customization_is, customized_is}
use Rattle.journal.specs.Published.{framed}
use Rattle.journal.specs.Transcript.{own_status, framed_call, rules_at}
use Rattle.journal.specs.Model.{day_of, performed, answer_of, reply_of, output_of}
use Rattle.journal.specs.declared.Journal.{Journal}
use Rattle.journal.proofs.Streaming.{rate_positive, laws}

-- a refused call hands back the day that it got and gives no byte; an output is as it was
pub refused : (j : Journal) (c : Call (List ℕ)) (n : ℕ) → (answer_of j c).status ≡ suc n → ((answer_of j c).journal ≡ j) × ((reply_of j c).bytes ≡ [])
unfolding reply_of answer_of performed
refused j c n e =
    let p = joining.refused (rules_at c) (machine 168 32) (seen j.run) (framed_call c) n e in
    (ap day_of p.0, p.1)

pub refused-output : (j : Journal) (out : List ℕ) (n : ℕ) → (answer_of j (squeeze (length out))).status ≡ suc n → output_of j out ≡ out
unfolding answer_of output_of
refused-output j out n e = ap (λ (s : ℕ). lent s (performed j (squeeze (length out))).bytes out) e

-- an event that is taken grew the total by its length and that of its encoding
pub append_grows : (j : Journal) (e : List ℕ) → (answer_of j (absorb e)).status ≡ 0 → (answer_of j (absorb e)).journal.run.absorbed ≡ j.run.absorbed + length (framed e)
unfolding answer_of performed
append_grows j e z = joining.absorb_grows (rules_at (absorb e)) (machine 168 32) (seen j.run) (framed e) z

-- a piece of the name that is taken grew the customization bytes by its length
pub customize_grows : (j : Journal) (p : List ℕ) → (answer_of j (customize p)).status ≡ 0 → (answer_of j (customize p)).journal.run.customized ≡ j.run.customized + length p
unfolding answer_of performed rules_at
customize_grows j p z =
    let after : (machine 168 32).customized (performed j (customize p)).left.state ≡ (machine 168 32).customized (seen j.run).state + length p =
    joining.customize_grows (rules_at (customize p)) (machine 168 32) (pieces.laws (kt.rules 168 32) (machine 168 32) (λ n. own_status (customize p)) laws) customization_limit (λ c. c) (customization_is 168 32) (seen j.run) p z in
    sym (customized_is 168 32 (performed j (customize p)).left.state) ∙ after ∙ ap (λ (n : ℕ). n + length p) (customized_is 168 32 (seen j.run).state)

-- ---- all but the events are KT128's

abbrev as_reply : Reply (runs.Run Nodes) → Reply Journal
as_reply y = record { status = y.status; bytes = y.bytes; left = day_of y.left }

reply_is : (j : Journal) (c : Call (List ℕ)) → pieces.Agree (kt.rules 168 32) (λ n. own_status c) (framed_call c)
    → reply_of j c ≡ as_reply (perform (kt.rules 168 32) (machine 168 32) (seen j.run) (framed_call c))
unfolding reply_of answer_of performed rules_at
reply_is j c e = sym (ap as_reply (pieces.perform_same (kt.rules 168 32) (machine 168 32) (λ n. own_status c) (seen j.run) (framed_call c) e))

-- two calls in a row
second_is : (j : Journal) (c d : Call (List ℕ)) → pieces.Agree (kt.rules 168 32) (λ n. own_status c) (framed_call c)
    → pieces.Agree (kt.rules 168 32) (λ n. own_status d) (framed_call d)
    → reply_of (reply_of j c).left d ≡ as_reply (perform (kt.rules 168 32) (machine 168 32) (perform (kt.rules 168 32) (machine 168 32) (seen j.run) (framed_call c)).left (framed_call d))
second_is j c d e f =
    ap (λ (y : Reply Journal). reply_of y.left d) (reply_is j c e) ∙ reply_is (day_of (perform (kt.rules 168 32) (machine 168 32) (seen j.run) (framed_call c)).left) d f

joins : Joins (kt.rules 168 32) (machine 168 32)
joins = (kt-streaming.corollaries 168 32 rate_positive).joins

-- the bytes are the joined ones, and the day left is the same
pub squeeze-squeeze : (j : Journal) (m n : ℕ) → (machine 168 32).reachable (seen j.run) ≡ true → j.run.phase ≡ 1 → j.run.squeezed + (m + n) ≤ output_limit
    → record {
      status = (reply_of (reply_of j (squeeze m)).left (squeeze n)).status;
      bytes = (reply_of j (squeeze m)).bytes ++ (reply_of (reply_of j (squeeze m)).left (squeeze n)).bytes;
      left = (reply_of (reply_of j (squeeze m)).left (squeeze n)).left;
    } ≡ reply_of j (squeeze (m + n))
squeeze-squeeze j m n h o l =
    ap₂ (λ (x y : Reply Journal). record { status = y.status; bytes = x.bytes ++ y.bytes; left = y.left }) (reply_is j (squeeze m) tt) (second_is j (squeeze m) (squeeze n) tt tt)
    ∙ ap as_reply (joins.squeeze-squeeze (seen j.run) m n h o (rw (limit_is 168 32 (seen j.run).state) l))
    ∙ sym (reply_is j (squeeze (m + n)) tt)

pub squeeze-nothing : (j : Journal) → (machine 168 32).reachable (seen j.run) ≡ true → j.run.phase ≡ 1 → reply_of j (squeeze 0) ≡ record { status = 0; bytes = []; left = j }
squeeze-nothing j h o = reply_is j (squeeze 0) tt ∙ ap as_reply (joins.squeeze-nothing (seen j.run) h o)

-- pieces of the name
pub customize-customize : (j : Journal) (a b : List ℕ) → (machine 168 32).reachable (seen j.run) ≡ true → (j.run.phase ≡ 1 → ⊥) → j.run.customized + length (a ++ b) ≤ customization_limit
    → reply_of (reply_of j (customize a)).left (customize b) ≡ reply_of j (customize (a ++ b))
customize-customize j a b h o l =
    second_is j (customize a) (customize b) tt tt
    ∙ ap as_reply (joins.customize-customize customization_limit (λ c. c) (customization_is 168 32) (seen j.run) a b h o (rw (customized_is 168 32 (seen j.run).state) l))
    ∙ sym (reply_is j (customize (a ++ b)) tt)

pub customize-nothing : (j : Journal) → (machine 168 32).reachable (seen j.run) ≡ true → j.run.phase ≡ 2 → reply_of j (customize []) ≡ record { status = 0; bytes = []; left = j }
customize-nothing j h o = reply_is j (customize []) tt ∙ ap as_reply (joins.customize-nothing customization_limit (λ c. c) (customization_is 168 32) (seen j.run) h o)

-- both closes leave the same day
pub finish-finalize : (j : Journal) (name : List ℕ) → (machine 168 32).reachable (seen j.run) ≡ true → j.run.phase ≡ 0 → length name ≤ customization_limit
    → reply_of (reply_of j (customize name)).left finish ≡ reply_of j (finalize name)
finish-finalize j name h o l =
    second_is j (customize name) finish tt tt
    ∙ ap as_reply ((kt-streaming.corollaries 168 32 rate_positive).closes.finish-finalize customization_limit (λ c. c) (customization_is 168 32) (seen j.run) name h o l)
    ∙ sym (reply_is j (finalize name) tt)
