-- The claims of specs/Family.antt.
-- Assumes nothing.
use mathlib.Core.Path.{◌≡◌, refl, sym, ap, ◌∙◌}
use mathlib.Core.List.{List, [], ◌++◌}
use mathlib.Core.Bool.{true, false}
use Prim.Native.Nat.{ℕ, suc, ◌*◌, ◌≤◌, ◌<◌}
use native.Mathlib.Omega.{arith}
use lib.ListN.{length, take}
use Rattle.keccak.specs.Permutation.{last_rounds}
use Rattle.sponge.specs.Published.{sponge}
use Rattle.sponge.specs.Status.{unreachable}
use Rattle.sponge.specs.Transcript.{Call, Call.squeeze, Phase, Phase.squeezing, Transcript, output_most, output_of}
use Rattle.sponge.specs.Streaming.{History, joined}
use Rattle.hasher.specs.Function.{long_output}
use Rattle.hasher.specs.Claims as unnamed
use Rattle.hasher.specs.declared.Run.{Run}
use Rattle.hasher.proofs.Claims as hasher
use Rattle.hasher.proofs.Laws.{output_is}
use Rattle.fips202.proofs.Claims.{meets}
use Rattle.sp800_185.specs.Published.{both_empty, cshake_byte, cshake_prefix, cshake, kmac, kmacxof, right_encode}
use Rattle.sp800_185.specs.Start.{string_limit, key_limit, kmac_prefix, no_run, cshake_blocks, kmac_blocks}
use Rattle.sp800_185.specs.Function.{cshake_at, kmac_at, kmacxof_at, output, rules}
use Rattle.sp800_185.specs.Model as model
use Rattle.sp800_185.specs.Cshake as customizable
use Rattle.sp800_185.specs.Cshake.{shake_at}
use Rattle.sp800_185.specs.Kmac as keyed
use Rattle.sp800_185.specs.Claims.{told, ran, Reached, Claims}
use Rattle.sp800_185.specs.Family.{NamedStart, KmacStart, named_prefix, keyed_prefix, cshake_ran, xof_ran, XofReached, CshakeOf, KmacOf, KmacxofOf, Family}
use Rattle.sp800_185.specs.declared.Answer.{Answer}
use Rattle.sp800_185.specs.declared.Keyed.{Keyed}
use Rattle.sp800_185.specs.Cshake.{CustomizedAnswer}
use Rattle.sp800_185.proofs.Blocks.{cshake128_blocks_most, cshake256_blocks_most, kmac128_blocks_most, kmac256_blocks_most}
use Rattle.sp800_185.proofs.Injective.{cshake-injective, kmac-injective, kmacxof-injective}
use Rattle.sp800_185.proofs.Digest.{cshake_prefix_lem, cshake-published, kmac-published}
use Rattle.sp800_185.proofs.OneGo.{cshake-shake, cshake128-shake, cshake256-shake, empty_status, empty_output, sponge-shorter, cshake-shorter, kmacxof-shorter}
use Rattle.sp800_185.proofs.Instances.{no_run_lem, cshake_meets, kmac_meets, kmacxof_meets, cshake_claims, keyed_claims}
use Rattle.sp800_185.proofs.Claims.{calls}
use Rattle.sp800_185.proofs.Own.{run-history, run-joins}
use Rattle.sp800_185.proofs.CshakeJoins.{shake-joins, cshake-joins}
use Rattle.sp800_185.proofs.CshakeRuns as runs

-- ---- starts

cshake-started : (rate : ℕ) (n s : List ℕ) (k : ℕ) → customizable.start_status (length n) (length s) ≡ k → customizable.start_answer rate n s ≡ customizable.started k (customizable.start_of rate n s)
unfolding customizable.start_answer
cshake-started rate n s k e = rw e

kmac-started : (rate : ℕ) (k s : List ℕ) (n : ℕ) → keyed.start_status (length k) (length s) ≡ n → keyed.start_answer rate k s ≡ keyed.started n (keyed.start_of rate k s)
unfolding keyed.start_answer
kmac-started rate k s n e = rw e

module _ (rate most : ℕ) (lo : 10 ≤ rate) (fits : rate ≤ 200) where
  pos : 0 < rate
  pos = omega arith

  -- ---- cSHAKE

  cshake-refused : (c : Call (Unit {0})) → (customizable.answer rate most (record { run = no_run; shake = false }) c).status ≡ unreachable
  unfolding customizable.answer
  cshake-refused c = no_run_lem (cshake_at rate most) (cshake_meets rate most pos fits) c

  cshake-output : (n s x : List ℕ) (l : ℕ) → both_empty n s ≡ false → output (cshake_at rate most) (cshake_prefix rate n s) x tt l ≡ cshake rate x l n s
  unfolding output
  cshake-output n s x l e = ap (λ (p : List ℕ). sponge (last_rounds 24) rate (p ++ (x ++ [])) cshake_byte l) (sym (cshake_prefix_lem rate n s e)) ∙ cshake-published rate x n s l e

  shake_claims : unnamed.Claims (shake_at rate)
  shake_claims = hasher.claims (shake_at rate) (meets rate 0x1F long_output pos fits (omega arith) (omega arith))

  cshake-equal : Claims (cshake_at rate most) (named_prefix rate) → (s : NamedStart) (cs ds : List (Call (Unit {0}))) → (told (cshake_at rate most) (named_prefix rate s) cs).left ≡ (told (cshake_at rate most) (named_prefix rate s) ds).left
      → (cshake_ran rate most s.start.name s.start.string cs).left ≡ (cshake_ran rate most s.start.name s.start.string ds).left
  cshake-equal named s cs ds e =
      let a = runs.named-ran rate most pos fits s.start.name s.start.string cs s.some in
      let b = runs.named-ran rate most pos fits s.start.name s.start.string ds s.some in
      let run = sym (ap (λ (h : History Keyed). h.left.run) a.0) ∙ ap (λ (x : Keyed). x.run) (named.equal_transcripts s s cs ds refl e) ∙ ap (λ (h : History Keyed). h.left.run) b.0 in
      λ i. record { run = run i; shake = (a.1 ∙ sym b.1) i }

  shake-equal : (cs ds : List (Call (Unit {0}))) → (unnamed.told (shake_at rate) cs).left ≡ (unnamed.told (shake_at rate) ds).left → (cshake_ran rate most [] [] cs).left ≡ (cshake_ran rate most [] [] ds).left
  shake-equal cs ds e =
      let a = runs.both_empty-ran rate most pos fits cs in
      let b = runs.both_empty-ran rate most pos fits ds in
      let run = sym (ap (λ (h : History Run). h.left) a.0) ∙ shake_claims.equal_transcripts cs ds e ∙ ap (λ (h : History Run). h.left) b.0 in
      λ i. record { run = run i; shake = (a.1 ∙ sym b.1) i }

  pub cshake_of_lem : most ≡ cshake_blocks rate string_limit string_limit → CshakeOf rate most
  cshake_of_lem is =
      let named : Claims (cshake_at rate most) (named_prefix rate) = cshake_claims rate most lo fits is in
      record {
        start = λ n s e. cshake-started rate n s 0 e;
        refused-start = λ n s k e.
            let w = cshake-started rate n s (suc k) e in
            (ap (λ (a : CustomizedAnswer). a.status) w, λ c. ap (λ (a : CustomizedAnswer). (customizable.answer rate most a.customized c).status) w ∙ cshake-refused c);
        named = named;
        named-ran = runs.named-ran rate most pos fits;
        named-equal = cshake-equal named;
        published = cshake-output;
        both_empty_lem = shake_claims;
        both_empty-ran = runs.both_empty-ran rate most pos fits;
        both_empty-equal = shake-equal;
        shake-published = λ x l. cshake-shake rate x l ∙ sym (output_is (shake_at rate) x tt l);
        shake-status = empty_status rate pos fits;
        shake-output = empty_output rate pos fits;
        refused = runs.refused rate most pos fits named shake_claims;
        refused-output = runs.refused-output rate most pos fits named shake_claims;
        done_output = runs.done_output rate most pos fits named shake_claims;
        joins = cshake-joins rate most (shake-joins rate shake_claims.joins) (run-joins (cshake_at rate most) (cshake_meets rate most pos fits) refl named.joins);
        five_unreached = runs.five_unreached rate most pos fits named shake_claims;
        unreached_five = runs.unreached_five rate most pos fits named shake_claims;
        other_reached = runs.other_reached rate most pos fits named shake_claims;
        most_is = is;
        shorter = cshake-shorter rate pos;
      }

  -- ---- KMAC and KMACXOF

  kmac-output : (k s x : List ℕ) (l : ℕ) → output (kmac_at rate most) (kmac_prefix rate k s) x l l ≡ kmac rate k x l s
  unfolding output
  kmac-output k s x l = kmac-published rate k x s true l

  kmacxof-output : (k s x : List ℕ) (l : ℕ) → output (kmacxof_at rate most) (kmac_prefix rate k s) x tt l ≡ kmacxof rate k x l s
  unfolding output
  kmacxof-output k s x l = kmac-published rate k x s false l

  kmac_firsts : (k s x : List ℕ) (l n : ℕ) → n ≤ l → output (kmac_at rate most) (kmac_prefix rate k s) x l n ≡ take n (kmac rate k x l s)
  unfolding output
  kmac_firsts k s x l n h = sponge-shorter rate pos (kmac_prefix rate k s ++ (x ++ right_encode (8 * l))) cshake_byte n l h ∙ ap (take n) (kmac-published rate k x s true l)

  -- what is read after a close that fixed l bytes
  read_by : (k s x : List ℕ) (h : Phase ℕ) (n l : ℕ) → h ≡ squeezing l → n ≤ output_most (rules (kmac_at rate most) (kmac_prefix rate k s)) h
      → output_of (rules (kmac_at rate most) (kmac_prefix rate k s)) (record { absorbed = x; phase = h; squeezed = n }) n ≡ take n (kmac rate k x l s)
  unfolding rules
  read_by k s x h n l e g = rw e (kmac_firsts k s x l n (rw e at g))

  kmac-read : Claims (kmac_at rate most) (keyed_prefix rate) → (s : KmacStart) (cs : List (Call ℕ)) (l : ℕ) → (told (kmac_at rate most) (keyed_prefix rate s) cs).left.phase ≡ squeezing l
      → joined (ran (kmac_at rate most) (keyed_prefix rate s) cs).bytes
      ≡ take (told (kmac_at rate most) (keyed_prefix rate s) cs).left.squeezed (kmac rate s.key (told (kmac_at rate most) (keyed_prefix rate s) cs).left.absorbed l s.string)
  kmac-read runs s cs l e =
      let t : Transcript ℕ = (told (kmac_at rate most) (keyed_prefix rate s) cs).left in
      ((runs).streaming s cs).output ∙ read_by s.key s.string t.absorbed t.phase t.squeezed l e ((runs).streaming s cs).within

  pub kmac_of_lem : most ≡ kmac_blocks rate key_limit string_limit → KmacOf rate most
  kmac_of_lem is =
      let runs : Claims (kmac_at rate most) (keyed_prefix rate) = keyed_claims rate most lo fits (kmac_at rate most) (kmac_meets rate most pos fits) refl refl is in
      record {
        start = λ k s e. kmac-started rate k s 0 e;
        refused-start = λ k s n e.
            let w = kmac-started rate k s (suc n) e in
            (ap (λ (a : Answer). a.status) w, λ c. ap (λ (a : Answer). (model.answer (kmac_at rate most) a.keyed c).status) w ∙ no_run_lem (kmac_at rate most) (kmac_meets rate most pos fits) c);
        runs = runs;
        published = kmac-output;
        first_bytes = kmac_firsts;
        read = kmac-read runs;
        most_is = is;
      }

  kmacxof_done : (r : Run) (out : List ℕ) → (keyed.xof_answer rate most r (squeeze (length out))).status ≡ 0 → keyed.xof_written rate most r out ≡ (model.run_reply (kmacxof_at rate most) r (squeeze (length out))).bytes
  unfolding model.run_reply model.reply_of
  kmacxof_done r out e = (calls (kmacxof_at rate most) (kmacxof_meets rate most pos fits)).done_output (record { run = r; length = 0 }) out e

  kmacxof-ran : (k s : List ℕ) (cs : List (Call (Unit {0})))
      → ran (kmacxof_at rate most) (kmac_prefix rate k s) cs
      ≡ record { statuses = (xof_ran rate most k s cs).statuses; bytes = (xof_ran rate most k s cs).bytes; left = record { run = (xof_ran rate most k s cs).left; length = 0 } }
  kmacxof-ran k s cs = run-history (kmacxof_at rate most) (kmacxof_meets rate most pos fits) refl cs _

  kmacxof-equal : Claims (kmacxof_at rate most) (keyed_prefix rate) → (s : KmacStart) (cs ds : List (Call (Unit {0}))) → (told (kmacxof_at rate most) (keyed_prefix rate s) cs).left ≡ (told (kmacxof_at rate most) (keyed_prefix rate s) ds).left
      → (xof_ran rate most s.key s.string cs).left ≡ (xof_ran rate most s.key s.string ds).left
  kmacxof-equal runs s cs ds e =
      sym (ap (λ (h : History Keyed). h.left.run) (kmacxof-ran s.key s.string cs)) ∙ ap (λ (x : Keyed). x.run) ((runs).equal_transcripts s s cs ds refl e)
      ∙ ap (λ (h : History Keyed). h.left.run) (kmacxof-ran s.key s.string ds)

  xof_of : (r : Run) → XofReached rate most r → Reached (kmacxof_at rate most) (keyed_prefix rate) (record { run = r; length = 0 })
  xof_of r g =
      let left = ap (λ (h : History Keyed). h.left) (kmacxof-ran g.start.key g.start.string g.calls) in
      record {
        start = g.start;
        calls = g.calls;
        callable = g.callable;
        phase_is = ap (λ (x : Keyed). x.run.phase) left ∙ g.phase_is;
        absorbed_is = ap (λ (x : Keyed). x.run.absorbed) left ∙ g.absorbed_is;
        squeezed_is = ap (λ (x : Keyed). x.run.squeezed) left ∙ g.squeezed_is;
        length_is = ap (λ (x : Keyed). x.length) left;
        position_is = ap (λ (x : Keyed). x.run.position) left ∙ g.position_is;
        permutations_is = ap (λ (x : Keyed). x.run.permutations) left ∙ g.permutations_is;
      }

  of_xof : (r : Run) → Reached (kmacxof_at rate most) (keyed_prefix rate) (record { run = r; length = 0 }) → XofReached rate most r
  of_xof r g =
      let left = sym (ap (λ (h : History Keyed). h.left) (kmacxof-ran g.start.key g.start.string g.calls)) in
      record {
        start = g.start;
        calls = g.calls;
        callable = g.callable;
        phase_is = ap (λ (x : Keyed). x.run.phase) left ∙ g.phase_is;
        absorbed_is = ap (λ (x : Keyed). x.run.absorbed) left ∙ g.absorbed_is;
        squeezed_is = ap (λ (x : Keyed). x.run.squeezed) left ∙ g.squeezed_is;
        position_is = ap (λ (x : Keyed). x.run.position) left ∙ g.position_is;
        permutations_is = ap (λ (x : Keyed). x.run.permutations) left ∙ g.permutations_is;
      }

  pub kmacxof_of : most ≡ kmac_blocks rate key_limit string_limit → KmacxofOf rate most
  kmacxof_of is =
      let runs : Claims (kmacxof_at rate most) (keyed_prefix rate) = keyed_claims rate most lo fits (kmacxof_at rate most) (kmacxof_meets rate most pos fits) refl refl is in
      record {
        start = λ k s e. ap keyed.without_length (kmac-started rate k s 0 e);
        refused-start = λ k s n e.
            let w = kmac-started rate k s (suc n) e in
            (ap (λ (a : Answer). a.status) w, λ c. ap (λ (a : Answer). (model.answer (kmacxof_at rate most) (record { run = a.keyed.run; length = 0 }) c).status) w ∙ no_run_lem (kmacxof_at rate most) (kmacxof_meets rate most pos fits) c);
        runs = runs;
        runs-ran = kmacxof-ran;
        runs-equal = kmacxof-equal runs;
        refused = λ r c n e. ap (λ (x : Keyed). x.run) ((calls (kmacxof_at rate most) (kmacxof_meets rate most pos fits)).refused (record { run = r; length = 0 }) c n e);
        refused-output = λ r out n e. (calls (kmacxof_at rate most) (kmacxof_meets rate most pos fits)).refused-output (record { run = r; length = 0 }) out n e;
        done_output = kmacxof_done;
        five_unreached = λ r c e g. (runs).five.five_unreached (record { run = r; length = 0 }) c e (xof_of r g);
        unreached_five = λ r c h. (runs).five.unreached_five (record { run = r; length = 0 }) c (λ g. h (of_xof r g));
        other_reached = λ r c h. of_xof r ((runs).five.other_reached (record { run = r; length = 0 }) c h);
        joins = run-joins (kmacxof_at rate most) (kmacxof_meets rate most pos fits) refl (runs).joins;
        published = kmacxof-output;
        shorter = kmacxof-shorter rate pos;
        most_is = is;
      }

pub family : Family
family = record {
  cshake128 = cshake_of_lem 168 199729 (omega arith) (omega arith) (sym cshake128_blocks_most);
  cshake256 = cshake_of_lem 136 246724 (omega arith) (omega arith) (sym cshake256_blocks_most);
  kmac128 = kmac_of_lem 168 102360992 (omega arith) (omega arith) (sym kmac128_blocks_most);
  kmac256 = kmac_of_lem 136 126445930 (omega arith) (omega arith) (sym kmac256_blocks_most);
  kmacxof128 = kmacxof_of 168 102360992 (omega arith) (omega arith) (sym kmac128_blocks_most);
  kmacxof256 = kmacxof_of 136 126445930 (omega arith) (omega arith) (sym kmac256_blocks_most);
  injective = record { of_cshake = cshake-injective; of_kmac = kmac-injective; of_kmacxof_lem = kmacxof-injective };
  shake128 = cshake128-shake;
  shake256 = cshake256-shake;
}
