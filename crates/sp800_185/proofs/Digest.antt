-- What the code of a call in one go does: absorb, what the close puts after the message, pad and squeeze in a row after a start give the published output.
-- Assumes nothing.
use mathlib.Core.Path.{◌≡◌, refl, sym, ap, ◌∙◌, subst}
use mathlib.Core.List.{List, [], ◌++◌, append_assoc, append-nil}
use mathlib.Core.Bool.{Bool, true, false, cond}
use Prim.Native.Nat.{ℕ, ◌*◌, ◌≤◌, ◌<◌, zero-le}
use lib.ListN.{length}
use Rattle.keccak.specs.Permutation.{last_rounds}
use Rattle.sponge.specs.Published.{xor_byte, sponge}
use Rattle.sponge.specs.Model.{Sponge, fresh, absorb_bytes, pad, squeeze_bytes, call_status, Outcome, absorb_call, pad_call, squeeze_call, squeeze_output}
use Rattle.sponge.proofs.Waiting.{steps-append}
use Rattle.sponge.proofs.Published.{squeeze-sponge}
use Rattle.sponge.proofs.Valid.{fits-valid, pad_done, squeeze_done, output_done, pad-position}
use Rattle.sponge.proofs.Lent.{lent-refused, lent_done}
use Rattle.hasher.specs.Function.{long_output}
use Rattle.hasher.specs.declared.Run.{Run}
use Rattle.sp800_185.specs.Published.{right_encode, encode_string, bytepad, both_empty, cshake_prefix, cshake_byte, cshake_string, cshake, kmac_name, kmac_message, kmac, kmacxof}
use Rattle.sp800_185.specs.Start.{string_limit, key_limit, kmac_prefix, start_run}
use Rattle.sp800_185.specs.Function.{Function, cshake_at, whole_status, ending}
use Rattle.sp800_185.specs.Model.{plain, output_after}
use Rattle.sp800_185.specs.Cshake as cshake
use Rattle.sp800_185.specs.Kmac as kmac
use Rattle.sp800_185.specs.declared.numbers.Numbers.{Numbers}
use Rattle.sp800_185.proofs.Prefixes.{absorbs, in_block, start_is}
use Rattle.sp800_185.proofs.Statuses.{within}
use Rattle.sp800_185.proofs.Starts.{cshake-fits, kmac-fits}

-- the sponge of a run
abbrev pub sponge_in : Run → Sponge
sponge_in r = record { value = r.lanes; position = r.position }

abbrev P : List ℕ → List ℕ
P = last_rounds 24

-- ---- four calls in a row after a start: o, t, p and q are what they leave, and r what the output then holds

module _ {A : Type 0} (F : Function A) (pos : 0 < F.rate) (most : F.rate ≤ 200) (s : Sponge) (x out : List ℕ) (l : ℕ) (o p q : Outcome) (t : Sponge) (r : List ℕ)
    (whole : s.position ≤ F.rate)
    (takes : o ≡ absorb_call 24 F.rate s x)
    (ends : t ≡ absorb_bytes P F.rate o.state (ending F l))
    (inside : t.position ≤ F.rate)
    (pads : p ≡ pad_call 24 F.rate t cshake_byte)
    (squeezes : q ≡ squeeze_call 24 F.rate p.state (length out))
    (writes : r ≡ squeeze_output 24 F.rate p.state out) where
  padded : p.state ≡ pad P F.rate (absorb_bytes P F.rate (absorb_bytes P F.rate s x) (ending F l)) cshake_byte
  padded =
      ap (λ (u : Outcome). u.state) (pads ∙ pad_done 24 F.rate t (fits-valid 24 F.rate t.position refl inside pos most) cshake_byte)
      ∙ ap (λ (u : Sponge). pad P F.rate u cshake_byte) (ends ∙ ap (λ (u : Sponge). absorb_bytes P F.rate u (ending F l)) (absorbs F.rate pos most s x o whole takes))

  ok : call_status 24 F.rate p.state.position ≡ 0
  ok =
      subst (λ (u : Sponge). call_status 24 F.rate u.position ≡ 0) (sym padded)
      (rw (pad-position P F.rate (absorb_bytes P F.rate (absorb_bytes P F.rate s x) (ending F l)) cshake_byte) (fits-valid 24 F.rate 0 refl zero-le pos most))

  pub row_done : q.status ≡ 0
  row_done = ap (λ (u : Outcome). u.status) (squeezes ∙ squeeze_done 24 F.rate p.state ok (length out))

  pub row_written : r ≡ output_after F s x l (length out)
  row_written = writes ∙ output_done 24 F.rate p.state ok out ∙ ap (squeeze_bytes P F.rate (length out)) padded

-- ---- after the start with the prefix p

module _ (rate : ℕ) (pos : 0 < rate) where
  pub start-sponge : (p : List ℕ) → sponge_in (start_run rate p) ≡ absorb_bytes P rate fresh p
  start-sponge p = ap sponge_in (start_is rate pos p)

  pub start_inside : rate ≤ 200 → (p : List ℕ) (r : Run) → r ≡ start_run rate p → r.position ≤ rate
  start_inside most p r e =
      subst (λ (s : Sponge). s.position ≤ rate) (sym (ap sponge_in e ∙ start-sponge p)) (in_block rate pos most fresh p zero-le)

-- the published sponge of all that is absorbed
pub start-output : {A : Type 0} (F : Function A) → 0 < F.rate → (p x : List ℕ) (r : Run) (l n : ℕ) → r ≡ start_run F.rate p
    → output_after F (sponge_in r) x l n ≡ sponge P F.rate (p ++ (x ++ ending F l)) cshake_byte n
start-output F pos p x r l n e =
    let all : absorb_bytes P F.rate (absorb_bytes P F.rate (sponge_in r) x) (ending F l) ≡ absorb_bytes P F.rate fresh (p ++ (x ++ ending F l)) =
    ap (λ (s : Sponge). absorb_bytes P F.rate (absorb_bytes P F.rate s x) (ending F l)) (ap sponge_in e ∙ start-sponge F.rate pos p)
    ∙ sym (steps-append P xor_byte F.rate (absorb_bytes P F.rate fresh p) x (ending F l))
    ∙ sym (steps-append P xor_byte F.rate fresh p (x ++ ending F l)) in
    ap (λ (s : Sponge). squeeze_bytes P F.rate n (pad P F.rate s cshake_byte)) all ∙ squeeze-sponge P F.rate pos (p ++ (x ++ ending F l)) cshake_byte n

-- ---- the published functions

pub cshake_prefix_lem : (rate : ℕ) (n s : List ℕ) → both_empty n s ≡ false → bytepad (encode_string n ++ encode_string s) rate ≡ cshake_prefix rate n s
unfolding cshake_prefix
cshake_prefix_lem rate n s e = rw e

pub cshake-published : (rate : ℕ) (x n s : List ℕ) (l : ℕ) → both_empty n s ≡ false
    → sponge P rate (bytepad (encode_string n ++ encode_string s) rate ++ (x ++ [])) cshake_byte l ≡ cshake rate x l n s
unfolding cshake cshake_string
cshake-published rate x n s l e = rw (e, append-nil x, cshake_prefix_lem rate n s e)

module _ (rate : ℕ) (k x s : List ℕ) where
  keyed : (l : ℕ) → kmac_prefix rate k s ++ (x ++ right_encode (8 * l)) ≡ cshake_string rate (kmac_message rate k x l) kmac_name s
  unfolding kmac_prefix kmac_message cshake_string
  keyed l = simp append_assoc

  -- KMAC, which says l, or KMACXOF, which says 0
  pub kmac-published : (fixes : Bool) (l : ℕ) → sponge P rate (kmac_prefix rate k s ++ (x ++ right_encode (8 * cond fixes l 0))) cshake_byte l ≡ cond fixes (kmac rate k x l s) (kmacxof rate k x l s)
  unfolding kmac kmacxof cshake
  kmac-published true l = ap (λ (m : List ℕ). sponge P rate m cshake_byte l) (keyed l)
  kmac-published false l = ap (λ (m : List ℕ). sponge P rate m cshake_byte l) (keyed 0)

-- ---- the code's numbers, statuses and outputs

pub said_few : (fixes : Bool) (l : ℕ) → l ≤ long_output → cond fixes l 0 ≤ long_output
said_few true l h = h
said_few false l h = zero-le

-- what calls::digest asks
pub asked : (f : Numbers) (rate : ℕ) → f.rate ≡ rate → 0 < rate → rate ≤ 200 → (p : List ℕ) (r : Run) (l : ℕ) → r ≡ start_run rate p → l ≤ long_output
    → (r.position ≤ f.rate) × (l ≤ long_output)
asked f rate e pos fits p r l h few = (subst (λ (m : ℕ). r.position ≤ m) (sym e) (start_inside rate pos fits p r h), few)

module _ (rate : ℕ) (n s x out : List ℕ) (k r : ℕ) (starts : k ≡ cshake.start_status (length n) (length s)) (is : r ≡ whole_status k (length x) (length out)) where
  pub cshake-status : r ≡ cshake.one_go_status (length n) (length s) (length x) (length out)
  unfolding cshake.one_go_status
  cshake-status = is ∙ ap (λ (j : ℕ). whole_status j (length x) (length out)) starts

  pub cshake_untouched : (r ≡ 0 → ⊥) → out ≡ cshake.one_go_output rate x n s out
  unfolding cshake.one_go_output
  cshake_untouched h = lent-refused _ (λ e. h (cshake-status ∙ e)) _ out

  pub cshake-within : r ≡ 0 → (length n ≤ string_limit) × (length s ≤ string_limit)
  cshake-within e = cshake-fits (length n) (length s) (sym starts ∙ (within k (length x) (length out) (sym is ∙ e)).start)

  pub cshake-written : 0 < rate → r ≡ 0 → both_empty n s ≡ false → (most : ℕ) (f : Function ℕ) (q : Run) (o : List ℕ)
      → f ≡ plain (cshake_at rate most)
      → q ≡ start_run rate (bytepad (encode_string n ++ encode_string s) rate)
      → o ≡ output_after f (sponge_in q) x 0 (length out)
      → o ≡ cshake.one_go_output rate x n s out
  unfolding cshake.one_go_output
  cshake-written pos e b most f q o ef eq eo =
      eo ∙ ap (λ (h : Function ℕ). output_after h (sponge_in q) x 0 (length out)) ef
      ∙ start-output (plain (cshake_at rate most)) pos (bytepad (encode_string n ++ encode_string s) rate) x q 0 (length out) eq
      ∙ cshake-published rate x n s (length out) b
      ∙ lent_done _ (sym cshake-status ∙ e) _ out

module _ (rate : ℕ) (fixes : Bool) (k s x out : List ℕ) (j r : ℕ) (starts : j ≡ kmac.start_status (length k) (length s)) (is : r ≡ whole_status j (length x) (length out)) where
  pub kmac-status : r ≡ kmac.one_go_status (length k) (length s) (length x) (length out)
  unfolding kmac.one_go_status
  kmac-status = is ∙ ap (λ (i : ℕ). whole_status i (length x) (length out)) starts

  pub kmac_untouched : (r ≡ 0 → ⊥) → out ≡ kmac.one_go_output rate fixes k x s out
  unfolding kmac.one_go_output
  kmac_untouched h = lent-refused _ (λ e. h (kmac-status ∙ e)) _ out

  pub kmac-within : r ≡ 0 → (length k ≤ key_limit) × (length s ≤ string_limit)
  kmac-within e = kmac-fits (length k) (length s) (sym starts ∙ (within j (length x) (length out) (sym is ∙ e)).start)

  pub kmac_few : r ≡ 0 → length out ≤ long_output
  kmac_few e = (within j (length x) (length out) (sym is ∙ e)).few

-- of any function whose close says a length
module _ (F : Function ℕ) (pos : 0 < F.rate) (said : F.says ≡ true) (k s x out : List ℕ) (j r : ℕ) (starts : j ≡ kmac.start_status (length k) (length s)) (is : r ≡ whole_status j (length x) (length out)) where
  pub kmac-written : r ≡ 0 → (l : ℕ) (q : Run) (o : List ℕ)
      → l ≡ cond F.fixes (length out) 0
      → q ≡ start_run F.rate (kmac_prefix F.rate k s)
      → o ≡ output_after F (sponge_in q) x l (length out)
      → o ≡ kmac.one_go_output F.rate F.fixes k x s out
  unfolding kmac.one_go_output
  kmac-written e l q o el eq eo =
      let n = length out in
      let p = kmac_prefix F.rate k s in
      eo
      ∙ ap (λ (m : ℕ). output_after F (sponge_in q) x m n) el
      ∙ start-output F pos p x q (cond F.fixes n 0) n eq
      ∙ ap (λ (b : Bool). sponge P F.rate (p ++ (x ++ cond b (right_encode (8 * cond F.fixes n 0)) [])) cshake_byte n) said
      ∙ kmac-published F.rate k x s F.fixes n
      ∙ lent_done _ (sym (kmac-status F.rate F.fixes k s x out j r starts is) ∙ e) _ out
