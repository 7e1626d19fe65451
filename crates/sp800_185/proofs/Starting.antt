-- All claims of specs/Claims.antt, of a function whose starts have every number of blocks from `least` to `most`, and no other.
-- Assumes nothing.
use mathlib.Core.Path.{◌≡◌, refl, sym, ap, ◌∙◌, subst}
use mathlib.Core.List.{List, []}
use mathlib.Core.Bool.{Bool, true, false}
use Prim.Native.Nat.{ℕ, suc, ◌-◌, ◌*◌, ◌≤◌}
use native.Mathlib.Omega.{arith}
use lib.ListN.{length}
use lib.Dec.{T}
use Rattle.sponge.specs.Status.{unreachable}
use Rattle.sponge.specs.Transcript.{Call}
use Rattle.sponge.specs.Runs.{run_of}
use Rattle.sponge.proofs.Reachable.{status-five, five-status}
use Rattle.sp800_185.specs.Function.{Function, rules}
use Rattle.sp800_185.specs.Model.{reachable, machine, seen, held, answer, performed}
use Rattle.sp800_185.specs.Claims.{told, ran, Reached, Five, Claims}
use Rattle.sp800_185.specs.declared.Keyed.{Keyed}
use Rattle.sp800_185.proofs.Lengths.{Meets}
use Rattle.sp800_185.proofs.Ranges.{extra, some}
use Rattle.sp800_185.proofs.Claims.{status_is, calls}
use Rattle.sp800_185.proofs.Joins.{joins}
use Rattle.sp800_185.proofs.Reached.{no_piece, no_argument, run_told_lem, streams, counts, left_passes, found}

-- a start of b blocks
pub record Begins {Start : Type 0} (blocks_of : Start → ℕ) (b : ℕ) : Type 0 where
  pub start : Start
  pub blocks_are : blocks_of start ≡ b

-- what the starts of a function owe
pub record Starts {A Start : Type 0} (F : Function A) (prefix_of : Start → List ℕ) (blocks_of : Start → ℕ) : Type 0 where
  pub some : 1 ≤ F.least
  pub range : F.least ≤ F.most
  pub whole : (s : Start) → length (prefix_of s) ≡ blocks_of s * F.rate
  pub least_fits : (s : Start) → F.least ≤ blocks_of s
  pub most-fits : (s : Start) → blocks_of s ≤ F.most
  pub begins : (b : ℕ) → F.least ≤ b → b ≤ F.most → Begins blocks_of b

module _ {A Start : Type 0} (F : Function A) (E : Meets F) (prefix_of : Start → List ℕ) (blocks_of : Start → ℕ) (B : Starts F prefix_of blocks_of) where
  -- the blocks before the last
  before : Start → ℕ
  before s = blocks_of s - 1

  blocks_is : (s : Start) → suc (before s) ≡ blocks_of s
  unfolding before
  blocks_is s = let f = B.some in let g = B.least_fits s in omega (arith, f, g)

  least_is : (s : Start) → F.least ≤ suc (before s)
  least_is s = subst (λ (b : ℕ). F.least ≤ b) (sym (blocks_is s)) (B.least_fits s)

  most_is : (s : Start) → suc (before s) ≤ F.most
  most_is s = subst (λ (b : ℕ). b ≤ F.most) (sym (blocks_is s)) (B.most-fits s)

  whole_is : (s : Start) → length (prefix_of s) ≡ suc (before s) * F.rate
  whole_is s = B.whole s ∙ ap (λ (b : ℕ). b * F.rate) (sym (blocks_is s))

  -- ---- status 5

  passes : (x : Keyed) → Reached F prefix_of x → (machine F [] F.least F.most).reachable (seen x) ≡ true
  unfolding machine
  passes x g =
      let s : Start = g.start in
      sym (λ i. reachable F F.least F.most (g.position_is i) (g.length_is i) (g.phase_is i) (g.absorbed_is i) (g.squeezed_is i) (g.permutations_is i))
      ∙ left_passes F E (prefix_of s) (before s) (least_is s) (most_is s) (whole_is s) g.calls

  reached : (x : Keyed) → (machine F [] F.least F.most).reachable (seen x) ≡ true → Reached F prefix_of x
  unfolding machine
  reached x t =
      let g = some F x.run.position x.length x.run.absorbed x.run.squeezed x.run.permutations F.least F.most x.run.phase B.some t in
      let e : ℕ = extra F x.run.position x.length x.run.absorbed x.run.squeezed x.run.permutations x.run.phase in
      let b = B.begins (suc e) g.least_fits g.most-fits in
      let s : Start = b.start in
      let w : length (prefix_of s) ≡ suc e * F.rate = B.whole s ∙ ap (λ (n : ℕ). n * F.rate) b.blocks_are in
      let f = found F E (prefix_of s) e g.least_fits g.most-fits w x g.exact in
      record {
        start = s;
        calls = f.calls;
        callable = f.callable;
        phase_is = f.phase_is;
        absorbed_is = f.absorbed_is;
        squeezed_is = f.squeezed_is;
        length_is = f.length_is;
        position_is = f.position_is;
        permutations_is = f.permutations_is;
      }

  five : Five F prefix_of
  five = record {
    five_unreached = λ x c e g. subst T (sym (passes x g) ∙ status-five (rules F []) (machine F [] F.least F.most) (no_piece F) (no_argument F) (seen x) c (sym (status_is F E x c) ∙ e)) tt;
    unreached_five = λ x c h. status_is F E x c ∙ by x c ((machine F [] F.least F.most).reachable (seen x)) refl h;
    other_reached = λ x c h. other x c ((machine F [] F.least F.most).reachable (seen x)) refl h;
  }
    where
      by : (x : Keyed) (c : Call A) (t : Bool) → (machine F [] F.least F.most).reachable (seen x) ≡ t → (Reached F prefix_of x → ⊥) → (performed F x c).status ≡ unreachable
      by x c true e h = absurd (h (reached x e))
      by x c false e h = five-status (rules F []) (machine F [] F.least F.most) (no_piece F) (no_argument F) (seen x) c e

      other : (x : Keyed) (c : Call A) (t : Bool) → (machine F [] F.least F.most).reachable (seen x) ≡ t → ((answer F x c).status ≡ unreachable → ⊥) → Reached F prefix_of x
      other x c true e h = reached x e
      other x c false e h = absurd (h (status_is F E x c ∙ five-status (rules F []) (machine F [] F.least F.most) (no_piece F) (no_argument F) (seen x) c e))

  equal_transcripts : (s t : Start) (cs ds : List (Call A)) → prefix_of s ≡ prefix_of t → (told F (prefix_of s) cs).left ≡ (told F (prefix_of t) ds).left → (ran F (prefix_of s) cs).left ≡ (ran F (prefix_of t) ds).left
  equal_transcripts s t cs ds e w =
      run_told_lem F E (prefix_of s) (before s) (least_is s) (most_is s) (whole_is s) cs
      ∙ (λ i. held (run_of (rules F (e i)) (machine F (e i) F.least F.most) (w i)))
      ∙ sym (run_told_lem F E (prefix_of t) (before t) (least_is t) (most_is t) (whole_is t) ds)

  pub claims : Claims F prefix_of
  claims = record {
    streaming = λ s. streams F E (prefix_of s) (before s) (least_is s) (most_is s) (whole_is s);
    counts = λ s. counts F E (prefix_of s) (before s) (least_is s) (most_is s) (whole_is s);
    equal_transcripts = equal_transcripts;
    calls = calls F E;
    joins = joins F E B.some B.range;
    five = five;
  }
