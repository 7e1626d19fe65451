-- Demand 3 for every function, over every list of calls from a fresh run, and what follows from it, for the machine; proofs/Claims.antt says it of the
-- code's runs.
-- Assumes nothing.
use mathlib.Core.Path.{◌≡◌, refl, sym}
use mathlib.Core.Bool.{cond}
use mathlib.Core.List.{List}
use Prim.Native.Nat.{ℕ, ◌<◌, ◌≤◌}
use native.Mathlib.Omega.{arith}
use lib.Dec.{eqb}
use lib.ListN.{length}
use Rattle.sponge.specs.Transcript.{Call, Phase, Phase.absorbing, Phase.customizing, Phase.squeezing, phase_number, Transcript}
use Rattle.sponge.specs.Runs.{run_of}
use Rattle.sponge.specs.Streaming.{told}
use Rattle.sponge.specs.Count.{open_count, closed_count}
use Rattle.sponge.proofs.Valid.{taken-fits}
use Rattle.sponge.proofs.Streaming.{Fits, told-fits}
use Rattle.sponge.proofs.Corollaries as generic
use Rattle.sponge.proofs.Corollaries.{Corollaries}
use Rattle.sponge.proofs.Reachable.{Statuses, Fixed}
use Rattle.hasher.specs.Function.{Function, rules, permutations_of}
use Rattle.hasher.specs.Model.{machine}
use Rattle.hasher.specs.Claims.{Meets, Callable}
use Rattle.hasher.proofs.Laws.{positions, due, second_is, shape, shaped, laws, stays}

-- no customization bytes are counted
none-counted : (m : ℕ) → m ≤ 0 → 0 ≡ m
none-counted m l = omega arith

below : (n l limit most : ℕ) → limit < most → l ≡ limit → n ≤ l → n < most
below n l limit most h e g = omega arith

module _ {A : Type 0} (F : Function A) (E : Meets F) where
  pub positive : 0 < F.rate
  positive = (taken-fits F.rounds F.rate 0 E.taken).1

  statuses : Statuses (rules F) (machine F) (Fixed F.output_limit) (Callable F)
  unfolding rules machine
  statuses = record {
    nothing-taken = refl;
    byte-taken = refl;
    piece_other = λ n e. omega arith;
    some = λ m l. E.some;
    some_taken = λ m l c e. E.some_taken;
    some_counted = λ n s m l c e. none-counted m c;
    some_limit = λ m l c e. sym e;
    argument_other = E.no_five;
    can_absorb = ((omega arith, tt), omega arith);
    can_customize = λ m l. l;
    can_finalize = λ m l c e. E.some_byte;
    can_squeeze = λ n l e h. below n l F.output_limit _ E.limit-fits e h;
  }

  pub corollaries : Corollaries (rules F) (machine F) positions (Callable F)
  corollaries = generic.corollaries (rules F) (machine F) (laws F positive) (stays F positive) positions (due F.rate) (Fixed F.output_limit) (shape F) (shaped F) (Callable F) statuses

  -- ---- the permutations of the run that a transcript tells of: the definition's, and what the totals tell

  count_by : (f : List ℕ) (h : Phase A) (n : ℕ) → Fits (rules F) (record { absorbed = f; phase = h; squeezed = n })
      → (run_of (rules F) (machine F) (record { absorbed = f; phase = h; squeezed = n })).state.value.1 ≡ permutations_of F (record { absorbed = f; phase = h; squeezed = n })
  unfolding rules machine
  count_by f absorbing n t = refl
  count_by f (customizing c) n t = absurd t.phase-taken
  count_by f (squeezing a) n t = refl

  fits_told : (cs : List (Call A)) → Fits (rules F) (told (rules F) (machine F) cs).left
  fits_told cs = told-fits (rules F) (machine F) (laws F positive) cs

  pub count_defined : (cs : List (Call A)) → (run_of (rules F) (machine F) (told (rules F) (machine F) cs).left).state.value.1 ≡ permutations_of F (told (rules F) (machine F) cs).left
  count_defined cs = let t : Transcript A = (told (rules F) (machine F) cs).left in count_by t.absorbed t.phase t.squeezed (fits_told cs)

  pub count_told : (cs : List (Call A))
      → (run_of (rules F) (machine F) (told (rules F) (machine F) cs).left).state.value.1
      ≡ cond (eqb (phase_number (told (rules F) (machine F) cs).left.phase) 0) (open_count F.rate (length (told (rules F) (machine F) cs).left.absorbed)) (closed_count F.rate (length (told (rules F) (machine F) cs).left.absorbed) (told (rules F) (machine F) cs).left.squeezed)
  count_told cs =
      let t : Transcript A = (told (rules F) (machine F) cs).left in
      second_is _ _ _ _ (shape F (run_of (rules F) (machine F) t) ((laws F positive).run-reachable t (fits_told cs))).positions_due
