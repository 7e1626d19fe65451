-- What `specs/Claims` claims of four states abreast, shown.
-- Assumes nothing.
use mathlib.Core.Path.{◌≡◌, sym, ap, ◌∙◌}
use mathlib.Core.List.{List}
use Prim.Native.Nat.{ℕ, ◌<◌}
use native.Mathlib.Decide.{ℕ_discrete}
use lib.ListN.{length}
use Rattle.abreast.specs.Four.{permuted_four}
use Rattle.abreast.specs.Claims.{Abreast}
use Rattle.abreast.proofs.Four.{states_same, each-permuted, permuted-other_length, permuted-none}

pub abreast : Abreast
abreast =
    record {
      equal = λ n s h. (each-permuted n s h).each;
      words = words;
      whole = states_same;
      other_length = λ n s h. sym (permuted-other_length n s h);
      too_many = too_many;
    }
  where
    words : (n : ℕ) (s : List ℕ) → length (permuted_four n s) ≡ length s
    words n s = by (ℕ_discrete (length s) 100)
      where
        by : Dec (length s ≡ 100) → length (permuted_four n s) ≡ length s
        by (yes h) = (each-permuted n s h).words ∙ sym h
        by (no h) = ap length (sym (permuted-other_length n s h))

    too_many : (n : ℕ) (s : List ℕ) → 24 < n → permuted_four n s ≡ s
    too_many n s more = by (ℕ_discrete (length s) 100)
      where
        by : Dec (length s ≡ 100) → permuted_four n s ≡ s
        by (yes h) = sym (permuted-none n s h more)
        by (no h) = sym (permuted-other_length n s h)
