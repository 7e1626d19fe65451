-- `keccak::round::chi` meets its contract: De Morgan's law, and two inversions that meet in an XOR.
-- Assumes nothing.
use mathlib.Core.Path.{◌≡◌, refl, sym, ap, ◌∙◌}
use Prim.Native.Nat.{ℕ, ◌^◌, ◌<◌}
use lib.Bits.{bit_and, bit_or, bit_xor, or_lt}
use Rattle.keccak.specs.Round.{complement}
use Rattle.keccak.proofs.Words.{complement-lt}
use Rattle.keccak.proofs.Complement.{complement-or, complement_twice, xor_inverses}
use Rattle.keccak.proofs.round.chi.Goals as goal

-- x and an OR of y and z, against their inverses and an AND
both-inverted : (x y z : ℕ) → x < 2 ^ 64 → y < 2 ^ 64 → z < 2 ^ 64 → bit_xor x (bit_or y z) ≡ bit_xor (complement x) (bit_and (complement y) (complement z))
both-inverted x y z hx hy hz = sym (ap (bit_xor (complement x)) (sym (complement-or y z hy hz)) ∙ xor_inverses x (bit_or y z) hx (or_lt 64 y z hy hz))

pub returns : goal.returns
unfolding complement
returns c =
    let b = c.args.b in
    let words = c.struct_known-11-1.given in
    let h0 = words.0.fits in
    let h1 = words.1.0.fits in
    let h2 = words.1.1.0.fits in
    let h3 = words.1.1.1.0.fits in
    let h4 = words.1.1.1.1.0.fits in record {
      result_value = both-inverted b.0 b.1 b.2 h0 h1 h2;
      result_value_2 = refl;
      result_value_3 = both-inverted b.2 b.3 (complement b.4) h2 h3 (complement-lt b.4)
          ∙ ap (λ (n : ℕ). bit_xor (complement b.2) (bit_and (complement b.3) n)) (complement_twice b.4 h4);
      result_value_4 = ap (bit_xor b.3) (complement-or b.4 b.0 h4 h0);
      result_value_5 = refl;
    }
