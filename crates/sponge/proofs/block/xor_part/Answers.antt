use mathlib.Core.Path.{◌≡◌, ap, sym, ◌∙◌}
use mathlib.Core.List.{List}
use Prim.Native.Nat.{ℕ, ◌+◌, ◌-◌, ◌*◌, ◌/◌, ◌%◌, ◌≤◌}
use native.Mathlib.Omega.{arith}
use lib.ListN.{length, drop}
use lib.Seq.{length-take-le}
use Rattle.sponge.specs.Cut.{puts}
use Rattle.sponge.specs.Published.{xor_byte}
use Rattle.sponge.proofs.Words.{rest_part, puts_parts}
use Rattle.sponge.proofs.block.xor_part.Goals as goal

pub slice_bounds-xor_bytes-end : goal.slice_bounds-xor_bytes-end
slice_bounds-xor_bytes-end c = let a = c.args in sym (length-take-le ((8 - a.at % 8) % 8) a.s.now (omega arith))

pub xor_bytes-requires-else-s-le8 : goal.xor_bytes-requires-else-s-le8
xor_bytes-requires-else-s-le8 c = let a = c.args in omega (arith, length-take-le ((8 - a.at % 8) % 8) a.s.now (omega arith))

pub returns-else-s-le8 : goal.returns-else-s-le8
returns-else-s-le8 c =
    let a = c.args in
    let h = (8 - a.at % 8) % 8 in
    let e : 8 * ((a.at + h) / 8) ≡ a.at + h = omega arith in
    let f : h ≤ length a.s.now = omega arith in
    c.xor_words.ensures
    ∙ ap (λ (t : List ℕ). puts xor_byte c.xor_bytes-else-s-le8.new.lanes (8 * ((a.at + h) / 8)) t) (rest_part a.s.now h)
    ∙ ap (λ (n : ℕ). puts xor_byte c.xor_bytes-else-s-le8.new.lanes n (drop h a.s.now)) e
    ∙ ap (λ (m : List ℕ). puts xor_byte m (a.at + h) (drop h a.s.now)) c.xor_bytes-else-s-le8.ensures
    ∙ puts_parts a.lanes.now a.at a.s.now h f
