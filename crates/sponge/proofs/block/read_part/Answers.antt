use mathlib.Core.Path.{◌≡◌, ap, sym, ◌∙◌}
use mathlib.Core.List.{◌++◌}
use Prim.Native.Nat.{ℕ, ◌+◌, ◌-◌, ◌*◌, ◌/◌, ◌%◌}
use native.Mathlib.Omega.{arith}
use lib.ListN.{length, take, drop, length-drop, length-append}
use lib.Seq.{length-take-le, take_at}
use Rattle.sponge.specs.Published.{bytes_from}
use Rattle.sponge.proofs.Output.{put_rest}
use Rattle.sponge.proofs.Published.{length-bytes_from}
use Rattle.sponge.proofs.block.read_part.Goals as goal

pub slice_bounds-read_bytes-end-else-out-h : goal.slice_bounds-read_bytes-end-else-out-h
slice_bounds-read_bytes-end-else-out-h c = let a = c.args in sym (length-take-le ((8 - a.at % 8) % 8) a.out.now (omega arith))

pub read_bytes-requires-else-out-h : goal.read_bytes-requires-else-out-h
read_bytes-requires-else-out-h c = let a = c.args in omega (arith, length-take-le ((8 - a.at % 8) % 8) a.out.now (omega arith))

pub returns-else-out-h : goal.returns-else-out-h
returns-else-out-h c =
    let a = c.args in
    let h = (8 - a.at % 8) % 8 in
    let r = c.read_bytes-else-out-h in
    let ys = r.new.out in
    let o = ys ++ drop h a.out.now in
    let n : length (take h a.out.now) ≡ h = length-take-le h a.out.now (omega arith) in
    let e : ys ≡ bytes_from a.lanes.now a.at h = r.ensures ∙ ap (λ (k : ℕ). bytes_from a.lanes.now a.at k) n in
    let ly : length ys ≡ h = ap length e ∙ length-bytes_from a.lanes.now a.at h in
    let lo : length o ≡ length a.out.now = omega (arith, length-append ys (drop h a.out.now), length-drop h a.out.now) in
    let m : length (take (length o - h) (drop h o)) ≡ length o - h = length-take-le (length o - h) (drop h o) (omega (arith, length-drop h o)) in
    put_rest a.lanes.now o c.read_words.new.out a.at (8 * ((a.at + h) / 8)) h _ (length a.out.now) (omega arith)
    (take_at ys (drop h a.out.now) h ly ∙ e) c.read_words.ensures (omega arith) m lo
