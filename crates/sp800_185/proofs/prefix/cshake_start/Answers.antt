use mathlib.Core.Path.{sym, ap, ◌∙◌}
use mathlib.Core.List.{List}
use Prim.Native.Nat.{ℕ}
use Rattle.keccak.specs.Permutation.{last_rounds}
use Rattle.sponge.specs.Model.{absorb_bytes}
use Rattle.sponge.proofs.Valid.{zero_lanes_lem}
use Rattle.sp800_185.specs.Published.{left_encode}
use Rattle.sp800_185.proofs.Prefixes.{cshake-started}
use Rattle.sp800_185.proofs.prefix.cshake_start.Goals as goal

pub returns : goal.returns
returns c =
    let y = c.encoded_length-2 in
    let x = c.encoded_length in
    let v = c.absorb_string in
    let u = c.absorb_string-second in
    let t = c.absorb_left-first in
    let a = c.args in
    cshake-started a.rate c.requires.0 a.name.now a.string.now
    (record { value = t.new.lanes; position = t.result })
    (record { value = u.new.lanes; position = u.result })
    (record { value = v.new.lanes; position = v.result })
    x.result
    y.result
    c.padded_blocks-blocks.result
    (t.ensures.result_after ∙ ap (λ (z : List ℕ). absorb_bytes (last_rounds 24) a.rate (record { value = z; position = 0 }) (left_encode a.rate)) (sym zero_lanes_lem))
    u.ensures.result_after
    v.ensures.result_after
    x.ensures.0
    y.ensures.0
    c.padded_blocks-blocks.ensures.0
