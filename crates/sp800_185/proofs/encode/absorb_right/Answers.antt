use mathlib.Core.Path.{◌∙◌}
use mathlib.Core.List.{List, [], ◌∷◌}
use Prim.Native.Nat.{ℕ, ◌-◌}
use lib.ListN.{take, drop}
use Rattle.sponge.specs.Model.{Sponge, Outcome}
use Rattle.sp800_185.specs.Published.{right_encode}
use Rattle.sp800_185.proofs.Encoding.{right_bytes}
use Rattle.sp800_185.proofs.Prefixes.{absorbed, both-absorbed}
use Rattle.sp800_185.proofs.encode.absorb_right.Goals as goal

pub returns : goal.returns
returns c =
    let a = c.args in
    let n = c.byte_count-count in
    let b = c.to_be_bytes-bytes in
    let last : List ℕ = take (8 - (8 - n.result)) (drop (8 - n.result) b.result) in
    let s : Sponge = record { value = a.lanes.now; position = a.position } in
    let t : Sponge = record { value = c.absorb-taken.new.lanes; position = c.absorb-taken.result.position } in
    let u : Sponge = record { value = c.absorb-number.new.lanes; position = c.absorb-number.result.position } in
    let first : Outcome = record { status = c.absorb-taken.result.status; state = t } in
    let second : Outcome = record { status = c.absorb-number.result.status; state = u } in
    let is = absorbed a.rate c.requires.0 c.requires.1 s last first c.requires.2 c.absorb-taken.ensures in
    let all = absorbed a.rate c.requires.0 c.requires.1 t (n.result ∷ []) second is.1 c.absorb-number.ensures in
    let e = right_bytes a.x n.result b.result n.ensures.0 n.ensures.2 b.ensures in record {
      result_after = all.0 ∙ both-absorbed a.rate c.requires.0 c.requires.1 s t last (n.result ∷ []) (right_encode a.x) is.0 e;
      upper_bound = all.1;
    }
