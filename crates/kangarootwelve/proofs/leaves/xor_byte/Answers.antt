use mathlib.Core.Path.{◌∙◌}
use Prim.Native.Nat.{◌<◌, ◌/◌, ◌%◌, ◌*◌, ◌^◌}
use native.Mathlib.Omega.{arith}
use Rattle.abreast.specs.Four.{state_at}
use Rattle.abreast.proofs.Four.{one_xor}
use Rattle.sponge.proofs.Words.{byte-shifted}
use Rattle.kangarootwelve.proofs.leaves.xor_byte.Goals as goal

pub returns : goal.returns
returns c =
    let a = c.args in
    let hq : a.at / 8 < 25 = omega arith in
    let p = one_xor a.j (a.at / 8) (c.wide.result * 2 ^ (8 * (a.at % 8)) % 2 ^ 64) a.states.now c.requires.1 hq c.requires.0 in
    record {
      words = p.words;
      own = p.own ∙ byte-shifted (state_at a.j a.states.now) a.at a.b c.wide.result c.wide.ensures.0 c.wide.ensures.1;
      other = p.other;
    }
