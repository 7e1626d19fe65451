use native.Mathlib.Omega.{arith}
use Rattle.keccak.specs.Permutation.{last_rounds}
use Rattle.sponge.proofs.Blocks.{absorb_in}
use Rattle.sponge.proofs.absorb_piece.Goals as goal

pub returns-then-piece-gt8 : goal.returns-then-piece-gt8
returns-then-piece-gt8 c = c.absorb_blocks.ensures

pub returns-then-rate-position : goal.returns-then-rate-position
returns-then-rate-position c = c.absorb_blocks-then-rate-position.ensures

pub xor_bytes-requires : goal.xor_bytes-requires
xor_bytes-requires c = (omega arith, omega arith, omega arith)

pub returns : goal.returns
returns c =
    let a = c.args in
    absorb_in (last_rounds a.rounds) a.rate a.lanes.now _ a.position _ a.piece.now c.xor_bytes.ensures (omega arith) (omega arith)
