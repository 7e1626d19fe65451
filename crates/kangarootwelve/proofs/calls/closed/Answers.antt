use mathlib.Core.Path.{ap}
use Prim.Native.Nat.{ℕ}
use native.Mathlib.Omega.{arith}
use Rattle.kangarootwelve.proofs.calls.closed.Goals as goal

pub overflow_add-total : goal.overflow_add-total
overflow_add-total c = omega (arith, c.requires.0, c.requires.1)

pub closed_kt-requires : goal.closed_kt-requires
closed_kt-requires c = (omega (arith, c.requires.0, c.requires.1), c.requires.1, c.requires.2)

pub returns : goal.returns
returns c =
    let a = c.args in
    ap (λ (n : ℕ). record { node = 0; leaf = 0; phase = 1; absorbed = a.at.absorbed; customized = a.customized; squeezed = a.at.squeezed; permutations = n }) c.closed_kt.ensures
