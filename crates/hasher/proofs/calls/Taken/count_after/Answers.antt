use mathlib.Core.Path.{◌∙◌}
use Prim.Native.Nat.{◌+◌, ◌-◌, ◌≤◌}
use native.Mathlib.Omega.{arith}
use Rattle.sponge.specs.Waiting.{position_after}
use Rattle.hasher.proofs.Cases.{position-le, count_stays}
use Rattle.hasher.proofs.calls.Taken.count_after.Goals as goal

pub overflow_sub-self : goal.overflow_sub-self
overflow_sub-self c =
    omega (arith, c.requires.0, position-le c.args.self.rate c.args.at.absorbed c.args.self.taken.0)

pub returns-then-total-at : goal.returns-then-total-at
returns-then-total-at c =
    let a = c.args in
    let l : position_after a.self.rate a.at.absorbed + (a.total - a.at.absorbed) ≤ a.self.rate = omega (arith, c.requires.0, position-le a.self.rate a.at.absorbed c.args.self.taken.0, c.if-total-at.true) in
    c.requires.1 ∙ count_stays a.self.rate a.at.absorbed a.total c.args.self.taken.0 c.requires.2 l

pub returns : goal.returns
returns c = c.open_count.ensures.0
