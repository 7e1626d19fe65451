use mathlib.Core.Path.{sym, ap, ◌∙◌}
use mathlib.Core.List.{List, ◌++◌, append_assoc}
use Prim.Native.Nat.{ℕ}
use Rattle.bench.proofs.Absorbed.{was_taken}
use Rattle.bench.proofs.pieces.absorb_pieces.Goals as goal

pub loop-piece-preserved : goal.loop-piece-preserved
loop-piece-preserved g c =
    let at = c.loop-piece in
    let inv = at.invariant in
    let p = c.in-Some.piece.now in
    let steps = c.in-Some.ensures.steps in
    let done = was_taken g.R.TimedRun.has_absorbed at.run c.feed.new.self inv.0 p c.feed.result c.feed.ensures.fits c.feed.ensures.long inv.3 inv.2 c.in_ok-feed.field-0 c.in_ok-feed.was in
    (inv.0 ++ p, inv.1 ∙ ap (λ (s : List ℕ). inv.0 ++ s) steps.1.0 ∙ sym (append_assoc inv.0 p _), done.0, done.1, steps.0 ∙ inv.4)
