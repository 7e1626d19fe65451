use mathlib.Core.Path.{ap, ◌∙◌}
use Prim.Native.Nat.{ℕ}
use Rattle.sponge.specs.Status.{first_of}
use Rattle.kangarootwelve.specs.Model.{Answer}
use Rattle.journal.proofs.refuse_event.Goals as goal

pub returns : goal.returns
returns c =
    let r = c.args.given in
    c.refused.ensures
    ∙ ap (λ (n : ℕ). record { journal = record { run = r }; status = n }) (c.long_status.ensures ∙ ap (λ (a : Answer). first_of a.status 8) c.absorb-tried.ensures)
