-- `inverse::unround::untheta_parities` meets its contract: one distance after the other.
-- Assumes nothing.
use mathlib.Core.Path.{ap, ◌∙◌}
use Rattle.inverse.specs.Inverse.{theta_parities, untheta_parities}
use Rattle.inverse.proofs.unround.untheta_parities.Goals as goal

pub returns : goal.returns
unfolding untheta_parities
returns c =
    let e2 = c.theta_parities-p2.ensures ∙ ap (theta_parities 2) c.theta_parities-p1.ensures in
    let e8 = c.theta_parities-p8.ensures ∙ ap (theta_parities 8) (c.theta_parities-p4.ensures ∙ ap (theta_parities 4) e2) in
    let e32 = c.theta_parities-p32.ensures ∙ ap (theta_parities 32) (c.theta_parities-p16.ensures ∙ ap (theta_parities 16) e8) in
    c.theta_parities.ensures ∙ ap (theta_parities 128) e32
