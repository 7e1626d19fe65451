-- `abreast::round::round_of` meets its contract: five planes moved, five put, and iota are a round.
-- Assumes nothing.
use mathlib.Core.Path.{◌≡◌, ap, ◌∙◌}
use lib.Dec.{lit<}
use Rattle.abreast.specs.declared.round.Plane.{Plane}
use Rattle.abreast.specs.Four.{state_at}
use Rattle.abreast.specs.Planes.{effect, moved}
use Rattle.abreast.proofs.Planes.{one_round}
use Rattle.abreast.proofs.round.round_of.Goals as goal

pub put-requires : goal.put-requires
put-requires c =
    record {
      a_len = (c.requires.0, c.requires.1);
      y_bound = lit< tt;
    }

pub put-requires-2 : goal.put-requires-2
put-requires-2 c =
    record {
      a_len = (c.put.ensures.words, c.requires.1);
      y_bound = lit< tt;
    }

pub put-requires-3 : goal.put-requires-3
put-requires-3 c =
    record {
      a_len = (c.put-2.ensures.words, c.requires.1);
      y_bound = lit< tt;
    }

pub put-requires-4 : goal.put-requires-4
put-requires-4 c =
    record {
      a_len = (c.put-3.ensures.words, c.requires.1);
      y_bound = lit< tt;
    }

pub put-requires-5 : goal.put-requires-5
put-requires-5 c =
    record {
      a_len = (c.put-4.ensures.words, c.requires.1);
      y_bound = lit< tt;
    }

pub iota-requires : goal.iota-requires
iota-requires c =
    (c.put-5.ensures.words, c.requires.1)

pub returns : goal.returns
returns c =
    let a = c.args in
    let st = state_at a.j a.a.now in
    let d : c.theta_effect-d.result ≡ effect st = c.theta_effect-d.ensures in
    one_round a.j a.rc a.a.now _ _ _ _ _ _ _ _ _ _ _
    (c.theta_rho_pi-b0.ensures ∙ ap (λ (e : Plane). moved st e 0) d)
    (c.theta_rho_pi-b1.ensures ∙ ap (λ (e : Plane). moved st e 1) d)
    (c.theta_rho_pi-b2.ensures ∙ ap (λ (e : Plane). moved st e 2) d)
    (c.theta_rho_pi-b3.ensures ∙ ap (λ (e : Plane). moved st e 3) d)
    (c.theta_rho_pi-b4.ensures ∙ ap (λ (e : Plane). moved st e 4) d)
    c.put.ensures c.put-2.ensures c.put-3.ensures c.put-4.ensures c.put-5.ensures c.iota.ensures
