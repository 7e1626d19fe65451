-- `keccak::round::round` meets its contract: its five planes are those of the definition.
-- Assumes nothing.
use mathlib.Core.Path.{◌≡◌, ◌∙◌}
use Rattle.keccak.proofs.Planes.{plane, plane_is, state, planes_round}
use Rattle.keccak.proofs.States.{array_state}
use Rattle.keccak.proofs.round.round.Goals as goal

pub returns : goal.returns
returns c =
    let a = c.args.a in
    let is = plane_is a (array_state a c.well_formed.0) c.theta_effect-d.result in
    let q0 : c.chi-e0.result ≡ plane a 0 = is c.theta_rho_pi-b0.result c.chi-e0.result 0 (c.theta_effect-d.ensures.result_value, (c.theta_effect-d.ensures.result_value_2, (c.theta_effect-d.ensures.result_value_3, (c.theta_effect-d.ensures.result_value_4, c.theta_effect-d.ensures.result_value_5)))) (c.theta_rho_pi-b0.ensures.result_value, (c.theta_rho_pi-b0.ensures.result_value_2, (c.theta_rho_pi-b0.ensures.result_value_3, (c.theta_rho_pi-b0.ensures.result_value_4, c.theta_rho_pi-b0.ensures.result_value_5)))) (c.chi-e0.ensures.result_value, (c.chi-e0.ensures.result_value_2, (c.chi-e0.ensures.result_value_3, (c.chi-e0.ensures.result_value_4, c.chi-e0.ensures.result_value_5)))) in
    let q1 : c.chi-e1.result ≡ plane a 1 = is c.theta_rho_pi-b1.result c.chi-e1.result 1 (c.theta_effect-d.ensures.result_value, (c.theta_effect-d.ensures.result_value_2, (c.theta_effect-d.ensures.result_value_3, (c.theta_effect-d.ensures.result_value_4, c.theta_effect-d.ensures.result_value_5)))) (c.theta_rho_pi-b1.ensures.result_value, (c.theta_rho_pi-b1.ensures.result_value_2, (c.theta_rho_pi-b1.ensures.result_value_3, (c.theta_rho_pi-b1.ensures.result_value_4, c.theta_rho_pi-b1.ensures.result_value_5)))) (c.chi-e1.ensures.result_value, (c.chi-e1.ensures.result_value_2, (c.chi-e1.ensures.result_value_3, (c.chi-e1.ensures.result_value_4, c.chi-e1.ensures.result_value_5)))) in
    let q2 : c.chi-e2.result ≡ plane a 2 = is c.theta_rho_pi-b2.result c.chi-e2.result 2 (c.theta_effect-d.ensures.result_value, (c.theta_effect-d.ensures.result_value_2, (c.theta_effect-d.ensures.result_value_3, (c.theta_effect-d.ensures.result_value_4, c.theta_effect-d.ensures.result_value_5)))) (c.theta_rho_pi-b2.ensures.result_value, (c.theta_rho_pi-b2.ensures.result_value_2, (c.theta_rho_pi-b2.ensures.result_value_3, (c.theta_rho_pi-b2.ensures.result_value_4, c.theta_rho_pi-b2.ensures.result_value_5)))) (c.chi-e2.ensures.result_value, (c.chi-e2.ensures.result_value_2, (c.chi-e2.ensures.result_value_3, (c.chi-e2.ensures.result_value_4, c.chi-e2.ensures.result_value_5)))) in
    let q3 : c.chi-e3.result ≡ plane a 3 = is c.theta_rho_pi-b3.result c.chi-e3.result 3 (c.theta_effect-d.ensures.result_value, (c.theta_effect-d.ensures.result_value_2, (c.theta_effect-d.ensures.result_value_3, (c.theta_effect-d.ensures.result_value_4, c.theta_effect-d.ensures.result_value_5)))) (c.theta_rho_pi-b3.ensures.result_value, (c.theta_rho_pi-b3.ensures.result_value_2, (c.theta_rho_pi-b3.ensures.result_value_3, (c.theta_rho_pi-b3.ensures.result_value_4, c.theta_rho_pi-b3.ensures.result_value_5)))) (c.chi-e3.ensures.result_value, (c.chi-e3.ensures.result_value_2, (c.chi-e3.ensures.result_value_3, (c.chi-e3.ensures.result_value_4, c.chi-e3.ensures.result_value_5)))) in
    let q4 : c.chi-e4.result ≡ plane a 4 = is c.theta_rho_pi-b4.result c.chi-e4.result 4 (c.theta_effect-d.ensures.result_value, (c.theta_effect-d.ensures.result_value_2, (c.theta_effect-d.ensures.result_value_3, (c.theta_effect-d.ensures.result_value_4, c.theta_effect-d.ensures.result_value_5)))) (c.theta_rho_pi-b4.ensures.result_value, (c.theta_rho_pi-b4.ensures.result_value_2, (c.theta_rho_pi-b4.ensures.result_value_3, (c.theta_rho_pi-b4.ensures.result_value_4, c.theta_rho_pi-b4.ensures.result_value_5)))) (c.chi-e4.ensures.result_value, (c.chi-e4.ensures.result_value_2, (c.chi-e4.ensures.result_value_3, (c.chi-e4.ensures.result_value_4, c.chi-e4.ensures.result_value_5)))) in
    (λ i. state (q0 i) (q1 i) (q2 i) (q3 i) (q4 i) c.args.rc) ∙ planes_round a c.args.rc
