-- `abreast::round::theta_rho_pi` meets its contract.
-- Assumes nothing.
use Rattle.abreast.specs.Planes.{moved}
use Rattle.abreast.proofs.round.theta_rho_pi.Goals as goal

pub returns : goal.returns
unfolding moved
returns c =
    λ i.
    record {
      0 = c.theta_rho.ensures i;
      1 = c.theta_rho-2.ensures i;
      2 = c.theta_rho-3.ensures i;
      3 = c.theta_rho-4.ensures i;
      4 = c.theta_rho-5.ensures i;
    }
