-- The claims of specs/Claims.antt: the theorem of `Runs` at each function.
-- Assumes nothing.
use native.Mathlib.Omega.{arith}
use Rattle.hasher.specs.Model.{numbers}
use Rattle.turboshake.specs.Transcript as turboshake
use Rattle.fips202.specs.Transcript as fips202
use Rattle.sp800_185.specs.Function.{cshake_at, kmac_at, kmacxof_at}
use Rattle.sp800_185.proofs.Instances.{cshake_meets, kmac_meets, kmacxof_meets}
use Rattle.injective.specs.Claims.{Claims}
use Rattle.injective.proofs.Runs.{of}
use Rattle.injective.proofs.AfterStart.{after-start}
use Rattle.injective.proofs.Totals.{totals_needed}

pub claims : Claims
claims = record {
  runs = λ rate rounds limit. of (numbers rate rounds limit) (λ r. r) (λ r t e. e);
  turboshake128 = of (turboshake.function 168) (λ x. x.run) (λ x y e i. record { run = e i });
  turboshake256 = of (turboshake.function 136) (λ x. x.run) (λ x y e i. record { run = e i });
  sha3_224 = of fips202.sha3_224 (λ x. x.run) (λ x y e i. record { run = e i });
  sha3_256 = of fips202.sha3_256 (λ x. x.run) (λ x y e i. record { run = e i });
  sha3_384 = of fips202.sha3_384 (λ x. x.run) (λ x y e i. record { run = e i });
  sha3_512 = of fips202.sha3_512 (λ x. x.run) (λ x y e i. record { run = e i });
  shake128 = of fips202.shake128 (λ x. x.run) (λ x y e i. record { run = e i });
  shake256 = of fips202.shake256 (λ x. x.run) (λ x y e i. record { run = e i });
  cshake = λ rate most pos fits. after-start (cshake_at rate most) (cshake_meets rate most pos fits) (omega arith);
  kmac = λ rate most pos fits. after-start (kmac_at rate most) (kmac_meets rate most pos fits) (omega arith);
  kmacxof = λ rate most pos fits. after-start (kmacxof_at rate most) (kmacxof_meets rate most pos fits) (omega arith);
  totals_needed = totals_needed;
}
