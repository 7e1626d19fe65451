-- The hashers of the benchmarks and their laws of calls in a row: one for every function of `hasher`, of which TurboSHAKE128 with D = 1F,
-- SHA3-256 and SHAKE128 are instances, and KT with C empty.
-- Assumes nothing.
use mathlib.Core.Path.{◌≡◌, refl, ap, ◌∙◌}
use mathlib.Core.List.{List, []}
use Prim.Native.Nat.{ℕ, ◌<◌}
use native.Mathlib.Omega.{arith}
use lib.ListN.{length}
use Rattle.hasher.specs.Function.{Function, long_output, output}
use Rattle.hasher.specs.Claims.{Meets}
use Rattle.hasher.specs.Model.{fresh_of, answer, written}
use Rattle.hasher.specs.declared.Run.{Run}
use Rattle.hasher.specs.declared.Answer.{Answer}
use Rattle.hasher.proofs.Pieces as pieces
use Rattle.turboshake.specs.Published.{turboshake128}
use Rattle.turboshake.specs.Transcript as turboshake
use Rattle.turboshake.proofs.Claims as turboshake-claims
use Rattle.fips202.specs.Published.{sha3, shake}
use Rattle.fips202.specs.Transcript as fips
use Rattle.fips202.proofs.Claims as fips-claims
use Rattle.kangarootwelve.specs.Published as kt-published
use Rattle.kangarootwelve.specs.Transcript as kt-transcript
use Rattle.kangarootwelve.specs.Model as kt
use Rattle.kangarootwelve.specs.declared.Run as kt-run
use Rattle.kangarootwelve.proofs.Pieces as kt-pieces
use Rattle.bench.proofs.Absorbed.{Hasher}

-- ---- the functions of `hasher`

-- F, closed with a, whose output is published as f
module _ {A : Type 0} (F : Function A) (E : Meets F) (a : A) (taken : F.argument a ≡ 0) (f : List ℕ → ℕ → List ℕ) (published : (m : List ℕ) (n : ℕ) → output F m a n ≡ f m n) where
  abbrev pub hasher_of : Hasher A Run Answer
  hasher_of = record {
    answer = answer F;
    status = λ x. x.status;
    left = λ x. x.run;
    output = written F;
    argument = a;
    timed = record { output = f; limit = F.output_limit };
    fresh = fresh_of;
    after = pieces.absorbed_run F;
    closed = λ m. pieces.finalized_run F m a;
    fresh_run_lem = pieces.fresh-absorbed F;
    absorb_piece = λ m p l.
        let e = pieces.absorb_piece F E m p l in
        (ap (λ (x : Answer). x.status) e, ap (λ (x : Answer). x.run) e);
    absorb_long = λ m p h l. ap (λ (x : Answer). x.status) (pieces.absorb_long F E m p h l);
    finalize-run = λ m h. ap (λ (x : Answer). x.run) (pieces.finalize-run F E m a h taken);
    squeeze-run = λ m out h l.
        let e = pieces.squeeze-run F E m a out h taken l in
        (e.0, e.1 ∙ published m (length out));
    squeeze_long = λ m out h l. pieces.squeeze_long F E m a out h taken l;
  }

abbrev pub turbo_hasher : Hasher ℕ Run Answer
turbo_hasher =
    hasher_of
    (turboshake.function 168)
    (turboshake-claims.meets 168 (omega arith) (omega arith))
    0x1F
    (turboshake-claims.domain_taken 0x1F (omega arith) (omega arith))
    (λ m n. turboshake128 m 0x1F n)
    (λ m n. (turboshake-claims.claims).turboshake128.published m 0x1F n)

abbrev pub sha3_hasher : Hasher (Unit {0}) Run Answer
sha3_hasher =
    hasher_of
    fips.sha3_256
    (fips-claims.meets 136 0x06 32 (omega arith) (omega arith) (omega arith) (omega arith))
    tt
    refl
    (sha3 32)
    (fips-claims.claims).sha3_256.published

abbrev pub shake_hasher : Hasher (Unit {0}) Run Answer
shake_hasher =
    hasher_of
    fips.shake128
    (fips-claims.meets 168 0x1F long_output (omega arith) (omega arith) (omega arith) (omega arith))
    tt
    refl
    (shake 16)
    (fips-claims.claims).shake128.published

-- ---- KT with C empty, at either strength

pub no_customization : kt-transcript.customization_status 0 ≡ 0
no_customization = kt-pieces.customization-taken 0 (omega arith)

module _ (rate chaining : ℕ) (positive : 0 < rate) where
  abbrev pub kt_hasher : Hasher (List ℕ) kt-run.Run kt.Answer
  kt_hasher = record {
    answer = kt.answer_of rate chaining;
    status = λ x. x.status;
    left = λ x. x.run;
    output = kt.output_of rate chaining;
    argument = [];
    timed = record { output = λ m n. kt-published.kt rate chaining m [] n; limit = long_output };
    fresh = kt.fresh_of rate chaining;
    after = kt-pieces.absorbed_run rate chaining positive;
    closed = λ m. kt-pieces.finalized_run rate chaining positive m [];
    fresh_run_lem = kt-pieces.fresh-absorbed rate chaining positive;
    absorb_piece = λ m p l.
        let e = kt-pieces.absorb_piece rate chaining positive m p l in
        (ap (λ (x : kt.Answer). x.status) e, ap (λ (x : kt.Answer). x.run) e);
    absorb_long = λ m p h l. ap (λ (x : kt.Answer). x.status) (kt-pieces.absorb_long rate chaining positive m p h l);
    finalize-run = λ m h. ap (λ (x : kt.Answer). x.run) (kt-pieces.finalize-run rate chaining positive m [] h no_customization);
    squeeze-run = λ m out h l. kt-pieces.squeeze-run rate chaining positive m [] out h no_customization l;
    squeeze_long = λ m out h l. kt-pieces.squeeze_long rate chaining positive m [] out h no_customization l;
  }

abbrev pub kt128_hasher : Hasher (List ℕ) kt-run.Run kt.Answer
kt128_hasher = kt_hasher 168 32 (omega arith)
