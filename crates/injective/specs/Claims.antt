-- Nothing is lost between blocks (request Q-13): of two runs of one function that absorb one piece. `answer` is what the contracts of `absorb` cite, of
-- TurboSHAKE, SHA-3 and SHAKE on their own structs. KT runs have no such rule: a finished leaf is cut to its chaining value.
-- Assumes nothing.
use Rattle.std.specs.Prelude.{◌≡◌, true, List, ℕ, ◌≤◌, ◌<◌}
use Rattle.keccak.specs.State.{State}
use Rattle.sponge.specs.Status.{done}
use Rattle.sponge.specs.Callable.{Bytes}
use Rattle.sponge.specs.Transcript.{Call.absorb}
use Rattle.hasher.specs.Function.{Function}
use Rattle.hasher.specs.Model.{reachable, numbers, answer}
use Rattle.hasher.specs.declared.Run.{Run}
use Rattle.turboshake.specs.Transcript as turboshake
use Rattle.turboshake.specs.declared.TurboShake128.{TurboShake128}
use Rattle.turboshake.specs.declared.TurboShake256.{TurboShake256}
use Rattle.fips202.specs.Transcript as fips202
use Rattle.fips202.specs.declared.Sha3_224.{Sha3_224}
use Rattle.fips202.specs.declared.Sha3_256.{Sha3_256}
use Rattle.fips202.specs.declared.Sha3_384.{Sha3_384}
use Rattle.fips202.specs.declared.Sha3_512.{Sha3_512}
use Rattle.fips202.specs.declared.Shake128.{Shake128}
use Rattle.fips202.specs.declared.Shake256.{Shake256}
use Rattle.sp800_185.specs.Function.{cshake_at, kmac_at, kmacxof_at}
use Rattle.sp800_185.specs.Function as started
use Rattle.sp800_185.specs.Model as startedModel

-- of F, whose runs the code holds as values of H; `run` is the run in one
pub record Injective {A : Type 0} (F : Function A) {H : Type 0} (run : H → Run) : Type 0 where
  -- an absorb that is answered 0 was asked of a run that is open, passes the test of status 5 and has had nothing squeezed; so `injective` need not
  -- ask for these
  pub phase_open : (x : H) (p : List ℕ) → (answer F (run x) (absorb p)).status ≡ done → (run x).phase ≡ 0
  pub test_passed : (x : H) (p : List ℕ) → (answer F (run x) (absorb p)).status ≡ done
      → reachable F.rate F.output_limit (run x).position (run x).phase (run x).absorbed (run x).squeezed (run x).permutations ≡ true
  pub none-squeezed : (x : H) (p : List ℕ) → (answer F (run x) (absorb p)).status ≡ done → (run x).squeezed ≡ 0
  -- it leaves a state where it was given one
  pub state_left : (x : H) (p : List ℕ) → State (run x).lanes → Bytes p → (answer F (run x) (absorb p)).status ≡ done → State (answer F (run x) (absorb p)).run.lanes
  -- two runs with equal totals that absorb one piece, are answered 0 and end with the same lanes were one and the same
  pub injective : (x y : H) (p : List ℕ) → State (run x).lanes → State (run y).lanes → Bytes p
      → (run x).absorbed ≡ (run y).absorbed
      → (answer F (run x) (absorb p)).status ≡ done
      → (answer F (run y) (absorb p)).status ≡ done
      → (answer F (run x) (absorb p)).run.lanes ≡ (answer F (run y) (absorb p)).run.lanes
      → x ≡ y

-- that the totals are equal has to be asked: two runs absorb one piece, are answered 0 and end with the same lanes, and began with different ones
pub record TotalsNeeded {A : Type 0} (F : Function A) : Type 0 where
  pub first : Run
  pub second : Run
  pub piece : List ℕ
  pub first_state : State first.lanes
  pub second-state : State second.lanes
  pub piece_bytes : Bytes piece
  pub first_done : (answer F first (absorb piece)).status ≡ done
  pub second_done : (answer F second (absorb piece)).status ≡ done
  pub end_alike : (answer F first (absorb piece)).run.lanes ≡ (answer F second (absorb piece)).run.lanes
  pub began_apart : first.lanes ≡ second.lanes → ⊥

-- ---- the functions of SP 800-185, whose runs begin at a start. Those of cSHAKE are of strings that are not both empty; with both empty it is SHAKE, and
-- of two runs of which one is SHAKE's the rule does not hold: before the first byte the one is at position 0, the other at the rate

-- r with another number of permutations
abbrev pub with_permutations : Run → ℕ → Run
with_permutations r n = record { lanes = r.lanes; position = r.position; phase = r.phase; absorbed = r.absorbed; squeezed = r.squeezed; permutations = n }

-- on runs r and t with the output lengths l and k that they keep. The totals do not tell how many blocks went before the message, so the numbers of
-- permutations may differ: all else is the same
pub record AfterStart {A : Type 0} (F : started.Function A) : Type 0 where
  pub injective : (r t : Run) (l k : ℕ) (p : List ℕ) → State r.lanes → State t.lanes → Bytes p
      → r.absorbed ≡ t.absorbed
      → (startedModel.answer F (record { run = r; length = l }) (absorb p)).status ≡ done
      → (startedModel.answer F (record { run = t; length = k }) (absorb p)).status ≡ done
      → (startedModel.answer F (record { run = r; length = l }) (absorb p)).keyed.run.lanes ≡ (startedModel.answer F (record { run = t; length = k }) (absorb p)).keyed.run.lanes
      → (with_permutations r t.permutations ≡ t) × (l ≡ k)

-- ---- all of it

pub record Claims : Type 0 where
  -- at every rate, number of rounds and read limit; of those that are refused no absorb is answered 0
  pub runs : (rate rounds limit : ℕ) → Injective (numbers rate rounds limit) (λ (r : Run). r)
  -- the functions' own structs
  pub turboshake128 : Injective (turboshake.function 168) (λ (x : TurboShake128). x.run)
  pub turboshake256 : Injective (turboshake.function 136) (λ (x : TurboShake256). x.run)
  pub sha3_224 : Injective fips202.sha3_224 (λ (x : Sha3_224). x.run)
  pub sha3_256 : Injective fips202.sha3_256 (λ (x : Sha3_256). x.run)
  pub sha3_384 : Injective fips202.sha3_384 (λ (x : Sha3_384). x.run)
  pub sha3_512 : Injective fips202.sha3_512 (λ (x : Sha3_512). x.run)
  pub shake128 : Injective fips202.shake128 (λ (x : Shake128). x.run)
  pub shake256 : Injective fips202.shake256 (λ (x : Shake256). x.run)
  -- and SP 800-185's runs, whatever the most blocks before a message
  pub cshake : (rate most : ℕ) → 0 < rate → rate ≤ 200 → AfterStart (cshake_at rate most)
  pub kmac : (rate most : ℕ) → 0 < rate → rate ≤ 200 → AfterStart (kmac_at rate most)
  pub kmacxof : (rate most : ℕ) → 0 < rate → rate ≤ 200 → AfterStart (kmacxof_at rate most)
  pub totals_needed : TotalsNeeded (turboshake.function 168)
