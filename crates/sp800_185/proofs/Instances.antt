-- The three functions over the rate meet what the claims ask: what their closes say, and how many blocks their starts have.
-- Assumes nothing.
use mathlib.Core.Path.{◌≡◌, refl, sym, ◌∙◌, subst}
use mathlib.Core.List.{[]}
use Prim.Native.Nat.{ℕ, ◌≤◌, ◌<◌}
use native.Mathlib.Nat.{le_refl}
use native.Mathlib.Omega.{arith}
use lib.ListN.{length}
use borrow.Author.Tests.{eqb-true}
use Rattle.sponge.specs.Status.{unreachable}
use Rattle.sponge.specs.Transcript.{Call}
use Rattle.sponge.proofs.Reachable.{five-status}
use Rattle.sp800_185.specs.Start.{string_limit, key_limit, no_run, cshake_blocks, kmac_blocks}
use Rattle.sp800_185.specs.Function.{Function, cshake_at, kmac_at, kmacxof_at, rules}
use Rattle.sp800_185.specs.Model.{reachable, machine, seen, answer}
use Rattle.sp800_185.specs.Cshake as customizable
use Rattle.sp800_185.specs.Kmac as keyed
use Rattle.sp800_185.specs.Claims.{Claims}
use Rattle.sp800_185.specs.Family.{NamedStart, KmacStart, named_prefix, keyed_prefix}
use Rattle.sp800_185.proofs.Blocks as blocks
use Rattle.sp800_185.proofs.Lengths.{Meets}
use Rattle.sp800_185.proofs.Statuses.{both_fit}
use Rattle.sp800_185.proofs.Starts.{cshake-fits, kmac-fits}
use Rattle.sp800_185.proofs.Claims.{status_is}
use Rattle.sp800_185.proofs.Reached.{no_piece, no_argument}
use Rattle.sp800_185.proofs.Starting as starting
use Rattle.sp800_185.proofs.Starting.{Starts}

-- the run that a refused start hands back is one that 5 refuses
pub no_run_lem : {A : Type 0} (F : Function A) → Meets F → (c : Call A) → (answer F (record { run = no_run; length = 0 }) c).status ≡ unreachable
unfolding machine reachable
no_run_lem F E c = status_is F E (record { run = no_run; length = 0 }) c ∙ five-status (rules F []) (machine F [] F.least F.most) (no_piece F) (no_argument F) (seen (record { run = no_run; length = 0 })) c refl

module _ (rate most : ℕ) (pos : 0 < rate) (fits : rate ≤ 200) where
  pub cshake_meets : Meets (cshake_at rate most)
  cshake_meets = record { positive = pos; fits = fits; some = λ l. tt; some_said = λ l e. sym (eqb-true l 0 e); said_fixed = λ a. refl }

  pub kmac_meets : Meets (kmac_at rate most)
  kmac_meets = record { positive = pos; fits = fits; some = λ l. l; some_said = λ l e. refl; said_fixed = λ a. refl }

  pub kmacxof_meets : Meets (kmacxof_at rate most)
  kmacxof_meets = record { positive = pos; fits = fits; some = λ l. tt; some_said = λ l e. sym (eqb-true l 0 e); said_fixed = λ a. refl }

cshake-taken : (n s : ℕ) → n ≤ string_limit → s ≤ string_limit → customizable.start_status n s ≡ 0
unfolding customizable.start_status
cshake-taken n s f g = sym (both_fit n string_limit 3 s string_limit 3 f g)

kmac-taken : (k s : ℕ) → k ≤ key_limit → s ≤ string_limit → keyed.start_status k s ≡ 0
unfolding keyed.start_status
kmac-taken k s f g = sym (both_fit k key_limit 1 s string_limit 3 f g)

-- ---- the starts, at a rate that holds the shortest strings in a block

module _ (rate most : ℕ) (lo : 10 ≤ rate) (fits : rate ≤ 200) where
  pub cshake_claims : most ≡ cshake_blocks rate string_limit string_limit → Claims (cshake_at rate most) (named_prefix rate)
  cshake_claims is = starting.claims (cshake_at rate most) (cshake_meets rate most pos fits) (named_prefix rate) blocks_of starts
    where
      pos : 0 < rate
      pos = omega arith

      hi : rate < 256
      hi = omega arith

      blocks_of : NamedStart → ℕ
      blocks_of s = cshake_blocks rate (length s.start.name) (length s.start.string)

      starts : Starts (cshake_at rate most) (named_prefix rate) blocks_of
      starts = record {
        some = le_refl 1;
        range = subst (λ (b : ℕ). 1 ≤ b) (sym is) (blocks.cshake_blocks-least rate pos string_limit string_limit);
        whole = λ s. blocks.cshake-length rate pos s.start.name s.start.string s.some;
        least_fits = λ s. blocks.cshake_blocks-least rate pos (length s.start.name) (length s.start.string);
        most-fits = λ s.
            let f = cshake-fits (length s.start.name) (length s.start.string) s.start.taken in
            subst (λ (b : ℕ). blocks_of s ≤ b) (sym is) (blocks.cshake_blocks-most rate pos (length s.start.name) (length s.start.string) f.0 f.1);
        begins = λ b f g.
            let s = blocks.cshake_start_lem rate lo hi b f (subst (λ (m : ℕ). b ≤ m) is g) in
            record {
              start = record {
                start = record { name = s.n; string = s.s; name_slice = s.n_slice; string_slice = s.s_slice; taken = cshake-taken (length s.n) (length s.s) s.n_fits s.s_fits };
                some = s.not_empty;
              };
              blocks_are = s.blocks_are;
            };
      }

  module _ {A : Type 0} (F : Function A) (E : Meets F) (rate-is : F.rate ≡ rate) (least_is : F.least ≡ 2) (most_is : F.most ≡ kmac_blocks rate key_limit string_limit) where
    pub keyed_claims : Claims F (keyed_prefix rate)
    keyed_claims = starting.claims F E (keyed_prefix rate) blocks_of starts
      where
        pos : 0 < rate
        pos = omega arith

        hi : rate < 256
        hi = omega arith

        blocks_of : KmacStart → ℕ
        blocks_of s = kmac_blocks rate (length s.key) (length s.string)

        starts : Starts F (keyed_prefix rate) blocks_of
        starts = record {
          some = rw least_is (omega arith);
          range = rw (least_is, most_is) (blocks.kmac_blocks-least rate pos key_limit string_limit);
          whole = λ s. rw rate-is (blocks.kmac-length rate pos s.key s.string);
          least_fits = λ s. rw least_is (blocks.kmac_blocks-least rate pos (length s.key) (length s.string));
          most-fits = λ s.
              let f = kmac-fits (length s.key) (length s.string) s.taken in
              rw most_is (blocks.kmac_blocks-most rate pos (length s.key) (length s.string) f.0 f.1);
          begins = λ b f g.
              let s = blocks.kmac_start_lem rate lo hi b (subst (λ (m : ℕ). m ≤ b) least_is f) (subst (λ (m : ℕ). b ≤ m) most_is g) in
              record {
                start = record { key = s.k; string = s.s; key_slice = s.k_slice; string_slice = s.s_slice; taken = kmac-taken (length s.k) (length s.s) s.k_fits s.s_fits };
                blocks_are = s.blocks_are;
              };
        }
