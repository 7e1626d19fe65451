-- The hashers of SP 800-185 of the benchmarks and their laws of calls in a row: KMAC128 with its key, and cSHAKE128 with N and S.
-- Assumes nothing.
use mathlib.Core.Path.{◌≡◌, refl, sym, ap, ◌∙◌}
use mathlib.Core.List.{List, [], ◌++◌, append_assoc, append-nil}
use mathlib.Core.Bool.{false}
use Prim.Native.Nat.{ℕ, ◌*◌, ◌≤◌}
use native.Mathlib.Omega.{arith}
use borrow.Author.Tests.{eqb-true}
use lib.ListN.{length, take}
use Rattle.keccak.specs.Permutation.{last_rounds}
use Rattle.sponge.specs.Published.{sponge}
use Rattle.sponge.specs.Runs.{Run}
use Rattle.sponge.specs.Transcript.{Call, Call.absorb, Call.finalize, Call.squeeze}
use Rattle.sp800_185.specs.Published.{left_encode, right_encode, encode_string, bytepad, cshake_prefix, cshake_byte, cshake_string, cshake, kmac_name, kmac_message, kmac}
use Rattle.sp800_185.specs.Start.{kmac_prefix, start_run}
use Rattle.sp800_185.specs.Function.{cshake_at, kmac_at, output}
use Rattle.sp800_185.specs.Model.{State, machine, held, answer, written}
use Rattle.sp800_185.specs.Cshake as customizable
use Rattle.sp800_185.specs.Kmac as keyed
use Rattle.sp800_185.specs.Cshake.{Customized, CustomizedAnswer}
use Rattle.sp800_185.specs.declared.Kmac128.{Kmac128}
use Rattle.sp800_185.proofs.OneGo.{cshake-shorter}
use Rattle.bench.specs.Pieces.{bench_name, bench_string, bench_key, cshake_with_strings, timed_kmac}
use Rattle.bench.proofs.Absorbed.{Hasher}
use Rattle.bench.proofs.Started as started
use Rattle.bench.proofs.Started.{Begun}

-- ---- KMAC128

pub key_prefix : List ℕ
key_prefix = kmac_prefix 168 bench_key bench_string

-- two blocks: one of "KMAC" and S, one of the key
two_blocks : length key_prefix ≡ 2 * 168
unfolding key_prefix kmac_prefix cshake_prefix bytepad encode_string left_encode bench_key
two_blocks = refl

pub kmac-begun : Begun (kmac_at 168 102360992) key_prefix
kmac-begun = record {
  meets = record { positive = omega arith; fits = omega arith; some = λ l. l; some_said = λ l e. refl; said_fixed = λ l. refl };
  before = 1;
  least_fits = omega arith;
  most-fits = omega arith;
  blocks = two_blocks;
}

-- l bytes said, of which n are read
keyed_string : (m : List ℕ) (l : ℕ) → key_prefix ++ (m ++ right_encode (8 * l)) ≡ cshake_string 168 (kmac_message 168 bench_key m l) kmac_name bench_string
unfolding key_prefix kmac_prefix kmac_message cshake_string
keyed_string m l = simp append_assoc

keyed_output : (m : List ℕ) (l n : ℕ) → output (kmac_at 168 102360992) key_prefix m l n ≡ cshake 168 (kmac_message 168 bench_key m l) n kmac_name bench_string
unfolding output cshake
keyed_output m l n = ap (λ (s : List ℕ). sponge (last_rounds 24) 168 s cshake_byte n) (keyed_string m l)

pub kmac-output : (m : List ℕ) (n : ℕ) → n ≤ 32 → output (kmac_at 168 102360992) key_prefix m 32 n ≡ take n (kmac 168 bench_key m 32 bench_string)
unfolding kmac
kmac-output m n l = keyed_output m 32 n ∙ cshake-shorter 168 (omega arith) (kmac_message 168 bench_key m 32) kmac_name bench_string n 32 l

pub key_started : (keyed.start_answer 168 bench_key bench_string).keyed ≡ held (started.after (kmac_at 168 102360992) key_prefix [])
unfolding keyed.start_answer keyed.start_status bench_key start_run machine key_prefix
key_started = refl

-- on KMAC128's own struct
pub record KmacAnswer : Type 0 where
  pub hasher : Kmac128
  pub status : ℕ

abbrev pub kmac_started : Kmac128
kmac_started = record { run = (keyed.start_answer 168 bench_key bench_string).keyed.run; output_length = (keyed.start_answer 168 bench_key bench_string).keyed.length }

abbrev pub kmac_of : Run State → Kmac128
kmac_of r = record { run = (held r).run; output_length = (held r).length }

abbrev pub kmac_answer : Kmac128 → Call ℕ → KmacAnswer
kmac_answer h c =
    let a = answer (kmac_at 168 102360992) (record { run = h.run; length = h.output_length }) c in
    record { hasher = record { run = a.keyed.run; output_length = a.keyed.length }; status = a.status }

abbrev pub kmac_hasher : Hasher ℕ Kmac128 KmacAnswer
kmac_hasher = record {
  answer = kmac_answer;
  status = λ x. x.status;
  left = λ x. x.hasher;
  output = λ h out. written (kmac_at 168 102360992) (record { run = h.run; length = h.output_length }) out;
  argument = 32;
  timed = timed_kmac;
  fresh = kmac_started;
  after = λ m. kmac_of (started.after (kmac_at 168 102360992) key_prefix m);
  closed = λ m. kmac_of (started.closed (kmac_at 168 102360992) key_prefix m 32);
  fresh_run_lem = λ i. record { run = (key_started i).run; output_length = (key_started i).length };
  absorb_piece = λ m x l.
      let e = started.absorb_piece (kmac_at 168 102360992) key_prefix kmac-begun m x l in
      (λ i. (e i).status, λ i. record { run = (e i).keyed.run; output_length = (e i).keyed.length });
  absorb_long = started.absorb_long (kmac_at 168 102360992) key_prefix kmac-begun;
  finalize-run = λ m h.
      let e = started.finalize-run (kmac_at 168 102360992) key_prefix kmac-begun 32 refl m h in
      λ i. record { run = (e i).keyed.run; output_length = (e i).keyed.length };
  squeeze-run = λ m out h l.
      let e = started.squeeze-run (kmac_at 168 102360992) key_prefix kmac-begun 32 refl m out h l in
      (e.0, e.1 ∙ kmac-output m (length out) l);
  squeeze_long = started.squeeze_long (kmac_at 168 102360992) key_prefix kmac-begun 32 refl;
}

-- ---- cSHAKE128

pub string_prefix : List ℕ
string_prefix = cshake_prefix 168 bench_name bench_string

one_block : length string_prefix ≡ 1 * 168
unfolding string_prefix cshake_prefix bytepad encode_string left_encode
one_block = refl

pub cshake-begun : Begun (cshake_at 168 199729) string_prefix
cshake-begun = record {
  meets = record { positive = omega arith; fits = omega arith; some = λ l. tt; some_said = λ l e. sym (eqb-true l 0 e); said_fixed = λ u. refl };
  before = 0;
  least_fits = omega arith;
  most-fits = omega arith;
  blocks = one_block;
}

pub cshake-output : (m : List ℕ) (n : ℕ) → output (cshake_at 168 199729) string_prefix m tt n ≡ cshake 168 m n bench_name bench_string
unfolding output string_prefix cshake_string cshake
cshake-output m n = ap (λ (s : List ℕ). sponge (last_rounds 24) 168 (cshake_prefix 168 bench_name bench_string ++ s) cshake_byte n) (append-nil m)

-- with the bit that does not say SHAKE
abbrev pub cshake_of : Run State → Customized
cshake_of r = record { run = (held r).run; shake = false }

abbrev pub cshake_answer : Customized → Call (Unit {0}) → CustomizedAnswer
cshake_answer = customizable.answer 168 199729

-- on a run that keeps no length, the calls are those of the function
module _ (r : Run State) (none : r.state.output_length ≡ 0) where
  same_answer : (c : Call (Unit {0}))
      → cshake_answer (cshake_of r) c ≡ (let a = answer (cshake_at 168 199729) (held r) c in record { customized = record { run = a.keyed.run; shake = false }; status = a.status })
  unfolding customizable.answer
  same_answer c = λ i. let a = answer (cshake_at 168 199729) (record { run = (held r).run; length = sym none i }) c in record { customized = record { run = a.keyed.run; shake = false }; status = a.status }

  pub same_status : (c : Call (Unit {0})) → (cshake_answer (cshake_of r) c).status ≡ (answer (cshake_at 168 199729) (held r) c).status
  same_status c = λ i. (same_answer c i).status

  pub same_left : (c : Call (Unit {0})) → (cshake_answer (cshake_of r) c).customized ≡ record { run = (answer (cshake_at 168 199729) (held r) c).keyed.run; shake = false }
  same_left c = λ i. (same_answer c i).customized

  pub same_written : (out : List ℕ) → customizable.written 168 199729 (cshake_of r) out ≡ written (cshake_at 168 199729) (held r) out
  unfolding customizable.written
  same_written out = λ i. written (cshake_at 168 199729) (record { run = (held r).run; length = sym none i }) out

abbrev pub after : List ℕ → Run State
after = started.after (cshake_at 168 199729) string_prefix

abbrev pub closed : List ℕ → Run State
closed m = started.closed (cshake_at 168 199729) string_prefix m tt

pub after_none : (m : List ℕ) → (after m).state.output_length ≡ 0
unfolding machine
after_none m = refl

pub closed_none : (m : List ℕ) → (closed m).state.output_length ≡ 0
unfolding machine
closed_none m = refl

pub string_started : (customizable.start_answer 168 bench_name bench_string).customized ≡ cshake_of (after [])
unfolding customizable.start_answer customizable.start_status start_run machine string_prefix
string_started = refl

abbrev pub cshake_hasher : Hasher (Unit {0}) Customized CustomizedAnswer
cshake_hasher = record {
  answer = cshake_answer;
  status = λ x. x.status;
  left = λ x. x.customized;
  output = customizable.written 168 199729;
  argument = tt;
  timed = cshake_with_strings;
  fresh = (customizable.start_answer 168 bench_name bench_string).customized;
  after = λ m. cshake_of (after m);
  closed = λ m. cshake_of (closed m);
  fresh_run_lem = string_started;
  absorb_piece = λ m x l.
      let e = started.absorb_piece (cshake_at 168 199729) string_prefix cshake-begun m x l in
      (same_status (after m) (after_none m) (absorb x) ∙ (λ i. (e i).status), same_left (after m) (after_none m) (absorb x) ∙ (λ i. record { run = (e i).keyed.run; shake = false }));
  absorb_long = λ m x h l. same_status (after m) (after_none m) (absorb x) ∙ started.absorb_long (cshake_at 168 199729) string_prefix cshake-begun m x h l;
  finalize-run = λ m h.
      let e = started.finalize-run (cshake_at 168 199729) string_prefix cshake-begun tt refl m h in
      same_left (after m) (after_none m) (finalize tt) ∙ (λ i. record { run = (e i).keyed.run; shake = false });
  squeeze-run = λ m out h l.
      let e = started.squeeze-run (cshake_at 168 199729) string_prefix cshake-begun tt refl m out h l in
      (same_status (closed m) (closed_none m) (squeeze (length out)) ∙ e.0, same_written (closed m) (closed_none m) out ∙ e.1 ∙ cshake-output m (length out));
  squeeze_long = λ m out h l.
      let e = started.squeeze_long (cshake_at 168 199729) string_prefix cshake-begun tt refl m out h l in
      (same_status (closed m) (closed_none m) (squeeze (length out)) ∙ e.0, same_written (closed m) (closed_none m) out ∙ e.1);
}
