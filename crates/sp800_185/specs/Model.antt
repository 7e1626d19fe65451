-- What each call on a run after a start does on every input, but for cSHAKE with both strings empty, which is SHAKE.
-- Assumes nothing.
use Rattle.std.specs.Prelude.{List, [], Bool, true, false, cond, ◌&&◌, ℕ, suc, ◌+◌, length, eqb, leb}
use Rattle.keccak.specs.Permutation.{last_rounds}
use Rattle.sponge.specs.Waiting.{steps, position_after}
use Rattle.sponge.specs.Published.{xor_byte}
use Rattle.sponge.specs.Model.{Sponge, absorb_bytes, pad, pad_with, squeeze_bytes, after_bytes}
use Rattle.sponge.specs.Count.{counted, uncounted, Counted, sponge_of, open_count, closed_count}
use Rattle.sponge.specs.Transcript.{Call, Call.squeeze, Reply, lent}
use Rattle.sponge.specs.Runs as runs
use Rattle.sponge.specs.Runs.{Machine, perform}
use Rattle.hasher.specs.Function.{message_limit}
use Rattle.hasher.specs.Model.{map_call}
use Rattle.hasher.specs.declared.Run.{Run}
use Rattle.sp800_185.specs.Published.{cshake_byte}
use Rattle.sp800_185.specs.Start.{prefixed, start_run}
use Rattle.sp800_185.specs.Function.{Function, ending, keeps, limit, rules}
use Rattle.sp800_185.specs.declared.Keyed.{Keyed}
use Rattle.sp800_185.specs.declared.Answer.{Answer}
use Rattle.sp800_185.specs.declared.numbers.Closing.{Closing}
use Rattle.sp800_185.specs.declared.numbers.Closing.TheVariants.{Nothing, Zero, Length}
use Rattle.sp800_185.specs.declared.numbers.Numbers.{Numbers}

-- a sponge whose permutations are counted, and the output length that is kept: 0 before the close
pub record State : Type 0 where
  pub sponge : Counted
  pub output_length : ℕ

module _ {A : Type 0} (F : Function A) where
  -- the permutations of a run whose prefix has one block, by its totals; each block more is one permutation more
  abbrev pub open_own : ℕ → ℕ
  open_own absorbed = open_count F.rate (F.rate + absorbed)

  abbrev pub closed_own : ℕ → ℕ → ℕ → ℕ
  closed_own l absorbed squeezed = closed_count F.rate (F.rate + absorbed + length (ending F l)) squeezed

  -- some number of blocks from `least` to `most` gives this many permutations
  abbrev pub blocks_fit : ℕ → ℕ → ℕ → ℕ → Bool
  blocks_fit least most own permutations = leb (least + own) (suc permutations) && leb (suc permutations) (most + own)

  -- what a run has that a start of such a number of blocks, and calls after it, reach. Open: nothing is squeezed, no length is kept, and the position is
  -- the one after the bytes absorbed behind the prefix's last block. Closed: it is the one after the bytes squeezed, within the read limit of a length
  -- that is kept. Lanes are not looked at
  abbrev pub is_open : ℕ → ℕ → ℕ → ℕ → ℕ → ℕ → ℕ → Bool
  is_open least most position l absorbed squeezed permutations =
      eqb squeezed 0 && (eqb l 0 && (eqb position (position_after F.rate (F.rate + absorbed)) && blocks_fit least most (open_own absorbed) permutations))

  abbrev pub is_closed : ℕ → ℕ → ℕ → ℕ → ℕ → ℕ → ℕ → Bool
  is_closed least most position l absorbed squeezed permutations =
      keeps F l && (leb squeezed (limit F l) && (eqb position (position_after F.rate squeezed) && blocks_fit least most (closed_own l absorbed squeezed) permutations))

  unfoldable pub reachable : ℕ → ℕ → ℕ → ℕ → ℕ → ℕ → ℕ → ℕ → Bool
  reachable least most position l phase absorbed squeezed permutations =
      leb absorbed message_limit && cond (eqb phase 0) (is_open least most position l absorbed squeezed permutations) (eqb phase 1 && is_closed least most position l absorbed squeezed permutations)

  -- after p, what goes before the message, where 5 asks for `least` to `most` blocks of it: those of the function, and in the proof of 5 those of one
  -- start. There is no customization phase: a call of one is refused, and so does nothing
  module _ (p : List ℕ) (least most : ℕ) where
    unfoldable pub machine : Machine State A
    machine = record {
      fresh = record { sponge = prefixed F.rate p; output_length = 0 };
      absorb = λ n s x. record { sponge = steps (counted (last_rounds 24)) (uncounted xor_byte) F.rate s.sponge x; output_length = s.output_length };
      customize = λ n s x. s;
      finalize = λ n s a. record {
        sponge = pad_with (counted (last_rounds 24)) F.rate (uncounted xor_byte) (steps (counted (last_rounds 24)) (uncounted xor_byte) F.rate s.sponge (ending F (F.said a))) cshake_byte;
        output_length = F.said a;
      };
      finish = λ n s. s;
      squeeze = λ k s. squeeze_bytes (last_rounds 24) F.rate k (sponge_of s.sponge);
      after = λ k s. record { sponge = after_bytes (counted (last_rounds 24)) F.rate k s.sponge; output_length = s.output_length };
      customized = λ s. 0;
      limit = λ s. limit F s.output_length;
      reachable = λ r. reachable least most r.state.sponge.position r.state.output_length r.phase r.absorbed r.squeezed r.state.sponge.value.1;
    }

  -- what is squeezed in one go after a start that left the sponge s, for the message x, where the close says l
  abbrev pub output_after : Sponge → List ℕ → ℕ → ℕ → List ℕ
  output_after s x l n = squeeze_bytes (last_rounds 24) F.rate n (pad (last_rounds 24) F.rate (absorb_bytes (last_rounds 24) F.rate (absorb_bytes (last_rounds 24) F.rate s x) (ending F l)) cshake_byte)

-- ---- the code's structs

-- a run with the length that it keeps, as the theorem sees it, and back
abbrev pub seen : Keyed → runs.Run State
seen x = record {
  state = record { sponge = record { value = (x.run.lanes, x.run.permutations); position = x.run.position }; output_length = x.length };
  phase = x.run.phase;
  absorbed = x.run.absorbed;
  squeezed = x.run.squeezed;
}

abbrev pub held : runs.Run State → Keyed
held r = record {
  run = record {
    lanes = r.state.sponge.value.0;
    position = r.state.sponge.position;
    phase = r.phase;
    absorbed = r.absorbed;
    squeezed = r.squeezed;
    permutations = r.state.sponge.value.1;
  };
  length = r.state.output_length;
}

-- a call on a run sees of its start nothing but what the run holds, so what went before the message is left out here
module _ {A : Type 0} (F : Function A) where
  abbrev pub performed : Keyed → Call A → Reply (runs.Run State)
  performed x c = perform (rules F []) (machine F [] F.least F.most) (seen x) c

  unfoldable pub answer_of : Keyed → Call A → Answer
  answer_of x c = record { keyed = held (performed x c).left; status = (performed x c).status }

  -- what the lent output holds after a squeeze, which held `out` before
  unfoldable pub written_of : Keyed → List ℕ → List ℕ
  written_of x out = lent (performed x (squeeze (length out))).status (performed x (squeeze (length out))).bytes out

-- ---- the functions that the code is given: numbers, and for the close an output length, which is looked at where it is fixed

abbrev pub says : Closing → Bool
says Nothing = false
says Zero = true
says Length = true

abbrev pub fixes : Closing → Bool
fixes Nothing = false
fixes Zero = false
fixes Length = true

abbrev pub given : Numbers → Function ℕ
given f = record { rate = f.rate; says = says f.closing; fixes = fixes f.closing; least = f.least; most = f.most; said = λ l. cond (fixes f.closing) l 0 }

module _ {A : Type 0} (F : Function A) where
  abbrev pub plain : Function ℕ
  plain = record { rate = F.rate; says = F.says; fixes = F.fixes; least = F.least; most = F.most; said = λ l. cond F.fixes l 0 }

  -- a call's answer on a run of F, and what the lent output of a squeeze holds
  abbrev pub answer : Keyed → Call A → Answer
  answer x c = answer_of plain x (map_call F.said c)

  abbrev pub written : Keyed → List ℕ → List ℕ
  written = written_of plain

  -- the answer with the bytes given: what a list of calls on the code's runs is made of
  unfoldable pub reply_of : Keyed → Call A → Reply Keyed
  reply_of x c = record { status = (answer x c).status; bytes = (performed F x c).bytes; left = (answer x c).keyed }

  -- the same on runs alone, of a function that fixes no length
  unfoldable pub run_reply : Run → Call A → Reply Run
  run_reply r c = record {
    status = (answer (record { run = r; length = 0 }) c).status;
    bytes = (performed F (record { run = r; length = 0 }) c).bytes;
    left = (answer (record { run = r; length = 0 }) c).keyed.run;
  }

  -- the run after a start whose prefix is p
  abbrev pub start_of : List ℕ → Keyed
  start_of p = record { run = start_run F.rate p; length = 0 }
