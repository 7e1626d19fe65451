-- Lists of calls on cSHAKE's own runs, and status 5 on them, the bit that says SHAKE looked at too.
-- Assumes nothing.
use mathlib.Core.Path.{◌≡◌, refl, sym, ap, ◌∙◌, subst}
use mathlib.Core.List.{List, [], ◌∷◌}
use mathlib.Core.Bool.{Bool, true, false}
use Prim.Native.Nat.{ℕ, suc, ◌≤◌, ◌<◌}
use native.Mathlib.Omega.{arith}
use lib.ListN.{length}
use lib.Dec.{T}
use Rattle.sponge.specs.Status.{unreachable}
use Rattle.sponge.specs.Callable.{All}
use Rattle.sponge.specs.Transcript.{Call, Call.absorb, Call.customize, Call.finalize, Call.finish, Call.squeeze}
use Rattle.sponge.specs.Streaming.{History, history}
use Rattle.hasher.specs.Model.{fresh_of}
use Rattle.hasher.specs.Claims as unnamed
use Rattle.hasher.specs.declared.Run.{Run}
use Rattle.sp800_185.specs.Published.{both_empty, cshake_prefix}
use Rattle.sp800_185.specs.Start.{start_run}
use Rattle.sp800_185.specs.Function.{cshake_at}
use Rattle.sp800_185.specs.Model.{reply_of, run_reply}
use Rattle.sp800_185.specs.Cshake as customizable
use Rattle.sp800_185.specs.Cshake.{shake_at}
use Rattle.sp800_185.specs.Claims.{ran, Callable, Reached, Claims}
use Rattle.sp800_185.specs.Family.{CshakeStart, NamedStart, named_prefix, cshake_ran, CshakeReached}
use Rattle.sp800_185.specs.Cshake.{Customized}
use Rattle.sp800_185.specs.declared.Keyed.{Keyed}
use Rattle.sp800_185.proofs.Own.{run-history, named-history, shake-history}
use Rattle.sp800_185.proofs.Instances.{cshake_meets}

nil : (n s : List ℕ) → both_empty n s ≡ true → (n ≡ []) × (s ≡ [])
nil [] [] e = (refl, refl)
nil [] (c ∷ s) e = absurd (subst T (sym e) tt)
nil (b ∷ n) s e = absurd (subst T (sym e) tt)

module _ (rate most : ℕ) (pos : 0 < rate) (fits : rate ≤ 200) where
  -- ---- lists of calls

  pub named-ran : (n s : List ℕ) (cs : List (Call (Unit {0}))) → both_empty n s ≡ false
      → (ran (cshake_at rate most) (cshake_prefix rate n s) cs
      ≡ record { statuses = (cshake_ran rate most n s cs).statuses; bytes = (cshake_ran rate most n s cs).bytes; left = record { run = (cshake_ran rate most n s cs).left.run; length = 0 } })
      × ((cshake_ran rate most n s cs).left.shake ≡ false)
  named-ran n s cs e =
      let r : Run = start_run rate (cshake_prefix rate n s) in
      let own : cshake_ran rate most n s cs ≡ history (customizable.reply_of rate most) (record { run = r; shake = false }) cs = ap (λ (b : Bool). history (customizable.reply_of rate most) (record { run = r; shake = b }) cs) e in
      let h = own ∙ named-history rate most cs r in (
        run-history (cshake_at rate most) (cshake_meets rate most pos fits) refl cs r
            ∙ sym (ap (λ (y : History Customized). record { statuses = y.statuses; bytes = y.bytes; left = record { run = y.left.run; length = 0 } }) h),
        ap (λ (y : History Customized). y.left.shake) h,
      )

  fresh_start : customizable.start_of rate [] [] ≡ record { run = fresh_of; shake = true }
  unfolding cshake_prefix start_run fresh_of
  fresh_start = refl

  pub both_empty-ran : (cs : List (Call (Unit {0})))
      → (unnamed.ran (shake_at rate) cs ≡ record { statuses = (cshake_ran rate most [] [] cs).statuses; bytes = (cshake_ran rate most [] [] cs).bytes; left = (cshake_ran rate most [] [] cs).left.run })
      × ((cshake_ran rate most [] [] cs).left.shake ≡ true)
  both_empty-ran cs =
      let h = ap (λ (x : Customized). history (customizable.reply_of rate most) x cs) fresh_start ∙ shake-history rate most cs fresh_of in (
        sym (ap (λ (y : History Customized). record { statuses = y.statuses; bytes = y.bytes; left = y.left.run }) h),
        ap (λ (y : History Customized). y.left.shake) h,
      )

  -- the bit of a run says what its strings were
  ran_bit : (n s : List ℕ) (cs : List (Call (Unit {0}))) → (cshake_ran rate most n s cs).left.shake ≡ both_empty n s
  ran_bit n s cs = by (both_empty n s) refl
    where
      by : (b : Bool) → both_empty n s ≡ b → (cshake_ran rate most n s cs).left.shake ≡ b
      by true e =
          let z = nil n s e in
          (λ i. (cshake_ran rate most (z.0 i) (z.1 i) cs).left.shake) ∙ (both_empty-ran cs).1
      by false e = (named-ran n s cs e).1

  -- ---- the calls that a caller can make

  to_shake : (cs : List (Call (Unit {0}))) → All (Callable (cshake_at rate most)) cs → All (unnamed.Callable (shake_at rate)) cs
  to_shake [] a = tt
  to_shake (absorb x ∷ cs) a = (a.0, to_shake cs a.1)
  to_shake (customize x ∷ cs) a = absurd a.0
  to_shake (finalize u ∷ cs) a = (omega arith, to_shake cs a.1)
  to_shake (finish ∷ cs) a = absurd a.0
  to_shake (squeeze k ∷ cs) a = (a.0, to_shake cs a.1)

  of_shake_lem : (cs : List (Call (Unit {0}))) → All (unnamed.Callable (shake_at rate)) cs → All (Callable (cshake_at rate most)) cs
  of_shake_lem [] a = tt
  of_shake_lem (absorb x ∷ cs) a = (a.0, of_shake_lem cs a.1)
  of_shake_lem (customize x ∷ cs) a = absurd a.0
  of_shake_lem (finalize u ∷ cs) a = (omega arith, of_shake_lem cs a.1)
  of_shake_lem (finish ∷ cs) a = absurd a.0
  of_shake_lem (squeeze k ∷ cs) a = (a.0, of_shake_lem cs a.1)

  -- ---- what is reached with the bit, and without it

  named_of : (r : Run) → CshakeReached rate most (record { run = r; shake = false }) → Reached (cshake_at rate most) (named_prefix rate) (record { run = r; length = 0 })
  named_of r g =
      let s : CshakeStart = g.start in
      let e : both_empty s.name s.string ≡ false = sym (ran_bit s.name s.string g.calls) ∙ g.shake_is in
      let left = ap (λ (h : History Keyed). h.left) (named-ran s.name s.string g.calls e).0 in
      record {
        start = record { start = s; some = e };
        calls = g.calls;
        callable = g.callable;
        phase_is = ap (λ (x : Keyed). x.run.phase) left ∙ g.phase_is;
        absorbed_is = ap (λ (x : Keyed). x.run.absorbed) left ∙ g.absorbed_is;
        squeezed_is = ap (λ (x : Keyed). x.run.squeezed) left ∙ g.squeezed_is;
        length_is = ap (λ (x : Keyed). x.length) left;
        position_is = ap (λ (x : Keyed). x.run.position) left ∙ g.position_is;
        permutations_is = ap (λ (x : Keyed). x.run.permutations) left ∙ g.permutations_is;
      }

  of_named : (r : Run) → Reached (cshake_at rate most) (named_prefix rate) (record { run = r; length = 0 }) → CshakeReached rate most (record { run = r; shake = false })
  of_named r g =
      let s : NamedStart = g.start in
      let own = named-ran s.start.name s.start.string g.calls s.some in
      let left = sym (ap (λ (h : History Keyed). h.left) own.0) in
      record {
        start = s.start;
        calls = g.calls;
        callable = g.callable;
        shake_is = own.1;
        phase_is = ap (λ (x : Keyed). x.run.phase) left ∙ g.phase_is;
        absorbed_is = ap (λ (x : Keyed). x.run.absorbed) left ∙ g.absorbed_is;
        squeezed_is = ap (λ (x : Keyed). x.run.squeezed) left ∙ g.squeezed_is;
        position_is = ap (λ (x : Keyed). x.run.position) left ∙ g.position_is;
        permutations_is = ap (λ (x : Keyed). x.run.permutations) left ∙ g.permutations_is;
      }

  shake_of : (r : Run) → CshakeReached rate most (record { run = r; shake = true }) → unnamed.Reached (shake_at rate) r
  shake_of r g =
      let s : CshakeStart = g.start in
      let cs = g.calls in
      let z = nil s.name s.string (sym (ran_bit s.name s.string cs) ∙ g.shake_is) in
      let left : (unnamed.ran (shake_at rate) cs).left ≡ (cshake_ran rate most s.name s.string cs).left.run =
      ap (λ (h : History Run). h.left) (both_empty-ran cs).0 ∙ sym (λ i. (cshake_ran rate most (z.0 i) (z.1 i) cs).left.run) in
      record {
        calls = cs;
        callable = to_shake cs g.callable;
        phase_is = ap (λ (q : Run). q.phase) left ∙ g.phase_is;
        absorbed_is = ap (λ (q : Run). q.absorbed) left ∙ g.absorbed_is;
        squeezed_is = ap (λ (q : Run). q.squeezed) left ∙ g.squeezed_is;
        position_is = ap (λ (q : Run). q.position) left ∙ g.position_is;
        permutations_is = ap (λ (q : Run). q.permutations) left ∙ g.permutations_is;
      }

  empty_start : CshakeStart
  unfolding customizable.start_status
  empty_start = record { name = []; string = []; name_slice = (tt, omega arith); string_slice = (tt, omega arith); taken = refl }

  of_empty : (r : Run) → unnamed.Reached (shake_at rate) r → CshakeReached rate most (record { run = r; shake = true })
  unfolding empty_start
  of_empty r g =
      let cs = g.calls in
      let own = both_empty-ran cs in
      let left = sym (ap (λ (h : History Run). h.left) own.0) in
      record {
        start = empty_start;
        calls = cs;
        callable = of_shake_lem cs g.callable;
        shake_is = own.1;
        phase_is = ap (λ (q : Run). q.phase) left ∙ g.phase_is;
        absorbed_is = ap (λ (q : Run). q.absorbed) left ∙ g.absorbed_is;
        squeezed_is = ap (λ (q : Run). q.squeezed) left ∙ g.squeezed_is;
        position_is = ap (λ (q : Run). q.position) left ∙ g.position_is;
        permutations_is = ap (λ (q : Run). q.permutations) left ∙ g.permutations_is;
      }

  -- ---- status 5, by the bit

  module _ (named : Claims (cshake_at rate most) (named_prefix rate)) (empty : unnamed.Claims (shake_at rate)) where
    unreached_by : (r : Run) (b : Bool) (c : Call (Unit {0})) → (customizable.answer rate most (record { run = r; shake = b }) c).status ≡ unreachable → CshakeReached rate most (record { run = r; shake = b }) → ⊥
    unfolding customizable.answer
    unreached_by r true c e g = empty.five.five_unreached r c e (shake_of r g)
    unreached_by r false c e g = named.five.five_unreached (record { run = r; length = 0 }) c e (named_of r g)

    pub five_unreached : (x : Customized) (c : Call (Unit {0})) → (customizable.answer rate most x c).status ≡ unreachable → CshakeReached rate most x → ⊥
    five_unreached x c = unreached_by x.run x.shake c

    five_by : (r : Run) (b : Bool) (c : Call (Unit {0})) → (CshakeReached rate most (record { run = r; shake = b }) → ⊥) → (customizable.answer rate most (record { run = r; shake = b }) c).status ≡ unreachable
    unfolding customizable.answer
    five_by r true c h = empty.five.unreached_five r c (λ g. h (of_empty r g))
    five_by r false c h = named.five.unreached_five (record { run = r; length = 0 }) c (λ g. h (of_named r g))

    pub unreached_five : (x : Customized) (c : Call (Unit {0})) → (CshakeReached rate most x → ⊥) → (customizable.answer rate most x c).status ≡ unreachable
    unreached_five x c = five_by x.run x.shake c

    other_by : (r : Run) (b : Bool) (c : Call (Unit {0})) → ((customizable.answer rate most (record { run = r; shake = b }) c).status ≡ unreachable → ⊥) → CshakeReached rate most (record { run = r; shake = b })
    unfolding customizable.answer
    other_by r true c h = of_empty r (empty.five.other_reached r c h)
    other_by r false c h = of_named r (named.five.other_reached (record { run = r; length = 0 }) c h)

    pub other_reached : (x : Customized) (c : Call (Unit {0})) → ((customizable.answer rate most x c).status ≡ unreachable → ⊥) → CshakeReached rate most x
    other_reached x c = other_by x.run x.shake c

    -- ---- one call, by the bit

    refused_by : (r : Run) (b : Bool) (c : Call (Unit {0})) (k : ℕ) → (customizable.answer rate most (record { run = r; shake = b }) c).status ≡ suc k → (customizable.answer rate most (record { run = r; shake = b }) c).customized ≡ record { run = r; shake = b }
    unfolding customizable.answer
    refused_by r true c k e = ap (λ (q : Run). record { run = q; shake = true }) (empty.calls.refused r c k e)
    refused_by r false c k e = ap (λ (x : Keyed). record { run = x.run; shake = false }) (named.calls.refused (record { run = r; length = 0 }) c k e)

    pub refused : (x : Customized) (c : Call (Unit {0})) (k : ℕ) → (customizable.answer rate most x c).status ≡ suc k → (customizable.answer rate most x c).customized ≡ x
    refused x c = refused_by x.run x.shake c

    output_by : (r : Run) (b : Bool) (out : List ℕ) (k : ℕ) → (customizable.answer rate most (record { run = r; shake = b }) (squeeze (length out))).status ≡ suc k → customizable.written rate most (record { run = r; shake = b }) out ≡ out
    unfolding customizable.answer customizable.written
    output_by r true out k e = empty.calls.refused-output r out k e
    output_by r false out k e = named.calls.refused-output (record { run = r; length = 0 }) out k e

    pub refused-output : (x : Customized) (out : List ℕ) (k : ℕ) → (customizable.answer rate most x (squeeze (length out))).status ≡ suc k → customizable.written rate most x out ≡ out
    refused-output x out = output_by x.run x.shake out

    done_by : (r : Run) (b : Bool) (out : List ℕ) → (customizable.answer rate most (record { run = r; shake = b }) (squeeze (length out))).status ≡ 0
        → customizable.written rate most (record { run = r; shake = b }) out ≡ (customizable.reply_of rate most (record { run = r; shake = b }) (squeeze (length out))).bytes
    unfolding customizable.answer customizable.written customizable.reply_of run_reply reply_of
    done_by r true out e = empty.calls.done_output r out e
    done_by r false out e = named.calls.done_output (record { run = r; length = 0 }) out e

    pub done_output : (x : Customized) (out : List ℕ) → (customizable.answer rate most x (squeeze (length out))).status ≡ 0
        → customizable.written rate most x out ≡ (customizable.reply_of rate most x (squeeze (length out))).bytes
    done_output x out = done_by x.run x.shake out
