-- Calls in a row on the code's runs, reached or not: where all are answered done, pieces joined and bytes squeezed at once give the same.
-- Assumes nothing.
use mathlib.Core.Path.{◌≡◌, refl, sym, ap, ◌∙◌}
use mathlib.Core.List.{List, [], ◌++◌}
use Prim.Native.Nat.{ℕ, suc, ◌+◌, ◌-◌, ◌*◌, ◌≤◌}
use native.Mathlib.Omega.{arith}
use lib.ListN.{length, replicate, length-append, length-replicate}
use Rattle.sponge.specs.Transcript.{Call, Call.absorb, Call.squeeze, Reply, lent}
use Rattle.sponge.specs.Runs as runs
use Rattle.sponge.specs.Runs.{perform}
use Rattle.sponge.proofs.Streaming.{Laws}
use Rattle.sponge.proofs.Joining.{Stays}
use Rattle.sponge.proofs.Done as done
use Rattle.sp800_185.specs.Function.{Function, rules}
use Rattle.sp800_185.specs.Model.{State, machine, seen, held, answer, written}
use Rattle.sp800_185.specs.Claims.{Joins}
use Rattle.sp800_185.specs.declared.Keyed.{Keyed}
use Rattle.sp800_185.specs.declared.Answer.{Answer}
use Rattle.sp800_185.proofs.Lengths.{Meets}
use Rattle.sp800_185.proofs.Ranges.{laws, stays_wide}
use Rattle.sp800_185.proofs.Claims.{replied, any_start, answer_replied, written-lent}

module _ {A : Type 0} (F : Function A) (E : Meets F) (some : 1 ≤ F.least) (range : F.least ≤ F.most) where
  -- after some prefix, since a call does not look at it
  prefix : List ℕ
  prefix = replicate (F.least * F.rate) 0

  at : runs.Run State → Call A → Reply (runs.Run State)
  at r c = perform (rules F prefix) (machine F prefix F.least F.most) r c

  blocks : length prefix ≡ suc (F.least - 1) * F.rate
  unfolding prefix
  blocks = let e : F.least ≡ suc (F.least - 1) = omega arith in length-replicate (F.least * F.rate) 0 ∙ ap (λ (n : ℕ). n * F.rate) e

  lawful : Laws (rules F prefix) (machine F prefix F.least F.most)
  lawful = laws F prefix F.least F.most E.positive (F.least - 1) (omega arith) (omega arith) blocks E

  staying : Stays (rules F prefix) (machine F prefix F.least F.most)
  staying = stays_wide F prefix F.least F.most E.positive E some

  answer_at : (x : Keyed) (c : Call A) → answer F x c ≡ replied (at (seen x) c)
  unfolding at
  answer_at x c = answer_replied F E x c ∙ ap replied (any_start F E (seen x) [] prefix c)

  second_at : (x : Keyed) (c d : Call A) → answer F (answer F x c).keyed d ≡ replied (at (at (seen x) c).left d)
  second_at x c d = ap (λ (a : Answer). answer F a.keyed d) (answer_at x c) ∙ answer_at (held (at (seen x) c).left) d

  first_done : (x : Keyed) (c : Call A) → (answer F x c).status ≡ 0 → (at (seen x) c).status ≡ 0
  first_done x c e = sym (ap (λ (a : Answer). a.status) (answer_at x c)) ∙ e

  second_done : (x : Keyed) (c d : Call A) → (answer F (answer F x c).keyed d).status ≡ 0 → (at (at (seen x) c).left d).status ≡ 0
  second_done x c d e = sym (ap (λ (a : Answer). a.status) (second_at x c d)) ∙ e

  written_done : (x : Keyed) (out : List ℕ) → (at (seen x) (squeeze (length out))).status ≡ 0 → written F x out ≡ (at (seen x) (squeeze (length out))).bytes
  unfolding at
  written_done x out e =
      written-lent F E x out ∙ ap (λ (y : Reply (runs.Run State)). lent y.status y.bytes out) (any_start F E (seen x) [] prefix (squeeze (length out)))
      ∙ ap (λ (s : ℕ). lent s (at (seen x) (squeeze (length out))).bytes out) e

  absorb_both : (x : Keyed) (a b : List ℕ) → at (at (seen x) (absorb a)).left (absorb b) ≡ at (seen x) (absorb (a ++ b)) → answer F (answer F x (absorb a)).keyed (absorb b) ≡ answer F x (absorb (a ++ b))
  absorb_both x a b e = second_at x (absorb a) (absorb b) ∙ ap replied e ∙ sym (answer_at x (absorb (a ++ b)))

  -- the machine's two squeezes are the joined one: so are the answers, and what is written
  module _ (x : Keyed) (y z : List ℕ) where
    abbrev middle : runs.Run State
    middle = (at (seen x) (squeeze (length y))).left

    abbrev both : Reply (runs.Run State)
    both = record {
      status = (at middle (squeeze (length z))).status;
      bytes = (at (seen x) (squeeze (length y))).bytes ++ (at middle (squeeze (length z))).bytes;
      left = (at middle (squeeze (length z))).left;
    }

    squeeze_both : (at (seen x) (squeeze (length y))).status ≡ 0 → (at middle (squeeze (length z))).status ≡ 0 → both ≡ at (seen x) (squeeze (length y + length z))
        → (answer F (answer F x (squeeze (length y))).keyed (squeeze (length z)) ≡ answer F x (squeeze (length (y ++ z))))
        × (written F x y ++ written F (answer F x (squeeze (length y))).keyed z ≡ written F x (y ++ z))
    squeeze_both e f w =
        let v : both ≡ at (seen x) (squeeze (length (y ++ z))) = w ∙ ap (λ (k : ℕ). at (seen x) (squeeze k)) (sym (length-append y z)) in
        let g : (at (seen x) (squeeze (length (y ++ z)))).status ≡ 0 = sym (ap (λ (o : Reply (runs.Run State)). o.status) v) ∙ f in
        let second : written F (answer F x (squeeze (length y))).keyed z ≡ (at middle (squeeze (length z))).bytes =
        ap (λ (a : Answer). written F a.keyed z) (answer_at x (squeeze (length y))) ∙ written_done (held middle) z f in (
          second_at x (squeeze (length y)) (squeeze (length z)) ∙ ap replied v ∙ sym (answer_at x (squeeze (length (y ++ z)))),
          (λ i. written_done x y e i ++ second i) ∙ ap (λ (o : Reply (runs.Run State)). o.bytes) v ∙ sym (written_done x (y ++ z) g),
        )

  nothing_at : (x : Keyed) (c : Call A) → (at (seen x) c).left ≡ seen x → (answer F x c).keyed ≡ x
  nothing_at x c e = ap (λ (a : Answer). a.keyed) (answer_at x c) ∙ ap held e

  -- the second answer, where it is the joined call's: its status and its run
  module _ (x : Keyed) (c d whole : Call A) (w : answer F (answer F x c).keyed d ≡ answer F x whole) where
    joined_done : (answer F (answer F x c).keyed d).status ≡ 0 → (answer F x whole).status ≡ 0
    joined_done f = sym (ap (λ (a : Answer). a.status) w) ∙ f

    parts_done : (answer F x whole).status ≡ 0 → (answer F (answer F x c).keyed d).status ≡ 0
    parts_done f = ap (λ (a : Answer). a.status) w ∙ f

    same_run : (answer F (answer F x c).keyed d).keyed ≡ (answer F x whole).keyed
    same_run = ap (λ (a : Answer). a.keyed) w

  pub joins : Joins (λ (x : Keyed) (c : Call A). (answer F x c).status) (λ x c. (answer F x c).keyed) (written F)
  unfolding rules at
  joins = record {
    absorb-absorb = λ x a b e f.
        let w = absorb_both x a b (done.absorb-absorb (rules F prefix) (machine F prefix F.least F.most) lawful staying (seen x) a b (first_done x (absorb a) e) (second_done x (absorb a) (absorb b) f) refl) in
        (joined_done x (absorb a) (absorb b) (absorb (a ++ b)) w f, same_run x (absorb a) (absorb b) (absorb (a ++ b)) w);
    absorb_parts = λ x a b e.
        let w = absorb_both x a b (done.absorb_parts (rules F prefix) (machine F prefix F.least F.most) lawful staying (seen x) a b (first_done x (absorb (a ++ b)) e) refl refl) in
        (parts_done x (absorb a) (absorb b) (absorb (a ++ b)) w e, same_run x (absorb a) (absorb b) (absorb (a ++ b)) w);
    absorb-nothing = λ x e. nothing_at x (absorb []) (done.absorb-nothing (rules F prefix) (machine F prefix F.least F.most) lawful staying (seen x) (first_done x (absorb []) e));
    squeeze-squeeze = λ x y z e f.
        let e' = first_done x (squeeze (length y)) e in
        let f' = second_done x (squeeze (length y)) (squeeze (length z)) f in
        let w = squeeze_both x y z e' f' (done.squeeze-squeeze (rules F prefix) (machine F prefix F.least F.most) lawful staying (seen x) (length y) (length z) e' f') in
        (joined_done x (squeeze (length y)) (squeeze (length z)) (squeeze (length (y ++ z))) w.0 f, same_run x (squeeze (length y)) (squeeze (length z)) (squeeze (length (y ++ z))) w.0, w.1);
    squeeze_parts = λ x y z e.
        let g : (at (seen x) (squeeze (length y + length z))).status ≡ 0 = rw (length-append y z) at (first_done x (squeeze (length (y ++ z))) e) in
        let v = done.squeeze_parts (rules F prefix) (machine F prefix F.least F.most) lawful staying (seen x) (length y) (length z) g in
        let w = squeeze_both x y z (done.part_done (rules F prefix) (machine F prefix F.least F.most) (seen x) (length y) (length z) g) (ap (λ (o : Reply (runs.Run State)). o.status) v ∙ g) v in
        (parts_done x (squeeze (length y)) (squeeze (length z)) (squeeze (length (y ++ z))) w.0 e, same_run x (squeeze (length y)) (squeeze (length z)) (squeeze (length (y ++ z))) w.0, w.1);
    squeeze-nothing = λ x e. nothing_at x (squeeze 0) (done.squeeze-nothing (rules F prefix) (machine F prefix F.least F.most) lawful staying (seen x) (first_done x (squeeze 0) e));
  }
