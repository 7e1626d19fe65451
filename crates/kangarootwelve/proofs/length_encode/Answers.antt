use mathlib.Core.Path.{◌≡◌, refl, ◌∙◌}
use mathlib.Core.List.{append-nil}
use Prim.Native.Nat.{◌-◌, ◌%◌, ◌<◌}
use native.Mathlib.Nat.{le_refl}
use native.Mathlib.Omega.{arith}
use lib.ListN.{set, length-set}
use lib.Seq.{take-set-le}
use Rattle.sponge.specs.Digits.{digits}
use Rattle.sponge.proofs.Digits.{digits-put, room, room_some}
use Rattle.kangarootwelve.proofs.Encoding.{before_put, encoded, encoding_is}
use Rattle.kangarootwelve.proofs.length_encode.Goals as goal

pub loop-rest-init : goal.loop-rest-init
loop-rest-init c = (refl, le_refl 8, omega arith, append-nil (digits c.args.x c.args.x), refl)

pub overflow_sub-start : goal.overflow_sub-start
overflow_sub-start c = let l = c.loop-rest in room_some l.rest l.start c.loop-rest-test.true l.invariant.2

pub bounds-bytes-start : goal.bounds-bytes-start
bounds-bytes-start c = let l = c.loop-rest in omega arith

pub loop-rest-preserved : goal.loop-rest-preserved
loop-rest-preserved c =
    let l = c.loop-rest in
    let some : 0 < l.start = room_some l.rest l.start c.loop-rest-test.true l.invariant.2 in (
      length-set l.bytes (l.start - 1) (l.rest % 256) ∙ l.invariant.0,
      omega arith,
      room l.rest l.start some l.invariant.2,
      digits-put 8 l.rest l.start l.bytes c.loop-rest-test.true some l.invariant.1 l.invariant.0 ∙ l.invariant.3,
      before_put l.start l.bytes _ (l.rest % 256) l.invariant.4,
    )

pub overflow_sub-bytes : goal.overflow_sub-bytes
overflow_sub-bytes c = c.loop-rest.invariant.1

pub bounds-bytes-8 : goal.bounds-bytes-8
bounds-bytes-8 c = let l = c.loop-rest in omega arith

pub returns : goal.returns
returns c =
    let l = c.loop-rest in
    let none : l.rest ≡ 0 = omega (arith, c.loop-rest-test.false) in
    encoding_is c.args.x l.start (set l.bytes 8 (8 - l.start)) l.invariant.1 (length-set l.bytes 8 (8 - l.start) ∙ l.invariant.0)
    (encoded c.args.x l.start l.bytes l.invariant.1 l.invariant.0 (rw none at l.invariant.3))
    (take-set-le l.start l.bytes 8 (8 - l.start) l.invariant.1 ∙ l.invariant.4)
