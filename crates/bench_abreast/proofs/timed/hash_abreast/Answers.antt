use mathlib.Core.List.{[]}
use Rattle.bench_abreast.proofs.Plainly.{one_go}
use Rattle.bench_abreast.proofs.timed.hash_abreast.Goals as goal

pub returns-clause-value : goal.returns-clause-value
returns-clause-value g c =
    let a = c.args in
    let h = c.hash_abreast in
    (one_go g.K.Kt.RATE g.K.Kt.CHAINING a.message.now [] a.out.now h.result h.new.out h.ensures.value h.ensures.out_after).0

pub returns-clause-out_after : goal.returns-clause-out_after
returns-clause-out_after g c =
    let a = c.args in
    let h = c.hash_abreast in
    (one_go g.K.Kt.RATE g.K.Kt.CHAINING a.message.now [] a.out.now h.result h.new.out h.ensures.value h.ensures.out_after).1
