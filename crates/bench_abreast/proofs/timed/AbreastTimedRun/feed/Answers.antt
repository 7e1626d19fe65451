use mathlib.Core.Path.{◌∙◌}
use native.Mathlib.Omega.{arith}
use Rattle.bench_abreast.proofs.Plainly.{fed}
use Rattle.bench.proofs.Absorbed.{fits, long}
use Rattle.bench.proofs.Hashers.{kt_hasher}
use Rattle.bench_abreast.proofs.timed.AbreastTimedRun.feed.Goals as goal

-- The refusal first: a call that answers 0 whatever comes leaves the other clause true.
pub returns-clause-long : goal.returns-clause-long
returns-clause-long g c =
    let x = c.absorb_abreast-fed in
    long (kt_hasher g.K.Kt.RATE g.K.Kt.CHAINING g.met.K.Kt.bounds.0) (g.K.Kt.run_of c.args.self.now.hasher) c.args.piece.now (record { status = x.result.status; run = g.K.Kt.run_of x.result.hasher }) (x.ensures.value ∙ fed g.K.Kt.RATE g.K.Kt.CHAINING g.met.K.Kt.bounds.0 _ _ _ (omega arith)) c.accepted.result c.accepted.ensures

pub returns-clause-fits : goal.returns-clause-fits
returns-clause-fits g c =
    let x = c.absorb_abreast-fed in
    fits (kt_hasher g.K.Kt.RATE g.K.Kt.CHAINING g.met.K.Kt.bounds.0) (g.K.Kt.run_of c.args.self.now.hasher) c.args.piece.now (record { status = x.result.status; run = g.K.Kt.run_of x.result.hasher }) (x.ensures.value ∙ fed g.K.Kt.RATE g.K.Kt.CHAINING g.met.K.Kt.bounds.0 _ _ _ (omega arith)) c.accepted.result c.accepted.ensures
