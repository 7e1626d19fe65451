use Rattle.bench.proofs.Absorbed.{read}
use Rattle.bench.proofs.Hashers.{kt_hasher}
use Rattle.bench_abreast.proofs.timed.AbreastTimedRun.read.Goals as goal

pub returns-clause-value : goal.returns-clause-value
returns-clause-value g c =
    let f = c.finalize in
    let q = c.squeeze in
    λ m e s. (read (kt_hasher g.K.Kt.RATE g.K.Kt.CHAINING g.met.K.Kt.bounds.0) (g.K.Kt.run_of c.args.self.hasher) (record { status = f.result.status; run = g.K.Kt.run_of f.result.hasher }) f.ensures c.args.out.now (record { status = q.result.status; run = g.K.Kt.run_of q.result.hasher }) q.ensures.value q.new.out q.ensures.out_after m e s).0

pub returns-clause-out_after : goal.returns-clause-out_after
returns-clause-out_after g c =
    let f = c.finalize in
    let q = c.squeeze in
    λ m e s. (read (kt_hasher g.K.Kt.RATE g.K.Kt.CHAINING g.met.K.Kt.bounds.0) (g.K.Kt.run_of c.args.self.hasher) (record { status = f.result.status; run = g.K.Kt.run_of f.result.hasher }) f.ensures c.args.out.now (record { status = q.result.status; run = g.K.Kt.run_of q.result.hasher }) q.ensures.value q.new.out q.ensures.out_after m e s).1
