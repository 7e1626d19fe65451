use Rattle.bench.proofs.Absorbed.{read}
use Rattle.bench.proofs.Hashers.{turbo_hasher}
use Rattle.bench.proofs.TurboShake128TimedRun.read.Goals as goal

-- The output first: a run closed in another way has the same status.
pub returns-clause-out_after : goal.returns-clause-out_after
returns-clause-out_after c =
    let f = c.finalize in
    let q = c.squeeze in
    λ m e s. (read turbo_hasher c.args.self.run (record { run = f.result.hasher.run; status = f.result.status }) f.ensures c.args.out.now (record { run = q.result.hasher.run; status = q.result.status }) q.ensures.value q.new.out q.ensures.out_after m e s).1

pub returns-clause-value : goal.returns-clause-value
returns-clause-value c =
    let f = c.finalize in
    let q = c.squeeze in
    λ m e s. (read turbo_hasher c.args.self.run (record { run = f.result.hasher.run; status = f.result.status }) f.ensures c.args.out.now (record { run = q.result.hasher.run; status = q.result.status }) q.ensures.value q.new.out q.ensures.out_after m e s).0
