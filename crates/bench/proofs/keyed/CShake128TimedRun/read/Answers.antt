use Rattle.bench.proofs.Absorbed.{read}
use Rattle.bench.proofs.StartedHashers.{cshake_hasher}
use Rattle.bench.proofs.keyed.CShake128TimedRun.read.Goals as goal

pub returns-clause-value : goal.returns-clause-value
returns-clause-value c =
    let f = c.finalize in
    let q = c.squeeze in
    λ m e s. (read cshake_hasher (record { run = c.args.self.run; shake = c.args.self.shake }) (record { customized = record { run = f.result.hasher.run; shake = f.result.hasher.shake }; status = f.result.status }) f.ensures c.args.out.now (record { customized = record { run = q.result.hasher.run; shake = q.result.hasher.shake }; status = q.result.status }) q.ensures.status_value q.new.out q.ensures.out_after m e s).0

pub returns-clause-out_after : goal.returns-clause-out_after
returns-clause-out_after c =
    let f = c.finalize in
    let q = c.squeeze in
    λ m e s. (read cshake_hasher (record { run = c.args.self.run; shake = c.args.self.shake }) (record { customized = record { run = f.result.hasher.run; shake = f.result.hasher.shake }; status = f.result.status }) f.ensures c.args.out.now (record { customized = record { run = q.result.hasher.run; shake = q.result.hasher.shake }; status = q.result.status }) q.ensures.status_value q.new.out q.ensures.out_after m e s).1
