use Rattle.bench.proofs.Absorbed.{read}
use Rattle.bench.proofs.StartedHashers.{kmac_hasher}
use Rattle.bench.proofs.keyed.Kmac128TimedRun.read.Goals as goal

pub returns-clause-value : goal.returns-clause-value
returns-clause-value c =
    let f = c.finalize in
    let q = c.squeeze in
    let w = f.ensures in
    let v = q.ensures.status_value in
    λ m e s. (read kmac_hasher c.args.self (record { hasher = f.result.hasher; status = f.result.status }) (λ i. record { hasher = record { run = (w i).keyed.run; output_length = (w i).keyed.length }; status = (w i).status }) c.args.out.now (record { hasher = q.result.hasher; status = q.result.status }) (λ i. record { hasher = record { run = (v i).keyed.run; output_length = (v i).keyed.length }; status = (v i).status }) q.new.out q.ensures.out_after m (λ i. record { run = (e i).run; output_length = (e i).length }) s).0

pub returns-clause-out_after : goal.returns-clause-out_after
returns-clause-out_after c =
    let f = c.finalize in
    let q = c.squeeze in
    let w = f.ensures in
    let v = q.ensures.status_value in
    λ m e s. (read kmac_hasher c.args.self (record { hasher = f.result.hasher; status = f.result.status }) (λ i. record { hasher = record { run = (w i).keyed.run; output_length = (w i).keyed.length }; status = (w i).status }) c.args.out.now (record { hasher = q.result.hasher; status = q.result.status }) (λ i. record { hasher = record { run = (v i).keyed.run; output_length = (v i).keyed.length }; status = (v i).status }) q.new.out q.ensures.out_after m (λ i. record { run = (e i).run; output_length = (e i).length }) s).1
