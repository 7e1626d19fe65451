use Rattle.bench.proofs.Absorbed.{fits, long}
use Rattle.bench.proofs.StartedHashers.{kmac_hasher}
use Rattle.bench.proofs.keyed.Kmac128TimedRun.feed.Goals as goal

pub returns-clause-fits : goal.returns-clause-fits
returns-clause-fits c =
    let x = c.absorb-answered in
    let w = x.ensures in
    λ m e l.
    let f = fits kmac_hasher c.args.self.now c.args.piece.now (record { hasher = x.result.hasher; status = x.result.status }) (λ i. record { hasher = record { run = (w i).keyed.run; output_length = (w i).keyed.length }; status = (w i).status }) c.accepted.result c.accepted.ensures m (λ i. record { run = (e i).run; output_length = (e i).length }) l in
    (f.0, λ i. record { run = (f.1 i).run; length = (f.1 i).output_length })

pub returns-clause-long : goal.returns-clause-long
returns-clause-long c =
    let x = c.absorb-answered in
    let w = x.ensures in
    λ m e. long kmac_hasher c.args.self.now c.args.piece.now (record { hasher = x.result.hasher; status = x.result.status }) (λ i. record { hasher = record { run = (w i).keyed.run; output_length = (w i).keyed.length }; status = (w i).status }) c.accepted.result c.accepted.ensures m (λ i. record { run = (e i).run; output_length = (e i).length })
