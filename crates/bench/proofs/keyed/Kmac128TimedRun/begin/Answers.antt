use Rattle.bench.specs.Pieces.{bench_key}
use Rattle.bench.proofs.Absorbed.{begun}
use Rattle.bench.proofs.StartedHashers.{kmac_hasher}
use Rattle.bench.proofs.keyed.Kmac128TimedRun.begin.Goals as goal

pub returns : goal.returns
unfolding bench_key
returns c =
    let e = c.start.ensures in
    let b = begun kmac_hasher c.start.result.hasher (λ i. record { run = (e i).keyed.run; output_length = (e i).keyed.length }) in
    λ i. record { run = (b i).run; length = (b i).output_length }
