use Rattle.bench.specs.Pieces.{bench_key}
use Rattle.bench.proofs.keyed.bench_kmac_one_go.Goals as goal

pub returns : goal.returns
unfolding bench_key
returns c = let t = c.tag in record {
  value = t.ensures.value;
  out_after = t.ensures.out_after;
}
