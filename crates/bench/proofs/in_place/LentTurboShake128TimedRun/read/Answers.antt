use Rattle.hasher.specs.Model.{run_with, answered}
use Rattle.bench.proofs.Absorbed.{read}
use Rattle.bench.proofs.Hashers.{turbo_hasher}
use Rattle.bench.proofs.in_place.LentTurboShake128TimedRun.read.Goals as goal

pub returns-clause-value : goal.returns-clause-value
returns-clause-value c =
    let f = c.finalize_in_place-finalized in
    let q = c.squeeze_in_place in
    λ m e s. (read turbo_hasher (run_with c.args.self.lanes c.args.self.at) (answered f.result f.new.lanes) f.ensures c.args.out.now (answered q.result q.new.lanes) q.ensures.lanes_after q.new.out q.ensures.out_after m e s).0

pub returns-clause-out_after : goal.returns-clause-out_after
returns-clause-out_after c =
    let f = c.finalize_in_place-finalized in
    let q = c.squeeze_in_place in
    λ m e s. (read turbo_hasher (run_with c.args.self.lanes c.args.self.at) (answered f.result f.new.lanes) f.ensures c.args.out.now (answered q.result q.new.lanes) q.ensures.lanes_after q.new.out q.ensures.out_after m e s).1
