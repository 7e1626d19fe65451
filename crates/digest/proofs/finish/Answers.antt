-- `digest::finish` meets its contract: the two calls, one after the other.
-- Assumes nothing.
use mathlib.Core.Path.{ap}
use Rattle.kangarootwelve.specs.Model.{Answer}
use Rattle.digest.proofs.Pieces.{digests}
use Rattle.digest.proofs.finish.Goals as goal

pub returns : goal.returns
returns c =
    let q = c.squeeze-squeezed in
    let f = c.finalize-finalized in
    digests c.args.hasher.run (record { status = f.result.status; run = f.result.hasher.run }) c.args.out.now q.result.status q.new.out c.requires f.ensures
    (ap (λ (x : Answer). x.status) q.ensures.value) q.ensures.out_after
