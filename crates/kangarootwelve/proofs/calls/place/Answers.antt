use Rattle.kangarootwelve.proofs.Published.{chunk_is}
use Rattle.kangarootwelve.proofs.calls.place.Goals as goal

pub returns : goal.returns
returns c = rw (← c.index_after.ensures, c.position_after.ensures, chunk_is)
