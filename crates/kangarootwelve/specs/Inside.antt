-- What the contracts of private functions say: a tree and a run from lent lanes and numbers.
-- Assumes nothing.
use Rattle.std.specs.Prelude.{List, Bool, cond, ◌&&◌, ℕ, zero, suc, ◌+◌, ◌≤◌, take, drop, eqb, leb}
use Rattle.sponge.specs.Waiting.{At, position_after, index_after}
use Rattle.sponge.specs.Status.{done, input_too_long, wrong_phase, unreachable}
use Rattle.turboshake.specs.Transcript.{message_limit}
use Rattle.kangarootwelve.specs.Published.{chunk}
use Rattle.kangarootwelve.specs.Tree.{Tree, put_to, end_chunk}
use Rattle.kangarootwelve.specs.Count.{open_kt}
use Rattle.kangarootwelve.specs.Model.{final_due, leaf_due, reachable, Answer}
use Rattle.kangarootwelve.specs.declared.Run.{Run}
use Rattle.kangarootwelve.specs.declared.Progress.{Progress}
use Rattle.kangarootwelve.specs.declared.Moved.{Moved}
use Rattle.kangarootwelve.specs.declared.Place.{Place}

-- the tree that the lanes of the final node, those of the leaf and a place are
abbrev pub tree_of : List ℕ → List ℕ → Place → At Tree
tree_of final leaf p = record {
  value = record { final = record { value = final; position = p.node }; leaf = record { value = leaf; position = p.leaf }; index = p.index };
  position = p.position;
}

-- the positions lie within their blocks and chunk
pub record Fits (rate : ℕ) (t : At Tree) : Type 0 where
  pub final-fits : t.value.final.position ≤ rate
  pub leaf-fits : t.value.leaf.position ≤ rate
  pub position-fits : t.position ≤ chunk

-- a tree whose chunk in hand, still empty, gets all of p and is ended; and so for the first n chunks of s
abbrev pub ended_chunk : ℕ → ℕ → Tree → List ℕ → Tree
ended_chunk rate chaining t p = end_chunk rate chaining (put_to rate t.index t.final t.leaf p)

abbrev pub ended_chunks : ℕ → ℕ → ℕ → Tree → List ℕ → Tree
ended_chunks rate chaining zero t s = t
ended_chunks rate chaining (suc n) t s = ended_chunks rate chaining n (ended_chunk rate chaining t (take chunk s)) (drop chunk s)

-- what a run holds beside its lanes, and where its next byte goes
abbrev pub progress_of : Run → Progress
progress_of r = record { node = r.node.position; leaf = r.leaf.position; phase = r.phase; absorbed = r.absorbed; customized = r.customized; squeezed = r.squeezed; permutations = r.permutations }

abbrev pub place_of : Progress → Place
place_of p = record { node = p.node; leaf = p.leaf; index = index_after chunk (p.absorbed + p.customized); position = position_after chunk (p.absorbed + p.customized) }

-- the test of status 5 on what a run holds; and the part of it that an open run's bytes of M and C tell, positions and permutations
abbrev pub reached_at : ℕ → ℕ → Progress → Bool
reached_at rate chaining p = reachable rate chaining p.node p.leaf p.phase p.absorbed p.customized p.squeezed p.permutations

abbrev pub open_due : ℕ → ℕ → Progress → Bool
open_due rate chaining p =
    eqb p.node (final_due rate chaining (p.absorbed + p.customized))
    && (eqb p.leaf (leaf_due rate (p.absorbed + p.customized)) && eqb p.permutations (open_kt rate chaining (p.absorbed + p.customized)))

-- the status of a message feed of n bytes, by what a run holds beside its lanes
unfoldable pub feed_status : ℕ → ℕ → Progress → ℕ → ℕ
feed_status rate chaining p n = cond (reached_at rate chaining p) (cond (eqb p.phase 0) (cond (leb (p.absorbed + n) message_limit) done input_too_long) wrong_phase) unreachable

-- a run and an answer from their parts
abbrev pub run_with : List ℕ → List ℕ → Progress → Run
run_with final leaf p = record {
  node = record { lanes = final; position = p.node };
  leaf = record { lanes = leaf; position = p.leaf };
  phase = p.phase;
  absorbed = p.absorbed;
  customized = p.customized;
  squeezed = p.squeezed;
  permutations = p.permutations;
}

abbrev pub answered : Moved → List ℕ → List ℕ → Answer
answered m final leaf = record { status = m.status; run = run_with final leaf m.at }
