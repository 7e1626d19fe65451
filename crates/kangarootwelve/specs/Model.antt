-- What each call on a run of KT, and each call in one go, does on every input, over the rate and the length of a chaining value.
-- Assumes nothing.
use Rattle.std.specs.Prelude.{List, ◌++◌, Bool, cond, ◌&&◌, ℕ, zero, suc, ◌+◌, ◌-◌, ◌*◌, length, replicate, eqb, leb}
use Rattle.keccak.specs.Permutation.{permuted}
use Rattle.abreast.specs.Four.{states_status}
use Rattle.sponge.specs.Waiting.{At, position_after, index_after}
use Rattle.sponge.specs.Model.{Sponge, fresh, squeeze_bytes, after_bytes}
use Rattle.sponge.specs.Count.{counted, counted_from}
use Rattle.sponge.specs.Status.{done, input_too_long, output_too_long, bad_length, first_of}
use Rattle.sponge.specs.Transcript.{Call, Call.absorb, Call.squeeze, Reply, lent}
use Rattle.sponge.specs.Lending.{Lending.words, CallWith, answer_with}
use Rattle.sponge.specs.Runs as runs
use Rattle.sponge.specs.Runs.{Machine, fresh_run, perform}
use Rattle.turboshake.specs.Transcript.{message_limit, output_limit}
use Rattle.kangarootwelve.specs.Published.{length_encode, chunk, kt}
use Rattle.kangarootwelve.specs.Transcript.{customization_limit, customization_status, rules}
use Rattle.kangarootwelve.specs.Tree.{Tree, absorb_tree, finish_tree, finalize_tree}
use Rattle.kangarootwelve.specs.Count.{CountedTree, count_absorbed, count_finished, count_finalized, count_due}
use Rattle.kangarootwelve.specs.declared.Run.{Run}
use Rattle.kangarootwelve.specs.declared.LengthEncoding.{LengthEncoding}

-- the two sponges of a run, its customization bytes, the third total, and the permutations of the definition so far (request Q-10)
pub record Nodes : Type 0 where
  pub final : Sponge
  pub leaf : Sponge
  pub customized : ℕ
  pub permutations : ℕ

abbrev pub nodes_of : Tree → ℕ → ℕ → Nodes
nodes_of t c n = record { final = t.final; leaf = t.leaf; customized = c; permutations = n }

-- the tree after n bytes of S: the chunk in hand and the position in it are told by n
abbrev pub tree_at : ℕ → Nodes → At Tree
tree_at n s = record { value = record { final = s.final; leaf = s.leaf; index = index_after chunk n }; position = position_after chunk n }

-- the same, counted: of both nodes' permutations the sum alone is told, so the final node has them all
abbrev pub counted_tree_at : ℕ → Nodes → At CountedTree
counted_tree_at n s = record {
  value = record { final = counted_from s.final s.permutations; leaf = counted_from s.leaf 0; index = index_after chunk n };
  position = position_after chunk n;
}

-- ---- the test of status 5

-- the bytes that the final node and the leaf have got, with o bytes of the chunk in hand absorbed
abbrev pub final_count : ℕ → ℕ → ℕ → ℕ
final_count chaining zero o = o
final_count chaining (suc k) o = chunk + 8 + k * chaining

abbrev pub leaf_count : ℕ → ℕ → ℕ
leaf_count zero o = 0
leaf_count (suc k) o = o

-- the positions due after n bytes of S
abbrev pub final_due : ℕ → ℕ → ℕ → ℕ
final_due rate chaining n = position_after rate (final_count chaining (index_after chunk n) (position_after chunk n))

abbrev pub leaf_due : ℕ → ℕ → ℕ
leaf_due rate n = position_after rate (leaf_count (index_after chunk n) (position_after chunk n))

-- what a run reached from a fresh one has: in phase 0 no customization byte; in phases 0 and 2 nothing is squeezed and the positions tell
-- the bytes of M and C; in phase 1 the final node's tells the bytes squeezed, and the leaf is fresh again; lanes are not looked at
unfoldable pub placed : ℕ → ℕ → ℕ → ℕ → ℕ → ℕ → ℕ → ℕ → Bool
placed rate chaining finalPosition leafPosition phase absorbed customized squeezed =
    leb absorbed message_limit
    && (leb customized (cond (eqb phase 0) 0 customization_limit)
    && cond (eqb phase 1) (leb squeezed output_limit && (eqb finalPosition (position_after rate squeezed) && eqb leafPosition 0))
    (leb phase 2 && (eqb squeezed 0 && (eqb finalPosition (final_due rate chaining (absorbed + customized)) && eqb leafPosition (leaf_due rate (absorbed + customized))))))

-- and in every phase the totals tell the permutations
unfoldable pub reachable : ℕ → ℕ → ℕ → ℕ → ℕ → ℕ → ℕ → ℕ → ℕ → Bool
reachable rate chaining finalPosition leafPosition phase absorbed customized squeezed permutations =
    placed rate chaining finalPosition leafPosition phase absorbed customized squeezed
    && eqb permutations (count_due rate chaining phase (absorbed + customized) customized squeezed)

-- what becomes of the two sponges and of the number of permutations, and the test of status 5; the customization bytes follow the n of M
unfoldable pub machine : ℕ → ℕ → Machine Nodes (List ℕ)
machine rate chaining = record {
  fresh = record { final = fresh; leaf = fresh; customized = 0; permutations = 0 };
  absorb = λ n s p. nodes_of (absorb_tree rate chaining (tree_at n s) p).value s.customized (count_absorbed rate chaining (counted_tree_at n s) p);
  customize = λ n s p. nodes_of (absorb_tree rate chaining (tree_at (n + s.customized) s) p).value (s.customized + length p) (count_absorbed rate chaining (counted_tree_at (n + s.customized) s) p);
  finalize = λ n s c. record { final = finalize_tree rate chaining (tree_at n s) c; leaf = fresh; customized = length c; permutations = count_finalized rate chaining (counted_tree_at n s) c };
  finish = λ n s. record {
    final = finish_tree rate chaining (tree_at (n + s.customized) s) s.customized;
    leaf = fresh;
    customized = s.customized;
    permutations = count_finished rate chaining (counted_tree_at (n + s.customized) s) s.customized;
  };
  squeeze = λ k s. squeeze_bytes permuted rate k s.final;
  after = λ k s. record {
    final = after_bytes permuted rate k s.final;
    leaf = s.leaf;
    customized = s.customized;
    permutations = (after_bytes (counted permuted) rate k (counted_from s.final s.permutations)).value.1;
  };
  customized = λ s. s.customized;
  limit = λ s. output_limit;
  reachable = λ r. reachable rate chaining r.state.final.position r.state.leaf.position r.phase r.absorbed r.state.customized r.squeezed r.state.permutations;
}

-- ---- the code's structs

-- a run as the theorem sees it, and back
abbrev pub seen : Run → runs.Run Nodes
seen r = record {
  state = record {
    final = record { value = r.node.lanes; position = r.node.position };
    leaf = record { value = r.leaf.lanes; position = r.leaf.position };
    customized = r.customized;
    permutations = r.permutations;
  };
  phase = r.phase;
  absorbed = r.absorbed;
  squeezed = r.squeezed;
}

abbrev pub held : runs.Run Nodes → Run
held r = record {
  node = record { lanes = r.state.final.value; position = r.state.final.position };
  leaf = record { lanes = r.state.leaf.value; position = r.state.leaf.position };
  phase = r.phase;
  absorbed = r.absorbed;
  customized = r.state.customized;
  squeezed = r.squeezed;
  permutations = r.state.permutations;
}

unfoldable pub fresh_of : ℕ → ℕ → Run
fresh_of rate chaining = held (fresh_run (rules rate chaining) (machine rate chaining))

-- a call's status, and the run that it hands back
pub record Answer : Type 0 where
  pub status : ℕ
  pub run : Run

unfoldable pub answer_of : ℕ → ℕ → Run → Call (List ℕ) → Answer
answer_of rate chaining r c = record {
  status = (perform (rules rate chaining) (machine rate chaining) (seen r) c).status;
  run = held (perform (rules rate chaining) (machine rate chaining) (seen r) c).left;
}

-- the answer with the bytes given: what a list of calls on the code's runs is made of
unfoldable pub reply_of : ℕ → ℕ → Run → Call (List ℕ) → Reply Run
reply_of rate chaining r c = record {
  status = (answer_of rate chaining r c).status;
  bytes = (perform (rules rate chaining) (machine rate chaining) (seen r) c).bytes;
  left = (answer_of rate chaining r c).run;
}

-- a message feed that lends n words for four leaves abreast (request Q-6): what it answers
abbrev pub absorb_with : ℕ → List ℕ → CallWith (List ℕ)
absorb_with n p = record { call = absorb p; lending = words n }

unfoldable pub answer_abreast : ℕ → ℕ → Run → ℕ → List ℕ → Answer
answer_abreast rate chaining r n p = record { status = (answer_with (reply_of rate chaining) r (absorb_with n p)).status; run = (answer_with (reply_of rate chaining) r (absorb_with n p)).left }

-- what the lent words hold after a call with this status, which held s before: zeros where it is done
abbrev pub states_after : ℕ → List ℕ → List ℕ
states_after status s = lent status (replicate (length s) 0) s

-- what the lent output holds after a squeeze, which held `out` before
unfoldable pub output_of : ℕ → ℕ → Run → List ℕ → List ℕ
output_of rate chaining r out =
    lent (perform (rules rate chaining) (machine rate chaining) (seen r) (squeeze (length out))).status
    (perform (rules rate chaining) (machine rate chaining) (seen r) (squeeze (length out))).bytes out

-- ---- in one go

-- the status of a message of m bytes, a customization string of c bytes, and n bytes asked: 2, 4, 7, 6 in this order
unfoldable pub hash_status : ℕ → ℕ → ℕ → ℕ
hash_status m c n =
    first_of (cond (leb m message_limit) done input_too_long)
    (first_of (customization_status c)
    (first_of (cond (eqb n 0) bad_length done) (cond (leb n output_limit) done output_too_long)))

-- what the lent output holds after the call
unfoldable pub hash_output : ℕ → ℕ → List ℕ → List ℕ → List ℕ → List ℕ
hash_output rate chaining m c out = lent (hash_status (length m) (length c) (length out)) (kt rate chaining m c (length out)) out

-- with n words lent: 12 before all others
unfoldable pub abreast_status : ℕ → ℕ → ℕ → ℕ → ℕ
abreast_status n m c k = first_of (states_status n) (hash_status m c k)

unfoldable pub abreast_output : ℕ → ℕ → ℕ → List ℕ → List ℕ → List ℕ → List ℕ
abreast_output rate chaining n m c out = lent (abreast_status n (length m) (length c) (length out)) (kt rate chaining m c (length out)) out

-- ---- length_encode

-- of a number of 64 bits: the encoding at the end of nine bytes, zeros before it, and where it starts
unfoldable pub encoding_of : ℕ → LengthEncoding
encoding_of x = record { bytes = replicate (9 - length (length_encode x)) 0 ++ length_encode x; start = 9 - length (length_encode x) }
