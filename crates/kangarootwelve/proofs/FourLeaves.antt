-- Leaves abreast: four chunks from the first byte of a leaf on are their chaining values absorbed into the final node in order; where nothing follows them,
-- the last stays open.
-- Assumes nothing.
use mathlib.Core.Path.{◌≡◌, refl, sym, ap, ap₂, ◌∙◌}
use mathlib.Core.List.{List, [], ◌++◌}
use Prim.Native.Nat.{ℕ, zero, suc, ◌+◌, ◌-◌, ◌*◌, ◌≤◌, ◌<◌}
use native.Mathlib.Nat.{zero-add, suc-add, add-suc, add-zero, add_comm, zero-mul, suc-mul, le_refl}
use native.Mathlib.Omega.{arith}
use lib.ListN.{length, take, drop, replicate, take-append-drop, length-drop, drop_of_length-le}
use lib.Seq.{drop-drop, take_all, length-take-le}
use Rattle.keccak.specs.Permutation.{permuted}
use Rattle.sponge.specs.Published.{xor_byte}
use Rattle.sponge.specs.Waiting.{At}
use Rattle.sponge.specs.Model.{Sponge, fresh, absorb_bytes}
use Rattle.sponge.proofs.Waiting.{steps-append, steps_full, steps_over, steps_in}
use Rattle.turboshake.specs.Published.{turboshake}
use Rattle.turboshake.proofs.Published.{squeeze-turboshake}
use Rattle.kangarootwelve.specs.Published.{chunk, intermediate_domain}
use Rattle.kangarootwelve.specs.Tree.{Tree, put_byte, end_chunk, absorb_tree}
use Rattle.kangarootwelve.specs.Inside.{ended_chunk, ended_chunks}
use Rattle.kangarootwelve.specs.Leaves.{chunk_at, values_of}
use Rattle.kangarootwelve.proofs.Published.{chunk_is, chunk_pos, puts_is}
use Rattle.kangarootwelve.proofs.Nodes.{fresh_is}
use Rattle.kangarootwelve.proofs.OneGo.{chunks_tree}

-- all bytes from byte j on, as they are lent
pub rest_is : (j : ℕ) (s : List ℕ) → take (length s - j) (drop j s) ≡ drop j s
rest_is j s = take_all (length s - j) (drop j s) (rw length-drop (le_refl (length s - j)))

pub rest_length : (j : ℕ) (s : List ℕ) → length (take (length s - j) (drop j s)) ≡ length s - j
rest_length j s = ap length (rest_is j s) ∙ length-drop j s

module _ (rate chaining : ℕ) (pos : 0 < rate) (most : rate ≤ 200) where
  -- chunks ended one after the other, from S_1 on
  ended_values : (n : ℕ) (f : Sponge) (i : ℕ) (s : List ℕ)
      → ended_chunks rate chaining n (record { final = f; leaf = fresh; index = suc i }) s ≡ record { final = absorb_bytes permuted rate f (values_of rate chaining n s); leaf = fresh; index = suc i + n }
  ended_values zero f i s = ap (λ (k : ℕ). record { final = f; leaf = fresh; index = k }) (sym (add-zero (suc i)))
  ended_values (suc n) f i s =
      let first : List ℕ = turboshake rate (take chunk s) intermediate_domain chaining in
      let count : suc (suc i) + n ≡ suc i + suc n = suc-add (suc i) n ∙ sym (add-suc (suc i) n) in
      ap (λ (v : List ℕ). ended_chunks rate chaining n (record { final = absorb_bytes permuted rate f v; leaf = fresh; index = suc (suc i) }) (drop chunk s))
      (squeeze-turboshake rate pos (take chunk s) intermediate_domain chaining)
      ∙ ended_values n (absorb_bytes permuted rate f first) (suc i) (drop chunk s)
      ∙ ap₂ (λ (g : Sponge) (k : ℕ). record { final = g; leaf = fresh; index = k })
      (sym (steps-append permuted xor_byte rate f first (values_of rate chaining n (drop chunk s)))) count

  -- whole chunks, and then more
  chunks_over : (n : ℕ) (t : Tree) (s : List ℕ) → n * chunk < length s
      → absorb_tree rate chaining (record { value = t; position = 0 }) s ≡ absorb_tree rate chaining (record { value = ended_chunks rate chaining n t s; position = 0 }) (drop (n * chunk) s)
  chunks_over zero t s h = rw zero-mul
  chunks_over (suc n) t s h =
      let room : chunk < length s = omega (arith, suc-mul n chunk) in
      let rest : n * chunk < length (drop chunk s) = rw length-drop (omega (arith, suc-mul n chunk)) in
      let d : drop (n * chunk) (drop chunk s) ≡ drop (suc n * chunk) s = drop-drop (n * chunk) chunk s ∙ rw (suc-mul n chunk, add_comm chunk (n * chunk)) in
      steps_over (end_chunk rate chaining) (put_byte rate) chunk chunk_pos t s room
      ∙ rw (puts_is rate chaining t 0 (take chunk s)) (chunks_over n (ended_chunk rate chaining t (take chunk s)) (drop chunk s) rest)
      ∙ ap (absorb_tree rate chaining (record { value = ended_chunks rate chaining (suc n) t s; position = 0 })) d

  -- four chunks, and then more; g is what their values leave of the final node, m the four as they are lent
  closed_leaf : (f g : Sponge) (i : ℕ) (m s : List ℕ) → length m ≡ 32768 → 0 < length s → g ≡ absorb_bytes permuted rate f (values_of rate chaining 4 m)
      → ◌≡◌ {A = At Tree} (absorb_tree rate chaining (record { value = record { final = g; leaf = fresh; index = suc i + 4 }; position = 0 }) s)
      (absorb_tree rate chaining (record { value = record { final = f; leaf = fresh; index = suc i }; position = 0 }) (m ++ s))
  closed_leaf f g i m s l more e =
      let t : Tree = record { final = f; leaf = fresh; index = suc i } in
      let room : 4 * chunk ≤ length m = rw chunk_is (omega (arith, l)) in
      let none : drop (4 * chunk) m ≡ [] = drop_of_length-le m {i = 4 * chunk} (rw chunk_is (omega (arith, l))) in
      let four : ended_chunks rate chaining 4 t m ≡ record { final = g; leaf = fresh; index = suc i + 4 } =
      ended_values 4 f i m ∙ ap (λ (u : Sponge). record { final = u; leaf = fresh; index = suc i + 4 }) (sym e) in
      sym (chunks_tree rate pos most chaining 4 t m s room more ∙ ap₂ (λ (a : Tree) (b : List ℕ). absorb_tree rate chaining (record { value = a; position = 0 }) (b ++ s)) four none)

  -- four chunks, and nothing more
  last_chunk : (s : List ℕ) → length s ≡ 32768 → chunk_at 3 s ≡ drop (3 * chunk) s
  unfolding chunk_at
  last_chunk s l =
      take_all chunk (drop (3 * chunk) s) (rw length-drop (omega (arith, l, chunk_is)))

  last_open : (f g h : Sponge) (i : ℕ) (s : List ℕ) → length s ≡ 32768 → g ≡ absorb_bytes permuted rate f (values_of rate chaining 3 s) → h ≡ absorb_bytes permuted rate fresh (chunk_at 3 s)
      → ◌≡◌ {A = At Tree} (record { value = record { final = g; leaf = h; index = suc i + 3 }; position = 8192 })
      (absorb_tree rate chaining (record { value = record { final = f; leaf = fresh; index = suc i }; position = 0 }) s)
  last_open f g h i s l eg eh =
      let t : Tree = record { final = f; leaf = fresh; index = suc i } in
      let u : Tree = record { final = g; leaf = fresh; index = suc (i + 3) } in
      let r : List ℕ = drop (3 * chunk) s in
      let room : 3 * chunk < length s = rw chunk_is (omega (arith, l)) in
      let lr : length r ≡ 8192 = rw (length-drop, chunk_is) (omega (arith, l)) in
      let fits : 0 + length r ≤ chunk = omega (arith, lr, chunk_is) in
      let three : ended_chunks rate chaining 3 t s ≡ u = ended_values 3 f i s ∙ ap₂ (λ (x : Sponge) (k : ℕ). record { final = x; leaf = fresh; index = k }) (sym eg) (suc-add i 3) in
      let leaf_is : h ≡ absorb_bytes permuted rate fresh r = eh ∙ ap (absorb_bytes permuted rate fresh) (last_chunk s l) in
      sym
      (chunks_over 3 t s room ∙ ap (λ (a : Tree). absorb_tree rate chaining (record { value = a; position = 0 }) r) three
      ∙ steps_in (end_chunk rate chaining) (put_byte rate) chunk u 0 r fits
      ∙ ap₂ (λ (a : Tree) (k : ℕ). record { value = a; position = k }) (puts_is rate chaining u 0 r) (zero-add (length r) ∙ lr)
      ∙ ap₂ (λ (x : Sponge) (k : ℕ). record { value = record { final = g; leaf = x; index = k }; position = 8192 }) (sym leaf_is) (sym (suc-add i 3)))

  -- ---- as the code has them: the leaf in hand is empty, and v is the value that is lent

  at_leaf : (f : Sponge) (leaf : List ℕ) (p i q : ℕ) → leaf ≡ replicate 25 0 → p ≡ 0 → q ≡ 0
      → ◌≡◌ {A = At Tree} (record { value = record { final = f; leaf = record { value = leaf; position = p }; index = i }; position = q }) (record { value = record { final = f; leaf = fresh; index = i }; position = 0 })
  at_leaf f leaf p i q el ep eq = rw (el, ep, eq, fresh_is)

  pub open_row : (f g h : Sponge) (leaf : List ℕ) (p i q : ℕ) (v s : List ℕ) → leaf ≡ replicate 25 0 → p ≡ 0 → 0 < i → q ≡ 0 → length v ≡ chaining → length s ≡ 32768
      → g ≡ absorb_bytes permuted rate f (values_of rate (length v) 3 s) → h ≡ absorb_bytes permuted rate fresh (chunk_at 3 s)
      → ◌≡◌ {A = At Tree} (record { value = record { final = g; leaf = h; index = i + 3 }; position = 8192 })
      (absorb_tree rate chaining (record { value = record { final = f; leaf = record { value = leaf; position = p }; index = i }; position = q }) s)
  open_row f g h leaf p zero q v s el ep ei eq ev l eg eh = absurd (omega arith)
  open_row f g h leaf p (suc i) q v s el ep ei eq ev l eg eh =
      last_open f g h i s l (eg ∙ ap (λ (n : ℕ). absorb_bytes permuted rate f (values_of rate n 3 s)) ev) eh
      ∙ ap (λ (t : At Tree). absorb_tree rate chaining t s) (sym (at_leaf f leaf p (suc i) q el ep eq))

  -- the loop lends the four chunks from byte j on
  pub closed_row : (f g : Sponge) (leaf : List ℕ) (p i q : ℕ) (v s : List ℕ) → leaf ≡ replicate 25 0 → p ≡ 0 → 0 < i → q ≡ 0 → length v ≡ chaining → 32768 < length s
      → g ≡ absorb_bytes permuted rate f (values_of rate (length v) 4 (take 32768 s))
      → ◌≡◌ {A = At Tree} (absorb_tree rate chaining (record { value = record { final = g; leaf = record { value = leaf; position = 0 }; index = i + 4 }; position = 0 }) (drop 32768 s))
      (absorb_tree rate chaining (record { value = record { final = f; leaf = record { value = leaf; position = p }; index = i }; position = q }) s)
  closed_row f g leaf p zero q v s el ep ei eq ev l eg = absurd (omega arith)
  closed_row f g leaf p (suc i) q v s el ep ei eq ev l eg =
      let m : List ℕ = take 32768 s in
      let rest : List ℕ = drop 32768 s in
      let more : 0 < length rest = rw length-drop (omega arith) in
      ap (λ (t : At Tree). absorb_tree rate chaining t rest) (at_leaf g leaf 0 (suc i + 4) 0 el refl refl)
      ∙ closed_leaf f g i m rest (length-take-le 32768 s (omega arith)) more (eg ∙ ap (λ (n : ℕ). absorb_bytes permuted rate f (values_of rate n 4 m)) ev)
      ∙ ap (absorb_tree rate chaining (record { value = record { final = f; leaf = fresh; index = suc i }; position = 0 })) (take-append-drop 32768 s)
      ∙ ap (λ (t : At Tree). absorb_tree rate chaining t s) (sym (at_leaf f leaf p (suc i) q el ep eq))

  -- ---- what comes before the first leaf: u is t once its chunk is full, and w is u once that chunk is ended

  pub lead_row : (t u w : At Tree) (n : ℕ) (s : List ℕ) → t.position + n ≡ chunk → n < length s → u ≡ absorb_tree rate chaining t (take n s)
      → w ≡ record { value = end_chunk rate chaining u.value; position = 0 } → absorb_tree rate chaining w (drop n s) ≡ absorb_tree rate chaining t s
  lead_row t u w n s en l eu ew =
      let k : length (take n s) ≡ n = length-take-le n s (omega arith) in
      let full : u.position ≡ chunk =
      ap (λ (x : At Tree). x.position) (eu ∙ steps_in (end_chunk rate chaining) (put_byte rate) chunk t.value t.position (take n s) (omega (arith, k, en))) ∙ ap (λ (m : ℕ). t.position + m) k ∙ en in
      let more : 0 < length (drop n s) = rw length-drop (omega arith) in
      ap (λ (x : At Tree). absorb_tree rate chaining x (drop n s)) ew
      ∙ sym (steps_full (end_chunk rate chaining) (put_byte rate) chunk chunk_pos u.value (drop n s) more)
      ∙ ap (λ (m : ℕ). absorb_tree rate chaining (record { value = u.value; position = m }) (drop n s)) (sym full)
      ∙ ap (λ (x : At Tree). absorb_tree rate chaining x (drop n s)) eu
      ∙ sym (steps-append (end_chunk rate chaining) (put_byte rate) chunk t (take n s) (drop n s))
      ∙ ap (absorb_tree rate chaining t) (take-append-drop n s)

  -- an ended chunk leaves the leaf fresh
  pub ended_leaf : (u : Tree) (w : At Tree) → w ≡ record { value = end_chunk rate chaining u; position = 0 } → w.value.leaf.value ≡ replicate 25 0
  ended_leaf u w e = ap (λ (x : At Tree). x.value.leaf.value) e ∙ sym (ap (λ (x : Sponge). x.value) fresh_is)
