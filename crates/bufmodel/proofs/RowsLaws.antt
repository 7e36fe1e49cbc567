-- Laws of the file rows: the row of a file, where files begin in the store, the place of a page, and what another block count changes.
use Prim.Native.Nat.{ℕ, suc, ◌+◌, ◌*◌, ◌≤◌, ◌<◌}
use native.Mathlib.Omega.{arith}
use mathlib.Core.Path.{◌≡◌, refl, sym, ap, ◌∙◌}
use mathlib.Core.Logic.{◌≢◌, ◌⊎◌, inl, inr, ⊎_elim}
use mathlib.Core.List.{List}
use lib.ListN.{length, get_or, length-set}
use lib.Seq.{get_or-set_same, get_or-set_other}
use lib.Dec.{ltb}
use borrow.Author.Tests.{lt-ltb, ltb-true, le-ltb, eq-eqb}
use Rattle.laws.specs.First.{Found, found, missing}
use Rattle.laws.specs.Sum.{sum}
use Rattle.laws.proofs.Tests.{and-true, lt-or-le, eq-or-ne}
use Rattle.laws.proofs.First.{found-same, found-missing, first_found, first-only, first-same, cond-found}
use Rattle.laws.proofs.Sum.{sum-grows, sum_same}
use Rattle.buftag.specs.declared.name.FileName.{FileName}
use Rattle.buftag.specs.declared.name.PageName.{PageName}
use Rattle.buftag.specs.Name.{same_file}
use Rattle.buftag.proofs.NameLaws.{says-same-file, says-same-name}
use Rattle.bufmodel.specs.Rows.{row_words, blocks_word, capacity_word, files, file_at, blocks_at, capacity_at, set_blocks}
use Rattle.bufmodel.specs.Rows.{row_of, start_of, store_blocks, place_in, place_of}
use Rattle.bufmodel.specs.Sizes.{RowsSound}

-- ---- the row of a file
module _ (rows : List ℕ) where
  -- the row found is within the rows and of that file
  pub row-found : (f : FileName) {r : ℕ} → row_of rows f ≡ found r → (r < files rows) × (file_at rows r ≡ f)
  unfolding row_of
  row-found f {r} e =
      let w = first_found (λ s. same_file (file_at rows s) f) (files rows) e in
      (w.0, (says-same-file (file_at rows r) f).holds w.1)

  -- rows differ in their first four numbers: rows of one file are one
  pub row_same : RowsSound rows → (r s : ℕ) → r < files rows → s < files rows → file_at rows r ≡ file_at rows s → r ≡ s
  row_same k r s l m e =
      ⊎_elim (λ b. absurd (k.differ s r m b e))
      (λ c. ⊎_elim (λ b. absurd (k.differ r s l b (sym e))) (λ d. omega arith) (lt-or-le s r))
      (lt-or-le r s)

  -- a row is found by its file
  pub row_is : RowsSound rows → (r : ℕ) → r < files rows → row_of rows (file_at rows r) ≡ found r
  unfolding row_of
  row_is k r l =
      first-only (λ s. same_file (file_at rows s) (file_at rows r)) (files rows) r l
      ((says-same-file (file_at rows r) (file_at rows r)).shown refl)
      (λ s m h. row_same k s r m l ((says-same-file (file_at rows s) (file_at rows r)).holds h))

-- ---- where files begin
module _ (rows : List ℕ) where
  -- the next file begins where this one's capacity ends
  pub start-more : (r : ℕ) → start_of rows (suc r) ≡ start_of rows r + capacity_at rows r
  unfolding start_of sum
  start-more r = refl

  pub start-grows : (r s : ℕ) → r ≤ s → start_of rows r ≤ start_of rows s
  unfolding start_of
  start-grows r s l = sum-grows (capacity_at rows) r s l

  -- a block within a file's capacity is within the store
  pub start-in : (r b : ℕ) → r < files rows → b < capacity_at rows r → start_of rows r + b < store_blocks rows
  unfolding store_blocks
  start-in r b l m = omega (arith, start-more r, start-grows (suc r) (files rows) l)

  -- a place within the capacity of two rows: they are one
  pub in-row-only : (r s g : ℕ) → start_of rows r ≤ g → g < start_of rows r + capacity_at rows r → start_of rows s ≤ g
      → g < start_of rows s + capacity_at rows s → r ≡ s
  in-row-only r s g a b c d =
      ⊎_elim (λ l. absurd (omega (arith, start-more r, start-grows (suc r) s l)))
      (λ m. ⊎_elim (λ l. absurd (omega (arith, start-more s, start-grows (suc s) r l))) (λ l. omega arith) (lt-or-le s r))
      (lt-or-le r s)

-- ---- the place of a page
in-found : (rows : List ℕ) (b : ℕ) (o : Found) {g : ℕ} → place_in rows b o ≡ found g
    → (r : ℕ) × (o ≡ found r) × (b < blocks_at rows r) × (g ≡ start_of rows r + b)
unfolding place_in
in-found rows b (found r) e =
    let w = cond-found (ltb b (blocks_at rows r)) e in
    (r, refl, ltb-true b (blocks_at rows r) w.0, sym w.1)
in-found rows b missing e = found-missing (sym e)

module _ (rows : List ℕ) (n : PageName) where
  -- a page with a place is a block of a file in the rows
  pub place_found : {g : ℕ} → place_of rows n ≡ found g
      → (r : ℕ) × (row_of rows n.file ≡ found r) × (n.block.0 < blocks_at rows r) × (g ≡ start_of rows r + n.block.0)
  unfolding place_of
  place_found e = in-found rows n.block.0 (row_of rows n.file) e

  -- a block of a file has its place
  pub place_is : {r : ℕ} → row_of rows n.file ≡ found r → n.block.0 < blocks_at rows r
      → place_of rows n ≡ found (start_of rows r + n.block.0)
  unfolding place_of place_in
  place_is {r} e l = rw (e, lt-ltb n.block.0 (blocks_at rows r) l)

  -- a block behind the file's last
  pub place-behind : {r : ℕ} → row_of rows n.file ≡ found r → blocks_at rows r ≤ n.block.0 → place_of rows n ≡ missing
  unfolding place_of place_in
  place-behind {r} e l = rw (e, le-ltb n.block.0 (blocks_at rows r) l)

module _ (rows : List ℕ) (k : RowsSound rows) where
  -- the row of a place, with the block within the capacity
  pub place-room : (n : PageName) {g : ℕ} → place_of rows n ≡ found g
      → (r : ℕ) × (r < files rows) × (file_at rows r ≡ n.file) × (n.block.0 < capacity_at rows r)
      × (g ≡ start_of rows r + n.block.0)
  place-room n e =
      let p = place_found rows n e in
      let w = row-found rows n.file p.1 in
      (p.0, w.0, w.1, omega (arith, k.fill p.0 w.0), p.3)

  -- a place is within the store
  pub place-in : (n : PageName) {g : ℕ} → place_of rows n ≡ found g → g < store_blocks rows
  place-in n e =
      let p = place-room n e in
      omega (arith, start-in rows p.0 n.block.0 p.1 p.3)

  -- two names have one place only if equal
  pub place_same : (n m : PageName) {g : ℕ} → place_of rows n ≡ found g → place_of rows m ≡ found g → n ≡ m
  place_same n m {g} d e =
      let p = place-room n d in
      let q = place-room m e in
      let a : p.0 ≡ q.0 = in-row-only rows p.0 q.0 g (omega arith) (omega arith) (omega arith) (omega arith) in
      let f : n.file ≡ m.file = sym p.2 ∙ ap (file_at rows) a ∙ q.2 in
      let b : n.block.0 ≡ m.block.0 = omega (arith, ap (start_of rows) a) in
      (says-same-name n m).holds (and-true ((says-same-file n.file m.file).shown f) (eq-eqb n.block.0 m.block.0 b))

  -- each block of a file is a page, with a name
  pub place-row : (r b : ℕ) → r < files rows → b < blocks_at rows r
      → (n : PageName) × (place_of rows n ≡ found (start_of rows r + b)) × (n.file ≡ file_at rows r) × (n.block.0 ≡ b)
  place-row r b l m =
      let n : PageName = record { file = file_at rows r; block = record { 0 = b } } in
      (n, place_is rows n (row_is rows k r l) m, refl, refl)

-- ---- after another block count was set in row r
module _ (rows : List ℕ) (r b : ℕ) where
  pub length-set_blocks : length (set_blocks rows r b) ≡ length rows
  unfolding set_blocks
  length-set_blocks = length-set rows (r * row_words + blocks_word) b

  pub files-set : files (set_blocks rows r b) ≡ files rows
  unfolding files
  files-set = rw length-set_blocks

  -- another word than row r's block count
  word_kept : (i : ℕ) → i ≢ r * row_words + blocks_word → get_or (set_blocks rows r b) i 0 ≡ get_or rows i 0
  unfolding set_blocks
  word_kept i ne = get_or-set_other rows (r * row_words + blocks_word) i b 0 ne

  -- files, capacities and all other block counts stay
  pub file-set : (s : ℕ) → file_at (set_blocks rows r b) s ≡ file_at rows s
  unfolding file_at
  file-set s =
      let at = s * row_words in
      rw (
        word_kept at (omega arith),
        word_kept (at + 1) (omega arith),
        word_kept (at + 2) (omega arith),
        word_kept (at + 3) (omega arith),
      )

  pub capacity-set : (s : ℕ) → capacity_at (set_blocks rows r b) s ≡ capacity_at rows s
  unfolding capacity_at
  capacity-set s = word_kept (s * row_words + capacity_word) (omega arith)

  pub blocks-set : r < files rows → blocks_at (set_blocks rows r b) r ≡ b
  unfolding blocks_at set_blocks files
  blocks-set l = get_or-set_same rows (r * row_words + blocks_word) b 0 (omega arith)

  pub blocks-kept : (s : ℕ) → s ≢ r → blocks_at (set_blocks rows r b) s ≡ blocks_at rows s
  unfolding blocks_at
  blocks-kept s ne = word_kept (s * row_words + blocks_word) (omega arith)

  -- so files are found in the same rows, and begin at the same places
  pub row-set : (f : FileName) → row_of (set_blocks rows r b) f ≡ row_of rows f
  unfolding row_of
  row-set f =
      rw files-set
      (first-same (λ s. same_file (file_at (set_blocks rows r b) s) f) (λ s. same_file (file_at rows s) f) (files rows)
      (λ s l. ap (λ (g : FileName). same_file g f) (file-set s)))

  pub start-set : (s : ℕ) → start_of (set_blocks rows r b) s ≡ start_of rows s
  unfolding start_of
  start-set s = sum_same (capacity_at (set_blocks rows r b)) (capacity_at rows) s (λ i l. capacity-set i)

  pub store-set : store_blocks (set_blocks rows r b) ≡ store_blocks rows
  unfolding store_blocks
  store-set = rw files-set (start-set (files rows))

  -- the block count of a row: the new one or the old one
  blocks-now : (s : ℕ) → s < files rows
      → ((s ≡ r) × (blocks_at (set_blocks rows r b) s ≡ b)) ⊎ ((s ≢ r) × (blocks_at (set_blocks rows r b) s ≡ blocks_at rows s))
  blocks-now s l =
      ⊎_elim
      (λ e. inl (e, ap (blocks_at (set_blocks rows r b)) e ∙ blocks-set (omega arith)))
      (λ ne. inr (ne, blocks-kept s ne))
      (eq-or-ne s r)

  fill-set : b ≤ capacity_at rows r → RowsSound rows → (s : ℕ) → s < files rows
      → blocks_at (set_blocks rows r b) s ≤ capacity_at (set_blocks rows r b) s
  fill-set h k s l =
      ⊎_elim (λ p. omega (arith, capacity-set s, ap (capacity_at rows) p.0))
      (λ p. omega (arith, capacity-set s, k.fill s l))
      (blocks-now s l)

  -- rows stay sound under a count within the capacity
  pub rows-set : b ≤ capacity_at rows r → RowsSound rows → RowsSound (set_blocks rows r b)
  rows-set h k =
      record {
        whole = rw length-set_blocks k.whole;
        few = rw files-set k.few;
        room = rw store-set k.room;
        fork = λ s l. rw (file-set s) (k.fork s (rw files-set at l));
        fill = λ s l. fill-set h k s (rw files-set at l);
        differ = λ s t l m e. k.differ s t (rw files-set at l) m (sym (file-set t) ∙ e ∙ file-set s);
      }

module _ (rows : List ℕ) (r b : ℕ) (n : PageName) where
  -- a page of row s, by the row's new block count
  place-by : {s : ℕ} → row_of rows n.file ≡ found s → n.block.0 < blocks_at (set_blocks rows r b) s
      → place_of (set_blocks rows r b) n ≡ found (start_of rows s + n.block.0)
  place-by {s} e l =
      place_is (set_blocks rows r b) n (row-set rows r b n.file ∙ e) l
      ∙ ap (λ (x : ℕ). found (x + n.block.0)) (start-set rows r b s)

  -- the row and block of a place, by the row's new block count
  place-now : {g : ℕ} → place_of (set_blocks rows r b) n ≡ found g
      → (s : ℕ) × (row_of rows n.file ≡ found s) × (s < files rows) × (n.block.0 < blocks_at (set_blocks rows r b) s)
      × (g ≡ start_of rows s + n.block.0)
  place-now e =
      let p = place_found (set_blocks rows r b) n e in
      let q : row_of rows n.file ≡ found p.0 = sym (row-set rows r b n.file) ∙ p.1 in
      (p.0, q, (row-found rows n.file q).0, p.2, omega (arith, start-set rows r b p.0))

  -- a page that still is one has the place it had
  pub place_kept : {g : ℕ} → place_of rows n ≡ found g → (row_of rows n.file ≡ found r → n.block.0 < b)
      → place_of (set_blocks rows r b) n ≡ found g
  place_kept e h =
      let p = place_found rows n e in
      place-by p.1
      (⊎_elim (λ q. omega (arith, h (p.1 ∙ ap found q.0))) (λ q. omega arith)
      (blocks-now rows r b p.0 (row-found rows n.file p.1).0))
      ∙ ap found (sym p.3)

  -- a page that was one had the place it has
  pub place-back : {g : ℕ} → place_of (set_blocks rows r b) n ≡ found g
      → (row_of rows n.file ≡ found r → n.block.0 < blocks_at rows r) → place_of rows n ≡ found g
  place-back e h =
      let p = place-now e in
      place_is rows n p.1
      (⊎_elim (λ q. omega (arith, ap (blocks_at rows) q.0, h (p.1 ∙ ap found q.0))) (λ q. omega arith)
      (blocks-now rows r b p.0 p.2))
      ∙ ap found (sym p.4)

  -- a page of another file
  pub place_other : (row_of rows n.file ≡ found r → ⊥) → place_of (set_blocks rows r b) n ≡ place_of rows n
  unfolding place_of place_in
  place_other ne = rw (row-set rows r b n.file) (go (row_of rows n.file) ne)
    where
      go : (o : Found) → (o ≡ found r → ⊥) → place_in (set_blocks rows r b) n.block.0 o ≡ place_in rows n.block.0 o
      go (found s) ne = rw (blocks-kept rows r b s (λ e. ne (ap found e)), start-set rows r b s)
      go missing ne = refl

  -- a page of the file that has no block left
  pub place-gone : b ≡ 0 → row_of rows n.file ≡ found r → place_of (set_blocks rows r b) n ≡ missing
  place-gone z e =
      place-behind (set_blocks rows r b) n (row-set rows r b n.file ∙ e)
      (omega (arith, blocks-set rows r b (row-found rows n.file e).0))

  -- a page after row r got one block more: one of before, or the new block
  pub place-new : b ≡ suc (blocks_at rows r) → {g : ℕ} → place_of (set_blocks rows r b) n ≡ found g
      → (place_of rows n ≡ found g)
      ⊎ ((n.file ≡ file_at rows r) × (n.block.0 ≡ blocks_at rows r) × (g ≡ start_of rows r + blocks_at rows r))
  place-new z e =
      let p = place-now e in
      let f = (row-found rows n.file p.1).1 in
      ⊎_elim (λ l. inl (place-back e (λ h. l)))
      (λ l.
      ⊎_elim
      (λ q. inr (sym f ∙ ap (file_at rows) q.0, omega arith, omega (arith, ap (start_of rows) q.0)))
      (λ q. inl (place-back e (λ h. absurd (q.0 (found-same (sym p.1 ∙ h))))))
      (blocks-now rows r b p.0 p.2))
      (lt-or-le n.block.0 (blocks_at rows r))
