-- What the code of the pass over the buffers shows, put together.
use Prim.Native.Nat.{ℕ, suc, ◌+◌, ◌*◌, ◌%◌, ◌≤◌, ◌<◌}
use native.Mathlib.Omega.{arith}
use mathlib.Core.Path.{◌≡◌, ap, sym, ◌∙◌}
use mathlib.Core.Bool.{Bool, true, false}
use mathlib.Core.List.{List}
use lib.Dec.{ltb}
use lib.IntN.{ℤ}
use lib.ListN.{length, get_or}
use borrow.Author.Tests.{ltb-true, ltb-false}
use Rattle.laws.specs.First.{found, missing}
use Rattle.buftag.specs.declared.name.FileName.{FileName}
use Rattle.buftag.specs.declared.name.PageName.{PageName}
use Rattle.bufhash.specs.Bytes.{word_bytes}
use Rattle.bufhash.specs.Fnv.{fnv, fnv_start}
use Rattle.buftag.specs.Name.{file_bytes, bucket_of}
use Rattle.buftag.specs.Names.{name_at}
use Rattle.buftag.specs.Link.{link_of, number_at}
use Rattle.buftag.specs.Check.{is_first, finds_itself}
use Rattle.buftag.proofs.NameLaws.{hash-continued}
use Rattle.bufmodel.specs.Rows.{row_words, files, blocks_at, store_blocks, row_of, place_of, place_in}
use Rattle.bufmodel.specs.Sizes.{max_files, max_blocks, sound_rows}
use Rattle.bufmodel.proofs.RowsLaws.{start-more, start-grows, row-found, place_is, place-behind}
use Rattle.bufmodel.proofs.SizesLaws.{rows-say}
use Rattle.bufbooks.specs.Hashes.{Hashed}
use Rattle.bufbooks.specs.Buffers.{held_test}

-- ---- the row of a buffer's file: within the rows, and one of few; its file has few blocks
module _ (rows : List ℕ) (f : FileName) {r : ℕ} (e : found r ≡ row_of rows f) where
  pub row-inside : r * row_words + row_words ≤ length rows
  unfolding files
  row-inside = omega (arith, (row-found rows f (sym e)).0)

  module _ (sound : sound_rows rows ≡ true) where
    pub row-low : r < max_files
    row-low = omega (arith, (row-found rows f (sym e)).0, ((rows-say rows).holds sound).few)

    pub block-low : {b : ℕ} → ltb b (blocks_at rows r) ≡ true → b < max_blocks
    unfolding store_blocks
    block-low {b} h =
        let k = (rows-say rows).holds sound in
        let l = (row-found rows f (sym e)).0 in
        omega (
          arith,
          ltb-true b (blocks_at rows r) h,
          k.fill r l,
          k.room,
          start-more rows r,
          start-grows rows (suc r) (files rows) l,
        )

-- ---- the look-up of a buffer's name n, by what the code looks at
module _ (names : List ℕ) (heads chain : List ℤ) (rows : List ℕ) (i : ℕ) {n : PageName} (named : n ≡ name_at names i) where
  pub held-nowhere : missing ≡ row_of rows n.file → false ≡ held_test names heads chain rows i
  unfolding held_test place_of place_in
  held-nowhere e = rw (sym (e ∙ ap (λ (x : PageName). row_of rows x.file) named))

  module _ {r : ℕ} (e : found r ≡ row_of rows n.file) where
    its-row : row_of rows (name_at names i).file ≡ found r
    its-row = sym (e ∙ ap (λ (x : PageName). row_of rows x.file) named)

    below-is : ltb n.block.0 (blocks_at rows r) ≡ ltb (name_at names i).block.0 (blocks_at rows r)
    below-is = ap (λ (x : PageName). ltb x.block.0 (blocks_at rows r)) named

    pub held-behind : ltb n.block.0 (blocks_at rows r) ≡ false → false ≡ held_test names heads chain rows i
    unfolding held_test
    held-behind h = rw (place-behind rows (name_at names i) its-row (ltb-false _ _ (sym below-is ∙ h)))

    pub held-page : ltb n.block.0 (blocks_at rows r) ≡ true → {t : Bool} → t ≡ finds_itself names heads chain i
        → t ≡ held_test names heads chain rows i
    unfolding held_test
    held-page h f = rw (place_is rows (name_at names i) its-row (ltb-true _ _ (sym below-is ∙ h)), sym f)

    -- the chain of the name's bucket, from the hash of its file's row
    pub held-first : (hashes : List ℕ) → Hashed rows hashes → {h b : ℕ} → h ≡ fnv (word_bytes n.block.0) (get_or hashes r 0)
        → b ≡ h % length heads → {z : ℤ} → z ≡ number_at heads b → {t : Bool} → t ≡ is_first chain names (link_of z) i
        → t ≡ finds_itself names heads chain i
    unfolding finds_itself bucket_of
    held-first hashes k {h} {b} q p {z} back {t} first =
        let w = row-found rows (name_at names i).file its-row in
        let start = k r w.0 ∙ ap (λ f. fnv (file_bytes f) fnv_start) w.1 in
        let whole = ap (λ (x : PageName). fnv (word_bytes x.block.0) (get_or hashes r 0)) named
        ∙ ap (fnv (word_bytes (name_at names i).block.0)) start ∙ hash-continued (name_at names i) in
        let bucket = p ∙ ap (λ (x : ℕ). x % length heads) (q ∙ whole) in
        first ∙ ap (λ (y : ℤ). is_first chain names (link_of y) i) (back ∙ ap (number_at heads) bucket)

pub ruleset held = (held-nowhere, held-behind)
