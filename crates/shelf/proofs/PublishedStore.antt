-- Blocks place by place: of a list with another block, and of the store after a page was written back.
use Prim.Native.Nat.{ℕ, ◌*◌, ◌<◌}
use mathlib.Core.Path.{◌≡◌, refl, sym, ap, ◌∙◌}
use mathlib.Core.Logic.{◌≢◌, ⊎_elim}
use mathlib.Core.Bool.{Bool, true, false, cond}
use mathlib.Core.List.{List}
use native.Mathlib.Omega.{arith}
use lib.ListN.{length}
use Rattle.laws.specs.First.{Found, found, missing}
use Rattle.laws.specs.Block.{block, put_block}
use Rattle.laws.proofs.Tests.{eq-or-ne, true-or-false}
use Rattle.laws.proofs.Block.{length-block, length-put_block, block-put-same, block-put-other}
use Rattle.buftag.specs.declared.name.PageName.{PageName}
use Rattle.bufmodel.specs.Word.{dirty}
use Rattle.bufmodel.specs.Checksum.{sealed}
use Rattle.bufmodel.specs.Rows.{store_blocks, place_of}
use Rattle.bufmodel.specs.Memory.{Memory, buffers, size, word_of, name_of, page_of}
use Rattle.bufmodel.specs.Moves.{put_at}
use Rattle.bufmodel.proofs.ChecksumLaws.{length-sealed}
use Rattle.bufmodel.proofs.SizesLaws.{sized-least}
use Rattle.bufmodel.proofs.RowsLaws.{place-in}
use Rattle.bufmodel.proofs.GoodLaws.{Good}
use Rattle.shelf.specs.Shelf.{with}
use Rattle.shelf.specs.Published.{put_in, backed}
use Rattle.shelf.proofs.WithLaws.{with-same, with-other}
use Rattle.shelf.proofs.SumsLaws.{goes-out}

-- the blocks of a list
abbrev pub blocks_in : ℕ → List ℕ → ℕ → List ℕ
blocks_in p xs j = block p j xs

pub put-with : (p n : ℕ) (ys xs : List ℕ) → length xs ≡ n * p → length ys ≡ p → (i : ℕ) → i < n → (j : ℕ)
    → block p j (put_block p i ys xs) ≡ with i ys (blocks_in p xs) j
put-with p n ys xs long own i l j =
    ⊎_elim
    (λ e. rw e (block-put-same p n ys xs long own i l ∙ sym (with-same i ys (blocks_in p xs))))
    (λ ne. block-put-other p n ys xs long own i l j ne ∙ sym (with-other i ys (blocks_in p xs) j ne))
    (eq-or-ne j i)

-- ---- a page put at its place, or not, as the pool and the statement say it
module _ (m : Memory) (page : List ℕ) where
  -- of the blocks before, none but the one at the same place is asked for
  put_same : (f : Found) (s t : ℕ → List ℕ) (g : ℕ) → s g ≡ t g → put_in m f page s g ≡ put_in m f page t g
  unfolding put_in
  put_same (found h) s t g e = ap (λ (x : List ℕ). with h page (λ j. x) g) e
  put_same missing s t g e = e

  put_other : (f : Found) (s : ℕ → List ℕ) (g : ℕ) → f ≢ found g → put_in m f page s g ≡ s g
  unfolding put_in
  put_other (found h) s g ne = with-other h page s g (λ e. ne (ap found (sym e)))
  put_other missing s g ne = refl

  module _ (k : Good m) (n : PageName) (own : length page ≡ size m) (store : List ℕ)
      (long : length store ≡ store_blocks m.rows * size m) where
    put-blocks : (f : Found) → place_of m.rows n ≡ f → (g : ℕ)
        → block (size m) g (put_at (size m) page store f) ≡ put_in m f page (blocks_in (size m) store) g
    unfolding put_at put_in
    put-blocks (found h) e g =
        put-with (size m) (store_blocks m.rows) page store long own h (place-in m.rows k.sizes.rows n e) g
    put-blocks missing e g = refl

    put-long : (f : Found) → place_of m.rows n ≡ f → length (put_at (size m) page store f) ≡ length store
    unfolding put_at
    put-long (found h) e =
        length-put_block (size m) (store_blocks m.rows) page store long own h (place-in m.rows k.sizes.rows n e)
    put-long missing e = refl

-- ---- buffer i's page is written back
module _ (m : Memory) (i : ℕ) where
  abbrev place : Found
  place = place_of m.rows (name_of m i)

  abbrev out : List ℕ
  out = sealed (name_of m i).block.0 (page_of m i)

  -- to a store, if the page is dirty
  abbrev pub back_store : Bool → List ℕ → List ℕ
  back_store d store = cond d (put_at (size m) out store place) store

  pub backed-same : (s t : ℕ → List ℕ) (g : ℕ) → s g ≡ t g → backed m i s g ≡ backed m i t g
  unfolding backed
  backed-same s t g e =
      ⊎_elim (λ d. rw d (put_same m _ place s t g e)) (λ d. rw d e) (true-or-false (dirty (word_of m i)))

  -- another place stays as it is
  pub backed-other : (s : ℕ → List ℕ) (g : ℕ) → (dirty (word_of m i) ≡ true → place ≢ found g) → backed m i s g ≡ s g
  unfolding backed
  backed-other s g ne =
      ⊎_elim (λ d. rw d (put_other m _ place s g (ne d))) (λ d. rw d refl) (true-or-false (dirty (word_of m i)))

  module _ (k : Good m) (l : i < buffers m) where
    out-long : length out ≡ size m
    out-long =
        let e = length-block (size m) (buffers m) i m.pool k.sizes.pool l in
        length-sealed (name_of m i).block.0 (page_of m i) (omega (arith, sized-least k.sizes)) ∙ e

    module _ (store : List ℕ) (long : length store ≡ store_blocks m.rows * size m) where
      pub back_long : (d : Bool) → length (back_store d store) ≡ length store
      back_long true = put-long m out k (name_of m i) out-long store long place refl
      back_long false = refl

      pub back-blocks : (g : ℕ) → block (size m) g (back_store (dirty (word_of m i)) store) ≡ backed m i (blocks_in (size m) store) g
      unfolding backed
      back-blocks g =
          let said = sym (goes-out (name_of m i).block.0 (page_of m i)) in
          let page = ap (λ (x : List ℕ). put_in m place x (blocks_in (size m) store) g) said in
          ⊎_elim
          (λ d. rw d (put-blocks m out k (name_of m i) out-long store long place refl g ∙ page))
          (λ d. rw d refl)
          (true-or-false (dirty (word_of m i)))
