-- Laws of the relation between memory and ledger.
use Prim.Native.Nat.{ℕ, ◌+◌, ◌*◌, ◌<◌}
use mathlib.Core.Path.{◌≡◌, refl, sym, ap, ◌∙◌}
use mathlib.Core.Bool.{Bool, true, false, not, ◌&&◌, cond, false≢true}
use mathlib.Core.Logic.{◌≢◌, ◌⊎◌, inl, inr}
use mathlib.Core.List.{List}
use lib.ListN.{get_or}
use lib.Dec.{eqb}
use borrow.Author.Tests.{eqb-true, eq-eqb, ne_eqb, not-true}
use Rattle.laws.specs.First.{Found, found, missing, first}
use Rattle.laws.specs.Block.{block}
use Rattle.laws.specs.Says.{Says}
use Rattle.laws.specs.Sum.{ind, count}
use Rattle.laws.proofs.Tests.{and_left, and_right, and-true, never}
use Rattle.laws.proofs.First.{found-same, first_found, first-missing}
use Rattle.laws.proofs.Sum.{sum_same, count-nobody, any-count}
use Rattle.buftag.specs.declared.name.PageName.{PageName}
use Rattle.bufmodel.specs.Word.{pinned, empty}
use Rattle.bufmodel.specs.Position.{position}
use Rattle.bufmodel.specs.Checksum.{bare}
use Rattle.bufmodel.specs.Rows.{place_of}
use Rattle.bufmodel.specs.Memory.{Memory, buffers, size, word_of, name_of, page_of}
use Rattle.bufmodel.specs.Counts.{max_holders, count_at, has_pin, holders_of}
use Rattle.bufmodel.specs.Books.{empty_at}
use Rattle.bufmodel.proofs.GoodLaws.{Good}
use Rattle.bufmodel.proofs.RowsLaws.{place_same}
use Rattle.bufmodel.proofs.ChecksumLaws.{alike-position}
use Rattle.shelf.specs.Sums.{fails}
use Rattle.shelf.specs.Shelf.{pins_in, has_pins}
use Rattle.shelf.specs.Ledger.{is_place}
use Rattle.shelf.proofs.SumsLaws.{fails-not}
use Rattle.shelf.proofs.Kept.{View, shelf_of, Has, Nobody, Same, Kept}

-- ---- one place and no other
pub is_place-true : (f : Found) (g : ℕ) → is_place f g ≡ true → f ≡ found g
unfolding is_place
is_place-true (found h) g e = ap found (sym (eqb-true g h e))
is_place-true missing g e = absurd (false≢true e)

pub is_place-self : (g : ℕ) → is_place (found g) g ≡ true
unfolding is_place
is_place-self g = eq-eqb g g refl

pub is_place-other : (g h : ℕ) → h ≢ g → is_place (found g) h ≡ false
unfolding is_place
is_place-other g h ne = ne_eqb h g ne

-- ---- views with equal values
pub record Alike (v w : View) : Type 0 where
  pub bytes : (g : ℕ) → w.bytes g ≡ v.bytes g
  pub counts : (h g : ℕ) → w.counts h g ≡ v.counts h g
  pub holds : (b : ℕ) → w.holds b ≡ v.holds b
  pub bads : (g : ℕ) → w.bad g ≡ v.bad g
  pub marks : (g : ℕ) → w.dirty g ≡ v.dirty g
  pub last : (b : ℕ) → w.last b ≡ v.last b
  pub put : (g : ℕ) → w.put g ≡ v.put g

-- the relation goes by the values of a view
pub kept-alike : (m : Memory) (v w : View) → Alike v w → Kept m v → Kept m w
kept-alike m v w a k =
    record {
      good = k.good;
      words = k.words;
      same = λ i g h.
          let s = k.same i g h in
          record {
            bytes = ap bare (a.bytes g) ∙ s.bytes;
            counts = λ h l. a.counts h g ∙ s.counts h l;
            marked = a.marks g ∙ s.marked;
            last = a.last i ∙ s.last;
            clean = s.clean;
            fine = a.bads g ∙ s.fine;
          };
      unpinned = λ g x h l. a.counts h g ∙ k.unpinned g x h l;
      unmarked = λ g x. a.marks g ∙ k.unmarked g x;
      stored = λ n g e x. ap bare (a.bytes g) ∙ k.stored n g e x;
      passed = λ n g e. a.bads g ∙ k.passed n g e;
      known = λ g e. k.known g (sym (a.bads g) ∙ e);
      holds = λ i h. a.holds i ∙ k.holds i h;
      put = λ g e. k.put g (sym (a.put g) ∙ e);
    }

-- the page in the pool and the shelf's are at one position
pub same-position : {m : Memory} {v : View} {i g : ℕ} → Same m v i g → position (v.bytes g) ≡ position (page_of m i)
same-position {m} {v} {i} {g} s = alike-position (v.bytes g) (page_of m i) s.bytes

-- ---- which buffer has a page
module _ (m : Memory) (good : Good m) where
  -- one at most
  pub has_one : (i j g : ℕ) → Has m i g → Has m j g → i ≡ j
  unfolding empty_at empty
  has_one i j g x y =
      good.books.distinct i j (ap not x.full) (ap not y.full)
      (place_same m.rows good.sizes.rows (name_of m i) (name_of m j) x.place y.place)

  -- a buffer in use has its page
  pub has-page : (i : ℕ) → i < buffers m → empty_at m i ≡ false → (g : ℕ) × Has m i g
  has-page i h e = let p = good.books.page i h e in (p.0, record { below = h; full = e; place = p.1 })

  -- the page that a buffer has is one
  pub has-place : (i g h : ℕ) → Has m i g → Has m i h → g ≡ h
  has-place i g h x y = found-same (sym x.place ∙ y.place)

  -- some buffer has a page, or none
  has : ℕ → ℕ → Bool
  has g i = not (empty_at m i) && is_place (place_of m.rows (name_of m i)) g

  has-says : (g i : ℕ) → i < buffers m → Says (has g i) (Has m i g)
  unfolding has
  has-says g i h =
      record {
        holds = λ t.
            record {
              below = h;
              full = not-true _ (and_left (not (empty_at m i)) _ t);
              place = is_place-true (place_of m.rows (name_of m i)) g (and_right (not (empty_at m i)) _ t);
            };
        shown = λ x. and-true (ap not x.full) (ap (λ (f : Found). is_place f g) x.place ∙ is_place-self g);
      }

  pub some_or_none : (g : ℕ) → ((i : ℕ) × Has m i g) ⊎ Nobody m g
  some_or_none g = go (first (buffers m) (has g)) refl
    where
      go : (f : Found) → first (buffers m) (has g) ≡ f → ((i : ℕ) × Has m i g) ⊎ Nobody m g
      go (found i) e = let w = first_found (has g) (buffers m) e in inl (i, (has-says g i w.0).holds w.1)
      go missing e = inr (λ i x. never ((has-says g i x.below).shown x) (first-missing (has g) (buffers m) e i x.below))

-- ---- the pins of a page, and what a number holds
-- a page has pins exactly when its buffer has holders
pub pins-in : (counts : ℕ → ℕ → ℕ) (cs : List ℕ) (i g : ℕ) → ((h : ℕ) → h < max_holders → counts h g ≡ count_at cs i h)
    → pins_in counts g ≡ not (eqb (holders_of cs i) 0)
unfolding pins_in holders_of has_pin count
pins-in counts cs i g same =
    any-count (λ h. not (eqb (counts h g) 0)) max_holders
    ∙ ap (λ (c : ℕ). not (eqb c 0))
    (sum_same (λ h. ind (not (eqb (counts h g) 0))) (λ h. ind (not (eqb (count_at cs i h) 0))) max_holders
    (λ h l. ap (λ (c : ℕ). ind (not (eqb c 0))) (same h l)))

-- and none where all counts are 0
pub pins-none : (counts : ℕ → ℕ → ℕ) (g : ℕ) → ((h : ℕ) → h < max_holders → counts h g ≡ 0) → pins_in counts g ≡ false
unfolding pins_in
pins-none counts g zeros =
    any-count (λ h. not (eqb (counts h g) 0)) max_holders
    ∙ ap (λ (c : ℕ). not (eqb c 0)) (count-nobody _ max_holders (λ h l t. never t (ap not (eq-eqb (counts h g) 0 (zeros h l)))))

module _ (m : Memory) (v : View) (k : Kept m v) where
  -- a page has pins exactly when the buffer that has it is pinned
  pub pins-has : (i g : ℕ) → Has m i g → has_pins (shelf_of m v) g ≡ pinned (word_of m i)
  unfolding has_pins pinned
  pins-has i g h =
      pins-in v.counts m.counts i g (k.same i g h).counts
      ∙ ap (λ (c : ℕ). not (eqb c 0)) (sym (k.good.books.counts i h.below))

  pub pins-nobody : (g : ℕ) → Nobody m g → has_pins (shelf_of m v) g ≡ false
  unfolding has_pins
  pins-nobody g x = pins-none v.counts g (k.unpinned g x)

  -- the number of a pinned buffer holds its page, any other none
  pub holds-page : (i g : ℕ) → Has m i g → pinned (word_of m i) ≡ true → v.holds i ≡ found g
  holds-page i g x e =
      k.holds i x.below ∙ ap (λ (t : Bool). cond t (place_of m.rows (name_of m i)) missing) e ∙ x.place

  pub holds-none : (i : ℕ) → i < buffers m → pinned (word_of m i) ≡ false → v.holds i ≡ missing
  holds-none i l e = k.holds i l ∙ ap (λ (t : Bool). cond t (place_of m.rows (name_of m i)) missing) e

-- ---- bytes
module _ (m : Memory) (v : View) (k : Kept m v) where
  -- the page of a buffer in use is the shelf's
  pub page-held : (i g : ℕ) → i < buffers m → word_of m i ≢ 0 → place_of m.rows (name_of m i) ≡ found g
      → bare (page_of m i) ≡ bare (v.bytes g)
  unfolding empty_at empty
  page-held i g l ne e = sym (k.same i g (record { below = l; full = ne_eqb (word_of m i) 0 ne; place = e })).bytes

  -- and the holders' counts of it
  pub counts-held : (h i g : ℕ) → h < 64 → i < buffers m → word_of m i ≢ 0 → place_of m.rows (name_of m i) ≡ found g
      → get_or m.counts (i * 64 + h) 0 ≡ v.counts h g
  unfolding empty_at empty count_at
  counts-held h i g few l ne e = sym ((k.same i g (record { below = l; full = ne_eqb (word_of m i) 0 ne; place = e })).counts h few)

  -- a block fails its checksum exactly if the shelf counts it as bad
  pub sums_kept : (n : PageName) (g : ℕ) → place_of m.rows n ≡ found g
      → fails n.block.0 (block (size m) g m.store) ≡ v.bad g
  sums_kept n g e = fails-not n.block.0 (block (size m) g m.store) ∙ sym (k.passed n g e)
