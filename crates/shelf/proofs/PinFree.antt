-- A pin that takes the top of the free list agrees with the shelf.
use Prim.Native.Nat.{ℕ, ◌<◌}
use mathlib.Core.Path.{◌≡◌, refl, sym, subst}
use mathlib.Core.Bool.{false}
use mathlib.Core.List.{List, [], ◌∷◌}
use Rattle.laws.specs.First.{found}
use Rattle.laws.proofs.Tests.{never}
use Rattle.buftag.specs.declared.link.Link.TheVariants.{To}
use Rattle.std.specs.Prelude.{None}
use Rattle.buftag.specs.declared.name.PageName.{PageName}
use Rattle.buftag.specs.Link.{link_of}
use Rattle.bufmodel.specs.Rows.{store_blocks, place_of}
use Rattle.bufmodel.specs.Memory.{Memory, with_counts}
use Rattle.bufmodel.specs.Counts.{max_holders, set_count}
use Rattle.bufmodel.specs.Moves.{load_at, load}
use Rattle.bufmodel.specs.Pin.{held_in}
use Rattle.bufmodel.specs.Step.{Pin}
use Rattle.bufmodel.proofs.HeldLaws.{empty-unpinned}
use Rattle.bufmodel.proofs.FreeListLaws.{top-empty}
use Rattle.bufmodel.proofs.LoadLaws.{loaded_for, load_is, load-buffers}
use Rattle.shelf.specs.Shelf.{refuses}
use Rattle.shelf.specs.Ledger.{buffer_in, wrote_in}
use Rattle.shelf.proofs.Kept.{View, shelf_of, ledger_of, Kept}
use Rattle.shelf.proofs.Accepted.{Accepted}
use Rattle.shelf.proofs.HighestLaws.{highest-still}
use Rattle.shelf.proofs.NamePage.{held-nobody}
use Rattle.shelf.proofs.LoadKept.{kept-load}
use Rattle.shelf.proofs.PinAccepted.{PinAccepted, new-rule, pin-accepted}

module _ (m : Memory) (v : View) (k : Kept m v) (o : ℕ) (few : o < max_holders) (n : PageName) (i g : ℕ) (new : held_in m n ≡ None)
    (top : link_of m.control.top ≡ To i) (place : place_of m.rows n ≡ found g) (fine : v.bad g ≡ false) where
  abbrev answer : List ℕ
  answer = i ∷ 0 ∷ 0 ∷ 0 ∷ []

  free_new : refuses (shelf_of m v) (Pin o n) ≡ 0 → PinAccepted m v o n g answer (loaded_for m o n i g)
  unfolding load_at buffer_in wrote_in
  free_new number =
      let t = top-empty m k.good i top in
      record {
        number = number;
        words = (i, 0, 0, 0, refl);
        rule = new-rule m v k g (held-nobody m k.good n g place new) i t.0 (empty-unpinned m i t.1) _ _;
        many = sym (load-buffers m n i g);
        wide = refl;
        cap = refl;
        rows = refl;
        inserted = refl;
        flushed = highest-still (ledger_of m v) m.control.flushed (store_blocks m.rows);
        kept = kept-load m v k o few n i g top place new fine;
        others = λ h l e. refl;
        long = refl;
        stored = λ h t. never t refl;
      }

  -- the pin as the program makes it, accepted
  pub free-accepted : refuses (shelf_of m v) (Pin o n) ≡ 0
      → Accepted m v (Pin o n) (i ∷ 0 ∷ 0 ∷ 0 ∷ []) [] (with_counts (set_count m.counts i o 1) (load m n))
  free-accepted number =
      let e = load_is m n i g top place in
      subst (λ (x : Memory). Accepted m v (Pin o n) answer [] (with_counts (set_count m.counts i o 1) x)) (sym e)
      (pin-accepted m v o n g answer (loaded_for m o n i g) place (free_new number))
