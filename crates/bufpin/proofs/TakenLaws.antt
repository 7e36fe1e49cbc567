-- The victim of a sweep on its way: written back, released, and the page loaded in its place.
use Prim.Native.Nat.{ℕ, ◌<◌}
use mathlib.Core.Path.{◌≡◌, sym, ap, ap₂, ◌∙◌, subst}
use mathlib.Core.Bool.{true, false}
use mathlib.Core.List.{List}
use lib.ListN.{length, get_or}
use Rattle.laws.specs.First.{found}
use Rattle.buftag.specs.declared.name.PageName.{PageName}
use Rattle.bufmodel.specs.Word.{pins, empty, pinned}
use Rattle.bufmodel.specs.Rows.{place_of}
use Rattle.bufmodel.specs.Memory.{Memory, buffers, word_of, with_counts}
use Rattle.bufmodel.specs.Sizes.{sized}
use Rattle.bufmodel.specs.Books.{empty_at, sound}
use Rattle.bufmodel.specs.Moves.{write_back, release, load_at, load}
use Rattle.bufmodel.proofs.WordLaws.{unpinned-none}
use Rattle.bufmodel.proofs.GoodLaws.{Good, good_of}
use Rattle.bufmodel.proofs.ReleaseLaws.{release-buffers, release-top, release-good}
use Rattle.bufmodel.proofs.LoadLaws.{load_is}
use Rattle.bufpin.proofs.VictimBackLaws.{back-good, back_full, back-pins, back-buffers}

-- buffer i, in use and not pinned, of memory that passes the places 1 and 2
pub record Taken (m : Memory) (i : ℕ) : Type 0 where
  pub good : Good m
  pub below : i < buffers m
  pub full : empty_at m i ≡ false
  pub idle : pins (word_of m i) ≡ 0

-- as a pin asks it of the victim
pub taken-of : (m : Memory) (i : ℕ) → sized m ≡ true → sound m ≡ true → i < length m.states → empty (get_or m.states i 0) ≡ false
    → pinned (get_or m.states i 0) ≡ false
    → Taken m i
unfolding empty_at
taken-of m i sizes books below full idle =
    record { good = good_of m sizes books; below = below; full = full; idle = unpinned-none _ idle }

pub back-taken : (m : Memory) (i : ℕ) → Taken m i → {o : Memory} → o ≡ write_back m i → Taken o i
back-taken m i t e =
    let k = t.good in
    subst (λ (o : Memory). Taken o i) (sym e)
    (record {
      good = back-good m k i t.below t.full;
      below = rw (back-buffers m k i t.below t.full) t.below;
      full = back_full m k i t.below t.full;
      idle = back-pins m k i t.below t.full ∙ t.idle;
    })

pub release-taken : (m : Memory) (i : ℕ) → Taken m i → {o : Memory} → o ≡ release m i → Good o × (i < buffers o)
release-taken m i t e =
    subst (λ (o : Memory). Good o × (i < buffers o)) (sym e)
    (release-good m t.good i t.below t.full t.idle, rw (release-buffers m i) t.below)

-- the three moves together, and the counts that are left
pub load-taken : (m : Memory) (n : PageName) (i g : ℕ) → place_of m.rows n ≡ found g → {a b c : Memory} → a ≡ write_back m i
    → b ≡ release a i
    → c ≡ load_at b n i g
    → {counts left : List ℕ} → left ≡ counts
    → with_counts left c ≡ with_counts counts (load (release (write_back m i) i) n)
unfolding write_back release
load-taken m n i g place e f h q =
    ap₂ (λ (cs : List ℕ) (o : Memory). with_counts cs o) q
    (h ∙ ap (λ (o : Memory). load_at o n i g) (f ∙ ap (λ (o : Memory). release o i) e)
    ∙ sym (load_is (release (write_back m i) i) n i g (release-top (write_back m i) i) place))
