-- What a look at the memory through a view shows of it, and that slices which no call has are those that were lent.
use mathlib.Core.Path.{◌≡◌, refl, ap, sym, ◌∙◌, subst}
use Prim.Native.Nat.{ℕ}
use mathlib.Core.List.{[]}
use Rattle.laws.specs.Block.{block}
use Rattle.buftag.specs.declared.name.PageName.{PageName}
use Rattle.buftag.specs.Lookup.{look_up}
use Rattle.bufmodel.specs.Checksum.{passes}
use Rattle.bufmodel.specs.declared.view.SlicesMut.{SlicesMut}
use Rattle.bufmodel.specs.Rows.{place_of}
use Rattle.bufmodel.specs.Memory.{Memory, size}
use Rattle.bufmodel.specs.View.{SameLoans}
use Rattle.bufmodel.specs.Outcome.{checked}
use Rattle.bufmodel.specs.Pin.{held_in}
use Rattle.bufmodel.proofs.GoodLaws.{Good}
use Rattle.bufmem.proofs.SeekLaws.{looked-up}

module _ {v m : Memory} (e : v ≡ m) where
  pub seen-good : Good m → Good v
  seen-good = subst Good (sym e)

  pub good-seen : Good v → Good m
  good-seen = subst Good e

  pub seen-checked : checked v [] ≡ checked m []
  seen-checked = ap (λ (x : Memory). checked x []) e

  pub seen-held : Good m → (n : PageName) → look_up v.heads v.chain v.names n ≡ held_in m n
  seen-held k n = looked-up v (seen-good k) n ∙ ap (λ (x : Memory). held_in x n) e

  pub seen-passes : (n : PageName) (g : ℕ)
      → passes n.block.0 (block (size v) g v.store) ≡ passes n.block.0 (block (size m) g m.store)
  seen-passes n g = ap (λ (x : Memory). passes n.block.0 (block (size x) g x.store)) e

  pub seen-place : (n : PageName) → place_of v.rows n ≡ place_of m.rows n
  seen-place n = ap (λ (x : Memory). place_of x.rows n) e

pub same-loans : (v : SlicesMut) → SameLoans v v
same-loans v = (refl, refl, refl, refl, refl, refl, refl, refl, refl)
