-- A pin of a page that no buffer has: the top of the free list takes it, or a victim.
use Prim.Native.Nat.{ℕ}
use mathlib.Core.Path.{◌≡◌, refl, sym, ap₂, ◌∙◌}
use mathlib.Core.Bool.{false}
use mathlib.Core.Logic.{⊎_elim}
use mathlib.Core.List.{List}
use Rattle.std.specs.Prelude.{Ok}
use Rattle.laws.specs.First.{found}
use Rattle.buftag.specs.declared.link.Link.{Link}
use Rattle.buftag.specs.declared.link.Link.TheVariants.{To, End}
use Rattle.buftag.specs.declared.name.PageName.{PageName}
use Rattle.buftag.specs.Link.{link_of}
use Rattle.buftag.proofs.TagLaws.{NotTo}
use Rattle.bufmodel.specs.Rows.{place_of}
use Rattle.bufmodel.specs.Memory.{Memory, cap_of, with_counts}
use Rattle.bufmodel.specs.Counts.{set_count}
use Rattle.bufmodel.specs.Sweep.{sweep_all}
use Rattle.bufmodel.specs.Moves.{load_at}
use Rattle.bufmodel.specs.Answer.{answer_at, pinned_of}
use Rattle.bufmodel.specs.Pin.{pin_free, pin_swept, pin_new}
use Rattle.bufmodel.proofs.GoodLaws.{Good}
use Rattle.bufmodel.proofs.FreeListLaws.{top-none}
use Rattle.bufmodel.proofs.LoadLaws.{load_is}
use Rattle.bufpin.specs.Victim.{loaded_at}

-- the free list is empty where its top leads to no buffer
pub top-ends : (m : Memory) → Good m → (l : Link) → l ≡ link_of m.control.top → NotTo l
    → link_of m.control.top ≡ End
top-ends m k l e tag =
    ⊎_elim
    (λ h. h)
    (λ h. absurd (tag h.0 (e ∙ h.1)))
    (top-none m k)

module _ (m : Memory) (h : ℕ) (n : PageName) where
  pub new-swept : link_of m.control.top ≡ End
      → pin_new m h n (link_of m.control.top) ≡ pin_swept m h n (sweep_all (cap_of m) m.states m.control.hand)
  unfolding pin_new
  new-swept e = rw e

  module _ (i : ℕ) (top : link_of m.control.top ≡ To i) where
    pub new-answer : Ok (loaded_at i false 0)
        ≡ pinned_of (pin_new m h n (link_of m.control.top))
    unfolding pin_new pin_free answer_at
    new-answer = rw top

    pub new-after : (g : ℕ) → place_of m.rows n ≡ found g → {o : Memory} → o ≡ load_at m n i g
        → {left : List ℕ} → left ≡ set_count m.counts i h 1
        → with_counts left o ≡ (pin_new m h n (link_of m.control.top)).after
    unfolding pin_new pin_free
    new-after g place e q =
        ap₂ (λ (cs : List ℕ) (x : Memory). with_counts cs x) q (e ∙ sym (load_is m n i g top place)) ∙ rw top refl
