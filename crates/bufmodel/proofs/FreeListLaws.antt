-- The free list: lists of links that are empty, lose their first place or gain one; the top of the free list.
use Prim.Native.Nat.{ℕ, suc, ◌<◌}
use mathlib.Core.Path.{◌≡◌, refl, sym, ap, ◌∙◌, subst}
use mathlib.Core.Bool.{Bool, true, false}
use mathlib.Core.Logic.{◌≢◌, ◌⊎◌, inl, inr, ⊎_elim}
use mathlib.Core.List.{List, [], ◌∷◌}
use native.Mathlib.Omega.{arith}
use lib.IntN.{ℤ}
use lib.ListN.{length, set, length-set}
use Rattle.laws.specs.Sum.{ind}
use Rattle.laws.specs.Times.{times}
use Rattle.laws.proofs.Tests.{eq-or-ne, never, true-or-false}
use Rattle.laws.proofs.Sum.{ind-one, ind-none}
use Rattle.laws.proofs.Times.{times-here, times-other, times-self}
use Rattle.buftag.specs.declared.link.Link.{Link}
use Rattle.buftag.specs.declared.link.Link.TheVariants.{To, End}
use Rattle.buftag.specs.Link.{link_of, link_at, Links, done, step, Holds}
use Rattle.buftag.proofs.LinkLaws.{links-kept, links-fresh, holds-pass, links-push}
use Rattle.bufmodel.specs.Memory.{Memory, buffers}
use Rattle.bufmodel.specs.Books.{empty_at}
use Rattle.bufmodel.proofs.GoodLaws.{Good}

-- ---- lists that begin, and lists that are empty
-- a list from a place on is that place, and the list behind it
links-to : {ls : List ℤ} {i : ℕ} {xs : List ℕ} → Links ls (To i) xs
    → (ys : List ℕ) × (xs ≡ i ∷ ys) × (i < length ls) × Links ls (link_at ls i) ys
links-to (step {is = is} l r) = (is, refl, l, r)

-- where a list starts it ends, or leads to a place
links-start : {ls : List ℤ} {l : Link} {xs : List ℕ} → Links ls l xs → (l ≡ End) ⊎ ((i : ℕ) × (l ≡ To i))
links-start done = inl refl
links-start (step {i = i} l r) = inr (i, refl)

links_end : {ls : List ℤ} {xs : List ℕ} → Links ls End xs → xs ≡ []
links_end done = refl

none_in : (k : ℕ) → times k [] ≡ 0
unfolding times
none_in k = refl

module _ {ls : List ℤ} {p : ℕ → Bool} where
  -- the first place of a list passes
  holds-first : {i : ℕ} → Holds ls (To i) p → (i < length ls) × (p i ≡ true)
  holds-first {i} h =
      let w = links-to h.linked in
      (w.2, holds-pass h i (rw w.1 (times-here i w.0)))

  -- where a list is empty, none passes
  holds-end : Holds ls End p → (k : ℕ) → k < length ls → p k ≡ false
  holds-end h k l =
      ⊎_elim (λ t. absurd (omega (arith, ind-one t, sym (h.once k l) ∙ ap (times k) (links_end h.linked) ∙ none_in k))) (λ f. f)
      (true-or-false (p k))

  -- a list without its first place
  pub holds-pop : {q : ℕ → Bool} (i : ℕ) (z : ℤ) → Holds ls (To i) p → q i ≡ false → ((k : ℕ) → k ≢ i → q k ≡ p k)
      → Holds (set ls i z) (link_at ls i) q
  holds-pop {q} i z h out same =
      let w = links-to h.linked in
      let fresh : times i w.0 ≡ 0 = links-fresh (subst (λ (xs : List ℕ). Links ls (To i) xs) w.1 h.linked) in
      record {
        list = w.0;
        linked = links-kept i z w.3 fresh;
        once = λ k b.
            ⊎_elim
            (λ e. rw e (fresh ∙ sym (ind-none out)))
            (λ ne.
            sym (times-other k i w.0 ne) ∙ ap (times k) (sym w.1) ∙ h.once k (rw length-set at b) ∙ ap ind (sym (same k ne)))
            (eq-or-ne k i);
      }

-- ---- a place that is not in a list, put before it
pub holds-push : {ls : List ℤ} {p q : ℕ → Bool} (i : ℕ) (z : ℤ) → i < length ls → Holds ls (link_of z) p → p i ≡ false → q i ≡ true
    → ((k : ℕ) → k ≢ i → q k ≡ p k) → Holds (set ls i z) (To i) q
holds-push {ls} {p} {q} i z l h out now same =
    let none : times i h.list ≡ 0 = h.once i l ∙ ind-none out in
    record {
      list = i ∷ h.list;
      linked = links-push i z l h.linked none;
      once = λ k b.
          ⊎_elim
          (λ e. rw e (times-self i h.list ∙ ap suc none ∙ sym (ind-one now)))
          (λ ne. times-other k i h.list ne ∙ h.once k (rw length-set at b) ∙ ap ind (sym (same k ne)))
          (eq-or-ne k i);
    }

-- ---- the top of the free list
module _ (m : Memory) (k : Good m) where
  -- it is a buffer, or the list is empty
  pub top-none : (link_of m.control.top ≡ End) ⊎ ((i : ℕ) × (link_of m.control.top ≡ To i))
  top-none = links-start k.books.free.linked

  -- the free list from its start on, where that is known
  pub free-from : {l : Link} → link_of m.control.top ≡ l → Holds m.free l (empty_at m)
  free-from e = subst (λ (l : Link). Holds m.free l (empty_at m)) e k.books.free

  -- if the list is empty, no buffer is
  pub top-end : link_of m.control.top ≡ End → (i : ℕ) → i < buffers m → empty_at m i ≡ false
  top-end e i l = holds-end (free-from e) i (omega (arith, k.sizes.free))

  -- its top is an empty buffer, so that it is empty if no buffer is
  pub top-empty : (i : ℕ) → link_of m.control.top ≡ To i → (i < buffers m) × (empty_at m i ≡ true)
  top-empty i e = let w = holds-first (free-from e) in (omega (arith, k.sizes.free, w.0), w.1)

  pub top-full : ((i : ℕ) → i < buffers m → empty_at m i ≡ false) → link_of m.control.top ≡ End
  top-full full = ⊎_elim (λ e. e) (λ t. let w = top-empty t.0 t.1 in never w.1 (full t.0 w.0)) top-none
