-- A buffer enters its bucket: the chains stay sound, and the other buckets' lists as they were.
use mathlib.Core.Path.{◌≡◌, refl, sym, ◌∙◌, ap, subst}
use mathlib.Core.Bool.{true, false}
use mathlib.Core.Logic.{◌≢◌, ⊎_elim}
use mathlib.Core.List.{List, ◌∷◌}
use Prim.Native.Nat.{ℕ, suc, ◌<◌}
use lib.IntN.{ℤ, pos}
use lib.ListN.{length, length-set}
use lib.Seq.{get_or-set_same, get_or-set_other}
use borrow.Author.Tests.{eq-eqb, ne_eqb}
use Rattle.laws.specs.Sum.{ind}
use Rattle.laws.specs.Times.{times}
use Rattle.laws.proofs.Tests.{and-true, eq-or-ne, never}
use Rattle.laws.proofs.Sum.{ind-one, ind-none}
use Rattle.laws.proofs.Times.{times-self, times-other}
use Rattle.buftag.specs.declared.link.Link.TheVariants.{End}
use Rattle.buftag.specs.Link.{number_at, link_of, link_at, Links, Holds}
use Rattle.buftag.specs.Lookup.{used}
use Rattle.buftag.specs.Chain.{in_bucket_by, ChainsBy, enter_heads, enter_chain}
use Rattle.buftag.proofs.LinkLaws.{links-kept, links-push}
use Rattle.buftag.proofs.HoldsLaws.{times-in, empty-out}

-- the memory afterwards differs from the memory before in buffer i alone: another buffer is in use as before, and has what it had
pub record Apart {A : Type 0} (i : ℕ) (words : List ℕ) (has : ℕ → A) (words' : List ℕ) (has' : ℕ → A) : Type 0 where
  pub used : (k : ℕ) → k ≢ i → used words' k ≡ used words k
  pub kept : (k : ℕ) → k ≢ i → has' k ≡ has k

-- and so it has what follows from that, as the home from the name
pub apart-map : {A B : Type 0} {i : ℕ} {words words' : List ℕ} {has has' : ℕ → A} (f : A → B) → Apart i words has words' has'
    → Apart i words (λ k. f (has k)) words' (λ k. f (has' k))
apart-map f apart = record { used = apart.used; kept = λ k ne. ap f (apart.kept k ne) }

module _ {words words' : List ℕ} {home home' : ℕ → ℕ} {heads chain : List ℤ} {i : ℕ} (apart : Apart i words home words' home')
    (sound : ChainsBy words home heads chain) where
  -- a list that holds buffer i as it should, and the others as before, holds exactly its bucket's buffers
  pub apart-once : {c : ℕ} {xs : List ℕ} → c < length heads → Links chain (link_at heads c) xs → (ys : List ℕ)
      → times i ys ≡ ind (in_bucket_by words' home' c i) → ((k : ℕ) → k ≢ i → times k ys ≡ times k xs)
      → (k : ℕ) → k < length chain → times k ys ≡ ind (in_bucket_by words' home' c k)
  apart-once h r ys self others k w =
      ⊎_elim
      (λ e. rw e self)
      (λ ne. rw (apart.used k ne, apart.kept k ne) (others k ne ∙ times-in sound h r k w))
      (eq-or-ne k i)

  module _ (within : i < length chain) (before : used words i ≡ false) (after : used words' i ≡ true) {b : ℕ} (own : home' i ≡ b) where
    -- the list of its own bucket, with it in front
    enter-own : b < length heads → Holds (enter_chain heads chain b i) (link_at (enter_heads heads b i) b) (in_bucket_by words' home' b)
    unfolding enter_heads enter_chain
    enter-own h =
        let s = sound.each b h in
        let out = empty-out sound h s.linked i before in
        record {
          list = i ∷ s.list;
          linked = rw (get_or-set_same heads b (pos i) (pos 0) h) (links-push i (number_at heads b) within s.linked out);
          once = rw length-set
              (apart-once h s.linked (i ∷ s.list)
              (times-self i s.list ∙ ap suc out ∙ sym (ind-one (and-true after (eq-eqb _ _ own))))
              (λ k ne. times-other k i s.list ne));
        }

    -- the list of another bucket, which is as it was
    enter-other : (c : ℕ) → c < length heads → c ≢ b
        → Holds (enter_chain heads chain b i) (link_at (enter_heads heads b i) c) (in_bucket_by words' home' c)
    unfolding enter_heads enter_chain
    enter-other c h ne =
        let s = sound.each c h in
        let out = empty-out sound h s.linked i before in
        let away : in_bucket_by words' home' c i ≡ false = rw (after, ne_eqb _ c (λ q. ne (sym q ∙ own))) in
        record {
          list = s.list;
          linked = rw (get_or-set_other heads b c (pos i) (pos 0) ne) (links-kept i (number_at heads b) s.linked out);
          once = rw length-set (apart-once h s.linked s.list (out ∙ sym (ind-none away)) (λ k ne. refl));
        }

    -- an empty buffer's link is as it was
    enter-idle : (k : ℕ) → k < length (enter_chain heads chain b i) → used words' k ≡ false → link_at (enter_chain heads chain b i) k ≡ End
    unfolding enter_chain
    enter-idle k w e =
        let ne : k ≢ i = λ q. never after (subst (λ (j : ℕ). used words' j ≡ false) q e) in
        ap link_of (get_or-set_other chain i k (number_at heads b) (pos 0) ne)
        ∙ sound.idle k (rw length-set at w) (sym (apart.used k ne) ∙ e)

    -- a buffer that was empty enters at the head of its home
    pub enter-sound : b < length heads → ChainsBy words' home' (enter_heads heads b i) (enter_chain heads chain b i)
    unfolding enter_heads
    enter-sound h =
        record {
          each = λ c l. ⊎_elim (λ q. rw q (enter-own h)) (λ ne. enter-other c (rw length-set at l) ne) (eq-or-ne c b);
          idle = enter-idle;
        }
