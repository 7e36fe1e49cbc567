-- A buffer's chain entry goes: the chains stay sound, and the other buckets' lists as they were.
use mathlib.Core.Path.{◌≡◌, refl, sym, ◌∙◌, ap, subst}
use mathlib.Core.Bool.{Bool, true, false, cond}
use mathlib.Core.Logic.{◌≢◌, ⊎_elim}
use mathlib.Core.List.{List, map}
use Prim.Native.Nat.{ℕ, ◌<◌}
use lib.IntN.{ℤ, pos}
use lib.ListN.{length, length-set, length-map}
use lib.Seq.{get_or-set_same, get_or-set_other}
use borrow.Author.Tests.{eq-eqb, ne_eqb}
use Rattle.laws.specs.Times.{times, without}
use Rattle.laws.proofs.Tests.{eq-or-ne}
use Rattle.laws.proofs.Sum.{ind-none}
use Rattle.laws.proofs.Times.{absent, without-self, without_other, times-gone, times-kept}
use Rattle.laws.proofs.Lists.{get_d-map-in}
use Rattle.buftag.specs.declared.link.Link.{Link}
use Rattle.buftag.specs.declared.link.Link.TheVariants.{End}
use Rattle.buftag.specs.Link.{none, number_at, link_of, link_at, is_to, Links, done, step, Holds}
use Rattle.buftag.specs.Lookup.{used}
use Rattle.buftag.specs.Chain.{in_bucket_by, ChainsBy, past, unchain_heads, unchain_chain}
use Rattle.buftag.proofs.LinkLaws.{links-once, links-fresh}
use Rattle.buftag.proofs.ChainLaws.{Apart, apart-once}

-- no list leads to a place that is not in it
pub links-not-to : {ls : List ℤ} {l : Link} {xs : List ℕ} (i : ℕ) → Links ls l xs → times i xs ≡ 0 → is_to i l ≡ false
links-not-to i done n = refl
links-not-to i (step {i = j} {is = js} h r) n = ne_eqb j i (λ e. (absent i j js n).0 (sym e))

-- ---- the links led past i
abbrev past_link : List ℤ → ℕ → Link → Link
past_link chain i l = cond (is_to i l) (link_at chain i) l

link-cond : (t : Bool) (x y : ℤ) → link_of (cond t x y) ≡ cond t (link_of x) (link_of y)
link-cond true x y = refl
link-cond false x y = refl

-- the number at a place, led past i
pub map-past : (ls : List ℤ) (i : ℕ) (own : ℤ) (k : ℕ) → k < length ls → number_at (map (past i own) ls) k ≡ past i own (number_at ls k)
map-past ls i own k h = get_d-map-in (past i own) ls k (pos 0) (pos 0) h

module _ (chain : List ℤ) (i : ℕ) where
  link-past : (ls : List ℤ) (k : ℕ) → k < length ls → link_at (map (past i (number_at chain i)) ls) k ≡ past_link chain i (link_at ls k)
  link-past ls k h = ap link_of (map-past ls i (number_at chain i) k h) ∙ link-cond (is_to i (link_at ls k)) (number_at chain i) (number_at ls k)

  -- a head afterwards, i's own link and another place's
  unchain-head : (heads : List ℤ) (c : ℕ) → c < length heads → link_at (unchain_heads heads chain i) c ≡ past_link chain i (link_at heads c)
  unfolding unchain_heads
  unchain-head heads c h = link-past heads c h

  unchain-own : i < length chain → link_at (unchain_chain chain i) i ≡ End
  unfolding unchain_chain
  unchain-own within = ap link_of (get_or-set_same (map (past i (number_at chain i)) chain) i none (pos 0) (rw length-map within))

  unchain-link : (k : ℕ) → k < length chain → k ≢ i → link_at (unchain_chain chain i) k ≡ past_link chain i (link_at chain k)
  unfolding unchain_chain
  unchain-link k h ne = ap link_of (get_or-set_other (map (past i (number_at chain i)) chain) i k none (pos 0) ne) ∙ link-past chain k h

  pub length-unchain : length (unchain_chain chain i) ≡ length chain
  unfolding unchain_chain
  length-unchain = simp (length-set, length-map)

  pub length-unchain-heads : (heads : List ℤ) → length (unchain_heads heads chain i) ≡ length heads
  unfolding unchain_heads
  length-unchain-heads heads = simp length-map

  -- a list that i is not in stays
  unchain-kept : {l : Link} {xs : List ℕ} → Links chain l xs → times i xs ≡ 0 → Links (unchain_chain chain i) l xs
  unchain-kept done n = done
  unchain-kept (step {i = j} {is = js} h r) n =
      let a = absent i j js n in
      step {i = j} {is = js} (rw length-unchain h)
      (rw (unchain-link j h (λ e. a.0 (sym e)), links-not-to i r a.1) (unchain-kept r a.1))

  -- a list loses i
  unchain-lost : {l : Link} {xs : List ℕ} → Links chain l xs → Links (unchain_chain chain i) (past_link chain i l) (without i xs)
  unfolding without
  unchain-lost done = done
  unchain-lost (step {i = j} {is = js} h r) =
      ⊎_elim
      (λ q.
      let fresh = links-fresh (step {i = j} {is = js} h r) in
      rw (eq-eqb j i q, q, without-self i js)
      (unchain-kept (subst (λ (x : ℕ). Links chain (link_at chain x) js) q r) (subst (λ (x : ℕ). times x js ≡ 0) q fresh)))
      (λ ne.
      rw (ne_eqb j i ne, without_other i j js (λ q. ne (sym q)))
      (step {i = j} {is = without i js} (rw length-unchain h) (rw (unchain-link j h ne) (unchain-lost r))))
      (eq-or-ne j i)

module _ {words words' : List ℕ} {home home' : ℕ → ℕ} {heads chain : List ℤ} {i : ℕ} (apart : Apart i words home words' home')
    (sound : ChainsBy words home heads chain) where
  unchain-each : used words' i ≡ false → (c : ℕ) → c < length heads
      → Holds (unchain_chain chain i) (link_at (unchain_heads heads chain i) c) (in_bucket_by words' home' c)
  unchain-each after c h =
      let s = sound.each c h in
      let away : in_bucket_by words' home' c i ≡ false = rw after in
      record {
        list = without i s.list;
        linked = rw (unchain-head chain i heads c h) (unchain-lost chain i s.linked);
        once = rw (length-unchain chain i) (apart-once apart sound h s.linked (without i s.list)
            (times-gone i s.list (links-once s.linked i) ∙ sym (ind-none away)) (λ k ne. times-kept i k s.list ne));
      }

  -- i's own link becomes −1, and an empty buffer's stays
  unchain-idle : i < length chain → (k : ℕ) → k < length chain → used words' k ≡ false → link_at (unchain_chain chain i) k ≡ End
  unchain-idle within k w e =
      ⊎_elim
      (λ q. rw q (unchain-own chain i within))
      (λ ne. unchain-link chain i k w ne ∙ ap (past_link chain i) (sound.idle k w (sym (apart.used k ne) ∙ e)))
      (eq-or-ne k i)

  -- a buffer leaves
  pub unchain-sound : i < length chain → used words' i ≡ false → ChainsBy words' home' (unchain_heads heads chain i) (unchain_chain chain i)
  unchain-sound within after =
      record {
        each = rw (length-unchain-heads chain i heads) (unchain-each after);
        idle = rw (length-unchain chain i) (unchain-idle within);
      }
