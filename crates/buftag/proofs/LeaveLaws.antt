-- A buffer leaves its bucket as the code does it: that is the chain entry's going, where the chains are sound.
use mathlib.Core.Path.{◌≡◌, refl, sym, ◌∙◌, ap}
use mathlib.Core.Bool.{Bool, true, false, cond}
use mathlib.Core.Logic.{◌≢◌, ⊎_elim}
use mathlib.Core.List.{List, map}
use Prim.Native.Nat.{ℕ, zero, suc, ◌≤◌, ◌<◌}
use native.Mathlib.Nat.{not-suc-le-zero}
use native.Mathlib.Omega.{arith}
use lib.IntN.{ℤ, pos}
use lib.ListN.{length, set, length-set, length-map}
use lib.Seq.{get_or-set_same, get_or-set_other, ext_get_or}
use borrow.Author.Tests.{eqb-false}
use Rattle.laws.specs.Times.{times}
use Rattle.laws.proofs.Tests.{true-or-false, eq-or-ne, never}
use Rattle.laws.proofs.Times.{times-here, times-later, present}
use Rattle.std.specs.Prelude.{Some}
use Rattle.buftag.specs.declared.link.Link.{Link}
use Rattle.buftag.specs.declared.link.Link.TheVariants.{To}
use Rattle.buftag.specs.Name.{bucket_of}
use Rattle.buftag.specs.Names.{name_at}
use Rattle.buftag.specs.Link.{none, number_at, link_at, is_to, Links, done, step}
use Rattle.buftag.specs.Lookup.{used}
use Rattle.buftag.specs.Chain.{ChainsBy, ChainsSound}
use Rattle.buftag.specs.Chain.{past, unchain_heads, unchain_chain, prev, past_at, past_heads, past_chain, leave_chain}
use Rattle.buftag.proofs.LinkLaws.{is_to-true, to-is_to, To-same, end-to, links-in, links-fit, links-fresh}
use Rattle.buftag.proofs.NameLaws.{bucket-lt}
use Rattle.buftag.proofs.HoldsLaws.{in-its-bucket, stands-in, other-out}
use Rattle.buftag.proofs.UnchainLaws.{links-not-to, map-past}
use Rattle.buftag.proofs.LeaveSteps.{prev-hit, prev-step}

-- ---- which links of a list lead to i
module _ {ls : List ℤ} where
  -- the place that a link leads to is in its list
  links-leads : {l : Link} {xs : List ℕ} (i : ℕ) → Links ls l xs → l ≡ To i → 0 < times i xs
  links-leads i done e = end-to e
  links-leads i (step {i = j} {is = js} h r) e = let q : i ≡ j = cc in rw q (times-here j js)

  -- what a place's link leads to is in the list, and not its first place
  links-next : {l : Link} {xs : List ℕ} (k i : ℕ) → Links ls l xs → 0 < times k xs → link_at ls k ≡ To i → (0 < times i xs) × (l ≢ To i)
  unfolding times
  links-next k i done m e = absurd (not-suc-le-zero m)
  links-next k i (step {i = j} {is = js} h r) m e =
      let later = ⊎_elim (λ q. links-leads i r (ap (link_at ls) (sym q) ∙ e)) (λ q. (links-next k i r q e).0) (present k j js m) in
      let fresh = links-fresh (step {i = j} {is = js} h r) in
      (times-later i j js later, λ q. omega (arith, later, fresh, ap (λ (x : ℕ). times x js) (To-same q)))

  -- only one place's link leads to i
  links-before : {l : Link} {xs : List ℕ} (j k i : ℕ) → Links ls l xs → 0 < times j xs → 0 < times k xs → link_at ls j ≡ To i
      → link_at ls k ≡ To i → j ≡ k
  unfolding times
  links-before j k i done m n e f = absurd (not-suc-le-zero m)
  links-before j k i (step {i = x} {is = xs} h r) m n e f =
      ⊎_elim
      (λ p. ⊎_elim (λ q. p ∙ sym q) (λ q. absurd ((links-next k i r q f).1 (ap (link_at ls) (sym p) ∙ e))) (present k x xs n))
      (λ p.
      ⊎_elim (λ q. absurd ((links-next j i r p e).1 (ap (link_at ls) (sym q) ∙ f))) (λ q. links-before j k i r p q e f) (present k x xs n))
      (present j x xs m)

-- ---- the links led past i
module _ (ls : List ℤ) (i : ℕ) (own : ℤ) where
  past-at : (t : Bool) (k : ℕ) → k < length ls → is_to i (link_at ls k) ≡ t → cond t own (number_at ls k) ≡ number_at (map (past i own) ls) k
  past-at t k h e = sym (map-past ls i own k h ∙ ap (λ (s : Bool). cond s own (number_at ls k)) e)

  -- where no link leads to i, none changes
  past-none : ((k : ℕ) → k < length ls → is_to i (link_at ls k) ≡ false) → ls ≡ map (past i own) ls
  past-none f =
      ext_get_or (pos 0) ls (map (past i own) ls) (sym (length-map ls (past i own))) (λ k h. past-at false k h (f k h))

  -- where only the one at p does, that alone changes
  past_one : (p : ℕ) → p < length ls → is_to i (link_at ls p) ≡ true
      → ((k : ℕ) → k < length ls → is_to i (link_at ls k) ≡ true → k ≡ p) → set ls p own ≡ map (past i own) ls
  past_one p w e only =
      ext_get_or (pos 0) (set ls p own) (map (past i own) ls) (length-set ls p own ∙ sym (length-map ls (past i own)))
      (λ k v.
      let h : k < length ls = rw length-set at v in
      ⊎_elim
      (λ t. rw (only k h t) (get_or-set_same ls p own (pos 0) w ∙ past-at true p w e))
      (λ t. get_or-set_other ls p k own (pos 0) (λ q. never (rw q e) t) ∙ past-at false k h t)
      (true-or-false (is_to i (link_at ls k))))

-- ---- the search for the place before i
module _ (chain : List ℤ) (i : ℕ) where
  -- in a list that i is in, not in front, it finds the place whose link leads to i
  prev-finds : (n : ℕ) {l : Link} {xs : List ℕ} → Links chain l xs → length xs ≤ n → 0 < times i xs → is_to i l ≡ false
      → (p : ℕ) × (prev chain i n l ≡ Some p) × (0 < times p xs) × (link_at chain p ≡ To i)
  unfolding times
  prev-finds n done f m e = absurd (not-suc-le-zero m)
  prev-finds zero (step h r) f m e = absurd (omega arith)
  prev-finds (suc n) (step {i = j} {is = js} h r) f m e =
      ⊎_elim
      (λ t. (j, prev-hit chain i (suc n) j (omega arith) h t, times-here j js, is_to-true i _ t))
      (λ t.
      let rest : 0 < times i js = ⊎_elim (λ q. absurd (eqb-false j i e (sym q))) (λ q. q) (present i j js m) in
      let s = prev-finds n r (omega arith) rest t in
      (s.0, prev-step chain i n j h t ∙ s.1, times-later s.0 j js s.2, s.3))
      (true-or-false (is_to i (link_at chain j)))

-- ---- a buffer leaves its home
module _ {words : List ℕ} {home : ℕ → ℕ} {heads chain : List ℤ} (sound : ChainsBy words home heads chain)
    (below : (k : ℕ) → home k < length heads) (i : ℕ) where
  -- no other bucket's head leads to i
  head-not : (c : ℕ) → c < length heads → c ≢ home i → is_to i (link_at heads c) ≡ false
  head-not c w ne =
      let s = (sound.each c w).linked in
      links-not-to i s (other-out sound w s i ne)

  -- the heads
  leave-heads : past_heads heads chain (home i) i ≡ unchain_heads heads chain i
  unfolding past_heads unchain_heads
  leave-heads =
      ⊎_elim
      (λ t.
      rw t
      (past_one heads i (number_at chain i) (home i) (below i) t
      (λ c w e. ⊎_elim (λ q. q) (λ ne. never e (head-not c w ne)) (eq-or-ne c (home i)))))
      (λ t.
      rw t
      (past-none heads i (number_at chain i)
      (λ c w. ⊎_elim (λ q. rw q t) (λ ne. head-not c w ne) (eq-or-ne c (home i)))))
      (true-or-false (is_to i (link_at heads (home i))))

  -- with its home's list xs
  module _ {xs : List ℕ} (r : Links chain (link_at heads (home i)) xs) where
    -- a place whose link leads to i is in the list
    leads-in : (k : ℕ) → k < length chain → link_at chain k ≡ To i → 0 < times k xs
    leads-in k w e =
        let s = (sound.each (home k) (below k)).linked in
        ⊎_elim
        (λ u.
        let m = (links-next k i s (stands-in sound (below k) s k w u refl) e).0 in
        stands-in sound (below i) r k w u (sym (in-its-bucket sound (below k) s i m)))
        (λ u. end-to (sym (sound.idle k w u) ∙ e))
        (true-or-false (used words k))

    -- the chain, where the head leads to i, and where another link does
    chain-by-head : is_to i (link_at heads (home i)) ≡ true → chain ≡ map (past i (number_at chain i)) chain
    chain-by-head t =
        past-none chain i (number_at chain i)
        (λ k w.
        ⊎_elim
        (λ e.
        let q = is_to-true i (link_at chain k) e in
        absurd ((links-next k i r (leads-in k w q) q).1 (is_to-true i (link_at heads (home i)) t)))
        (λ e. e)
        (true-or-false (is_to i (link_at chain k))))

    chain-by-link : 0 < times i xs → is_to i (link_at heads (home i)) ≡ false
        → past_at chain i (prev chain i (length chain) (link_at heads (home i))) ≡ map (past i (number_at chain i)) chain
    chain-by-link m t =
        let s = prev-finds chain i (length chain) r (links-fit r) m t in
        let p = s.0 in
        rw s.1
        (past_one chain i (number_at chain i) p (links-in r p s.2) (to-is_to i _ s.3)
        (λ k w e.
        let q = is_to-true i (link_at chain k) e in
        links-before k p i r (leads-in k w q) s.2 q s.3))

    past-chain : 0 < times i xs → past_chain heads chain (home i) i ≡ map (past i (number_at chain i)) chain
    unfolding past_chain
    past-chain m =
        ⊎_elim (λ t. rw t (chain-by-head t)) (λ t. rw t (chain-by-link m t)) (true-or-false (is_to i (link_at heads (home i))))

    leave-chain : 0 < times i xs → leave_chain heads chain (home i) i ≡ unchain_chain chain i
    unfolding leave_chain unchain_chain
    leave-chain m = ap (λ (c : List ℤ). set c i none) (past-chain m)

  -- what the code does is the chain entry's going
  pub leave-by : i < length chain → used words i ≡ true
      → (past_heads heads chain (home i) i ≡ unchain_heads heads chain i) × (leave_chain heads chain (home i) i ≡ unchain_chain chain i)
  leave-by within u =
      let r = (sound.each (home i) (below i)).linked in
      (leave-heads, leave-chain r (stands-in sound (below i) r i within u refl))

-- where a buffer's home is the bucket that its name falls in
pub leave-is : (words names : List ℕ) (heads chain : List ℤ) (i : ℕ) → i < length chain → 0 < length heads
    → ChainsSound words names heads chain → used words i ≡ true → let b = bucket_of (name_at names i) (length heads) in
    (past_heads heads chain b i ≡ unchain_heads heads chain i) × (leave_chain heads chain b i ≡ unchain_chain chain i)
leave-is words names heads chain i within some sound u =
    leave-by sound (λ k. bucket-lt (name_at names k) (length heads) some) i within u
