-- The look-up answers the buffer that has the name, where the chains are sound and the names distinct.
use mathlib.Core.Path.{◌≡◌, refl, sym, ◌∙◌, ap}
use mathlib.Core.Bool.{Bool, true, ◌&&◌}
use mathlib.Core.Logic.{⊎_elim}
use mathlib.Core.List.{List}
use Prim.Native.Nat.{ℕ, ◌<◌}
use native.Mathlib.Omega.{arith}
use lib.IntN.{ℤ}
use lib.ListN.{length}
use Rattle.laws.proofs.Tests.{and_left, and_right, and-true, true-or-false, never}
use Rattle.laws.specs.First.{Found, found, missing}
use Rattle.laws.specs.Times.{times}
use Rattle.laws.proofs.First.{first-missing, first-only, first-none}
use Rattle.buftag.specs.declared.name.PageName.{PageName}
use Rattle.buftag.specs.Lookup.{Held}
use Rattle.std.specs.Prelude.{Some, None}
use Rattle.buftag.specs.Name.{bucket_of, same_name}
use Rattle.buftag.specs.Names.{name_at}
use Rattle.buftag.specs.Link.{link_at, Holds}
use Rattle.buftag.specs.Lookup.{used, held_of, held, walk, look_up}
use Rattle.buftag.specs.Chain.{in_bucket, ChainsSound, Distinct}
use Rattle.buftag.proofs.LinkLaws.{links-fit}
use Rattle.buftag.proofs.NameLaws.{says-same-name, bucket-lt}
use Rattle.buftag.proofs.HoldsLaws.{used-in, in-used, stands-in}
use Rattle.buftag.proofs.WalkLaws.{not_at, walk-hit, walk-miss}

-- ---- a name that no buffer has
-- the answer that none has it comes from a search that found none
nowhere-missing : (f : Found) → held_of f ≡ None → f ≡ missing
nowhere-missing (found i) e = not_at (sym e)
nowhere-missing missing e = refl

-- where the look-up answers that none has a name, no buffer in use has it
pub held-nowhere : (words names : List ℕ) (n : PageName) → held words names n ≡ None → (i : ℕ) → used words i ≡ true
    → name_at names i ≡ n → ⊥
unfolding held
held-nowhere words names n e i u q =
    never (and-true u ((says-same-name (name_at names i) n).shown q))
    (first-missing (λ k. used words k && same_name (name_at names k) n) (length words) (nowhere-missing _ e) i (used-in words i u))

-- ---- the look-up
module _ (words names : List ℕ) (heads chain : List ℤ) (n : PageName) (some : 0 < length heads) (len : length chain ≡ length words)
    (sound : ChainsSound words names heads chain) (distinct : Distinct words names) where
  has : ℕ → Bool
  has i = used words i && same_name (name_at names i) n

  has-name : (i : ℕ) → has i ≡ true → (used words i ≡ true) × (name_at names i ≡ n)
  unfolding has
  has-name i h = (
    and_left (used words i) (same_name (name_at names i) n) h,
    (says-same-name (name_at names i) n).holds (and_right (used words i) (same_name (name_at names i) n) h),
  )

  b : ℕ
  b = bucket_of n (length heads)

  list : Holds chain (link_at heads b) (in_bucket words names (length heads) b)
  unfolding b
  list = sound.each b (bucket-lt n (length heads) some)

  -- a buffer that has the name stands in the list of the name's bucket
  listed : (i : ℕ) → used words i ≡ true → name_at names i ≡ n → 0 < times i list.list
  unfolding b
  listed i u e =
      stands-in sound (bucket-lt n (length heads) some) list.linked i (omega (arith, used-in words i u)) u
      (ap (λ (m : PageName). bucket_of m (length heads)) e)

  go : (w : Held) → walk chain names n (length chain) (link_at heads b) ≡ w → w ≡ held words names n
  unfolding held has b
  go (Some j) e =
      let r = walk-hit chain names n (length chain) list.linked e in
      let u = in-used sound (bucket-lt n (length heads) some) list.linked j.0 r.0 in
      sym
      (ap held_of
      (first-only has (length words) j.0 (used-in words j.0 u) (and-true u ((says-same-name _ n).shown r.1)) (λ i l h.
      let q = has-name i h in distinct i j.0 q.0 u (q.1 ∙ sym r.1))))
  go None e =
      sym
      (ap held_of
      (first-none has (length words) (λ i l.
      ⊎_elim
      (λ h. let q = has-name i h in
      absurd (walk-miss chain names n (length chain) list.linked (links-fit list.linked) e i (listed i q.0 q.1) q.1))
      (λ h. h)
      (true-or-false (has i)))))

  -- the code's walk of the name's bucket answers what the definition does
  pub look-up-held : look_up heads chain names n ≡ held words names n
  unfolding look_up b
  look-up-held = go (walk chain names n (length chain) (link_at heads b)) refl
