-- One byte, a piece of the input, and its end, case by case.
use Prim.Native.Nat.{ℕ, zero, suc, ◌+◌, ◌-◌, ◌*◌, ◌≤◌, ◌<◌}
use native.Mathlib.Omega.{arith}
use mathlib.Core.Path.{◌≡◌, refl, sym, ap, ◌∙◌}
use mathlib.Core.Logic.{◌≢◌, ◌⊎◌, inl, inr}
use mathlib.Core.Bool.{true, false, ◌&&◌, ◌||◌}
use mathlib.Core.List.{List, [], ◌∷◌}
use lib.ListN.{length, get_or, drop}
use lib.Dec.{leb, ltb}
use borrow.Author.Tests.{leb-true, ltb-true, ltb-false, eq-eqb, ne_eqb, le-leb, lt-leb, lt-ltb, le-ltb}
use Rattle.laws.proofs.Tests.{and_left, or-neither, true-or-false}
use Rattle.bufmodel.specs.Sizes.{max_blocks}
use Rattle.buftrace.specs.Input.{newline, is_digit}
use Rattle.buftrace.specs.Scan.{
  grown,
  Scan,
  max_lines,
  spoilt,
  ended,
  digit,
  stepped,
  fed,
  feds,
  last_line,
  closed,
  finished,
  broken,
}

pub one_more_is : (n : ℕ) → n + 1 ≡ suc n
one_more_is n = omega arith

pub digit-least : (b : ℕ) → is_digit b ≡ true → 48 ≤ b
unfolding is_digit
digit-least b e = leb-true 48 b (and_left (leb 48 b) (leb b 57) e)

-- the code's test
pub digit-test : (b : ℕ) → is_digit b ≡ (leb 48 b && leb b 57)
unfolding is_digit
digit-test b = refl

pub digit-none : (b : ℕ) → (ltb b 48 || ltb 57 b) ≡ true → is_digit b ≡ false
unfolding is_digit
digit-none b o = go (true-or-false (ltb b 48))
  where
    go : (ltb b 48 ≡ true) ⊎ (ltb b 48 ≡ false) → (leb 48 b && leb b 57) ≡ false
    go (inl l) = rw (lt-leb 48 b (ltb-true b 48 l)) refl
    go (inr l) = rw (le-leb 48 b (ltb-false b 48 l), lt-leb b 57 (ltb-true 57 b (rw (l) at o))) refl

pub digit-some : (b : ℕ) → (ltb b 48 || ltb 57 b) ≡ false → is_digit b ≡ true
unfolding is_digit
digit-some b o =
    let n = or-neither (ltb b 48) (ltb 57 b) o in
    rw (le-leb 48 b (ltb-false b 48 n.0), le-leb b 57 (ltb-false 57 b n.1)) refl

module _ (s : Scan) (b : ℕ) where
  pub stepped-past : s.line ≡ max_lines → stepped s b ≡ spoilt s
  unfolding stepped
  stepped-past e = rw (eq-eqb s.line max_lines e) refl

  pub stepped-end : s.line ≢ max_lines → b ≡ newline → stepped s b ≡ ended s
  unfolding stepped
  stepped-end n e = rw (ne_eqb s.line max_lines n, eq-eqb b newline e) refl

  pub stepped-digit : s.line ≢ max_lines → b ≢ newline → is_digit b ≡ true → stepped s b ≡ digit s b
  unfolding stepped
  stepped-digit n e d = rw (ne_eqb s.line max_lines n, ne_eqb b newline e, d) refl

  pub stepped-other : s.line ≢ max_lines → b ≢ newline → is_digit b ≡ false → stepped s b ≡ spoilt s
  unfolding stepped
  stepped-other n e d = rw (ne_eqb s.line max_lines n, ne_eqb b newline e, d) refl

  pub digit-grown : s.value * 10 + (b - 48) ≤ max_blocks → digit s b ≡ grown s (s.value * 10 + (b - 48))
  unfolding digit
  digit-grown l = rw (le-leb (s.value * 10 + (b - 48)) max_blocks l) refl

  pub digit-great : max_blocks < s.value * 10 + (b - 48) → digit s b ≡ spoilt s
  unfolding digit
  digit-great l = rw (lt-leb (s.value * 10 + (b - 48)) max_blocks l) refl

  pub fed-on : s.bad ≡ 0 → fed s b ≡ stepped s b
  unfolding fed
  fed-on e = rw (eq-eqb s.bad 0 e) refl

  fed-late : s.bad ≢ 0 → fed s b ≡ s
  unfolding fed
  fed-late n = rw (ne_eqb s.bad 0 n) refl

-- behind a bad line nothing is looked at
pub feds-late : (s : Scan) (bs : List ℕ) → s.bad ≢ 0 → feds s bs ≡ s
unfolding feds
feds-late s [] n = refl
feds-late s (b ∷ bs) n = ap (λ t. feds t bs) (fed-late s b n) ∙ feds-late s bs n

-- the byte at i, and those behind it
feds-at : (s : Scan) (bs : List ℕ) (i : ℕ) → i < length bs → s.bad ≡ 0
    → feds s (drop i bs) ≡ feds (stepped s (get_or bs i 0)) (drop (suc i) bs)
unfolding feds
feds-at s [] i l e = absurd (omega (arith, l))
feds-at s (b ∷ bs) zero l e = ap (λ t. feds t bs) (fed-on s b e)
feds-at s (b ∷ bs) (suc i) l e = feds-at s bs i (omega (arith, l)) e

pub feds-all : (s : Scan) (bs : List ℕ) (i : ℕ) → length bs ≤ i → feds s (drop i bs) ≡ s
unfolding feds
feds-all s [] zero l = refl
feds-all s [] (suc i) l = refl
feds-all s (b ∷ bs) zero l = absurd (omega (arith, l))
feds-all s (b ∷ bs) (suc i) l = feds-all s bs i (omega (arith, l))

pub feds-from : (s : Scan) (bs : List ℕ) → feds s (drop 0 bs) ≡ feds s bs
feds-from s [] = refl
feds-from s (b ∷ bs) = refl

-- the byte at i was fed, and those behind it are left
pub feds-next : (s t : Scan) (bs : List ℕ) (i : ℕ) → i < length bs → s.bad ≡ 0 → t ≡ stepped s (get_or bs i 0)
    → feds t (drop (i + 1) bs) ≡ feds s (drop i bs)
feds-next s t bs i l e n =
    ap (λ k. feds t (drop k bs)) (one_more_is i) ∙ ap (λ u. feds u (drop (suc i) bs)) n ∙ sym (feds-at s bs i l e)

-- ---- the end of the input
module _ (s : Scan) where
  pub last-late : s.bad ≢ 0 → last_line s ≡ s
  unfolding last_line
  last-late n = rw (ne_eqb s.bad 0 n) refl

  pub last-whole : s.bad ≡ 0 → s.digits ≡ false → last_line s ≡ s
  unfolding last_line
  last-whole e d = rw (eq-eqb s.bad 0 e, d) refl

  pub last-open : s.bad ≡ 0 → s.digits ≡ true → last_line s ≡ ended s
  unfolding last_line
  last-open e d = rw (eq-eqb s.bad 0 e, d) refl

  pub finished-is : finished s ≡ closed (last_line s)
  unfolding finished
  finished-is = refl

  pub closed-late : s.bad ≢ 0 → closed s ≡ s
  unfolding closed
  closed-late n = rw (ne_eqb s.bad 0 n) refl

  pub closed-short : s.bad ≡ 0 → s.line < 2 → closed s ≡ spoilt s
  unfolding closed
  closed-short e l = rw (eq-eqb s.bad 0 e, lt-ltb s.line 2 l) refl

  pub closed-long : s.bad ≡ 0 → 2 ≤ s.line → closed s ≡ s
  unfolding closed
  closed-long e l = rw (eq-eqb s.bad 0 e, le-ltb s.line 2 l) refl

  -- a read that fails
  pub broken-good : s.bad ≡ 0 → broken s ≡ spoilt s
  unfolding broken
  broken-good e = rw (eq-eqb s.bad 0 e) refl

  pub broken-late : s.bad ≢ 0 → broken s ≡ s
  unfolding broken
  broken-late n = rw (ne_eqb s.bad 0 n) refl

  pub finished-late : s.bad ≢ 0 → finished s ≡ s
  unfolding finished
  finished-late n = ap closed (last-late n) ∙ closed-late n

  pub finished-whole : s.bad ≡ 0 → s.digits ≡ false → finished s ≡ closed s
  finished-whole e d = finished-is ∙ ap closed (last-whole e d)

  pub finished_open : s.bad ≡ 0 → s.digits ≡ true → finished s ≡ closed (ended s)
  finished_open e d = finished-is ∙ ap closed (last-open e d)
