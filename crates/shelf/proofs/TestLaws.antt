-- Laws of the tests that the judge is made of: each passes where what it tests holds.
use Prim.Native.Nat.{ℕ, zero, suc, ◌*◌, ◌<◌, min}
use native.Mathlib.Omega.{arith}
use mathlib.Core.Path.{◌≡◌, refl, sym, ap, ◌∙◌}
use mathlib.Core.Bool.{Bool, true, false, cond, beq}
use mathlib.Core.Logic.{◌≢◌, ◌↔◌}
use mathlib.Core.List.{List, [], ◌∷◌}
use lib.ListN.{take, drop}
use lib.IntN.{ℤ, pos, negsuc}
use borrow.Author.Tests.{eq-eqb}
use Rattle.laws.specs.First.{Found, found, missing}
use Rattle.laws.specs.Block.{block}
use Rattle.laws.specs.Says.{Says}
use Rattle.laws.proofs.Tests.{and-true, same_tests}
use Rattle.laws.proofs.Every.{all_of}
use Rattle.buftag.specs.declared.name.PageName.{PageName}
use Rattle.buftag.specs.Name.{same_name}
use Rattle.buftag.proofs.NameLaws.{says-same-name}
use Rattle.bufmodel.specs.Checksum.{bare, bare_from}
use Rattle.bufmodel.specs.Lent.{Lent}
use Rattle.bufmodel.proofs.ChecksumLaws.{bare-take}
use Rattle.shelf.specs.Published.{Marks, Alike}
use Rattle.shelf.specs.Tests.{
  Clause,
  Verdict,
  Test,
  test,
  failing,
  if_done,
  if_refused,
  at_place,
  if_place,
  same_list,
  same_link,
  same_links,
  same_lent,
  some,
  start,
  few,
  words_test,
  names_test,
  links_test,
  chains_test,
  counts_test,
}

-- ---- a row of tests: each passes
infixr 5 ◌&◌
pub data Passes : List Test → Type 0 where
  all : Passes []
  ◌&◌ : {c : Clause} {t : Bool} {ts : List Test} → t ≡ true → Passes ts → Passes (test c t ∷ ts)

pub none-fails : {ts : List Test} (later : Verdict) → Passes ts → failing ts later ≡ later
unfolding failing
none-fails later all = refl
none-fails later (h & hs) = rw h (none-fails later hs)

-- ---- connectives
pub if-done : (r : ℕ) {t : Bool} → (r ≡ 0 → t ≡ true) → if_done r t ≡ true
if-done zero h = h refl
if-done (suc k) h = refl

pub if-refused : (r : ℕ) {t : Bool} → (r ≢ 0 → t ≡ true) → if_refused r t ≡ true
if-refused zero h = refl
if-refused (suc k) h = h (omega arith)

pub else-true : (a : Bool) {b : Bool} → (a ≡ false → b ≡ true) → cond a true b ≡ true
else-true true h = refl
else-true false h = h refl

pub then-true : (a : Bool) {b : Bool} → (a ≡ true → b ≡ true) → cond a b true ≡ true
then-true true h = h refl
then-true false h = refl

beq_same : (a : Bool) → beq a a ≡ true
beq_same true = refl
beq_same false = refl

pub same-bools : {a b : Bool} → a ≡ b → beq a b ≡ true
same-bools {b} e = ap (λ (x : Bool). beq x b) e ∙ beq_same b

-- tests of statements that hold together
pub both : {P Q : Type 0} {a b : Bool} → Says a P → Says b Q → (P ↔ Q) → beq a b ≡ true
both {a} {b} s t h =
    same-bools (same_tests a b (λ p. t.shown (h.0 (s.holds p))) (λ q. s.shown (h.1 (t.holds q))))

pub at-place : {f : Found} {g : ℕ} (t : ℕ → Bool) → f ≡ found g → t g ≡ true → at_place f t ≡ true
at-place t e h = ap (λ (f : Found). at_place f t) e ∙ h

pub if-place : (f : Found) (t : ℕ → Bool) → ((g : ℕ) → f ≡ found g → t g ≡ true) → if_place f t ≡ true
if-place (found g) t h = h g refl
if-place missing t h = refl

-- ---- equal lists, links, lent memories
pub list_same : (xs : List ℕ) → same_list xs xs ≡ true
unfolding same_list
list_same [] = refl
list_same (x ∷ xs) = and-true (eq-eqb x x refl) (list_same xs)

pub same-list : {xs ys : List ℕ} → xs ≡ ys → same_list xs ys ≡ true
same-list {ys} e = ap (λ (zs : List ℕ). same_list zs ys) e ∙ list_same ys

pub link-same : (z : ℤ) → same_link z z ≡ true
link-same (pos i) = eq-eqb i i refl
link-same (negsuc i) = eq-eqb i i refl

pub same-link : {x y : ℤ} → x ≡ y → same_link x y ≡ true
same-link {y} e = ap (λ (z : ℤ). same_link z y) e ∙ link-same y

pub links-same : (xs : List ℤ) → same_links xs xs ≡ true
unfolding same_links
links-same [] = refl
links-same (x ∷ xs) = and-true (link-same x) (links-same xs)

pub lent_same : (m : Lent) → same_lent m m ≡ true
unfolding same_lent
lent_same m =
    rw (
      list_same m.control,
      list_same m.states,
      list_same m.names,
      links-same m.free,
      links-same m.heads,
      links-same m.chain,
      list_same m.rows,
      list_same m.pool,
      list_same m.store,
      list_same m.counts,
    )

pub same-name : {a b : PageName} → a ≡ b → same_name a b ≡ true
same-name e = (says-same-name _ _).shown e

-- equal blocks begin alike
take_min : (k n : ℕ) (xs : List ℕ) → take (min k n) xs ≡ take k (take n xs)
take_min zero n xs = let e : min 0 n ≡ 0 = omega arith in rw e
take_min (suc k) zero xs = let e : min (suc k) 0 ≡ 0 = omega arith in rw e
take_min (suc k) (suc n) [] = let e : min (suc k) (suc n) ≡ suc (min k n) = omega arith in rw e
take_min (suc k) (suc n) (x ∷ xs) =
    let e : min (suc k) (suc n) ≡ suc (min k n) = omega arith in
    rw e (ap (λ (ys : List ℕ). x ∷ ys) (take_min k n xs))

start_is : (p g : ℕ) (xs : List ℕ) → start p g xs ≡ take some (block p g xs)
unfolding start block
start_is p g xs = take_min some p (drop (g * p) xs)

pub starts-same : (p g : ℕ) (xs : List ℕ) (q h : ℕ) (ys : List ℕ) → block p g xs ≡ block q h ys
    → same_list (start p g xs) (start q h ys) ≡ true
starts-same p g xs q h ys e = same-list (start_is p g xs ∙ ap (take some) e ∙ sym (start_is q h ys))

pub start-same : (p g : ℕ) (xs ys : List ℕ) → block p g xs ≡ ys → same_list (start p g xs) (take some ys) ≡ true
start-same p g xs ys e = same-list (start_is p g xs ∙ ap (take some) e)

-- and so they do without bytes 8 and 9
pub bare-starts : (xs ys : List ℕ) → bare xs ≡ bare ys → same_list (bare (take some xs)) (bare (take some ys)) ≡ true
bare-starts xs ys e = same-list (bare-take 0 some xs ∙ ap (take some) e ∙ sym (bare-take 0 some ys))

pub bare-start-same : (p g : ℕ) (xs ys : List ℕ) → bare (block p g xs) ≡ bare ys
    → same_list (bare (start p g xs)) (bare (take some ys)) ≡ true
bare-start-same p g xs ys e =
    ap (λ (zs : List ℕ). same_list (bare_from 0 zs) (bare (take some ys))) (start_is p g xs) ∙ bare-starts (block p g xs) ys e

-- the first few are holders
pub few-holders : {h : ℕ} → h < few → h < 64
few-holders l = omega arith

-- ---- Alike
module _ {n b : ℕ} {k l : Marks} (a : Alike n b k l) where
  pub words-pass : words_test n b k l ≡ true
  unfolding words_test
  words-pass = all_of _ _ (λ i l. eq-eqb _ _ (a.words i l))

  pub names-pass : names_test n b k l ≡ true
  unfolding names_test
  names-pass = all_of _ _ (λ i l. same-name (a.names i l))

  pub links-pass : links_test n b k l ≡ true
  unfolding links_test
  links-pass = and-true (same-link a.top) (all_of _ _ (λ i l. same-link (a.links i l)))

  pub chains-pass : chains_test n b k l ≡ true
  unfolding chains_test
  chains-pass = and-true (all_of _ _ (λ i l. same-link (a.chains i l))) (all_of _ _ (λ j l. same-link (a.heads j l)))

  pub counts-pass : counts_test n b k l ≡ true
  unfolding counts_test
  counts-pass = all_of _ _ (λ i l. all_of _ _ (λ h f. eq-eqb _ _ (a.counts i h l (few-holders f))))
