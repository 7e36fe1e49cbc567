-- What the statements of two sizes assume of a list of calls, as tests; set-ups and lists that pass them.
use Prim.Native.Nat.{ℕ}
use native.Mathlib.Omega.{arith}
use mathlib.Core.Path.{◌≡◌, refl, sym, ap, ◌∙◌}
use mathlib.Core.Logic.{◌≢◌}
use mathlib.Core.Bool.{Bool, true, not, ◌&&◌, ◌||◌}
use mathlib.Core.List.{List, [], ◌∷◌, map}
use lib.ListN.{get_or}
use lib.Dec.{eqb}
use borrow.Author.Tests.{eqb-true, eq-eqb, not-true}
use Rattle.laws.proofs.Tests.{and_left, and_right, never}
use Rattle.bufmodel.specs.Step.{step}
use Rattle.shelf.specs.Statement.{FitsMade, calling}
use Rattle.shelf.specs.Trial.{size, log, made, fits_lent, fits_calls}
use Rattle.shelf.proofs.Computes.{computes}
use Rattle.shelf.proofs.Trials.{fits-lent, fits-calls}
use Rattle.twopools.specs.Asked.{
  Asked,
  AskPin,
  AskUnpin,
  AskRead,
  AskWrite,
  AskFlush,
  AskGiveBack,
  AskCheckpoint,
  AskPeek,
  AskExtend,
  AskDrop,
  AskInserted,
  AskFlushed,
  resolve,
  FitsAsked,
}
use Rattle.twopools.specs.Pins.{Pins, no_pins, Mine, Names, entered, pins_after}
use Rattle.twopools.specs.Receipts.{
  Receipt,
  Turn,
  read_bytes,
  bytes_by,
  block_by,
  receipt,
  turns,
  receipts_of,
  Named,
  NeverSix,
}
use Rattle.twopools.specs.TwoSizes.{Setup, FitsSetup, set_up_in, served_in}
use Rattle.twopools.specs.WrongSizes.{
  Setups,
  with_held,
  NamedSince,
  with_holder,
  NamedByAny,
  each,
  kind_of,
  answer_word,
  whole_bytes,
  setup_with,
  setup,
}

-- ---- what is assumed, by tests
unfoldable pub names_test : Pins → Asked → Bool
names_test p (AskPin h n) = true
names_test p (AskUnpin h k) = p.held k && eqb (p.holder k) h
names_test p (AskRead h k from out) = p.held k && eqb (p.holder k) h
names_test p (AskWrite h k from bytes at) = p.held k && eqb (p.holder k) h
names_test p (AskFlush h k) = p.held k && eqb (p.holder k) h
names_test p (AskGiveBack h) = true
names_test p AskCheckpoint = true
names_test p (AskPeek n) = true
names_test p (AskExtend f) = true
names_test p (AskDrop f) = true
names_test p (AskInserted q) = true
names_test p (AskFlushed q) = true

mine-says : (p : Pins) (h k : ℕ) → (p.held k && eqb (p.holder k) h) ≡ true → Mine p h k
mine-says p h k e = record { held = and_left (p.held k) _ e; by = eqb-true (p.holder k) h (and_right (p.held k) _ e) }

names-say : (p : Pins) (c : Asked) → names_test p c ≡ true → Names p c
unfolding names_test
names-say p (AskPin h n) e = tt
names-say p (AskUnpin h k) e = mine-says p h k e
names-say p (AskRead h k from out) e = mine-says p h k e
names-say p (AskWrite h k from bytes at) e = mine-says p h k e
names-say p (AskFlush h k) e = mine-says p h k e
names-say p (AskGiveBack h) e = tt
names-say p AskCheckpoint e = tt
names-say p (AskPeek n) e = tt
names-say p (AskExtend f) e = tt
names-say p (AskDrop f) e = tt
names-say p (AskInserted q) e = tt
names-say p (AskFlushed q) e = tt

unfoldable pub named_test : List Turn → Bool
named_test [] = true
named_test (t ∷ ts) = names_test t.pins t.asked && named_test ts

pub named : (ts : List Turn) → named_test ts ≡ true → Named ts
unfolding named_test Named
named [] e = tt
named (t ∷ ts) e =
    let test = names_test t.pins t.asked in
    (names-say t.pins t.asked (and_left test _ e), named ts (and_right test _ e))

unfoldable pub since_test : (ℕ → Bool) → List Turn → Bool
since_test ever [] = true
since_test ever (t ∷ ts) =
    let now : ℕ → Bool = λ k. t.pins.held k || ever k in
    names_test (with_held now t.pins) t.asked && since_test now ts

pub named-since : (ever : ℕ → Bool) (ts : List Turn) → since_test ever ts ≡ true → NamedSince ever ts
unfolding since_test NamedSince
named-since ever [] e = tt
named-since ever (t ∷ ts) e =
    let now : ℕ → Bool = λ k. t.pins.held k || ever k in
    let p = with_held now t.pins in
    let test = names_test p t.asked in
    (names-say p t.asked (and_left test _ e), named-since now ts (and_right test _ e))

-- all calls on buffers are holder h's
unfoldable pub by_test : ℕ → List Turn → Bool
by_test h [] = true
by_test h (t ∷ ts) = names_test (with_holder h t.pins) t.asked && by_test h ts

pub named_by : (h : ℕ) (ts : List Turn) → by_test h ts ≡ true → NamedByAny ts
unfolding by_test NamedByAny
named_by h [] e = tt
named_by h (t ∷ ts) e =
    let p = with_holder h t.pins in
    let test = names_test p t.asked in
    ((h, names-say p t.asked (and_left test _ e)), named_by h ts (and_right test _ e))

unfoldable pub never_test : List Turn → Bool
never_test [] = true
never_test (t ∷ ts) = not (eqb t.ended.result 6) && never_test ts

never-six : (ts : List Turn) → never_test ts ≡ true → NeverSix ts
unfolding never_test NeverSix
never-six [] e = tt
never-six (t ∷ ts) e =
    let six = eqb t.ended.result 6 in
    ((λ z. never (eq-eqb _ 6 z) (not-true six (and_left (not six) _ e))), never-six ts (and_right (not six) _ e))

unfoldable pub served_test : (List Turn → Bool) → List Turn → Bool
served_test test ts = test ts && never_test ts

fits-asked : (calls : List Asked) → FitsMade (map made (map (resolve (λ k. 0)) calls)) → FitsAsked calls
fits-asked [] h = tt
fits-asked (c ∷ cs) h = (h.0, fits-asked cs h.2)

pub fits-setup : (blocks : ℕ) (page : List ℕ) (n : ℕ) → fits_lent (setup_with blocks page n).lent ≡ true
    → FitsSetup (setup_with blocks page n)
unfolding setup_with
fits-setup blocks page n h =
    record { lent = fits-lent (setup_with blocks page n).lent h; cap = omega arith; answer = refl; slices = λ i. refl }

-- ---- what is computed
-- the refusal of call i, and byte k of its bytes
unfoldable pub refusal_at : ℕ → List Receipt → ℕ
refusal_at i rs = get_or (map (λ (r : Receipt). r.refusal) rs) i 0

unfoldable pub byte_at : ℕ → ℕ → List Receipt → ℕ
byte_at i k rs = get_or (get_or (map (λ (r : Receipt). r.bytes) rs) i []) k 0

-- all of it
unfoldable pub runs : Unit {0}
unfolding computes resolve no_pins entered pins_after read_bytes bytes_by block_by receipt turns receipts_of each kind_of answer_word whole_bytes
    setup_with names_test named_test since_test by_test never_test served_test refusal_at byte_at
runs = tt

abbrev pub served_at : ℕ → Setup → List Asked → List Turn
served_at at b calls = served_in (calling step) size at b calls

abbrev pub served : Setup → List Asked → List Turn
served = served_at log

-- what fits, and is accepted
pub record Ready (at : ℕ) (b : Setup) : Type 0 where
  pub fits : FitsSetup b
  pub up : (set_up_in (calling step) size at b).result ≡ 0

pub one-ready : Ready log (setup 1)
unfolding runs
one-ready = record { fits = fits-setup 2 _ 1 refl; up = refl }

pub two_ready : Ready log (setup 2)
unfolding runs
two_ready = record { fits = fits-setup 2 _ 2 refl; up = refl }

pub one-two : Setups (setup 1) (setup 2)
unfolding runs
one-two = (omega arith, refl, refl)

-- a list that fits, and what a pool serves of it: by a test of the pins, with no 6
pub record Served (test : List Turn → Bool) (b : Setup) (calls : List Asked) : Type 0 where
  pub fits : fits_calls (map (resolve (λ k. 0)) calls) ≡ true
  pub serves : served_test test (served b calls) ≡ true

module _ {test : List Turn → Bool} {b : Setup} {calls : List Asked} (s : Served test b calls) where
  pub asked : FitsAsked calls
  asked = fits-asked calls (fits-calls _ s.fits)

  pub names_in : test (served b calls) ≡ true
  unfolding served_test
  names_in = and_left (test (served b calls)) _ s.serves

  pub never-in : NeverSix (served b calls)
  unfolding served_test
  never-in = never-six _ (and_right (test (served b calls)) _ s.serves)

-- a number that differs
pub record Differ {A : Type 0} (f : A → ℕ) (a b : A) (x y : ℕ) : Type 0 where
  pub first : f a ≡ x
  pub second : f b ≡ y

pub apart : {A : Type 0} (f : A → ℕ) {a b : A} {x y : ℕ} → Differ f a b x y → x ≢ y → a ≡ b → ⊥
apart f d ne e = ne (sym d.first ∙ ap f e ∙ d.second)
