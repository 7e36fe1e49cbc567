-- A pool that meets the statement passes every trial, and one that fails a trial does not meet it; lists of wrong pools with trials.
use Prim.Native.Nat.{ℕ, zero, suc, ◌^◌}
use native.Mathlib.Nat.{le_of_suc-le-suc, not-suc-le-zero}
use native.Mathlib.Omega.{arith}
use mathlib.Core.Path.{◌≡◌, refl, sym, ap, ap₂, ◌∙◌}
use mathlib.Core.Bool.{Bool, true}
use mathlib.Core.List.{List, [], ◌∷◌, ◌++◌, map, map-append}
use lib.ListN.{get_or}
use lib.IntN.{ℤ}
use lib.Signed.{mag}
use lib.Dec.{ltb}
use borrow.Author.Tests.{ltb-true}
use Rattle.laws.proofs.Tests.{and-true, and_left, and_right}
use Rattle.buftag.specs.declared.name.FileName.{FileName}
use Rattle.buftag.specs.declared.name.PageName.{PageName}
use Rattle.buftag.specs.Name.{FitsFile, Fits}
use Rattle.bufmodel.specs.Step.{
  Call,
  Pin,
  Unpin,
  Read,
  Write,
  Flush,
  GiveBack,
  Checkpoint,
  Peek,
  Extend,
  Drop,
  LogInserted,
  LogFlushed,
  step,
}
use Rattle.bufmodel.specs.Lent.{Lent}
use Rattle.shelf.specs.Statement.{Below, Signed, FitsLent, FitsCall, FitsMade, Pool, calling, Demand3For}
use Rattle.shelf.specs.Tests.{Clause, Verdict, Fine, Fails}
use Rattle.shelf.specs.Trial.{
  slice,
  Wrong,
  made,
  verdict,
  every,
  all_below,
  all_signed,
  fits_lent,
  fits_file,
  fits_name,
  fits_call,
  fits_calls,
  fits,
}
use Rattle.shelf.proofs.JudgeLaws.{judge-fine}

-- ---- what the statement assumes holds where its test passes
pub below : (k : ℕ) (xs : List ℕ) → all_below k xs ≡ true → Below k xs
unfolding all_below
below k [] h i l = absurd (not-suc-le-zero l)
below k (x ∷ xs) h zero l = ltb-true x k (and_left (ltb x k) (all_below k xs) h)
below k (x ∷ xs) h (suc i) l = below k xs (and_right (ltb x k) (all_below k xs) h) i (le_of_suc-le-suc l)

signed : (xs : List ℤ) → all_signed xs ≡ true → Signed xs
unfolding all_signed
signed [] h i l = absurd (not-suc-le-zero l)
signed (x ∷ xs) h zero l = ltb-true (mag x) (2 ^ 31) (and_left (ltb (mag x) (2 ^ 31)) (all_signed xs) h)
signed (x ∷ xs) h (suc i) l = signed xs (and_right (ltb (mag x) (2 ^ 31)) (all_signed xs) h) i (le_of_suc-le-suc l)

each : (ts : List Bool) → every ts ≡ true → (i : ℕ) → get_or ts i true ≡ true
unfolding every
each [] h i = refl
each (t ∷ ts) h zero = and_left t (every ts) h
each (t ∷ ts) h (suc i) = each ts (and_right t (every ts) h) i

pub fits-lent : (m : Lent) → fits_lent m ≡ true → FitsLent m
unfolding fits_lent
fits-lent m h =
    let test = each _ h in
    record {
      control = below _ _ (test 0);
      states = below _ _ (test 1);
      names = below _ _ (test 2);
      pool = below _ _ (test 3);
      free = signed _ (test 4);
      heads = signed _ (test 5);
      chain = signed _ (test 6);
      rows = below _ _ (test 7);
      store = below _ _ (test 8);
      counts = below _ _ (test 9);
    }

fits-file : (f : FileName) → fits_file f ≡ true → FitsFile f
unfolding fits_file
fits-file f h =
    let test = each _ h in
    record {
      tablespace = ltb-true _ _ (test 0);
      database = ltb-true _ _ (test 1);
      relation = ltb-true _ _ (test 2);
      fork = ltb-true _ _ (test 3);
    }

fits-name : (n : PageName) → fits_name n ≡ true → Fits n
unfolding fits_name
fits-name n h = let test = each _ h in record { file = fits-file n.file (test 0); block = ltb-true _ _ (test 1) }

fits-call : (c : Call) → fits_call c ≡ true → FitsCall c
unfolding fits_call
fits-call (Pin w n) h = let test = each _ h in (ltb-true _ _ (test 0), fits-name n (test 1))
fits-call (Unpin w b) h = let test = each _ h in (ltb-true _ _ (test 0), ltb-true _ _ (test 1))
fits-call (Read w b from out) h =
    let test = each _ h in
    (ltb-true _ _ (test 0), ltb-true _ _ (test 1), ltb-true _ _ (test 2), below _ _ (test 3))
fits-call (Write w b from bytes at) h =
    let test = each _ h in
    (ltb-true _ _ (test 0), ltb-true _ _ (test 1), ltb-true _ _ (test 2), below _ _ (test 3), ltb-true _ _ (test 4))
fits-call (Flush w b) h = let test = each _ h in (ltb-true _ _ (test 0), ltb-true _ _ (test 1))
fits-call (GiveBack w) h = ltb-true _ _ h
fits-call Checkpoint h = tt
fits-call (Peek n) h = fits-name n h
fits-call (Extend f) h = fits-file f h
fits-call (Drop f) h = fits-file f h
fits-call (LogInserted p) h = ltb-true _ _ h
fits-call (LogFlushed p) h = ltb-true _ _ h

pub fits-calls : (cs : List Call) → fits_calls cs ≡ true → FitsMade (map made cs)
unfolding fits_calls
fits-calls [] h = tt
fits-calls (c ∷ cs) h =
    (fits-call c (and_left (fits_call c) (fits_calls cs) h), refl, fits-calls cs (and_right (fits_call c) (fits_calls cs) h))

-- ---- a pool that meets the statement passes every trial, and one that fails does not meet it
pub passes : (pool : Pool) → Demand3For pool → (m : Lent) (p at cap : ℕ) (calls : List Call) → fits m p at cap calls ≡ true
    → verdict pool m p at cap calls ≡ Fine
unfolding verdict fits
passes pool d m p at cap calls h =
    let test = each _ h in
    judge-fine pool d m p at cap slice (map made calls) (fits-lent m (test 0)) (ltb-true _ _ (test 1)) (ltb-true _ _ (test 2))
    (ltb-true _ _ (test 3)) refl (fits-calls calls (test 4))

pub refuted : (pool : Pool) (m : Lent) (p at cap : ℕ) (calls : List Call) {c : Clause} → fits m p at cap calls ≡ true
    → verdict pool m p at cap calls ≡ Fails c → Demand3For pool → ⊥
refuted pool m p at cap calls h e d = let f = passes pool d m p at cap calls h in let z : ◌≡◌ {A = ℕ} 0 1 = cc in omega arith

-- ---- lists of wrong pools
-- a pool on the trial of an entry, and that this is a trial
abbrev pub tried : Pool → Wrong → Verdict
tried pool w = verdict pool w.lent w.size w.log w.cap w.calls

abbrev pub is_trial : Wrong → Bool
is_trial w = fits w.lent w.size w.log w.cap w.calls

-- the right pool passes these trials
abbrev pub Passed : List Wrong → Type 0
Passed ws = map (tried (calling step)) ws ≡ map (λ w. Fine) ws

-- each entry is a trial; each pool is caught, by the clause that the list says; the right pool passes the same trials
pub record Shown (ws : List Wrong) : Type 0 where
  pub trials : every (map is_trial ws) ≡ true
  pub caught : map (λ w. tried w.pool w) ws ≡ map (λ w. Fails w.refused_by) ws
  pub passed : Passed ws

-- the entries marked 1: where pools share a trial that takes long, the right pool passes the list if it passes each of its trials once
unfoldable pub chosen : List ℕ → List Wrong → List Wrong
chosen [] ws = []
chosen (k ∷ ks) [] = []
chosen (zero ∷ ks) (w ∷ ws) = chosen ks ws
chosen (suc k ∷ ks) (w ∷ ws) = w ∷ chosen ks ws

-- verdicts, each so often as its place among them is named
unfoldable pub spread : List ℕ → List Verdict → List Verdict
spread [] vs = []
spread (j ∷ js) vs = get_or vs j Fine ∷ spread js vs

every_append : (xs ys : List Bool) → every xs ≡ true → every ys ≡ true → every (xs ++ ys) ≡ true
unfolding every
every_append [] ys h k = k
every_append (x ∷ xs) ys h k = and-true (and_left x (every xs) h) (every_append xs ys (and_right x (every xs) h) k)

same-append : (f g : Wrong → Verdict) (xs ys : List Wrong) → map f xs ≡ map g xs → map f ys ≡ map g ys → map f (xs ++ ys) ≡ map g (xs ++ ys)
same-append f g xs ys e d = map-append f xs ys ∙ ap₂ ◌++◌ e d ∙ sym (map-append g xs ys)

infixr 5 ◌&◌
pub ◌&◌ : {xs ys : List Wrong} → Shown xs → Shown ys → Shown (xs ++ ys)
◌&◌ {xs} {ys} a b =
    record {
      trials = ap every (map-append is_trial xs ys) ∙ every_append (map is_trial xs) (map is_trial ys) a.trials b.trials;
      caught = same-append _ _ xs ys a.caught b.caught;
      passed = same-append _ _ xs ys a.passed b.passed;
    }
