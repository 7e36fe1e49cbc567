-- Wrong statements of two sizes, with something more in the receipts, are false of the right pool: by one list of calls, computed.
use Prim.Native.Nat.{ℕ, suc}
use native.Mathlib.Omega.{arith}
use mathlib.Core.Path.{◌≡◌, refl, ap, ◌∙◌}
use mathlib.Core.Logic.{◌≢◌}
use mathlib.Core.Bool.{cond}
use mathlib.Core.List.{List, [], ◌∷◌, map}
use lib.ListN.{get_or}
use lib.Dec.{eqb}
use Rattle.bufmodel.specs.Outcome.{Outcome, zeros, one, two}
use Rattle.bufmodel.specs.Step.{step}
use Rattle.shelf.specs.Statement.{outcome_of, calling}
use Rattle.shelf.specs.Trial.{size, log}
use Rattle.twopools.specs.Asked.{Asked}
use Rattle.twopools.specs.Receipts.{Receipt, Turn, receipts_of}
use Rattle.twopools.specs.WrongSizes.{
  each,
  Showing,
  pinning,
  writing,
  peeking,
  kind_of,
  answer_word,
  SameNumbers,
  SameHits,
  SameWrote,
  SameProbes,
  SameCounts,
  SamePlaces,
  whole_bytes,
  SameBytes,
  setup,
  one_by_one,
}
use Rattle.twopools.proofs.SizesTests.{
  named_test,
  named,
  names_in,
  never-in,
  runs,
  served,
  one-ready,
  two_ready,
  one-two,
  Served,
  asked,
  Differ,
  apart,
}

-- ---- the list, and what the receipts of the two pools would have more
served-one : Served named_test (setup 1) one_by_one
unfolding runs
served-one = record { fits = refl; serves = refl }

abbrev smaller : {A : Type 0} → (Asked → Outcome → A) → List Receipt × List A
smaller g = (receipts_of (served (setup 1) one_by_one), each g (served (setup 1) one_by_one))

abbrev larger : {A : Type 0} → (Asked → Outcome → A) → List Receipt × List A
larger g = (receipts_of (served (setup 2) one_by_one), each g (served (setup 2) one_by_one))

showing : {A : Type 0} (g : Asked → Outcome → A) (f : List Receipt × List A → ℕ) {x y : ℕ} → Differ f (smaller g) (larger g) x y → x ≢ y
    → Showing g (calling step) → ⊥
showing g f d ne h =
    apart f d ne
    (h size log (setup 1) (setup 2) one_by_one (omega arith) (omega arith) one-ready.fits two_ready.fits (asked served-one) one-two
    one-ready.up two_ready.up (named _ (names_in served-one)) (never-in served-one))

-- what each call answers: its kind, and the four words of the answer
abbrev words : Asked → Outcome → List ℕ
words c o = kind_of c ∷ o.answer

abbrev none : List ℕ
none = 0 ∷ zeros

-- one buffer: the second page gets it after 2 probes, and the first is written back; so the peek finds that in the store, the checkpoint
-- has nothing to write, and no pin is a hit
abbrev few_words : List (List ℕ)
few_words =
    (pinning ∷ 0 ∷ 0 ∷ 0 ∷ 0 ∷ [])
    ∷ none
    ∷ none
    ∷ (pinning ∷ 0 ∷ 0 ∷ 1 ∷ 2 ∷ [])
    ∷ (peeking ∷ two 0 0)
    ∷ (writing ∷ one 0)
    ∷ none
    ∷ (pinning ∷ 0 ∷ 0 ∷ 0 ∷ 2 ∷ [])
    ∷ []

-- two buffers, one for each page
abbrev more_words : List (List ℕ)
more_words =
    (pinning ∷ 0 ∷ 0 ∷ 0 ∷ 0 ∷ [])
    ∷ none
    ∷ none
    ∷ (pinning ∷ 1 ∷ 0 ∷ 0 ∷ 0 ∷ [])
    ∷ (peeking ∷ two 1 0)
    ∷ (writing ∷ one 1)
    ∷ none
    ∷ (pinning ∷ 0 ∷ 1 ∷ 0 ∷ 0 ∷ [])
    ∷ []

few_words_is : each words (served (setup 1) one_by_one) ≡ few_words
unfolding runs
few_words_is = refl

more-words : each words (served (setup 2) one_by_one) ≡ more_words
unfolding runs
more-words = refl

-- word i of one kind
abbrev word : ℕ → ℕ → List ℕ → ℕ
word kind i ws = cond (eqb (get_or ws 0 0) kind) (get_or ws (suc i) 0) 0

each_word : (kind i : ℕ) (ts : List Turn) → each (answer_word kind i) ts ≡ map (word kind i) (each words ts)
unfolding each answer_word
each_word kind i [] = refl
each_word kind i (t ∷ ts) = ap (◌∷◌ (answer_word kind i t.asked (outcome_of t.ended))) (each_word kind i ts)

-- of call k
abbrev word_at : ℕ → List Receipt × List ℕ → ℕ
word_at k r = get_or r.1 k 0

-- that it differs at call k
word-shut : (kind i k : ℕ) → get_or (map (word kind i) few_words) k 0 ≢ get_or (map (word kind i) more_words) k 0
    → Showing (answer_word kind i) (calling step) → ⊥
word-shut kind i k =
    showing (answer_word kind i) (word_at k)
    (record {
      first = ap (λ (ws : List ℕ). get_or ws k 0) (each_word kind i _ ∙ ap (map (word kind i)) few_words_is);
      second = ap (λ (ws : List ℕ). get_or ws k 0) (each_word kind i _ ∙ ap (map (word kind i)) more-words);
    })

pub same-numbers-shut : SameNumbers (calling step) → ⊥
same-numbers-shut = word-shut pinning 0 3 (λ e. omega (arith, e))

pub same-hits-shut : SameHits (calling step) → ⊥
same-hits-shut = word-shut pinning 1 7 (λ e. omega (arith, e))

pub same-wrote-shut : SameWrote (calling step) → ⊥
same-wrote-shut = word-shut pinning 2 3 (λ e. omega (arith, e))

pub same-probes-shut : SameProbes (calling step) → ⊥
same-probes-shut = word-shut pinning 3 3 (λ e. omega (arith, e))

pub same-counts-shut : SameCounts (calling step) → ⊥
same-counts-shut = word-shut writing 0 5 (λ e. omega (arith, e))

pub same-places-shut : SamePlaces (calling step) → ⊥
same-places-shut = word-shut peeking 0 4 (λ e. omega (arith, e))

-- byte 8 of the page that the peek hands back: the low byte of its checksum, 13,925, and a byte that nothing has written
abbrev byte_eight : List Receipt × List (List ℕ) → ℕ
byte_eight r = get_or (get_or r.1 4 []) 8 0

bytes-differ : Differ byte_eight (smaller whole_bytes) (larger whole_bytes) 101 0
unfolding runs
bytes-differ = record { first = refl; second = refl }

pub same-bytes-shut : SameBytes (calling step) → ⊥
same-bytes-shut = showing whole_bytes byte_eight bytes-differ (λ e. omega (arith, e))
