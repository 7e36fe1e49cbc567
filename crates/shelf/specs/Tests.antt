-- Clauses and verdicts, and the tests of equality that the judge is made of.
use Rattle.std.specs.Prelude.{ℕ, zero, suc, ◌*◌, min, Bool, true, false, ◌&&◌, cond, List, [], ◌∷◌, take, drop, ℤ, pos, negsuc, eqb}
use Rattle.laws.specs.Every.{all}
use Rattle.laws.specs.First.{Found, found, missing}
use Rattle.buftag.specs.Name.{same_name}
use Rattle.bufmodel.specs.Lent.{Lent}
use Rattle.shelf.specs.Published.{Marks}

-- the clauses
pub data Clause : Type 0 where
  -- of `SetsUp`: which are accepted; then the books, the control record, all else; a refusal; the answer and the caller's bytes
  Accepted Fresh Begun Untouched Refused Zeros : Clause
  -- of `Agrees`
  Neither Six Number Answers Shows Blank Kept Rows Inserted Cap Flushed Ordered Others Long Settled Stored Held Holders Sums : Clause
  -- of `Left`; of the opened memory, `Published.same` says what `Same` does
  Same Control Sizes Books : Clause
  -- of `Published`: what a pin answers, the bytes that a read fills, the count written, the part that a peek hands back; then the marks,
  -- private counts among them, the pool's pages, the store's blocks
  Probes Bytes Counts Part Words Private Hand FreeList Names Chains Pages Store : Clause

-- none fails, or the first that does
pub data Verdict : Type 0 where
  Fine : Verdict
  Fails : Clause → Verdict

pub record Test : Type 0 where
  pub clause : Clause
  pub passes : Bool

abbrev pub test : Clause → Bool → Test
test c t = record { clause = c; passes = t }

-- the first that fails, or what comes later
unfoldable pub failing : List Test → Verdict → Verdict
failing [] later = later
failing (t ∷ ts) later = let on = failing ts later in cond t.passes on (Fails t.clause)

-- ---- a test for an accepted call, for a refused one, for a place that has to be found, for one if it is found
abbrev pub if_done : ℕ → Bool → Bool
if_done zero t = t
if_done (suc k) t = true

abbrev pub if_refused : ℕ → Bool → Bool
if_refused zero t = true
if_refused (suc k) t = t

abbrev pub at_place : Found → (ℕ → Bool) → Bool
at_place (found g) t = t g
at_place missing t = false

abbrev pub if_place : Found → (ℕ → Bool) → Bool
if_place (found g) t = t g
if_place missing t = true

-- ---- equal lists, links, lent memories
unfoldable pub same_list : List ℕ → List ℕ → Bool
same_list [] [] = true
same_list [] (y ∷ ys) = false
same_list (x ∷ xs) [] = false
same_list (x ∷ xs) (y ∷ ys) = eqb x y && same_list xs ys

abbrev pub same_link : ℤ → ℤ → Bool
same_link (pos i) (pos j) = eqb i j
same_link (pos i) (negsuc j) = false
same_link (negsuc i) (pos j) = false
same_link (negsuc i) (negsuc j) = eqb i j

unfoldable pub same_links : List ℤ → List ℤ → Bool
same_links [] [] = true
same_links [] (y ∷ ys) = false
same_links (x ∷ xs) [] = false
same_links (x ∷ xs) (y ∷ ys) = same_link x y && same_links xs ys

unfoldable pub same_lent : Lent → Lent → Bool
same_lent a b =
    same_list a.control b.control && same_list a.states b.states && same_list a.names b.names
    && same_links a.free b.free
    && same_links a.heads b.heads
    && same_links a.chain b.chain
    && same_list a.rows b.rows
    && same_list a.pool b.pool
    && same_list a.store b.store
    && same_list a.counts b.counts

-- so many first bytes of a page are compared, its log position among them
abbrev pub some : ℕ
some = 16

-- those of block g
unfoldable pub start : ℕ → ℕ → List ℕ → List ℕ
start p g xs = take (min some p) (drop (g * p) xs)

-- so many first holders' counts are compared
abbrev pub few : ℕ
few = 4

-- ---- Alike
module _ (n b : ℕ) (k l : Marks) where
  unfoldable pub words_test : Bool
  words_test = all n (λ i. eqb (k.word i) (l.word i))

  unfoldable pub names_test : Bool
  names_test = all n (λ i. same_name (k.name i) (l.name i))

  unfoldable pub links_test : Bool
  links_test = same_link k.top l.top && all n (λ i. same_link (k.link i) (l.link i))

  unfoldable pub chains_test : Bool
  chains_test = all n (λ i. same_link (k.chain i) (l.chain i)) && all b (λ j. same_link (k.head j) (l.head j))

  unfoldable pub counts_test : Bool
  counts_test = all n (λ i. all few (λ h. eqb (k.count i h) (l.count i h)))
