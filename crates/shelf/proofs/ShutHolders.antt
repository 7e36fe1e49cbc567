-- Wrong pools of holders and their counts: those of the list fail their trials. What takes more calls than are computed here, or no call
-- shows, is shut out by demand 1, which is of any lent memory; what touches other holders' pins, by isolation too.
use Prim.Native.Nat.{ℕ, ◌-◌, ◌*◌}
use native.Mathlib.Omega.{arith}
use mathlib.Core.Path.{◌≡◌, refl, sym, ap, ◌∙◌}
use mathlib.Core.Bool.{true, false, cond}
use mathlib.Core.Logic.{◌≢◌}
use mathlib.Core.List.{List, [], ◌∷◌, ◌++◌, map}
use lib.ListN.{length, take, set, replicate}
use lib.Dec.{eqb, leb}
use Rattle.laws.specs.Every.{any}
use Rattle.laws.proofs.Tests.{never}
use Rattle.buftag.specs.declared.name.PageName.{PageName}
use Rattle.bufmodel.specs.Word.{pins as pin_count}
use Rattle.bufmodel.specs.Memory.{word_of, name_of}
use Rattle.bufmodel.specs.Counts.{count_at}
use Rattle.bufmodel.specs.Sizes.{sized_for}
use Rattle.bufmodel.specs.Books.{sound}
use Rattle.bufmodel.specs.Outcome.{refused}
use Rattle.bufmodel.specs.Pin.{held_in, pin_to}
use Rattle.bufmodel.specs.Step.{Call, GiveBack, Checkpoint, step}
use Rattle.bufmodel.specs.Lent.{Lent, Called, opened}
use Rattle.bufmodel.proofs.SizesLaws.{sizes-say}
use Rattle.bufmodel.proofs.BooksLaws.{books-say}
use Rattle.shelf.specs.Shelf.{first_of}
use Rattle.shelf.specs.Statement.{Pool, own, calling}
use Rattle.shelf.specs.Isolation.{Others, lent_after, count_in, IsolationFor}
use Rattle.shelf.specs.Guards.{table, Demand1For}
use Rattle.shelf.specs.Trial.{size, log, cap, bench, sales, stock, block_of, pin_by, pin, slice, made, fits_lent, fits_calls}
use Rattle.shelf.specs.Changes.{pins, lends}
use Rattle.shelf.specs.WrongHolders.{with_count_words, evicts, empties_all, wrong_holders, wrong_owners, wrong_given, wrong_private}
use Rattle.shelf.proofs.Computes.{computes}
use Rattle.shelf.proofs.Trials.{fits-lent, fits-calls, Passed, Shown, chosen, spread}
use Rattle.shelf.proofs.ShutCaps.{begun, Trusts, shut}

-- ---- the list
pub holders : Shown wrong_holders
unfolding computes
holders = record { trials = refl; caught = refl; passed = refl }

pub owners : Shown wrong_owners
unfolding computes
owners = record { trials = refl; caught = refl; passed = refl }

given-once : Passed (chosen (1 ∷ 1 ∷ 0 ∷ 1 ∷ 1 ∷ 0 ∷ 1 ∷ 0 ∷ 0 ∷ 1 ∷ 1 ∷ 0 ∷ []) wrong_given)
unfolding computes chosen
given-once = refl

given-passed : Passed wrong_given
unfolding wrong_given chosen spread
given-passed = ap (spread (0 ∷ 1 ∷ 0 ∷ 2 ∷ 3 ∷ 1 ∷ 4 ∷ 1 ∷ 1 ∷ 5 ∷ 6 ∷ 1 ∷ [])) given-once

pub given : Shown wrong_given
unfolding computes
given = record { trials = refl; caught = refl; passed = given-passed }

pub private : Shown wrong_private
unfolding computes
private = record { trials = refl; caught = refl; passed = refl }

-- ---- a pin's 5
-- a memory of one buffer with a page that holder 0 has pinned so often
unfoldable counted : ℕ → Lent
counted k = let m = ((calling step).calls (pin sales 0) begun [] slice).lent in with_count_words (set m.counts 0 k) m

-- a call that ends with another number than the table's
record Differs (pool : Pool) (c : Call) (m : Lent) (k r : ℕ) : Type 0 where
  sized : sized_for (opened m).control.size (opened m) ≡ true
  long : length m.control ≡ 6
  sounds : sound (opened m) ≡ true
  says : first_of (table (opened m) c) ≡ k
  gives : (pool.calls c m (own c) slice).result ≡ r

differs-shut : (pool : Pool) (c : Call) (m : Lent) {k r : ℕ} → Differs pool c m k r → k ≢ r → Demand1For pool → ⊥
differs-shut pool c m t ne d =
    let sized = (sizes-say _ (opened m)).holds t.sized in
    let h = (d.calls c m slice).number refl (sized, t.long) ((books-say (opened m)).holds t.sounds) in
    ne (sym t.says ∙ sym h ∙ t.gives)

-- at another count than 65535: at 255, and, as of old for the word's pin count, at 262143
abbrev pub full_at : ℕ → Pool
full_at k =
    pins
    (λ m c o.
    let on = pin_to m c.holder c.page (held_in m c.page) in
    let o' = cond (eqb o.refusal 5) on o in
    cond (eqb (count_at m.counts 0 c.holder) k) (refused 5 [] m) o')

early-differs : Differs (full_at 255) (pin sales 0) (counted 255) 0 5
unfolding computes counted
early-differs = record { sized = refl; long = refl; sounds = refl; says = refl; gives = refl }

pub early-shut : Demand1For (full_at 255) → ⊥
early-shut = differs-shut _ (pin sales 0) (counted 255) early-differs (λ e. omega (arith, e))

late-differs : Differs (full_at 262143) (pin sales 0) (counted 65535) 5 0
unfolding computes counted
late-differs = record { sized = refl; long = refl; sounds = refl; says = refl; gives = refl }

pub late-shut : Demand1For (full_at 262143) → ⊥
late-shut = differs-shut _ (pin sales 0) (counted 65535) late-differs (λ e. omega (arith, e))

-- for another holder's count
abbrev pub full_for_all : Pool
full_for_all = pins (λ m c o. cond (any 64 (λ h. eqb (count_at m.counts 0 h) 65535)) (refused 5 [] m) o)

others-differ : Differs full_for_all (pin_by 1 sales 0) (counted 65535) 0 5
unfolding computes counted
others-differ = record { sized = refl; long = refl; sounds = refl; says = refl; gives = refl }

pub others-shut : Demand1For full_for_all → ⊥
others-shut = differs-shut _ (pin_by 1 sales 0) (counted 65535) others-differ (λ e. omega (arith, e))

-- ---- the check of the books, which is before 19
-- a memory of one empty buffer, of which a holder has a count
unfoldable marked : ℕ → Lent
marked h = with_count_words (set begun.counts h 1) begun

-- counts that agree with the words, whatever the lent ones are
unfoldable pub matching : List ℕ → List ℕ
matching [] = []
matching (w ∷ ws) = replicate (pin_count w) 1 ++ (replicate (64 - pin_count w) 0 ++ matching ws)

-- the counts are not looked at
abbrev pub blind : Pool
blind = lends (λ m. with_count_words (matching m.states) m)

blind-trusts : Trusts blind (marked 0)
unfolding computes marked matching
blind-trusts = record { sized = refl; long = refl; unsound = refl; accepted = refl }

pub blind-shut : Demand1For blind → ⊥
blind-shut = shut _ (marked 0) blind-trusts

-- the last holder's is not
abbrev pub short_sighted : Pool
short_sighted = lends (λ m. with_count_words (set m.counts 63 0) m)

short-trusts : Trusts short_sighted (marked 63)
unfolding computes marked
short-trusts = record { sized = refl; long = refl; unsound = refl; accepted = refl }

pub short-shut : Demand1For short_sighted → ⊥
short-shut = shut _ (marked 63) short-trusts

-- 19 comes before 2
abbrev pub hasty : Pool
hasty = pins (λ m c o. cond (leb 64 c.holder) (refused 19 [] m) o)

marked-sized : sized_for (opened (marked 0)).control.size (opened (marked 0)) ≡ true
unfolding computes marked
marked-sized = refl

marked-unsound : sound (opened (marked 0)) ≡ false
unfolding computes marked
marked-unsound = refl

marked-long : length (marked 0).control ≡ 6
unfolding computes marked
marked-long = refl

hasty-gives : (hasty.calls (pin_by 64 sales 0) (marked 0) [] slice).result ≡ 19
unfolding computes marked
hasty-gives = refl

pub hasty-shut : Demand1For hasty → ⊥
hasty-shut d =
    let sized = (sizes-say _ (opened (marked 0))).holds marked-sized in
    let h = (d.calls (pin_by 64 sales 0) (marked 0) slice).books refl (sized, marked-long)
    (λ b. never ((books-say (opened (marked 0))).shown b) marked-unsound) in
    omega (arith, hasty-gives, ap (λ (r : Called). r.result) h)

-- ---- a length of N × 64 + 1
unfoldable longer : Lent
longer = with_count_words (begun.counts ++ (0 ∷ [])) begun

abbrev pub trims : Pool
trims = lends (λ m. with_count_words (take (length m.states * 64) m.counts) m)

longer-sized : sized_for (opened longer).control.size (opened longer) ≡ false
unfolding computes longer
longer-sized = refl

longer-accepted : (trims.calls Checkpoint longer [] slice).result ≡ 0
unfolding computes longer
longer-accepted = refl

pub trims-shut : Demand1For trims → ⊥
trims-shut d =
    let h = (d.calls Checkpoint longer slice).sizes refl (λ f. never ((sizes-say _ (opened longer)).shown f.0) longer-sized) in
    omega (arith, longer-accepted, ap (λ (r : Called). r.result) h)

-- ---- isolation: holder 1 has pinned a page; a call of another holder takes its pin, or moves its page
module _ (pool : Pool) where
  abbrev set_up_one : Called
  set_up_one = pool.sets_up size log cap (bench 1) slice

  abbrev pinned_one : Lent
  pinned_one = lent_after pool set_up_one.lent (map made (pin_by 1 sales 0 ∷ []))

  -- before and after the call: the buffer's word, its page's name, holder 1's count
  record Touches (c : Call) (n : PageName) (k : ℕ) : Type 0 where
    accepted : set_up_one.result ≡ 0
    lent : fits_lent (bench 1) ≡ true
    calls : fits_calls (pin_by 1 sales 0 ∷ c ∷ []) ≡ true
    word : word_of (opened pinned_one) 0 ≡ 0x83040001
    page : name_of (opened pinned_one) 0 ≡ block_of sales 0
    count : count_in pinned_one 1 0 ≡ 1
    page_after : name_of (opened (lent_after pool pinned_one (map made (c ∷ [])))) 0 ≡ n
    count_after : count_in (lent_after pool pinned_one (map made (c ∷ []))) 1 0 ≡ k

  isolated : (c : Call) (n : PageName) (k : ℕ) → Touches c n k → Others 1 (map made (c ∷ [])) → IsolationFor pool
      → (n ≡ block_of sales 0) × (k ≡ 1)
  isolated c n k t o i =
      let fit = fits-calls (pin_by 1 sales 0 ∷ c ∷ []) t.calls in
      let h = i (bench 1) size log cap slice (map made (pin_by 1 sales 0 ∷ [])) (map made (c ∷ [])) (fits-lent (bench 1) t.lent)
      (omega arith) (omega arith) (omega arith) refl (fit.0, fit.1, tt) fit.2 t.accepted 1 0 (block_of sales 0)
      (omega arith) o ((λ z. omega (arith, z, t.word)), t.page) (λ z. omega (arith, z, t.count)) in
      (sym t.page_after ∙ h.0.1, sym t.count_after ∙ h.1 ∙ t.count)

-- give back empties all holders
empties-touches : Touches empties_all (GiveBack 0) (block_of sales 0) 0
unfolding computes
empties-touches =
    record {
      accepted = refl;
      lent = refl;
      calls = refl;
      word = refl;
      page = refl;
      count = refl;
      page_after = refl;
      count_after = refl;
    }

pub empties-shut : IsolationFor empties_all → ⊥
empties-shut i =
    let h = isolated empties_all (GiveBack 0) (block_of sales 0) 0 empties-touches ((λ z. omega (arith, z)), tt) i in
    omega (arith, h.1)

-- a page gives way that holder 1 has pinned
evicts-touches : Touches evicts (pin stock 0) (block_of stock 0) 0
unfolding computes
evicts-touches =
    record {
      accepted = refl;
      lent = refl;
      calls = refl;
      word = refl;
      page = refl;
      count = refl;
      page_after = refl;
      count_after = refl;
    }

pub evicts-shut : IsolationFor evicts → ⊥
evicts-shut i =
    let h = isolated evicts (pin stock 0) (block_of stock 0) 0 evicts-touches ((λ z. omega (arith, z)), tt) i in
    omega (arith, ap (λ (n : PageName). n.file.relation) h.0)
