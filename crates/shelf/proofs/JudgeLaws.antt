-- A pool that meets the claims for a set up and a list of calls is judged fine on them: each test passes where its clause holds.
use Prim.Native.Nat.{ℕ, zero, suc, ◌+◌, ◌^◌, ◌<◌}
use mathlib.Core.Path.{◌≡◌, refl, ap, ◌∙◌}
use mathlib.Core.Bool.{Bool, true, false, not, ◌&&◌, cond}
use mathlib.Core.Logic.{◌⊎◌, ⊎_elim, ◌↔◌}
use mathlib.Core.List.{List, [], ◌∷◌}
use lib.ListN.{length, get_or, take, drop}
use lib.Dec.{eqb}
use borrow.Author.Tests.{eq-eqb, ne_eqb, eqb-true, eqb-false, le-leb, lt-ltb, not-true}
use Rattle.laws.specs.First.{Found, found, missing}
use Rattle.laws.specs.Block.{block}
use Rattle.laws.specs.Says.{Says}
use Rattle.laws.proofs.Tests.{true-or-false, and-true}
use Rattle.laws.proofs.Every.{all_of}
use Rattle.laws.proofs.Says.{says_eq, says-le, says-and, says-as, says-it}
use Rattle.buftag.specs.declared.name.PageName.{PageName}
use Rattle.bufmodel.specs.Rows.{files, blocks_at, start_of, place_of}
use Rattle.bufmodel.specs.Checksum.{bare, bare_from}
use Rattle.bufmodel.specs.Memory.{Memory, word_of, name_of}
use Rattle.bufmodel.specs.Sizes.{sized_for}
use Rattle.bufmodel.specs.Books.{is_found}
use Rattle.bufmodel.specs.Outcome.{Outcome, one, two}
use Rattle.bufmodel.specs.Calls.{part}
use Rattle.bufmodel.specs.Step.{
  Call,
  Pin,
  Unpin,
  Read,
  Write,
  Flush,
  GiveBack,
  Checkpoint,
  Peek,
  Extend,
  Drop,
  LogInserted,
  LogFlushed,
}
use Rattle.bufmodel.specs.Lent.{Lent, Called, answer_words, opened}
use Rattle.bufmodel.proofs.SizesLaws.{sizes-say}
use Rattle.bufmodel.proofs.BooksLaws.{books-say}
use Rattle.shelf.specs.Shelf.{Shelf, first_of, has_pins, pinned_pages, above}
use Rattle.shelf.specs.Ledger.{Ledger, first_ledger, is_place, buffer_in, ledger_after, puts}
use Rattle.shelf.specs.Published.{Leaves}
use Rattle.shelf.specs.Statement.{
  Answers,
  PinRule,
  Shows,
  Agrees,
  Left,
  Fresh,
  Lends,
  SetsUp,
  Pool,
  Made,
  FitsLent,
  FitsMade,
  own,
  outcome_of,
  ClaimFor,
  Demand3For,
}
use Rattle.shelf.specs.Tests.{Verdict, Fine, Test, same_list, same_lent, some}
use Rattle.shelf.specs.Judge.{
  fresh_test,
  set_up_tests,
  answers_test,
  pin_rule_test,
  shows_test,
  six_at,
  six_test,
  settled_all,
  settled_test,
  ordered_test,
  others_test,
  stored_test,
  held_test,
  holders_at,
  holders_test,
  sums_test,
  agrees_tests,
  left_tests,
  when_done,
  judge_calls,
  if_accepted,
  judge,
}
use Rattle.shelf.specs.JudgePublished.{marks_after, pages_after, blocks_after}
use Rattle.shelf.proofs.TestLaws.{
  Passes,
  all,
  ◌&◌,
  none-fails,
  if-done,
  if-refused,
  else-true,
  then-true,
  both,
  at-place,
  if-place,
  same-list,
  list_same,
  lent_same,
  same-bools,
  starts-same,
  bare-starts,
  bare-start-same,
  few-holders,
  words-pass,
  names-pass,
  links-pass,
  chains-pass,
  counts-pass,
}
use Rattle.shelf.proofs.JudgePublishedLaws.{said-pass, leaves_after, clock-pass, name-pass, page-pass}

-- ---- SetsUp
fresh-pass : (m k : Lent) (p at cap : ℕ) → Fresh m k p at cap → fresh_test m p k ≡ true
unfolding fresh_test
fresh-pass m k p at cap h =
    and-true
    (and-true
    (and-true
    (and-true
    (and-true
    (and-true (and-true (eq-eqb _ _ h.many) (eq-eqb _ _ h.wide)) ((sizes-say p (opened k)).shown h.sizes)) (words-pass h.alike))
    (names-pass h.alike))
    (links-pass h.alike))
    (chains-pass h.alike))
    (counts-pass h.alike)

-- the number that refuses
number-pass : (m : Lent) (p k : ℕ) → ((k ≡ 1) × (Lends m p → ⊥)) ⊎ ((k ≡ 18) × Lends m p)
    → eqb k (cond (sized_for p (opened m) && eqb (length m.control) 6) 18 1) ≡ true
number-pass m p k h =
    let lends : Says (sized_for p (opened m) && eqb (length m.control) 6) (Lends m p) =
    says-and (sizes-say p (opened m)) (says_eq _ _) in
    ⊎_elim
    (λ x.
    ⊎_elim (λ t. absurd (x.1 (lends.holds t))) (λ f. rw f (eq-eqb k 1 x.0))
    (true-or-false (sized_for p (opened m) && eqb (length m.control) 6)))
    (λ y. rw (lends.shown y.1) (eq-eqb k 18 y.0))
    h

set-up-pass : (m : Lent) (p at cap : ℕ) (r : Called) → SetsUp m p at cap r → Passes (set_up_tests m p at cap r)
unfolding set_up_tests
set-up-pass m p at cap r h =
    both (says_eq _ _)
    (says-and (says-and (sizes-say p (opened m)) (says_eq _ _)) (says-and (says-le 1 cap) (says-le cap 15))) h.accepted
    & if-done r.result (λ z. fresh-pass m r.lent p at cap (h.fresh z))
    & if-done r.result (λ z. same-list (h.fresh z).control)
    & if-done r.result (λ z.
    and-true (and-true (same-list (ap (take some) (h.fresh z).pool)) (same-list (h.fresh z).rows))
    (same-list (ap (take some) (h.fresh z).store)))
    & if-refused r.result (λ f.
    and-true (number-pass m p r.result (h.number f)) (ap (λ (x : Lent). same_lent x m) (h.refused f) ∙ lent_same m))
    & and-true (same-list h.answer) (same-list h.bytes)
    & all

-- ---- Agrees
answers-pass : (o : Outcome) (c : Call) → Answers o c → answers_test o.answer c ≡ true
unfolding answers_test
answers-pass o (Pin w n) h = ap (λ (a : List ℕ). eqb (length a) answer_words) h.4
answers-pass o (Unpin w b) h = same-list h
answers-pass o (Read w b from out) h = same-list h
answers-pass o (Write w b from bytes at) h = same-list h
answers-pass o (Flush w b) h = ap (λ (a : List ℕ). same_list a (one (get_or a 0 0))) h.1 ∙ list_same (one h.0)
answers-pass o (GiveBack w) h = same-list h
answers-pass o Checkpoint h = ap (λ (a : List ℕ). same_list a (one (get_or a 0 0))) h.1 ∙ list_same (one h.0)
answers-pass o (Peek n) h = ap (λ (a : List ℕ). same_list a (two (get_or a 0 0) (get_or a 1 0))) h.2 ∙ list_same (two h.0 h.1)
answers-pass o (Extend f) h = ap (λ (a : List ℕ). same_list a (one (get_or a 0 0))) h.1 ∙ list_same (one h.0)
answers-pass o (Drop f) h = same-list h
answers-pass o (LogInserted p) h = same-list h
answers-pass o (LogFlushed p) h = same-list h

module _ (s : Shelf) (o : Outcome) where
  rule-pass : (g : ℕ) → PinRule s o g → pin_rule_test s o g ≡ true
  unfolding pin_rule_test is_place
  rule-pass g h = and-true (lt-ltb _ _ h.below) (go (has_pins s g) refl)
    where
      go : (t : Bool) → has_pins s g ≡ t
          → cond t (is_place (s.holds (buffer_in o.answer)) g) (not (is_found (s.holds (buffer_in o.answer)))) ≡ true
      go true q = ap (λ (f : Found). is_place f g) (h.had q) ∙ eq-eqb g g refl
      go false q = ap (λ (f : Found). not (is_found f)) (h.fresh q)

  shows-pass : (c : Call) → Shows s o c → shows_test s o c ≡ true
  unfolding shows_test
  shows-pass (Pin w n) h = and-true (at-place (pin_rule_test s o) h.1 (rule-pass h.0 h.2)) (same-list h.3)
  shows-pass (Unpin w b) h = same-list h
  shows-pass (Read w b from out) h =
      at-place (λ g. same_list (bare_from from o.bytes) (take (length out) (drop from (bare (s.bytes g))))) h.1 (same-list h.2)
  shows-pass (Write w b from bytes at) h = same-list h
  shows-pass (Flush w b) h = same-list h
  shows-pass (GiveBack w) h = same-list h
  shows-pass Checkpoint h = same-list h
  shows-pass (Peek n) h =
      and-true
      (at-place (λ g. same_list (bare (take some (part o))) (bare (take some (s.bytes g)))) h.1
      (bare-starts (part o) (s.bytes h.0) h.2))
      (same-list h.3)
  shows-pass (Extend f) h =
      and-true (at-place (λ r. eqb (get_or o.answer 0 0) (blocks_at s.rows r)) h.1 (eq-eqb _ _ h.2)) (same-list h.3)
  shows-pass (Drop f) h = same-list h
  shows-pass (LogInserted p) h = same-list h
  shows-pass (LogFlushed p) h = same-list h

  -- 6 for the page at place g, as the statement has it
  abbrev SixAt : ℕ → Type 0
  SixAt g = (o.refusal ≡ 6) ↔ ((pinned_pages s ≡ s.buffers) × (has_pins s g ≡ false))

  six-at : (f : Found) → ((g : ℕ) → f ≡ found g → SixAt g) → six_at s o f ≡ true
  unfolding six_at
  six-at (found g) h =
      both (says_eq _ _) (says-and (says_eq _ _) (says-as (not-true _) (ap not) (says-it (not (has_pins s g))))) (h g refl)
  six-at missing h = refl

  six-pass : (c : Call)
      → ((w : ℕ) (n : PageName) → c ≡ Pin w n → first_of (above s w n) ≡ 0 → (g : ℕ) → place_of s.rows n ≡ found g → SixAt g)
      → six_test s o c ≡ true
  unfolding six_test
  six-pass (Pin w n) h = then-true (eqb (first_of (above s w n)) 0) (λ t. six-at (place_of s.rows n) (h w n refl (eqb-true _ _ t)))
  six-pass (Unpin w b) h = refl
  six-pass (Read w b from out) h = refl
  six-pass (Write w b from bytes at) h = refl
  six-pass (Flush w b) h = refl
  six-pass (GiveBack w) h = refl
  six-pass Checkpoint h = refl
  six-pass (Peek n) h = refl
  six-pass (Extend f) h = refl
  six-pass (Drop f) h = refl
  six-pass (LogInserted p) h = refl
  six-pass (LogFlushed p) h = refl

  abbrev AllSettled : Type 0
  AllSettled = (r b : ℕ) → r < files s.rows → b < blocks_at s.rows r
      → bare (block s.size (start_of s.rows r + b) o.after.store) ≡ bare (s.bytes (start_of s.rows r + b))

  all_settled : AllSettled → settled_all s o ≡ true
  unfolding settled_all
  all_settled h = all_of _ _ (λ r l. all_of _ _ (λ b k. bare-start-same _ _ _ _ (h r b l k)))

  settled-pass : (c : Call) → (c ≡ Checkpoint → AllSettled) → settled_test s o c ≡ true
  unfolding settled_test
  settled-pass (Pin w n) h = refl
  settled-pass (Unpin w b) h = refl
  settled-pass (Read w b from out) h = refl
  settled-pass (Write w b from bytes at) h = refl
  settled-pass (Flush w b) h = refl
  settled-pass (GiveBack w) h = refl
  settled-pass Checkpoint h = all_settled (h refl)
  settled-pass (Peek n) h = refl
  settled-pass (Extend f) h = refl
  settled-pass (Drop f) h = refl
  settled-pass (LogInserted p) h = refl
  settled-pass (LogFlushed p) h = refl

module _ {m : Memory} {l : Ledger} {c : Call} {o : Outcome} {l' : Ledger} (a : Agrees m l c o l') where
  ordered-pass : ordered_test m l c o l' ≡ true
  unfolding ordered_test
  ordered-pass = all_of _ _ (λ g k. then-true (l'.put g) (λ t. le-leb _ _ (a.ordered g t)))

  others-pass : others_test m l c o l' ≡ true
  unfolding others_test
  others-pass = all_of _ _ (λ g k. else-true (puts l c o.answer o.refusal g) (λ f. starts-same _ _ _ _ _ _ (a.others g k f)))

  stored-pass : stored_test m l c o l' ≡ true
  unfolding stored_test
  stored-pass = all_of _ _ (λ g k. then-true (puts l c o.answer o.refusal g) (λ t. bare-start-same _ _ _ _ (a.stored g k t)))

  held-pass : held_test m l c o l' ≡ true
  unfolding held_test
  held-pass =
      all_of _ _ (λ i k. else-true (eqb (word_of o.after i) 0)
      (λ f. if-place _ _ (λ g e. bare-start-same _ _ _ _ (a.held i g k (eqb-false _ _ f) e))))

  holders-pass : holders_test m l c o l' ≡ true
  unfolding holders_test holders_at
  holders-pass =
      all_of _ _ (λ i k. else-true (eqb (word_of o.after i) 0)
      (λ f. if-place _ _ (λ g e. all_of _ _ (λ h q. eq-eqb _ _ (a.counts h i g (few-holders q) k (eqb-false _ _ f) e)))))

  sums-pass : sums_test m l c o l' ≡ true
  unfolding sums_test
  sums-pass =
      all_of _ _ (λ i k. if-place _ _ (λ g e. then-true (puts l c o.answer o.refusal g)
      (λ t. same-bools (a.sums (name_of m i) g e))))

  agrees-pass : Passes (agrees_tests m l c o l')
  unfolding agrees_tests
  agrees-pass =
      and-true (ap not (ne_eqb _ _ a.neither.0)) (ap not (ne_eqb _ _ a.neither.1))
      & six-pass l.shelf o c a.six
      & eq-eqb _ _ a.number
      & if-done o.refusal (λ z. answers-pass o c (a.answers z))
      & if-done o.refusal (λ z. shows-pass l.shelf o c (a.shows z))
      & if-refused o.refusal (λ f. same-list (a.blank f))
      & if-refused o.refusal (λ f. same-list (a.kept f))
      & same-list a.rows
      & eq-eqb _ _ a.inserted
      & eq-eqb _ _ a.cap
      & eq-eqb _ _ a.flushed
      & ordered-pass
      & others-pass
      & eq-eqb _ _ a.long
      & if-done o.refusal (λ z. settled-pass l.shelf o c (λ e. a.settled e z))
      & stored-pass
      & held-pass
      & holders-pass
      & sums-pass
      & all

-- ---- Left
left-pass : (m : Lent) (r : Called) (l' : Ledger) → Left m r l' → Passes (left_tests m r l')
unfolding left_tests
left-pass m r l' h =
    if-refused r.result (λ f. ap (λ (x : Lent). same_lent x m) (h.same f) ∙ lent_same m)
    & same-list h.control
    & (sizes-say l'.shelf.size (opened r.lent)).shown h.sizes
    & (books-say (opened r.lent)).shown h.books
    & all

when-done : (r : ℕ) {ts : List Test} → (r ≡ 0 → Passes ts) → Passes (when_done r ts)
when-done zero h = h refl
when-done (suc k) h = all

-- ---- a list of calls
calls-fine : (pool : Pool) (m : Lent) (l : Ledger) (cs : List Made) → ClaimFor pool m l cs → judge_calls pool m l cs ≡ Fine
unfolding judge_calls
calls-fine pool m l [] h = refl
calls-fine pool m l (c ∷ cs) h =
    let r = pool.calls c.call m (own c.call) c.answer in
    let o = outcome_of r in
    let l' = ledger_after l c.call r.answer r.result in
    let cap = l.cap in
    let n = l.shelf.buffers in
    let left : r.result ≡ 0
    → Leaves (opened m) o (marks_after cap n (opened m) c.call) (pages_after cap n (opened m) c.call)
    (blocks_after cap n (opened m) c.call) =
    λ z. leaves_after cap n (opened m) o z c.call h.2 in
    none-fails _ (agrees-pass h.0)
    ∙ none-fails _ (when-done r.result (λ z. said-pass cap n (opened m) o z c.call h.2))
    ∙ none-fails _ (when-done r.result (λ z. clock-pass (opened m) o (left z)))
    ∙ none-fails _ (left-pass m r l' h.1)
    ∙ none-fails _ (when-done r.result (λ z. name-pass (opened m) o (left z)))
    ∙ none-fails _ (when-done r.result (λ z. page-pass (opened m) o (left z)))
    ∙ calls-fine pool r.lent l' cs h.3

-- ---- a set up, and a list of calls
if-accepted : (r : ℕ) {v : Verdict} → (r ≡ 0 → v ≡ Fine) → if_accepted r v ≡ Fine
if-accepted zero h = h refl
if-accepted (suc k) h = refl

pub judge-fine : (pool : Pool) → Demand3For pool → (m : Lent) (p at cap : ℕ) (answer : List ℕ) (calls : List Made) → FitsLent m
    → p < 2 ^ 64 → at < 2 ^ 64 → cap < 2 ^ 64 → length answer ≡ answer_words → FitsMade calls
    → judge pool m p at cap answer calls ≡ Fine
unfolding judge
judge-fine pool d m p at cap answer calls fits q w c long made =
    let r = pool.sets_up p at cap m answer in
    let h = d m p at cap answer calls fits q w c long made in
    none-fails _ (set-up-pass m p at cap r h.0)
    ∙ if-accepted r.result (λ z. calls-fine pool r.lent (first_ledger (opened m) p at cap) calls (h.1 z))
