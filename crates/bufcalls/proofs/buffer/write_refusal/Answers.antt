use borrow.Author.Tests.{leb-true, leb-false, lt-ltb, le-ltb}
use lib.Dec.{ltb}
use lib.ListN.{length}
use mathlib.Core.Bool.{Bool, true, false, ◌||◌}
use mathlib.Core.List.{[]}
use mathlib.Core.Path.{◌≡◌, sym, ap, ◌∙◌}
use Prim.Native.Nat.{ℕ, ◌+◌, ◌≤◌, ◌<◌}
use Rattle.bufmodel.proofs.OutcomeLaws.{refusal-past, refusal-at, refusal-none}
use Rattle.bufcalls.proofs.buffer.write_refusal.Goals as goal

-- place 9: past the page's end, or in its log position
module _ (size from end : ℕ) where
  abbrev range : Bool
  range = ltb size end || ltb from 8

  past_end : size < end → range ≡ true
  past_end l = rw (lt-ltb size end l)

  in_head : end ≤ size → from < 8 → range ≡ true
  in_head l h = rw (le-ltb size end l, lt-ltb from 8 h)

  in_body : end ≤ size → 8 ≤ from → range ≡ false
  in_body l h = rw (le-ltb size end l, le-ltb from 8 h)

pub returns-then-not-range_ok : goal.returns-then-not-range_ok
returns-then-not-range_ok c =
    let a = c.args in
    let past = leb-false _ _ (sym c.range_ok.ensures ∙ c.if-not-range_ok.true) in
    sym (refusal-at 9 _ (past_end a.control.size a.from (a.from + length a.bytes.now) past))

within : (c : goal.Then-from-lt8) → let a = c.args in a.from + length a.bytes.now ≤ a.control.size
within c = leb-true _ _ (sym c.range_ok.ensures ∙ c.if-not-range_ok.false)

pub returns-then-from-lt8 : goal.returns-then-from-lt8
returns-then-from-lt8 c = sym (refusal-at 9 _ (in_head _ _ _ (within c) c.if-from-lt8.true))

within-2 : (c : goal.Then-is_empty) → let a = c.args in a.from + length a.bytes.now ≤ a.control.size
within-2 c = leb-true _ _ (sym c.range_ok.ensures ∙ c.if-not-range_ok.false)

passed : (c : goal.Then-is_empty)
    → let a = c.args in
    range a.control.size a.from (a.from + length a.bytes.now) ≡ false
passed c = in_body _ _ _ (within-2 c) c.if-from-lt8.false

pub returns-then-is_empty : goal.returns-then-is_empty
returns-then-is_empty c = sym (refusal-past 9 _ (passed c) ∙ refusal-at 10 _ (sym c.is_empty.ensures ∙ c.if-is_empty.true))

within-3 : (c : goal.Then-position-control) → let a = c.args in a.from + length a.bytes.now ≤ a.control.size
within-3 c = leb-true _ _ (sym c.range_ok.ensures ∙ c.if-not-range_ok.false)

passed-2 : (c : goal.Then-position-control)
    → let a = c.args in
    range a.control.size a.from (a.from + length a.bytes.now) ≡ false
passed-2 c = in_body _ _ _ (within-3 c) c.if-from-lt8.false

pub returns-then-position-control : goal.returns-then-position-control
returns-then-position-control c =
    sym
    (refusal-past 9 _ (passed-2 c) ∙ refusal-past 10 _ (sym c.is_empty.ensures ∙ c.if-is_empty.false) ∙ refusal-at 11 _ (lt-ltb _ _ c.if-position-control.true))

within-4 : (c : goal.Then-position-page_position) → let a = c.args in a.from + length a.bytes.now ≤ a.control.size
within-4 c = leb-true _ _ (sym c.range_ok.ensures ∙ c.if-not-range_ok.false)

passed-3 : (c : goal.Then-position-page_position)
    → let a = c.args in
    range a.control.size a.from (a.from + length a.bytes.now) ≡ false
passed-3 c = in_body _ _ _ (within-4 c) c.if-from-lt8.false

pub returns-then-position-page_position : goal.returns-then-position-page_position
returns-then-position-page_position c =
    sym
    (refusal-past 9 _ (passed-3 c) ∙ refusal-past 10 _ (sym c.is_empty.ensures ∙ c.if-is_empty.false) ∙ refusal-past 11 _ (le-ltb _ _ c.if-position-control.false)
    ∙ refusal-at 12 [] (sym (ap (ltb _) c.page_position.ensures) ∙ lt-ltb _ _ c.if-position-page_position.true))

within-5 : (c : goal.Else-position-page_position) → let a = c.args in a.from + length a.bytes.now ≤ a.control.size
within-5 c = leb-true _ _ (sym c.range_ok.ensures ∙ c.if-not-range_ok.false)

passed-4 : (c : goal.Else-position-page_position)
    → let a = c.args in
    range a.control.size a.from (a.from + length a.bytes.now) ≡ false
passed-4 c = in_body _ _ _ (within-5 c) c.if-from-lt8.false

pub returns : goal.returns
returns c =
    sym
    (refusal-past 9 _ (passed-4 c) ∙ refusal-past 10 _ (sym c.is_empty.ensures ∙ c.if-is_empty.false) ∙ refusal-past 11 _ (le-ltb _ _ c.if-position-control.false)
    ∙ refusal-past 12 [] (sym (ap (ltb _) c.page_position.ensures) ∙ le-ltb _ _ c.if-position-page_position.false) ∙ refusal-none)
