-- Each test of what an accepted call answers and leaves passes where demand 2's clause holds.
use Prim.Native.Nat.{ℕ, ◌+◌, ◌*◌, ◌≤◌}
use native.Mathlib.Omega.{arith}
use mathlib.Core.Path.{◌≡◌, refl, sym, ap, ◌∙◌, subst}
use mathlib.Core.Bool.{true}
use mathlib.Core.List.{List}
use borrow.Author.Tests.{eq-eqb}
use Rattle.laws.specs.First.{Found, found}
use Rattle.laws.proofs.Tests.{and-true}
use Rattle.laws.proofs.Every.{all_of}
use Rattle.buftag.specs.declared.link.Link.{Link}
use Rattle.buftag.specs.Lookup.{Held}
use Rattle.std.specs.Prelude.{Some, None}
use Rattle.buftag.specs.declared.name.PageName.{PageName}
use Rattle.bufmodel.specs.Memory.{Memory}
use Rattle.bufmodel.specs.Rows.{place_of}
use Rattle.bufmodel.specs.Sweep.{Swept}
use Rattle.bufmodel.specs.Outcome.{Outcome}
use Rattle.bufmodel.specs.Pin.{held_in}
use Rattle.bufmodel.specs.Step.{
  Call,
  Pin,
  Unpin,
  Read,
  Write,
  Flush,
  GiveBack,
  Checkpoint,
  Peek,
  Extend,
  Drop,
  LogInserted,
  LogFlushed,
}
use Rattle.bufmodel.proofs.SweepLaws.{sweep-is}
use Rattle.shelf.specs.Published.{Marks, Leaves, Probes, hit, free, early, taken, stuck, Peeks, Published}
use Rattle.shelf.specs.JudgePublished.{
  sweep_of,
  swept_marks,
  new_marks,
  pin_marks,
  marks_after,
  loaded_pages,
  swept_pages,
  new_pages,
  pin_pages,
  pages_after,
  swept_blocks,
  new_blocks,
  pin_blocks,
  blocks_after,
  swept_test,
  new_test,
  pin_test,
  peek_test,
  said_tests,
  clock_tests,
  name_tests,
  page_tests,
}
use Rattle.shelf.proofs.TestLaws.{
  Passes,
  all,
  ◌&◌,
  if-place,
  same-list,
  start-same,
  words-pass,
  names-pass,
  links-pass,
  chains-pass,
  counts-pass,
}

module _ (cap many : ℕ) (m : Memory) (o : Outcome) where
  -- ---- a pin: its answer, and what it leaves
  record PinFine (w : ℕ) (n : PageName) (x : Held) : Type 0 where
    said : pin_test cap many m o.answer x ≡ true
    leaves : Leaves m o (pin_marks cap many m w n x) (pin_pages cap many m n x) (pin_blocks cap many m x)

  -- what a pin leaves that loads the page where a link leads; into a sweep's victim
  abbrev New : ℕ → PageName → Link → Type 0
  New w n x = Leaves m o (new_marks cap many m w n x) (new_pages cap many m n x) (new_blocks cap many m x)

  abbrev Taken : ℕ → PageName → Swept → Found → Type 0
  Taken w n s x = Leaves m o (swept_marks cap many m w n s x) (swept_pages cap many m n x) (swept_blocks cap many m x)

  -- the page loaded is the block at its place
  loads : (n : PageName) {g : ℕ} {k : Marks} {store : ℕ → List ℕ} (i : ℕ) → place_of m.rows n ≡ found g
      → Leaves m o k (loaded_pages cap many m i (found g)) store → Leaves m o k (loaded_pages cap many m i (place_of m.rows n)) store
  loads n {k} {store} i e = subst (λ (x : Found). Leaves m o k (loaded_pages cap many m i x) store) (sym e)

  pin-fine : (w : ℕ) (n : PageName) (k : ℕ) → Probes m w n cap o k → k ≤ (cap + 1) * many → o.refusal ≡ 0
      → PinFine w n (held_in m n)
  unfolding pin_test new_test swept_test pin_marks new_marks swept_marks loaded_pages pin_pages new_pages swept_pages pin_blocks new_blocks swept_blocks
  pin-fine w n _ (hit {b} e z a h) l q = subst (PinFine w n) (sym e) (record { said = same-list a; leaves = h })
  pin-fine w n _ (free {i} e f z a p h) l q =
      subst (PinFine w n) (sym e)
      (record { said = ap (new_test cap many m o.answer) f ∙ same-list a; leaves = subst (New w n) (sym f) (loads n i p h) })
  pin-fine w n _ (early a b) l q = absurd (a q)
  pin-fine w n _ (taken {s} {v} e f z y t a p h) l q =
      let is : sweep_of cap many m ≡ s = sweep-is ((cap + 1) * many) y l in
      subst (PinFine w n) (sym e)
      (record {
        said =
            ap (new_test cap many m o.answer) f ∙ ap (λ (x : Swept). swept_test cap many m o.answer x x.victim) is
            ∙ ap (swept_test cap many m o.answer s) t
            ∙ same-list a;
        leaves =
            subst (New w n) (sym f)
            (subst (λ (x : Swept). Taken w n x x.victim) (sym is) (subst (Taken w n s) (sym t) (loads n v p h)));
      })
  pin-fine w n _ (stuck e f z y t) l q = absurd (omega arith)

  peek-pass : (n : PageName) (x : Held) → held_in m n ≡ x → Peeks m n o → peek_test cap many m o.answer n x ≡ true
  unfolding peek_test
  peek-pass n (Some b) e h = same-list (h.in_pool b e)
  peek-pass n None e h = if-place _ _ (λ g q. same-list (h.in_store g e q))

  -- ---- every call
  module _ (z : o.refusal ≡ 0) where
    pinned : (w : ℕ) (n : PageName) → Published m cap many (Pin w n) o → PinFine w n (held_in m n)
    pinned w n h = let s = h.sought w n refl in pin-fine w n s.probes s.looked s.bound z

    pub said-pass : (c : Call) → Published m cap many c o → Passes (said_tests cap many m o.answer o.bytes c)
    unfolding said_tests
    said-pass (Pin w n) h = (pinned w n h).said & all
    said-pass (Unpin w b) h = all
    said-pass (Read w b from out) h = same-list (h.accepts z).1 & all
    said-pass (Write w b from bytes at) h = all
    said-pass (Flush w b) h = same-list (h.accepts z).1 & all
    said-pass (GiveBack w) h = all
    said-pass Checkpoint h = same-list (h.accepts z).1 & all
    said-pass (Peek n) h = peek-pass n (held_in m n) refl (h.accepts z).1 & all
    said-pass (Extend f) h = all
    said-pass (Drop f) h = all
    said-pass (LogInserted p) h = all
    said-pass (LogFlushed p) h = all

    pub leaves_after : (c : Call) → Published m cap many c o
        → Leaves m o (marks_after cap many m c) (pages_after cap many m c) (blocks_after cap many m c)
    unfolding marks_after pages_after blocks_after
    leaves_after (Pin w n) h = (pinned w n h).leaves
    leaves_after (Unpin w b) h = h.accepts z
    leaves_after (Read w b from out) h = (h.accepts z).0
    leaves_after (Write w b from bytes at) h = h.accepts z
    leaves_after (Flush w b) h = (h.accepts z).0
    leaves_after (GiveBack w) h = h.accepts z
    leaves_after Checkpoint h = (h.accepts z).0
    leaves_after (Peek n) h = (h.accepts z).0
    leaves_after (Extend f) h = h.accepts z
    leaves_after (Drop f) h = h.accepts z
    leaves_after (LogInserted p) h = h.accepts z
    leaves_after (LogFlushed p) h = h.accepts z

module _ (m : Memory) (o : Outcome) where
  module _ {k : Marks} {page store : ℕ → List ℕ} (h : Leaves m o k page store) where
    pub clock-pass : Passes (clock_tests m o k)
    unfolding clock_tests
    clock-pass =
        and-true (eq-eqb _ _ h.many) (words-pass h.alike)
        & counts-pass h.alike
        & eq-eqb _ _ h.alike.hand
        & links-pass h.alike
        & all

    pub name-pass : Passes (name_tests m o k)
    unfolding name_tests
    name-pass = names-pass h.alike & and-true (eq-eqb _ _ h.wide) (chains-pass h.alike) & all

    pub page-pass : Passes (page_tests m o page store)
    unfolding page_tests
    page-pass =
        all_of _ _ (λ i l. start-same _ _ _ _ (h.pages i l)) & all_of _ _ (λ g l. start-same _ _ _ _ (h.blocks g l)) & all
