-- The relation between memory and ledger that every call keeps, and what a call has to show.
use Prim.Native.Nat.{ℕ, ◌≤◌, ◌<◌}
use mathlib.Core.Path.{◌≡◌, refl, sym, ap, subst}
use mathlib.Core.Bool.{Bool, true, false, not, cond}
use mathlib.Core.List.{List, [], ◌∷◌}
use Rattle.laws.specs.First.{Found, found, missing}
use Rattle.laws.specs.Block.{block}
use Rattle.buftag.specs.declared.name.PageName.{PageName}
use Rattle.bufmodel.specs.Word.{pinned, dirty}
use Rattle.bufmodel.specs.Position.{position}
use Rattle.bufmodel.specs.Checksum.{bare, passes}
use Rattle.bufmodel.specs.Rows.{store_blocks, place_of}
use Rattle.bufmodel.specs.Memory.{Memory, buffers, size, cap_of, word_of, name_of, page_of}
use Rattle.bufmodel.specs.Counts.{max_holders, count_at}
use Rattle.bufmodel.specs.Books.{empty_at}
use Rattle.bufmodel.specs.Outcome.{Outcome}
use Rattle.bufmodel.specs.Step.{Call, step}
use Rattle.bufmodel.proofs.GoodLaws.{Good}
use Rattle.shelf.specs.Shelf.{Shelf}
use Rattle.shelf.specs.Ledger.{Ledger, ledger_after}
use Rattle.shelf.specs.Statement.{Agrees, FitsCall}
use Rattle.shelf.proofs.PublishedWords.{HeldWords}

-- ---- the ledger, less what it shares with the memory: those parts are equal by computation
pub record View : Type 0 where
  pub bytes : ℕ → List ℕ
  -- holder, page
  pub counts : ℕ → ℕ → ℕ
  pub holds : ℕ → Found
  pub bad : ℕ → Bool
  pub dirty : ℕ → Bool
  pub last : ℕ → Found
  pub put : ℕ → Bool

abbrev pub shelf_of : Memory → View → Shelf
shelf_of m v =
    record {
      buffers = buffers m;
      size = size m;
      inserted = m.control.inserted;
      rows = m.rows;
      bytes = v.bytes;
      counts = v.counts;
      holds = v.holds;
      bad = v.bad;
    }

abbrev pub ledger_of : Memory → View → Ledger
ledger_of m v =
    record { shelf = shelf_of m v; dirty = v.dirty; last = v.last; flushed = m.control.flushed; put = v.put; cap = cap_of m }

abbrev pub view_of : Ledger → View
view_of l =
    record {
      bytes = l.shelf.bytes;
      counts = l.shelf.counts;
      holds = l.shelf.holds;
      bad = l.shelf.bad;
      dirty = l.dirty;
      last = l.last;
      put = l.put;
    }

-- ---- the relation
-- buffer i has the page at place g
pub record Has (m : Memory) (i g : ℕ) : Type 0 where
  pub below : i < buffers m
  pub full : empty_at m i ≡ false
  pub place : place_of m.rows (name_of m i) ≡ found g

-- no buffer has it
abbrev pub Nobody : Memory → ℕ → Type 0
Nobody m g = (i : ℕ) → Has m i g → ⊥

-- what the ledger says of the page that buffer i has, bytes 8 and 9 left out
pub record Same (m : Memory) (v : View) (i g : ℕ) : Type 0 where
  pub bytes : bare (v.bytes g) ≡ bare (page_of m i)
  pub counts : (h : ℕ) → h < max_holders → v.counts h g ≡ count_at m.counts i h
  pub marked : v.dirty g ≡ dirty (word_of m i)
  pub last : v.last i ≡ found g
  -- a page that is not dirty equals its block in the store
  pub clean : dirty (word_of m i) ≡ false → bare (block (size m) g m.store) ≡ bare (page_of m i)
  -- and did not come in bad
  pub fine : v.bad g ≡ false

-- what holds between them after every call
pub record Kept (m : Memory) (v : View) : Type 0 where
  pub good : Good m
  pub words : HeldWords m
  pub same : (i g : ℕ) → Has m i g → Same m v i g
  -- a page that no buffer has has no pins, is not dirty, and its bytes, but for 8 and 9, are the store's
  pub unpinned : (g : ℕ) → Nobody m g → (h : ℕ) → h < max_holders → v.counts h g ≡ 0
  pub unmarked : (g : ℕ) → Nobody m g → v.dirty g ≡ false
  pub stored : (n : PageName) (g : ℕ) → place_of m.rows n ≡ found g → Nobody m g
      → bare (v.bytes g) ≡ bare (block (size m) g m.store)
  -- a block passes its checksum unless it came in bad
  pub passed : (n : PageName) (g : ℕ) → place_of m.rows n ≡ found g
      → v.bad g ≡ not (passes n.block.0 (block (size m) g m.store))
  -- only blocks that exist are bad
  pub known : (g : ℕ) → v.bad g ≡ true → (n : PageName) × (place_of m.rows n ≡ found g)
  -- a number holds a page exactly when its buffer is pinned, and that page
  pub holds : (i : ℕ) → i < buffers m → v.holds i ≡ cond (pinned (word_of m i)) (place_of m.rows (name_of m i)) missing
  -- what was put into the store is at or below flushed
  pub put : (g : ℕ) → v.put g ≡ true
      → (g < store_blocks m.rows) × (position (block (size m) g m.store) ≤ m.control.flushed)

-- ---- what a call that ended so has to show
abbrev pub ledger_next : Memory → View → Call → Outcome → Ledger
ledger_next m v c o = ledger_after (ledger_of m v) c o.answer o.refusal

-- the call agrees with the ledger, and the relation holds again
pub record Ended (m : Memory) (v : View) (c : Call) (o : Outcome) : Type 0 where
  pub agrees : Agrees m (ledger_of m v) c o (ledger_next m v c o)
  pub kept : Kept o.after (view_of (ledger_next m v c o))
  -- the parts that the ledger shares with the memory are shared again
  pub shared : ledger_next m v c o ≡ ledger_of o.after (view_of (ledger_next m v c o))

-- ---- a list of calls over the memory, by induction
-- a call that ended so; before it the ledger had the memory's cap and number of buffers
pub record Ran (m : Memory) (l : Ledger) (c : Call) (o : Outcome) (l' : Ledger) : Type 0 where
  pub cap : l.cap ≡ cap_of m
  pub many : l.shelf.buffers ≡ buffers m
  pub good : Good o.after
  pub words : HeldWords o.after
  pub size : l'.shelf.size ≡ size o.after
  pub agrees : Agrees m l c o l'

abbrev pub Runs : Memory → Ledger → List Call → Type 0
Runs m l [] = Unit {0}
Runs m l (c ∷ cs) =
    let o = step m c in
    let l' = ledger_after l c o.answer o.refusal in
    Ran m l c o l' × Runs o.after l' cs

abbrev pub FitsCalls : List Call → Type 0
FitsCalls [] = Unit {0}
FitsCalls (c ∷ cs) = FitsCall c × FitsCalls cs

-- what has to be shown: each call that fits ends so
abbrev pub Steps : Type 0
Steps = (m : Memory) (v : View) (c : Call) → Kept m v → FitsCall c → Ended m v c (step m c)

-- then a list of calls runs as the ledger says
pub runs_of : Steps → (m : Memory) (v : View) (calls : List Call) → Kept m v → FitsCalls calls → Runs m (ledger_of m v) calls
runs_of steps m v [] k f = tt
runs_of steps m v (c ∷ cs) k f =
    let s = steps m v c k f.0 in (
      record {
        cap = refl;
        many = refl;
        good = s.kept.good;
        words = s.kept.words;
        size = ap (λ (l : Ledger). l.shelf.size) s.shared;
        agrees = s.agrees;
      },
      subst (λ (l : Ledger). Runs (step m c).after l cs) (sym s.shared) (runs_of steps (step m c).after (view_of (ledger_next m v c (step m c))) cs s.kept f.1),
    )
