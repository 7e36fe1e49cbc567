-- An accepted call: what it has to show, and that this is all.
use Prim.Native.Nat.{ℕ, ◌+◌, ◌≤◌, ◌<◌}
use mathlib.Core.Path.{◌≡◌, refl, sym, ap, ◌∙◌, subst}
use mathlib.Core.Bool.{true, false}
use mathlib.Core.List.{List}
use native.Mathlib.Omega.{arith}
use lib.ListN.{length}
use Rattle.laws.specs.Block.{block}
use Rattle.bufmodel.specs.Position.{position}
use Rattle.bufmodel.specs.Checksum.{bare}
use Rattle.bufmodel.specs.Rows.{files, blocks_at, start_of, store_blocks}
use Rattle.bufmodel.specs.Memory.{Memory, buffers, size, cap_of}
use Rattle.bufmodel.specs.Outcome.{done}
use Rattle.bufmodel.specs.Step.{Call, Checkpoint}
use Rattle.shelf.specs.Sums.{fails}
use Rattle.shelf.specs.Shelf.{Shelf, refuses}
use Rattle.shelf.specs.Ledger.{Ledger, buffer_in, put_by, accepted_by, ledger_after, puts}
use Rattle.shelf.specs.Statement.{Answers, Shows}
use Rattle.shelf.proofs.ShelfSizes.{sizes-after}
use Rattle.shelf.proofs.Kept.{View, shelf_of, ledger_of, view_of, Kept, Ended}
use Rattle.shelf.proofs.KeptLaws.{page-held, counts-held, sums_kept}
use Rattle.shelf.proofs.ShelfPlaces.{six-of}

-- the ledger after an accepted call that answered so
abbrev pub ledger_then : Memory → View → Call → List ℕ → Ledger
ledger_then m v c answer = accepted_by (ledger_of m v) c answer

abbrev pub shelf_then : Memory → View → Call → List ℕ → Shelf
shelf_then m v c answer = (ledger_then m v c answer).shelf

-- an accepted call that answered so, handed these bytes back and left memory m'
pub record Accepted (m : Memory) (v : View) (c : Call) (answer bytes : List ℕ) (m' : Memory) : Type 0 where
  pub number : refuses (shelf_of m v) c ≡ 0
  pub answers : Answers (done answer bytes m') c
  pub shows : Shows (shelf_of m v) (done answer bytes m') c
  -- what the ledger shares with the memory
  pub many : buffers m ≡ buffers m'
  pub wide : size m ≡ size m'
  pub cap : cap_of m ≡ cap_of m'
  pub rows : (shelf_then m v c answer).rows ≡ m'.rows
  pub inserted : (shelf_then m v c answer).inserted ≡ m'.control.inserted
  pub flushed : (ledger_then m v c answer).flushed ≡ m'.control.flushed
  pub kept : Kept m' (view_of (ledger_then m v c answer))
  -- the store
  pub others : (g : ℕ) → g < store_blocks m.rows → put_by (ledger_of m v) c answer g ≡ false
      → block (size m) g m'.store ≡ block (size m) g m.store
  pub long : length m'.store ≡ length m.store
  pub stored : (g : ℕ) → put_by (ledger_of m v) c answer g ≡ true
      → bare (block (size m) g m'.store) ≡ bare ((shelf_then m v c answer).bytes g)
  pub settled : c ≡ Checkpoint → (r b : ℕ) → r < files m.rows → b < blocks_at m.rows r
      → bare (block (size m) (start_of m.rows r + b) m'.store) ≡ bare (v.bytes (start_of m.rows r + b))

-- two ledgers with equal parts
abbrev shelf_with : View → ℕ → ℕ → ℕ → List ℕ → Shelf
shelf_with v b p i r =
    record {
      buffers = b;
      size = p;
      inserted = i;
      rows = r;
      bytes = v.bytes;
      counts = v.counts;
      holds = v.holds;
      bad = v.bad;
    }

same-ledger : {b b' p p' i i' f f' c c' : ℕ} {r r' : List ℕ} (v : View) → b ≡ b' → p ≡ p' → i ≡ i' → r ≡ r' → f ≡ f' → c ≡ c'
    → ◌≡◌ {A = Ledger}
    (record {
      shelf = shelf_with v b p i r;
      dirty = v.dirty;
      last = v.last;
      flushed = f;
      put = v.put;
      cap = c;
    })
    (record {
      shelf = shelf_with v b' p' i' r';
      dirty = v.dirty;
      last = v.last;
      flushed = f';
      put = v.put;
      cap = c';
    })
same-ledger v e f g h i j = cc

module _ (m : Memory) (v : View) (c : Call) (answer bytes : List ℕ) (m' : Memory) where
  pub accepted-ended : Accepted m v c answer bytes m' → Ended m v c (done answer bytes m')
  unfolding ledger_after puts accepted_by
  accepted-ended a =
      let n = sizes-after (shelf_of m v) c (buffer_in answer) in
      record {
        agrees =
            record {
              number = sym a.number;
              neither = (omega arith, omega arith);
              answers = λ z. a.answers;
              shows = λ z. a.shows;
              blank = λ h. absurd (h refl);
              kept = λ h. absurd (h refl);
              rows = sym a.rows;
              inserted = sym a.inserted;
              cap = sym a.cap;
              six = six-of (shelf_of m v) c (sym a.number);
              flushed = sym a.flushed;
              ordered = λ g h.
                  subst (λ (f : ℕ). position (block (size m) g m'.store) ≤ f) (sym a.flushed)
                  (subst (λ (p : ℕ). position (block p g m'.store) ≤ m'.control.flushed) (sym a.wide) (a.kept.put g h).1);
              others = a.others;
              long = a.long;
              stored = λ g l. a.stored g;
              held = page-held m' (view_of (ledger_then m v c answer)) a.kept;
              counts = counts-held m' (view_of (ledger_then m v c answer)) a.kept;
              sums = λ x g e.
                  ap (λ (p : ℕ). fails x.block.0 (block p g m'.store)) a.wide
                  ∙ sums_kept m' (view_of (ledger_then m v c answer)) a.kept x g e;
              settled = λ q z. a.settled q;
            };
        kept = a.kept;
        shared = same-ledger (view_of (ledger_then m v c answer))
            (n.buffers ∙ a.many) (n.size ∙ a.wide) a.inserted a.rows a.flushed a.cap;
      }
