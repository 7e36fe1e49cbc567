-- Two ends of one accepted call, with the same ledger after it, leave the same lent memory.
use Prim.Native.Nat.{ℕ, ◌*◌}
use mathlib.Core.Path.{◌≡◌, sym, ap, ◌∙◌}
use mathlib.Core.List.{List, ◌∷◌}
use lib.ListN.{length, get_or}
use lib.IntN.{ℤ}
use Rattle.bufmodel.specs.Rows.{store_blocks}
use Rattle.bufmodel.specs.Memory.{buffers, size}
use Rattle.bufmodel.specs.Step.{Call}
use Rattle.bufmodel.specs.Lent.{Lent, Called, control_of, opened}
use Rattle.shelf.specs.Ledger.{Ledger, buffer_in, accepted_by, ledger_after}
use Rattle.shelf.specs.Statement.{Agrees, Left, outcome_of}
use Rattle.shelf.proofs.ShelfSizes.{SameSizes, sizes-after}
use Rattle.shelf.proofs.OneLists.{ext-blocks}
use Rattle.shelf.proofs.OneMarks.{Booked, SameBooks, same_books}
use Rattle.shelf.proofs.OneAnswer.{Rest, LeavesIt}

-- ---- an accepted call leaves the block size and the number of the store's blocks
pub store-accepted : (l : Ledger) (c : Call) (answer : List ℕ) → SameSizes l.shelf (ledger_after l c answer 0).shelf
unfolding ledger_after accepted_by
store-accepted l c answer = sizes-after l.shelf c (buffer_in answer)

-- ---- equal parts make equal lent memories
lent-parts : {c c' s s' n n' p p' r r' t t' o o' : List ℕ} {f f' h h' k k' : List ℤ} → c ≡ c' → s ≡ s' → n ≡ n' → p ≡ p' → f ≡ f' → h ≡ h'
    → k ≡ k'
    → r ≡ r'
    → t ≡ t'
    → o ≡ o'
    → ◌≡◌ {A = Lent}
    (record { control = c; states = s; names = n; pool = p; free = f; heads = h; chain = k; rows = r; store = t; counts = o })
    (record {
      control = c';
      states = s';
      names = n';
      pool = p';
      free = f';
      heads = h';
      chain = k';
      rows = r';
      store = t';
      counts = o';
    })
lent-parts a b c d e f g h i j = cc

pub same-lent : (a b : Lent) → a.control ≡ b.control → SameBooks (opened a) (opened b) → (opened a).pool ≡ (opened b).pool
    → (opened a).rows ≡ (opened b).rows
    → (opened a).store ≡ (opened b).store
    → a ≡ b
unfolding opened
same-lent a b c k p r s = lent-parts c k.states k.names p k.free k.heads k.chain r s k.counts

-- the block size is the control record's first word
pub size_of : (a : Lent) {p : ℕ} {ws : List ℕ} → a.control ≡ p ∷ ws → size (opened a) ≡ p
unfolding opened control_of
size_of a e = ap (λ (ws : List ℕ). get_or ws 0 0) e

-- ---- after an accepted call
-- the memory before it has the ledger's rows and block size
pub record Matches (m : Lent) (l : Ledger) : Type 0 where
  pub rows : (opened m).rows ≡ l.shelf.rows
  pub size : size (opened m) ≡ l.shelf.size

-- an end of it: r, with the ledger x after it, and what is left
pub record Ends (m : Lent) (l x : Ledger) (c : Call) (k : Rest) (r : Called) : Type 0 where
  pub agrees : Agrees (opened m) l c (outcome_of r) x
  pub left : Left m r x
  pub leaves : LeavesIt (opened m) (outcome_of r) k

-- so has the memory after it
pub matches : {m : Lent} {l x : Ledger} {c : Call} {r : Called} → Agrees (opened m) l c (outcome_of r) x → Left m r x → Matches r.lent x
matches {r} a b = record { rows = a.rows; size = size_of r.lent b.control }

module _ {m : Lent} {l x : Ledger} {c : Call} {k : Rest} {r : Called} (a : Ends m l x c k r) where
  booked : Booked x.shelf.size (buffers (opened m)) (length (opened m).heads) k.marks (opened r.lent)
  booked = record { sizes = a.left.sizes; many = a.leaves.many; wide = a.leaves.wide; alike = a.leaves.alike }

  end-size : size (opened r.lent) ≡ x.shelf.size
  end-size = size_of r.lent a.left.control

  end-pool : length (opened r.lent).pool ≡ buffers (opened m) * x.shelf.size
  end-pool = a.left.sizes.pool ∙ ap (λ (n : ℕ). n * x.shelf.size) a.leaves.many

  end-store : Matches m l → SameSizes l.shelf x.shelf
      → length (opened r.lent).store ≡ store_blocks (opened m).rows * size (opened m)
  end-store h s = a.left.sizes.store ∙ rw (a.agrees.rows, s.blocks, s.size, h.rows, h.size)

module _ {m : Lent} {l x : Ledger} {c : Call} {k : Rest} {r r' : Called} (a : Ends m l x c k r) (a' : Ends m l x c k r') where
  books : SameBooks (opened r.lent) (opened r'.lent)
  books = same_books (booked a) (booked a')

  same-pool : (opened r.lent).pool ≡ (opened r'.lent).pool
  same-pool =
      ext-blocks x.shelf.size _ _ (buffers (opened m)) (end-pool a) (end-pool a')
      (λ i h. rw (end-size a, end-size a') at (a.leaves.pages i h ∙ sym (a'.leaves.pages i h)))

  pub same_end : Matches m l → SameSizes l.shelf x.shelf → r.lent ≡ r'.lent
  same_end h s =
      same-lent r.lent r'.lent
      (a.left.control ∙ rw (books.hand, books.top) (sym a'.left.control))
      books same-pool (a.agrees.rows ∙ sym a'.agrees.rows)
      (ext-blocks (size (opened m)) _ _ (store_blocks (opened m).rows) (end-store a h s) (end-store a' h s)
      (λ g t. a.leaves.blocks g t ∙ sym (a'.leaves.blocks g t)))
