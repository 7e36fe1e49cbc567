-- Two ends of one accepted call have the same answer and bytes, and leave the same books, pages and blocks of the store.
use Prim.Native.Nat.{ℕ, ◌+◌}
use native.Mathlib.Omega.{arith}
use mathlib.Core.Path.{◌≡◌, refl, sym, ap, ◌∙◌, subst}
use mathlib.Core.Bool.{cond}
use mathlib.Core.List.{List, [], ◌∷◌}
use lib.ListN.{get_or}
use lib.Dec.{eqb}
use Rattle.laws.specs.First.{Found, found}
use Rattle.laws.proofs.First.{found-same}
use Rattle.buftag.specs.declared.link.Link.{Link}
use Rattle.buftag.specs.declared.link.Link.TheVariants.{To, End}
use Rattle.buftag.specs.Lookup.{Held}
use Rattle.std.specs.Prelude.{Some, None}
use Rattle.buftag.specs.declared.number.BufferNumber.{BufferNumber}
use Rattle.buftag.specs.declared.name.PageName.{PageName}
use Rattle.bufmodel.specs.Memory.{Memory, word_of, page_of}
use Rattle.bufmodel.specs.Word.{dirty}
use Rattle.bufmodel.specs.Rows.{blocks_at, place_of}
use Rattle.bufmodel.specs.Outcome.{Outcome, one}
use Rattle.bufmodel.specs.Sweep.{Swept}
use Rattle.bufmodel.specs.Pin.{held_in}
use Rattle.bufmodel.specs.Step.{
  Call,
  Pin,
  Unpin,
  Read,
  Write,
  Flush,
  GiveBack,
  Checkpoint,
  Peek,
  Extend,
  Drop,
  LogInserted,
  LogFlushed,
}
use Rattle.bufmodel.proofs.SweepLaws.{sweeps-same}
use Rattle.shelf.specs.Shelf.{with}
use Rattle.shelf.specs.Ledger.{Ledger}
use Rattle.shelf.specs.Published.{Marks, marks_of, with_words, with_pins, counts_by, more_pins, emptied, loaded, blocks_of, backed}
use Rattle.shelf.specs.Published.{Leaves, Probes, hit, free, early, taken, stuck, Peeks, Published}
use Rattle.shelf.specs.Statement.{Agrees}

-- what a call leaves: the books, the pool's pages and the store's blocks
pub record Rest : Type 0 where
  pub marks : Marks
  pub page : ℕ → List ℕ
  pub store : ℕ → List ℕ

abbrev pub LeavesIt : Memory → Outcome → Rest → Type 0
LeavesIt m o x = Leaves m o x.marks x.page x.store

-- the same answer, and the same left
pub record Both (m : Memory) (o o' : Outcome) : Type 0 where
  pub answer : o.answer ≡ o'.answer
  pub rest : Rest
  pub left : LeavesIt m o rest
  pub right : LeavesIt m o' rest

same_left : {m : Memory} {o o' : Outcome} {k : Marks} {page store : ℕ → List ℕ} → o.answer ≡ o'.answer → Leaves m o k page store
    → Leaves m o' k page store → Both m o o'
same_left {k} {page} {store} e a a' =
    record { answer = e; rest = record { marks = k; page = page; store = store }; left = a; right = a' }

-- two ends that are those of one choice
chosen : {A : Type 0} {m : Memory} {o o' : Outcome} (answer : A → List ℕ) (rest : A → Rest) {x y : A} → x ≡ y → o.answer ≡ answer x
    → o'.answer ≡ answer y
    → LeavesIt m o (rest x)
    → LeavesIt m o' (rest y)
    → Both m o o'
chosen {m} {o'} answer rest e a a' k k' =
    same_left (a ∙ ap answer e ∙ sym a') k (subst (λ y. LeavesIt m o' (rest y)) (sym e) k')

-- ---- a pin
held-clash : {A : Type 0} {h : Held} {b : BufferNumber} → h ≡ Some b → h ≡ None → A
held-clash e f = absurd (let z : ◌≡◌ {A = ℕ} 0 1 = cc in omega arith)

link-clash : {A : Type 0} {l : Link} {i : ℕ} → l ≡ To i → l ≡ End → A
link-clash e f = absurd (let z : ◌≡◌ {A = ℕ} 0 1 = cc in omega arith)

same_at : {h : Held} {b c : BufferNumber} → h ≡ Some b → h ≡ Some c → b ≡ c
same_at e f = cc

same-to : {l : Link} {i j : ℕ} → l ≡ To i → l ≡ To j → i ≡ j
same-to e f = cc

-- a place, and a buffer for its page
same_load : {l : Link} {i j : ℕ} {f : Found} {g h : ℕ} → l ≡ To i → l ≡ To j → f ≡ found g → f ≡ found h
    → ◌≡◌ {A = ℕ × ℕ} (i, g) (j, h)
same_load e f p q = let x = same-to e f in let y = found-same (sym p ∙ q) in cc

-- a sweep has one end, and one victim
same-victim : {s t : Swept} {v w : ℕ} {f : Found} {g h : ℕ} → s ≡ t → s.victim ≡ found v → t.victim ≡ found w → f ≡ found g
    → f ≡ found h
    → ◌≡◌ {A = Swept × ℕ × ℕ} (s, v, g) (t, w, h)
same-victim e f g p q =
    let x = found-same (sym f ∙ ap (λ (s : Swept). s.victim) e ∙ g) in let y = found-same (sym p ∙ q) in cc

-- what a pin of page n by holder h leaves: of a held page; loaded from a place into the free list's top; into a sweep's victim
module _ (m : Memory) where
  abbrev hits : ℕ → ℕ → BufferNumber → Rest
  hits cap h b =
      let i = b.0 in
      let c = counts_by m h i in
      let word = cond (eqb c 0) (more_pins cap (word_of m i)) (word_of m i) in
      record {
        marks = with_pins (with i word (word_of m)) h (with i (c + 1) (counts_by m h)) (marks_of m);
        page = page_of m;
        store = blocks_of m;
      }

  abbrev loads : ℕ → PageName → ℕ × ℕ → Rest
  loads h n x =
      record { marks = loaded m h n x.0 (marks_of m); page = with x.0 (blocks_of m x.1) (page_of m); store = blocks_of m }

  abbrev takes : ℕ → PageName → Swept × ℕ × ℕ → Rest
  takes h n x =
      let s = x.0 in
      let v = x.1 in
      record {
        marks = loaded m h n v (emptied v (with_words (λ i. get_or s.words i 0) s.hand (marks_of m)));
        page = with v (blocks_of m x.2) (page_of m);
        store = backed m v (blocks_of m);
      }

module _ {m : Memory} {h : ℕ} {n : PageName} {cap : ℕ} {o o' : Outcome} (z : o.refusal ≡ 0) (z' : o'.refusal ≡ 0) where
  both-pins : {a b : ℕ} → Probes m h n cap o a → Probes m h n cap o' b → Both m o o'
  both-pins (hit q e a k) (hit q' e' a' k') = chosen (λ b. b.0 ∷ 1 ∷ 0 ∷ 0 ∷ []) (hits m cap h) (same_at q q') a a' k k'
  both-pins (hit q e a k) (free q' t' e' a' p' k') = held-clash q q'
  both-pins (hit q e a k) (early e' s') = absurd (e' z')
  both-pins (hit q e a k) (taken q' t' e' w' v' a' p' k') = held-clash q q'
  both-pins (hit q e a k) (stuck q' t' e' w' v') = absurd (omega arith)
  both-pins (free q t e a p k) (hit q' e' a' k') = held-clash q' q
  both-pins (free q t e a p k) (free q' t' e' a' p' k') =
      chosen (λ x. x.0 ∷ 0 ∷ 0 ∷ 0 ∷ []) (loads m h n) (same_load t t' p p') a a' k k'
  both-pins (free q t e a p k) (early e' s') = absurd (e' z')
  both-pins (free q t e a p k) (taken q' t' e' w' v' a' p' k') = link-clash t t'
  both-pins (free q t e a p k) (stuck q' t' e' w' v') = absurd (omega arith)
  both-pins (early e s) y = absurd (e z)
  both-pins (taken q t e w v a p k) (hit q' e' a' k') = held-clash q' q
  both-pins (taken q t e w v a p k) (free q' t' e' a' p' k') = link-clash t' t
  both-pins (taken q t e w v a p k) (early e' s') = absurd (e' z')
  both-pins (taken q t e w v a p k) (taken q' t' e' w' v' a' p' k') =
      chosen (λ x. x.1 ∷ 0 ∷ cond (dirty (word_of m x.1)) 1 0 ∷ x.0.probes ∷ []) (takes m h n)
      (same-victim (sweeps-same w w') v v' p p') a a' k k'
  both-pins (taken q t e w v a p k) (stuck q' t' e' w' v') = absurd (omega arith)
  both-pins (stuck q t e w v) y = absurd (omega arith)

-- ---- peek
module _ {m : Memory} {n : PageName} {o o' : Outcome} {g : ℕ} (e : place_of m.rows n ≡ found g) where
  same-peek : Peeks m n o → Peeks m n o' → o.answer ≡ o'.answer
  same-peek p p' = go (held_in m n) refl
    where
      go : (h : Held) → held_in m n ≡ h → o.answer ≡ o'.answer
      go (Some b) q = p.in_pool b q ∙ sym (p'.in_pool b q)
      go None q = p.in_store g q e ∙ sym (p'.in_store g q e)

-- ---- every call
-- an answer of one word is decided by that word
same-one : {xs ys : List ℕ} {a b k : ℕ} → xs ≡ one a → ys ≡ one b → get_or xs 0 0 ≡ k → get_or ys 0 0 ≡ k → xs ≡ ys
same-one e f x y = e ∙ ap one (sym (ap (λ l. get_or l 0 0) e) ∙ x ∙ sym y ∙ ap (λ l. get_or l 0 0) f) ∙ sym f

module _ {m : Memory} {l x x' : Ledger} {cap many : ℕ} {o o' : Outcome} (rows : m.rows ≡ l.shelf.rows) (z : o.refusal ≡ 0)
    (z' : o'.refusal ≡ 0) where
  pub both : (c : Call) → Agrees m l c o x → Agrees m l c o' x' → Published m cap many c o → Published m cap many c o' → Both m o o'
  both (Pin h n) a a' p p' = both-pins z z' (p.sought h n refl).looked (p'.sought h n refl).looked
  both (Unpin h b) a a' p p' = same_left (a.answers z ∙ sym (a'.answers z')) (p.accepts z) (p'.accepts z')
  both (Read h b from out) a a' p p' = same_left (a.answers z ∙ sym (a'.answers z')) (p.accepts z).0 (p'.accepts z').0
  both (Write h b from bytes at) a a' p p' = same_left (a.answers z ∙ sym (a'.answers z')) (p.accepts z) (p'.accepts z')
  both (Flush h b) a a' p p' =
      let k = p.accepts z in let k' = p'.accepts z' in same_left (k.1 ∙ sym k'.1) k.0 k'.0
  both (GiveBack h) a a' p p' = same_left (a.answers z ∙ sym (a'.answers z')) (p.accepts z) (p'.accepts z')
  both Checkpoint a a' p p' =
      let k = p.accepts z in let k' = p'.accepts z' in same_left (k.1 ∙ sym k'.1) k.0 k'.0
  both (Peek n) a a' p p' =
      let k = p.accepts z in
      let k' = p'.accepts z' in
      let e = ap (λ (rs : List ℕ). place_of rs n) rows ∙ (a.shows z).1 in
      same_left (same-peek e k.1 k'.1) k.0 k'.0
  both (Extend f) a a' p p' =
      let s = a.shows z in
      let s' = a'.shows z' in
      let q : s'.0 ≡ s.0 = found-same (sym s'.1 ∙ s.1) in
      same_left (same-one (a.answers z).1 (a'.answers z').1 s.2 (s'.2 ∙ ap (blocks_at l.shelf.rows) q))
      (p.accepts z) (p'.accepts z')
  both (Drop f) a a' p p' = same_left (a.answers z ∙ sym (a'.answers z')) (p.accepts z) (p'.accepts z')
  both (LogInserted p) a a' q q' = same_left (a.answers z ∙ sym (a'.answers z')) (q.accepts z) (q'.accepts z')
  both (LogFlushed p) a a' q q' = same_left (a.answers z ∙ sym (a'.answers z')) (q.accepts z) (q'.accepts z')

  -- the caller's bytes
  pub same_bytes : (c : Call) → Agrees m l c o x → Agrees m l c o' x' → Published m cap many c o → Published m cap many c o'
      → o.bytes ≡ o'.bytes
  same_bytes (Pin h n) a a' p p' = (a.shows z).3 ∙ sym (a'.shows z').3
  same_bytes (Unpin h b) a a' p p' = a.shows z ∙ sym (a'.shows z')
  same_bytes (Read h b from out) a a' p p' = (p.accepts z).1 ∙ sym (p'.accepts z').1
  same_bytes (Write h b from bytes at) a a' p p' = a.shows z ∙ sym (a'.shows z')
  same_bytes (Flush h b) a a' p p' = a.shows z ∙ sym (a'.shows z')
  same_bytes (GiveBack h) a a' p p' = a.shows z ∙ sym (a'.shows z')
  same_bytes Checkpoint a a' p p' = a.shows z ∙ sym (a'.shows z')
  same_bytes (Peek n) a a' p p' = (a.shows z).3 ∙ sym (a'.shows z').3
  same_bytes (Extend f) a a' p p' = (a.shows z).3 ∙ sym (a'.shows z').3
  same_bytes (Drop f) a a' p p' = a.shows z ∙ sym (a'.shows z')
  same_bytes (LogInserted p) a a' q q' = a.shows z ∙ sym (a'.shows z')
  same_bytes (LogFlushed p) a a' q q' = a.shows z ∙ sym (a'.shows z')
