-- What a pin and an unpin do between two uses: no place refuses, and the page is held where the trace has it.
use Prim.Native.Nat.{ℕ, ◌-◌, ◌*◌, ◌≤◌, ◌<◌}
use native.Mathlib.Omega.{arith}
use mathlib.Core.Path.{◌≡◌, refl, sym, ap, ◌∙◌}
use mathlib.Core.Bool.{true, false, not}
use mathlib.Core.Logic.{⊎_elim}
use mathlib.Core.List.{List, [], ◌∷◌, ◌++◌}
use lib.ListN.{length, get_or, drop, replicate, length-append, length-replicate}
use lib.Seq.{get_or-append-add, get_or-take, get_or-drop, ext_get_or}
use lib.Dec.{eqb}
use borrow.Author.Tests.{eq-eqb, eqb-true, lt-leb}
use Rattle.laws.specs.First.{found, missing, first}
use Rattle.laws.specs.Sum.{sum}
use Rattle.laws.specs.Block.{block}
use Rattle.laws.proofs.Tests.{never, lt-or-le}
use Rattle.laws.proofs.First.{first_found, first-missing}
use Rattle.laws.proofs.Every.{all-fails}
use Rattle.laws.proofs.Sum.{count-nobody}
use Rattle.laws.proofs.Block.{length-block}
use Rattle.laws.proofs.Lists.{get_d-replicate-all}
use Rattle.buftag.specs.declared.name.PageName.{PageName}
use Rattle.buftag.specs.declared.number.BufferNumber.{BufferNumber}
use Rattle.buftag.specs.Lookup.{Held}
use Rattle.std.specs.Prelude.{Some, None}
use Rattle.bufmodel.specs.Word.{pins, empty, pinned as word_pinned}
use Rattle.bufmodel.specs.Checksum.{passes}
use Rattle.bufmodel.specs.Memory.{Memory, buffers, size, word_of, name_of}
use Rattle.bufmodel.specs.Counts.{max_holders, max_count, count_place, count_at, has_pin, holders_of}
use Rattle.bufmodel.specs.Rows.{files, file_at, blocks_at, row_of, start_of, place_of}
use Rattle.bufmodel.specs.Books.{empty_at}
use Rattle.bufmodel.specs.Outcome.{Place, refusal_of, done, zeros}
use Rattle.bufmodel.specs.Pin.{no_row, no_block, sum_differs, count_full, no_victim, held_in, holder_place, name_places, page_places}
use Rattle.bufmodel.specs.Pin.{pin_places, pin_to, pin}
use Rattle.bufmodel.specs.Calls.{buffer_places, unpin, unpin_at}
use Rattle.bufmodel.proofs.WordLaws.{zero-empty}
use Rattle.bufmodel.proofs.RowsLaws.{place_found, place_is as block-place}
use Rattle.bufmodel.proofs.HeldLaws.{full-used, held_none, held_at as held-says}
use Rattle.bufmodel.proofs.ChecksumLaws.{zeros-pass}
use Rattle.bufmodel.proofs.OutcomeLaws.{refusal-past, refusal-none, outcome-done}
use Rattle.bufmodel.proofs.GoodLaws.{Good, checked-good}
use Rattle.buftrace.specs.Usage.{holder, page, pinned}
use Rattle.buftrace.specs.Trace.{Trace, buffer_of}
use Rattle.buftrace.proofs.Agrees.{Agrees}

-- ---- the one file
place-one : (blocks b : ℕ) → b < blocks → place_of (1663 ∷ 5 ∷ 16384 ∷ 0 ∷ blocks ∷ blocks ∷ []) (page b) ≡ found b
unfolding row_of files file_at blocks_at start_of first sum
place-one blocks b l = block-place (1663 ∷ 5 ∷ 16384 ∷ 0 ∷ blocks ∷ blocks ∷ []) (page b) {r = 0} refl l ∙ ap found (omega arith)

-- a page with a place passes the places 3 and 4
name-past : (rows : List ℕ) (n : PageName) {g : ℕ} (later : List Place) → place_of rows n ≡ found g
    → refusal_of (name_places rows n later) ≡ refusal_of later
unfolding name_places no_row no_block
name-past rows n later e =
    let p = place_found rows n e in
    refusal-past 3 _ (ap no_row p.1) ∙ refusal-past 4 later (ap (no_block rows n.block.0) p.1 ∙ lt-leb _ _ p.2)

-- ---- zeros
block-zeros : (p n i : ℕ) → i < n → block p i (replicate (n * p) 0) ≡ replicate p 0
unfolding block
block-zeros p n i l =
    let zs : List ℕ = replicate (n * p) 0 in
    let long = length-block p n i zs (length-replicate (n * p) 0) l in
    ext_get_or 0 (block p i zs) (replicate p 0) (long ∙ sym (length-replicate p 0))
    (λ k h.
    get_or-take p (drop (i * p) zs) k 0 (omega arith) ∙ get_or-drop (i * p) zs k 0 ∙ get_d-replicate-all (n * p) _ 0
    ∙ sym (get_d-replicate-all p k 0))

count_zeros : (n i h : ℕ) → count_at (replicate n 0) i h ≡ 0
unfolding count_at
count_zeros n i h = get_d-replicate-all n (count_place i h) 0

holders-zeros : (n i : ℕ) → holders_of (replicate n 0) i ≡ 0
unfolding holders_of has_pin
holders-zeros n i = count-nobody _ max_holders (λ h l t. never t (ap not (eq-eqb _ 0 (count_zeros n i h))))

-- a word behind those of a list
word-behind : (ws : List ℕ) (n i : ℕ) → length ws ≤ i → get_or (ws ++ replicate n 0) i 0 ≡ 0
word-behind ws n i l =
    ap (λ (k : ℕ). get_or (ws ++ replicate n 0) k 0) (omega arith) ∙ get_or-append-add ws (replicate n 0) (i - length ws) 0
    ∙ get_d-replicate-all n _ 0

at_same : (b : BufferNumber) (i : ℕ) → b.0 ≡ i → Some b ≡ Some (record { 0 = i })
at_same b i e = ap (λ (k : ℕ). Some (record { 0 = k })) e

module _ (p n blocks : ℕ) (m : Memory) (t : Trace) (a : Agrees p n blocks m t) where
  -- ---- the buffers
  pub buffers-are : buffers m ≡ n
  buffers-are =
      ap length a.words ∙ length-append t.states (replicate (n - length t.held) 0)
      ∙ omega (arith, a.same, a.most, length-replicate {A = ℕ} (n - length t.held) 0)

  -- those behind the ones that have a page are empty
  unused-empty : (i : ℕ) → length t.held ≤ i → empty_at m i ≡ true
  unfolding empty_at
  unused-empty i l =
      ap (λ (ws : List ℕ). empty (get_or ws i 0)) a.words
      ∙ ap empty (word-behind t.states (n - length t.held) i (omega (arith, a.same))) ∙ zero-empty

  -- nobody has a pin
  pub count_none : (i h : ℕ) → count_at m.counts i h ≡ 0
  count_none i h = ap (λ (cs : List ℕ). count_at cs i h) a.counts ∙ count_zeros (n * max_holders) i h

  pub pins-none : (i : ℕ) → i < buffers m → pins (word_of m i) ≡ 0
  pins-none i l =
      a.good.books.counts i l ∙ ap (λ (cs : List ℕ). holders_of cs i) a.counts ∙ holders-zeros (n * max_holders) i

  -- ---- where a page is held
  pub held_at : (b i : ℕ) → buffer_of t b ≡ found i → held_in m (page b) ≡ Some (record { 0 = i })
  unfolding buffer_of
  held_at b i e = go (held_in m (page b)) refl
    where
      here : (i < length t.held) × (eqb (get_or t.held i 0) b ≡ true)
      here = first_found (λ k. eqb (get_or t.held k 0) b) (length t.held) e

      full : empty_at m i ≡ false
      full = a.full i here.0

      name : name_of m i ≡ page b
      name = a.names i here.0 ∙ ap page (eqb-true _ b here.1)

      go : (h : Held) → held_in m (page b) ≡ h → h ≡ Some (record { 0 = i })
      go (Some k) q =
          let w = held-says m (page b) k q in
          at_same k i
          (a.good.books.distinct k.0 i (full-used m k.0 w.1) (full-used m i full) (w.2 ∙ sym name))
      go None q = absurd (held_none m (page b) q i full name)

  pub held-nowhere : (b : ℕ) → buffer_of t b ≡ missing → held_in m (page b) ≡ None
  unfolding buffer_of
  held-nowhere b e = go (held_in m (page b)) refl
    where
      go : (h : Held) → held_in m (page b) ≡ h → h ≡ None
      go (Some k) q =
          let w = held-says m (page b) k q in
          ⊎_elim
          (λ l.
          never
          (eq-eqb _ b (ap (λ (x : PageName). x.block.0) (sym (a.names k.0 l) ∙ w.2)))
          (first-missing (λ i. eqb (get_or t.held i 0) b) (length t.held) e k.0 l))
          (λ l. never (unused-empty k.0 l) w.1) (lt-or-le k.0 (length t.held))
      go None q = refl

  pub place_is : (b : ℕ) → b < blocks → place_of m.rows (page b) ≡ found b
  place_is b l = ap (λ (rs : List ℕ). place_of rs (page b)) a.rows ∙ place-one blocks b l

  -- ---- the places of a pin
  -- the block in the store
  block-is : (b : ℕ) → b < blocks → block (size m) b m.store ≡ replicate p 0
  block-is b l =
      ap (λ (k : ℕ). block k b m.store) a.size_is ∙ ap (block p b) a.store ∙ block-zeros p blocks b l

  sum_agrees : (b : ℕ) → b < blocks → (h : Held) → sum_differs m (page b) (found b) h ≡ false
  unfolding sum_differs
  sum_agrees b l (Some k) = refl
  sum_agrees b l None = ap not (ap (passes b) (block-is b l) ∙ zeros-pass b p)

  idle-word : (i : ℕ) → i < buffers m → word_pinned (word_of m i) ≡ false
  unfolding word_pinned
  idle-word i l = ap not (eq-eqb _ 0 (pins-none i l))

  count_room : (h : Held) → count_full m holder h ≡ false
  unfolding count_full
  count_room (Some k) = ap (λ (c : ℕ). eqb c max_count) (count_none k.0 holder)
  count_room None = refl

  some-victim : (h : Held) → no_victim m h ≡ false
  unfolding no_victim
  some-victim (Some k) = refl
  some-victim None =
      let l : 0 < buffers m = omega (arith, buffers-are, a.least) in
      sym (all-fails (λ i. word_pinned (word_of m i)) (buffers m) 0 l (idle-word 0 l))

  -- no place of a pin refuses
  pub pinned-is : (b : ℕ) → b < blocks → pinned m b ≡ pin_to m holder (page b) (held_in m (page b))
  unfolding pin pin_places page_places holder_place
  pinned-is b l =
      let n = page b in
      let h = held_in m n in
      let g = place_is b l in
      outcome-done [] m (pin_to m holder n h)
      (checked-good m a.good (pin_places m holder n) ∙ refusal-past 19 _ refl ∙ name-past m.rows n _ g
      ∙ refusal-past 17 _ (ap (λ f. sum_differs m n f h) g ∙ sum_agrees b l h)
      ∙ refusal-past 5 _ (count_room h) ∙ refusal-past 6 [] (some-victim h) ∙ refusal-none)

-- nor one of an unpin of what this holder has
pub unpinned-is : (m : Memory) → Good m → (i : ℕ) → i < buffers m → count_at m.counts i holder ≡ 1
    → unpin m holder i ≡ done zeros [] (unpin_at m holder i)
unfolding unpin buffer_places holder_place has_pin
unpinned-is m g i l c =
    outcome-done [] m (done zeros [] (unpin_at m holder i))
    (checked-good m g (buffer_places m holder i []) ∙ refusal-past 19 _ refl ∙ refusal-past 7 _ (lt-leb _ _ l)
    ∙ refusal-past 8 [] (ap (λ (k : ℕ). not (not (eqb k 0))) c) ∙ refusal-none)
