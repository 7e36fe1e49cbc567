-- ISOLATION, proved: whichever pool meets demand 3 leaves a page in its buffer, and a holder's count of it, while others call.
use Prim.Native.Nat.{ℕ, zero, suc, ◌<◌}
use mathlib.Core.Path.{◌≡◌, refl, sym, ap, ◌∙◌, subst}
use mathlib.Core.Bool.{false, not}
use mathlib.Core.Logic.{◌≢◌, ◌⊎◌, inl, inr, ⊎_elim}
use mathlib.Core.List.{List, [], ◌∷◌, ◌++◌}
use native.Mathlib.Omega.{arith}
use lib.ListN.{get_or}
use borrow.Author.Tests.{ne_eqb}
use Rattle.laws.specs.First.{found}
use Rattle.laws.proofs.Tests.{eq-or-ne, never, true-or-false}
use Rattle.buftag.specs.declared.link.Link.TheVariants.{To}
use Rattle.buftag.specs.declared.name.FileName.{FileName}
use Rattle.buftag.specs.declared.name.PageName.{PageName}
use Rattle.buftag.specs.Names.{no_name}
use Rattle.buftag.specs.Link.{link_of}
use Rattle.buftag.proofs.HoldsLaws.{used-in}
use Rattle.bufmodel.specs.Word.{pins, pinned, empty}
use Rattle.bufmodel.specs.Memory.{Memory, buffers, word_of, name_of}
use Rattle.bufmodel.specs.Counts.{count_at}
use Rattle.bufmodel.specs.Sizes.{SizedFor}
use Rattle.bufmodel.specs.Books.{empty_at, BooksSound}
use Rattle.bufmodel.specs.Sweep.{Swept, Sweeps}
use Rattle.bufmodel.specs.Outcome.{Outcome}
use Rattle.bufmodel.specs.Step.{
  Call,
  Pin,
  Unpin,
  Read,
  Write,
  Flush,
  GiveBack,
  Checkpoint,
  Peek,
  Extend,
  Drop,
  LogInserted,
  LogFlushed,
  step,
}
use Rattle.bufmodel.specs.Lent.{Lent, Called, control_of, opened}
use Rattle.bufmodel.proofs.WordLaws.{zero-pins, pins-pinned}
use Rattle.bufmodel.proofs.CountLaws.{pin-some}
use Rattle.bufmodel.proofs.GoodLaws.{Good}
use Rattle.bufmodel.proofs.SweepLaws.{SweptFrom, sweeps-from}
use Rattle.bufmodel.proofs.LessUsedLaws.{less-pinned}
use Rattle.bufmodel.proofs.FreeListLaws.{top-empty}
use Rattle.shelf.specs.Shelf.{with}
use Rattle.shelf.specs.Ledger.{Ledger, first_ledger}
use Rattle.shelf.specs.Published.{
  Marks,
  emptied,
  loaded_into,
  Leaves,
  counts_by,
  Probes,
  hit,
  free,
  early,
  taken,
  stuck,
  filed,
  dropped_to,
  Published,
}
use Rattle.shelf.specs.Statement.{
  own,
  Left,
  Fresh,
  SetsUp,
  Made,
  FitsMade,
  outcome_of,
  Pool,
  calling,
  ClaimFor,
  Demand3For,
}
use Rattle.shelf.specs.Isolation.{Without, Others, lent_after, In, count_in, IsolationFor, Isolation}
use Rattle.shelf.proofs.WithLaws.{with-same, with-other}
use Rattle.shelf.proofs.Demand.{demand-3}

-- ---- a buffer on which a holder has a pin is in use, and pinned
module _ (m : Memory) (books : BooksSound m) (h i : ℕ) (few : h < 64) (some : counts_by m h i ≢ 0) where
  some-pins : i < buffers m → 0 < pins (word_of m i)
  unfolding count_at
  some-pins l = omega (arith, books.counts i l, pin-some m.counts i h few some)

  some-used : i < buffers m → word_of m i ≢ 0
  some-used l e = omega (arith, some-pins l, ap pins e, zero-pins)

-- ---- one call that names another holder, or none
-- buffer i has the name that it had, and holder h's count of it is what it was
record Stays (m : Memory) (h i : ℕ) (after : Memory) : Type 0 where
  pub many : buffers after ≡ buffers m
  pub name : name_of after i ≡ name_of m i
  pub count : counts_by after h i ≡ counts_by m h i

module _ (m : Memory) (h i : ℕ) (few : h < 64) (l : i < buffers m) (o : Outcome) where
  -- books in which this buffer's name and this count are those of the memory
  leaves-stay : (k : Marks) (page store : ℕ → List ℕ) → Leaves m o k page store → k.name i ≡ name_of m i
      → k.count i h ≡ counts_by m h i
      → Stays m h i o.after
  leaves-stay k page store x e f =
      record { many = x.many; name = x.alike.names i l ∙ e; count = x.alike.counts i h l few ∙ f }

  -- another holder's counts change alone
  holder-other : (u : ℕ) → u ≢ h → (row : ℕ → ℕ) (c : ℕ) → with u c row h ≡ row h
  holder-other u ne row c = with-other u c row h (λ e. ne (sym e))

module _ (m : Memory) (good : Good m) (h i : ℕ) (few : h < 64) (l : i < buffers m) (some : counts_by m h i ≢ 0) where
  used : empty_at m i ≡ false
  unfolding empty_at empty
  used = ne_eqb (word_of m i) 0 (some-used m good.books h i few some l)

  -- the free list's top is another buffer
  not_top : (j : ℕ) → link_of m.control.top ≡ To j → i ≢ j
  not_top j e q = never (ap (empty_at m) q ∙ (top-empty m good j e).1) used

  -- and so is the victim of a sweep
  not-victim : (s : Swept) (v : ℕ) → Sweeps (buffers m) 0 m.control.hand m.states s → s.victim ≡ found v → i ≢ v
  not-victim s v sweeps e q =
      let from : SweptFrom m.states s = sweeps-from good.books.hand refl sweeps in
      let idle = sym (less-pinned (from.each v)) ∙ (from.taken v e).1 in
      never (ap (λ (j : ℕ). pinned (word_of m j)) (sym q) ∙ pins-pinned (word_of m i) (some-pins m good.books h i few some l)) idle

  -- a pin of another holder
  module _ (u : ℕ) (ne : u ≢ h) (n : PageName) (cap : ℕ) (o : Outcome) (z : o.refusal ≡ 0) where
    pin-stays : {probes : ℕ} → Probes m u n cap o probes → Stays m h i o.after
    unfolding loaded_into emptied
    pin-stays (hit e q a x) =
        leaves-stay m h i few l o _ _ _ x refl (holder-other m h i few l o u ne (λ v. counts_by m v i) _)
    pin-stays (free {i = j} e top q a p x) =
        let other = not_top j top in
        leaves-stay m h i few l o _ _ _ x (with-other j n (name_of m) i other)
        (ap (λ (row : ℕ → ℕ). row h) (with-other j _ (λ b v. counts_by m v b) i other))
    pin-stays (early q r) = absurd (q z)
    pin-stays (taken {s} {v} e top q sweeps victim a p x) =
        let other = not-victim s v sweeps victim in
        leaves-stay m h i few l o _ _ _ x
        (with-other v n (with v no_name (name_of m)) i other ∙ with-other v no_name (name_of m) i other)
        (ap (λ (row : ℕ → ℕ). row h) (with-other v _ (λ b v. counts_by m v b) i other))
    pin-stays (stuck e top q sweeps victim) = absurd (let six : ◌≡◌ {A = ℕ} 6 0 = sym q ∙ z in omega arith)

  -- a drop: a buffer that it empties has no holders afterwards
  module _ (f : FileName) where
    drop-counts : (j : ℕ) → (dropped_to m f j).count i h ≡ counts_by m h i
    unfolding dropped_to emptied
    drop-counts zero = refl
    drop-counts (suc j) =
        ⊎_elim (λ t. rw t (drop-counts j)) (λ t. rw t (drop-counts j)) (true-or-false (filed m f j))

    drop-names : (j : ℕ) → ((dropped_to m f j).word i ≡ 0) ⊎ ((dropped_to m f j).name i ≡ name_of m i)
    unfolding dropped_to emptied
    drop-names zero = inr refl
    drop-names (suc j) =
        ⊎_elim
        (λ t.
        rw t
        (⊎_elim
        (λ e. inl (rw e (with-same j 0 (dropped_to m f j).word)))
        (λ ne.
        ⊎_elim
        (λ w. inl (with-other j 0 (dropped_to m f j).word i ne ∙ w))
        (λ w. inr (with-other j _ (dropped_to m f j).name i ne ∙ w))
        (drop-names j))
        (eq-or-ne i j)))
        (λ t. rw t (drop-names j))
        (true-or-false (filed m f j))

    drop-stays : (o : Outcome) (page store : ℕ → List ℕ) → BooksSound o.after → Leaves m o (dropped_to m f (buffers m)) page store
        → Stays m h i o.after
    drop-stays o page store books x =
        let count : counts_by o.after h i ≡ counts_by m h i = x.alike.counts i h l few ∙ drop-counts (buffers m) in
        let below : i < buffers o.after = subst (λ (n : ℕ). i < n) (sym x.many) l in
        let now = some-used o.after books h i few (λ e. some (sym count ∙ e)) below in
        record {
          many = x.many;
          name = x.alike.names i l
              ∙ ⊎_elim (λ e. absurd (now (x.alike.words i l ∙ e))) (λ e. e) (drop-names (buffers m));
          count = count;
        }

  -- every call
  call_stays : (cap many : ℕ) (c : Call) (o : Outcome) → Without h c → BooksSound o.after → Published m cap many c o
      → Stays m h i o.after
  call_stays cap many c o other books p =
      ⊎_elim
      (accepted c other p)
      (λ ne.
      let e = p.same ne in
      record { many = ap buffers e; name = ap (λ (y : Memory). name_of y i) e; count = ap (λ (y : Memory). counts_by y h i) e })
      (eq-or-ne o.refusal 0)
    where
      others : (u : ℕ) → u ≢ h → (x : ℕ) → with u x (λ v. counts_by m v i) h ≡ counts_by m h i
      others u ne x = holder-other m h i few l o u ne (λ v. counts_by m v i) x

      accepted : (c : Call) → Without h c → Published m cap many c o → o.refusal ≡ 0 → Stays m h i o.after
      accepted (Pin u n) ne p z = pin-stays u ne n cap o z (p.sought u n refl).looked
      accepted (Unpin u b) ne p z = leaves-stay m h i few l o _ _ _ (p.accepts z) refl (others u ne _)
      accepted (Read u b from out) ne p z = leaves-stay m h i few l o _ _ _ (p.accepts z).0 refl refl
      accepted (Write u b from bytes at) ne p z = leaves-stay m h i few l o _ _ _ (p.accepts z) refl refl
      accepted (Flush u b) ne p z = leaves-stay m h i few l o _ _ _ (p.accepts z).0 refl refl
      accepted (GiveBack u) ne p z = leaves-stay m h i few l o _ _ _ (p.accepts z) refl (others u ne 0)
      accepted Checkpoint ne p z = leaves-stay m h i few l o _ _ _ (p.accepts z).0 refl refl
      accepted (Peek n) ne p z = leaves-stay m h i few l o _ _ _ (p.accepts z).0 refl refl
      accepted (Extend f) ne p z = leaves-stay m h i few l o _ _ _ (p.accepts z) refl refl
      accepted (Drop f) ne p z = drop-stays f o _ _ books (p.accepts z)
      accepted (LogInserted p) ne q z = leaves-stay m h i few l o _ _ _ (q.accepts z) refl refl
      accepted (LogFlushed p) ne q z = leaves-stay m h i few l o _ _ _ (q.accepts z) refl refl

-- ---- a list of calls
-- a page is in a buffer: that is one of the buffers
in-below : (m : Lent) (n : PageName) (i : ℕ) → In m n i → i < buffers (opened m)
in-below m n i x = used-in (opened m).states i (ap not (ne_eqb (word_of (opened m) i) 0 x.0))

-- what a call leaves is good
left-good : (m : Lent) (r : Called) (l : Ledger) → Left m r l → Good (opened r.lent)
unfolding opened control_of
left-good m r l x =
    record {
      sizes = subst (λ (p : ℕ). SizedFor p (opened r.lent)) (sym (ap (λ (ws : List ℕ). get_or ws 0 0) x.control)) x.sizes;
      books = x.books;
    }

module _ (pool : Pool) (h i : ℕ) (n : PageName) (few : h < 64) where
  list-stays : (cs : List Made) (m : Lent) (l : Ledger) → ClaimFor pool m l cs → Good (opened m) → Others h cs → In m n i
      → count_in m h i ≢ 0
      → let y = lent_after pool m cs in
      In y n i × (count_in y h i ≡ count_in m h i)
  unfolding opened
  list-stays [] m l claim good others x some = (x, refl)
  list-stays (c ∷ cs) m l claim good others x some =
      let r = pool.calls c.call m (own c.call) c.answer in
      let below = in-below m n i x in
      let s = call_stays (opened m) good h i few below some _ _ c.call (outcome_of r) others.0 claim.1.books claim.2 in
      let now : count_in r.lent h i ≢ 0 = λ e. some (sym s.count ∙ e) in
      let there = subst (λ (k : ℕ). i < k) (sym s.many) below in
      let y : In r.lent n i = (some-used (opened r.lent) claim.1.books h i few now there, s.name ∙ x.1) in
      let t = list-stays cs r.lent _ claim.3 (left-good m r _ claim.1) others.1 y now in
      (t.0, t.1 ∙ s.count)

-- ---- the list before: what is claimed of both is claimed of the second, where the first ends
claim-later : (pool : Pool) (before others : List Made) (m : Lent) (l : Ledger) → ClaimFor pool m l (before ++ others)
    → Good (opened m)
    → (l' : Ledger) × ClaimFor pool (lent_after pool m before) l' others × Good (opened (lent_after pool m before))
claim-later pool [] others m l claim good = (l, claim, good)
claim-later pool (c ∷ cs) others m l claim good = claim-later pool cs others _ _ claim.3 (left-good m _ _ claim.1)

fits_both : (before others : List Made) → FitsMade before → FitsMade others → FitsMade (before ++ others)
fits_both [] others f g = g
fits_both (c ∷ cs) others f g = (f.0, f.1, fits_both cs others f.2 g)

-- after set up alone no holder has a pin
fresh-none : (m k : Lent) (p at cap h i : ℕ) (n : PageName) → h < 64 → Fresh m k p at cap → In k n i → count_in k h i ≡ 0
unfolding opened
fresh-none m k p at cap h i n few f x = f.alike.counts i h (subst (λ (l : ℕ). i < l) f.many (in-below k n i x)) few

-- EVERY POOL THAT MEETS DEMAND 3 ISOLATES
pub isolates : (pool : Pool) → Demand3For pool → IsolationFor pool
isolates pool d m p at cap answer before others fm fp fat fcap fa fb fo z h i n few oth x some =
    go before x some (claim.1 z)
  where
    claim : SetsUp m p at cap (pool.sets_up p at cap m answer)
        × ((pool.sets_up p at cap m answer).result ≡ 0
        → ClaimFor pool (pool.sets_up p at cap m answer).lent (first_ledger (opened m) p at cap) (before ++ others))
    claim = d m p at cap answer (before ++ others) fm fp fat fcap fa (fits_both before others fb fo)

    k : Lent
    k = (pool.sets_up p at cap m answer).lent

    go : (b : List Made) → In (lent_after pool k b) n i → count_in (lent_after pool k b) h i ≢ 0
        → ClaimFor pool k (first_ledger (opened m) p at cap) (b ++ others)
        → let y = lent_after pool (lent_after pool k b) others in
        In y n i × (count_in y h i ≡ count_in (lent_after pool k b) h i)
    go [] x some c = absurd (some (fresh-none m k p at cap h i n few (claim.0.fresh z) x))
    go (b ∷ bs) x some c =
        let w = claim-later pool bs others _ _ c.3 (left-good k _ _ c.1) in
        list-stays pool h i n few others _ w.0 w.1 w.2 oth x some

-- and so does this one
pub isolation : Isolation
isolation = isolates (calling step) demand-3
