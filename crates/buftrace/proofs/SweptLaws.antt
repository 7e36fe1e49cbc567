-- A sweep of a pool with no buffer empty, and its victim emptied: what that leaves.
use Prim.Native.Nat.{ℕ, ◌≤◌, ◌<◌}
use native.Mathlib.Omega.{arith}
use mathlib.Core.Path.{◌≡◌, refl, sym, ap, ◌∙◌}
use mathlib.Core.Bool.{false}
use mathlib.Core.Logic.{◌≢◌}
use mathlib.Core.List.{List}
use lib.ListN.{length, get_or}
use lib.Seq.{set-get_or}
use Rattle.laws.specs.First.{found}
use Rattle.laws.proofs.Tests.{never}
use Rattle.buftag.specs.declared.link.Link.TheVariants.{End}
use Rattle.buftag.specs.Lookup.{Held}
use Rattle.std.specs.Prelude.{Some, None}
use Rattle.buftag.specs.declared.name.PageName.{PageName}
use Rattle.buftag.specs.Link.{link_of}
use Rattle.bufmodel.specs.Word.{pins, usage, empty, dirty}
use Rattle.bufmodel.specs.Memory.{Memory, buffers, cap_of, word_of, name_of, with_states, with_hand}
use Rattle.bufmodel.specs.Books.{empty_at}
use Rattle.bufmodel.specs.Sweep.{Swept, Sweeps, sweep_all}
use Rattle.bufmodel.specs.Moves.{write_back, release}
use Rattle.bufmodel.specs.Pin.{held_in}
use Rattle.bufmodel.proofs.WordLaws.{pinned-same, unpinned-none, zero-pins, zero-unpinned}
use Rattle.bufmodel.proofs.GoodLaws.{Good}
use Rattle.bufmodel.proofs.ReleaseLaws.{release-buffers, release-word, release-name, release-kept, release-empty, release-good}
use Rattle.bufmodel.proofs.HeldLaws.{held_none, held_at}
use Rattle.bufmodel.proofs.FreeListLaws.{top-end}
use Rattle.bufmodel.proofs.LikeLaws.{like-good}
use Rattle.bufmodel.proofs.LessUsedLaws.{LessUsed, less-dirty}
use Rattle.bufmodel.proofs.RecountLaws.{Turned}
use Rattle.bufmodel.proofs.SweepLaws.{SweptFrom, sweeps-from}
use Rattle.bufmodel.proofs.SweepEnds.{sweep-finds}
use Rattle.buftrace.proofs.UnpinLaws.{few, turned_by}

-- ---- the memory with the words and the hand that a sweep leaves, and once buffer v's page has left it
abbrev swept_in : Memory → Swept → Memory
swept_in m s = with_hand s.hand (with_states s.words m)

abbrev pub freed : Memory → Swept → ℕ → Memory
freed m s v = release (swept_in m s) v

-- what is left: other buffers keep their names, and their words but for usage; a name that none had none has; a clean page is not written
pub record Left (m : Memory) (s : Swept) (v : ℕ) : Type 0 where
  pub below : v < buffers m
  pub many : length s.words ≡ buffers m
  pub good : Good (freed m s v)
  pub words : (i : ℕ) → i ≢ v → LessUsed (word_of m i) (word_of (freed m s v) i)
  pub names : (i : ℕ) → i ≢ v → name_of (freed m s v) i ≡ name_of m i
  pub full : (i : ℕ) → i < buffers m → i ≢ v → empty_at (freed m s v) i ≡ false
  pub new : (n : PageName) → held_in m n ≡ None → held_in (freed m s v) n ≡ None
  pub back : dirty (word_of m v) ≡ false → release (write_back (swept_in m s) v) v ≡ freed m s v

module _ (m : Memory) (k : Good m) (top : link_of m.control.top ≡ End) where
  full-word : (i : ℕ) → i < buffers m → empty (word_of m i) ≡ false
  unfolding empty_at
  full-word i l = top-end m k top i l

  few-uses : (i : ℕ) → i < buffers m → usage (word_of m i) ≤ cap_of m
  few-uses i l = few (cap_of m) (word_of m i) (k.books.words i l) (full-word i l)

  module _ (s : Swept) (sweeps : Sweeps (buffers m) 0 m.control.hand m.states s) where
    from : SweptFrom m.states s
    from = sweeps-from k.books.hand refl sweeps

    turned : (i : ℕ) → i < buffers m → Turned (cap_of m) (word_of m i) (get_or s.words i 0)
    turned i l =
        let less = from.each i in
        turned_by (cap_of m) (word_of m i) (k.books.words i l) (full-word i l) _ less.same_flags
        (omega (arith, few-uses i l, less.less))

    swept-full : (i : ℕ) → i < buffers m → empty_at (swept_in m s) i ≡ false
    unfolding empty_at
    swept-full i l = (turned i l).blank ∙ full-word i l

    swept-good : Good (swept_in m s)
    unfolding empty_at
    swept-good =
        let b = k.books in
        like-good m k s.hand m.control.inserted m.control.flushed s.words m.pool m.store
        from.hand-lt b.log from.same_length refl refl (λ i l. (turned i l).blank) (λ i l. (turned i l).sound)
        (λ i l d. b.low i l (sym (turned i l).dirt ∙ d)) (λ i l. (from.each i).same-pins)

    -- the victim
    module _ (v : ℕ) (victim : s.victim ≡ found v) where
      below : v < buffers m
      below = (from.taken v victim).0

      freed-good : Good (freed m s v)
      freed-good =
          release-good (swept_in m s) swept-good v (rw from.same_length below) (swept-full v below)
          (unpinned-none (get_or s.words v 0) (from.taken v victim).1)

      freed-full : (i : ℕ) → i < buffers m → i ≢ v → empty_at (freed m s v) i ≡ false
      freed-full i l ne = release-kept (swept_in m s) v i ne ∙ swept-full i l

      freed-other : (i : ℕ) → empty_at (freed m s v) i ≡ false → i ≢ v
      freed-other i f q = never (release-empty (swept_in m s) v (rw from.same_length below)) (rw q at f)

      freed-new : (n : PageName) → held_in m n ≡ None → held_in (freed m s v) n ≡ None
      unfolding empty_at
      freed-new n e = go (held_in (freed m s v) n) refl
        where
          go : (h : Held) → held_in (freed m s v) n ≡ h → h ≡ None
          go (Some b) q =
              let w = held_at (freed m s v) n b q in
              let l : b.0 < buffers m = rw (release-buffers (swept_in m s) v ∙ from.same_length) at w.0 in
              let name = release-name (swept_in m s) v b.0 (freed-other b.0 w.1) in
              absurd (held_none m n e b.0 (full-word b.0 l) (sym name ∙ w.2))
          go None q = refl

      freed-back : dirty (word_of m v) ≡ false → release (write_back (swept_in m s) v) v ≡ freed m s v
      unfolding write_back
      freed-back d =
          ap (λ (x : Memory). release x v)
          (rw (less-dirty (from.each v) ∙ d) (ap (λ (x : List ℕ). with_states x (swept_in m s)) (set-get_or s.words v 0)))

      left : Left m s v
      left =
          record {
            below = below;
            many = from.same_length;
            good = freed-good;
            words = λ i ne. rw (release-word (swept_in m s) v i ne) (from.each i);
            names = release-name (swept_in m s) v;
            full = freed-full;
            new = freed-new;
            back = freed-back;
          }

  -- where the buffer at the hand is not pinned, a victim is found
  pub victim-left : pins (word_of m m.control.hand) ≡ 0
      → let s = sweep_all (cap_of m) m.states m.control.hand in
      (v : ℕ) × (s.victim ≡ found v) × Left m s v
  victim-left idle =
      let h = k.books.hand in
      let free = pinned-same (word_of m m.control.hand) 0 (idle ∙ sym zero-pins) ∙ zero-unpinned in
      let w = sweep-finds (cap_of m) m.states m.control.hand h m.control.hand h free few-uses in
      (w.0, w.1, left _ w.3 w.0 w.1)
