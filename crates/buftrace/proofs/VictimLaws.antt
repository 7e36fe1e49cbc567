-- One use of a page that comes into a sweep's victim.
use Prim.Native.Nat.{ℕ, ◌+◌, ◌-◌, ◌<◌}
use native.Mathlib.Nat.{add-zero}
use native.Mathlib.Omega.{arith}
use mathlib.Core.Path.{◌≡◌, refl, sym, ap, ap₂, ◌∙◌, subst}
use mathlib.Core.List.{List, [], ◌∷◌, ◌++◌, append-nil}
use lib.IntN.{pos}
use lib.ListN.{length, set, replicate, length-set}
use lib.Seq.{get_or-set_same, get_or-set_other, set-set}
use Rattle.laws.specs.First.{Found, found, missing}
use Rattle.laws.proofs.Sum.{ind-none}
use Rattle.buftag.specs.declared.link.Link.TheVariants.{End}
use Rattle.std.specs.Prelude.{None}
use Rattle.buftag.specs.Link.{link_of}
use Rattle.bufmodel.specs.Memory.{Memory, buffers, cap_of, with_counts}
use Rattle.bufmodel.specs.Counts.{set_count}
use Rattle.bufmodel.specs.Sweep.{Swept, sweep_all}
use Rattle.bufmodel.specs.Moves.{release, load}
use Rattle.bufmodel.specs.Outcome.{done}
use Rattle.bufmodel.specs.Pin.{held_in, pin_victim, pin_swept, pin_new, pin_to}
use Rattle.bufmodel.proofs.LessUsedLaws.{less-dirty}
use Rattle.buftrace.specs.Usage.{cap, holder, page, pinned, tallied}
use Rattle.buftrace.specs.Trace.{Trace, buffer_of, load_word, into_victim, swept_for}
use Rattle.buftrace.proofs.Agrees.{Agrees, UsedOnce}
use Rattle.buftrace.proofs.AgreesLaws.{buffers-are, pins-none, held-nowhere, place_is, pinned-is}
use Rattle.buftrace.proofs.UnpinLaws.{Taking, came, load-used, used-once}
use Rattle.buftrace.proofs.SweptLaws.{freed, Left, victim-left}

-- no buffer is left unused
no-rest : (ws : List ℕ) (k n : ℕ) → k ≡ n → ws ++ replicate (n - k) 0 ≡ ws
no-rest ws k n e =
    let none : n - k ≡ 0 = omega arith in
    ap (λ (r : ℕ). ws ++ replicate r 0) none ∙ append-nil ws

module _ (p n blocks : ℕ) (m : Memory) (t : Trace) (a : Agrees p n blocks m t) (b : ℕ) (l : b < blocks) where
  abbrev s : Swept
  s = sweep_all cap t.states t.hand

  many : buffers m ≡ n
  many = buffers-are p n blocks m t a

  module _ (new : buffer_of t b ≡ missing) (all : length t.held ≡ n) where
    states-are : m.states ≡ t.states
    states-are = a.words ∙ no-rest t.states _ n all

    top : link_of m.control.top ≡ End
    top = a.top-end all

    -- the pool's own sweep
    sweep-is : sweep_all (cap_of m) m.states m.control.hand ≡ s
    sweep-is =
        ap (λ (c : ℕ). sweep_all c m.states m.control.hand) a.cap-is
        ∙ ap (λ (ws : List ℕ). sweep_all cap ws m.control.hand) states-are
        ∙ ap (sweep_all cap t.states) a.hand

    finds : (v : ℕ) × (s.victim ≡ found v) × Left m s v
    finds =
        subst (λ (x : Swept). (v : ℕ) × (x.victim ≡ found v) × Left m x v) sweep-is
        (victim-left m a.good top (pins-none p n blocks m t a m.control.hand a.good.books.hand))

    nowhere : held_in m (page b) ≡ None
    nowhere = held-nowhere p n blocks m t a b new

    pin-sweeps : pinned m b ≡ pin_swept m holder (page b) s
    unfolding pin_to pin_new
    pin-sweeps =
        pinned-is p n blocks m t a b l ∙ ap (pin_to m holder (page b)) nowhere ∙ ap (pin_new m holder (page b)) top
        ∙ ap (pin_swept m holder (page b)) sweep-is

    -- ---- buffer v is its victim
    module _ (v : ℕ) (victim : s.victim ≡ found v) (r : Left m s v) where
      abbrev m' : Memory
      m' = freed m s v

      u : Trace
      u = into_victim t b s (found v)

      below : v < n
      below = rw many at r.below

      pin-is : pinned m b ≡ done (v ∷ 0 ∷ 0 ∷ s.probes ∷ []) [] (came m' v b)
      unfolding pin_swept pin_victim release
      pin-is =
          let d = a.clean v (omega (arith, below)) in
          pin-sweeps ∙ ap (pin_victim m holder (page b) s) victim
          ∙ ap₂ (λ (wrote : ℕ) (x : Memory).
          done (v ∷ 0 ∷ wrote ∷ s.probes ∷ []) [] (with_counts (set_count m.counts v holder 1) (load x (page b))))
          (ind-none d) (r.back d)

      taking : Taking p n blocks m' u v b
      unfolding u into_victim release
      taking =
          let held-is : length (set t.held v b) ≡ n = length-set t.held v b ∙ all in
          let words_are : length (set s.words v load_word) ≡ n = length-set s.words v load_word ∙ r.many ∙ many in
          record {
            good = r.good;
            size_is = a.size_is;
            cap-is = a.cap-is;
            rows = a.rows;
            store = a.store;
            counts = a.counts;
            new = r.new (page b) nowhere;
            place = place_is p n blocks m t a b l;
            top = refl;
            below = omega (arith, held-is, below);
            least = a.least;
            most = omega (arith, held-is);
            same = words_are ∙ sym held-is;
            words = set-set s.words v 0 load_word ∙ sym (no-rest (set s.words v load_word) _ n held-is);
            hand = refl;
            own = get_or-set_same t.held v b 0 (omega (arith, below));
            names = λ j h ne.
                r.names j ne ∙ a.names j (omega (arith, held-is)) ∙ ap page (sym (get_or-set_other t.held v j b 0 ne));
            full = λ j h ne. r.full j (omega (arith, held-is, many)) ne;
            top-free = λ h. absurd (omega (arith, held-is));
            top-end = λ h.
                ap link_of (get_or-set_same m.free v m.control.top (pos 0) (omega (arith, below, many, a.good.sizes.free))) ∙ top;
            on = λ j h q. absurd (omega (arith, held-is));
            last = λ j h q. absurd (omega (arith, held-is));
            clean = λ j h ne. less-dirty (r.words j ne) ∙ a.clean j (omega (arith, held-is));
          }

      used : UsedOnce p n blocks m t u b
      unfolding u into_victim tallied
      used =
          used-once p n blocks m t u b (v ∷ 0 ∷ 0 ∷ s.probes ∷ []) (came m' v b) pin-is (load-used p n blocks m' u v b taking)
          (ap (λ (h : ℕ). record { hits = h; loads = t.totals.loads + 1; probes = t.totals.probes + s.probes })
          (add-zero t.totals.hits))

  pub use-victim : buffer_of t b ≡ missing → length t.held ≡ n
      → UsedOnce p n blocks m t (swept_for t b (sweep_all cap t.states t.hand)) b
  unfolding swept_for u
  use-victim e f =
      let w = finds e f in
      subst (λ (x : Found). UsedOnce p n blocks m t (into_victim t b s x) b) (sym w.1) (used e f w.0 w.1 w.2)
