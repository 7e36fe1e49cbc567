-- One use of a block over lent slices, by how the code ends: the pool's trace goes on as `use1` says, and the slices fit it again.
use Prim.Native.Nat.{ℕ, suc, ◌+◌, ◌-◌, ◌*◌, ◌≤◌, ◌<◌}
use native.Mathlib.Omega.{arith}
use mathlib.Core.Path.{◌≡◌, refl, sym, ap, ◌∙◌}
use mathlib.Core.Logic.{⊎_elim}
use mathlib.Core.List.{List, ◌++◌}
use lib.ListN.{length, get_or, set, take, drop, length-set, get_or-append}
use lib.Seq.{length-take-le, length_front, get_or-take, get_or-set_same, get_or-set_other, take-set-lt, take-suc-set, take_at}
use borrow.Author.Tests.{lt-ltb, le-ltb}
use Rattle.std.specs.Prelude.{Option, Some, IsSome}
use Rattle.std.proofs.lemmas.Option.{same_Some}
use Rattle.laws.specs.First.{found, missing}
use Rattle.laws.proofs.Tests.{eq-or-ne}
use Rattle.bufmodel.specs.Word.{max_cap}
use Rattle.bufmodel.specs.Sizes.{max_buffers, max_blocks}
use Rattle.bufmodel.specs.Sweep.{Swept, Sweeps, sweep_all}
use Rattle.bufmodel.proofs.SweepLaws.{SweptFrom, sweeps-from}
use Rattle.bufmodel.proofs.SweepEnds.{sweep-finds}
use Rattle.bufmoves.specs.declared.sweep.Victim.{Victim}
use Rattle.bufmoves.specs.Sweep.{victim_of}
use Rattle.buftrace.specs.declared.usage.Totals.{Totals}
use Rattle.buftrace.specs.declared.trace.Tally.{Tally}
use Rattle.buftrace.specs.Usage.{cap}
use Rattle.buftrace.specs.Trace.{Trace, Idle, Fit, many, hit_word, load_word, hit_more, load_more, trace_of}
use Rattle.buftrace.specs.Trace.{buffer_of, hit_at, into_free, into_victim, swept_for, missed, use_at, use1}
use Rattle.buftrace.proofs.PlaceLaws.{tally, held-length, has, lacks, vacant-next, vacant-out, lacks-still, put_fit}
use Rattle.buftrace.proofs.IdleLaws.{idle-few, idle-unpinned, hit-idle, less-idle}

-- what the code's use of block b leaves: its answer r and the slices
abbrev Used : ℕ → Tally → List ℕ → List ℕ → ℕ → Tally → List ℕ → List ℕ → List ℕ → Type 0
Used n c states held b r states' held' place' =
    (trace_of r states' held' ≡ use1 n (trace_of c states held) b)
    × (Fit n r states' held' place' × (many r.totals ≡ suc (many c.totals)))

-- ---- how a use ends
module _ (n : ℕ) (t : Trace) (b : ℕ) where
  used-held : (i : ℕ) → buffer_of t b ≡ found i → use1 n t b ≡ hit_at t i
  unfolding use1 use_at
  used-held i e = rw e

  used-free : buffer_of t b ≡ missing → length t.held < n → use1 n t b ≡ into_free t b
  unfolding use1 use_at missed
  used-free e l = rw (e, lt-ltb (length t.held) n l)

  used-swept : buffer_of t b ≡ missing → n ≤ length t.held → (s : Swept) → sweep_all cap t.states t.hand ≡ s → (v : ℕ)
      → s.victim ≡ found v → use1 n t b ≡ into_victim t b s (found v)
  unfolding use1 use_at missed swept_for
  used-swept e l s q v w = rw (e, le-ltb (length t.held) n l, q, w)

module _ {n : ℕ} {c : Tally} {states held place : List ℕ} (f : Fit n c states held place) where
  -- ---- the page is held
  module _ (b : ℕ) (l : b < max_blocks) (z : 0 < get_or place b 0) where
    pub held-lt : get_or place b 0 - 1 < c.used
    held-lt = omega (arith, (f.only b l z).0)

    abbrev at : ℕ
    at = get_or place b 0 - 1

    abbrev word : ℕ
    word = hit_word (get_or states at 0)

    abbrev again : Tally
    again = tally c.used c.hand (hit_more c.totals)

    hit-trace : trace_of again (set states at word) held ≡ hit_at (trace_of c states held) at
    unfolding trace_of hit_at
    hit-trace = rw (take-set-lt c.used states at word held-lt, get_or-take c.used states at 0 held-lt)

    hit-words : (i : ℕ) → i < c.used → Idle (get_or (set states at word) i 0)
    hit-words i m =
        ⊎_elim
        (λ e.
        rw (e, get_or-set_same states at word 0 (omega (arith, held-lt, f.used, f.few, f.words))) (hit-idle _ (f.idle at held-lt)))
        (λ g. rw (get_or-set_other states at i word 0 g) (f.idle i m))
        (eq-or-ne i at)

    hit-fit : Fit n again (set states at word) held place
    hit-fit =
        record {
          few = f.few;
          words = length-set states at word ∙ f.words;
          blocks = f.blocks;
          table = f.table;
          used = f.used;
          hand = f.hand;
          probes = f.probes;
          idle = hit-words;
          below = f.below;
          there = f.there;
          only = f.only;
        }

    pub held-use : (found_at : ℕ) (r : Tally) (states' : List ℕ) → found_at ≡ get_or place b 0 → r ≡ again
        → states' ≡ set states (found_at - 1) (hit_word (get_or states (found_at - 1) 0))
        → Used n c states held b r states' held place
    held-use found_at r states' q e g =
        rw (e, g, q) (hit-trace ∙ sym (used-held n (trace_of c states held) b at (has f b l z)), (hit-fit, omega arith))

  -- ---- it comes into the next buffer of the free list
  module _ (b : ℕ) (l : b < max_blocks) (z : get_or place b 0 ≡ 0) (lt : c.used < n) where
    abbrev next : Tally
    next = tally (suc c.used) c.hand (load_more 0 c.totals)

    next-trace : trace_of next (set states c.used load_word) (set held c.used b) ≡ into_free (trace_of c states held) b
    unfolding trace_of into_free
    next-trace =
        rw (
          take-suc-set states c.used load_word (omega (arith, f.few, f.words)),
          take-suc-set held c.used b (omega (arith, f.few, f.blocks)),
        )

    next-fit : Fit n next (set states c.used load_word) (set held c.used b) (set place b (suc c.used))
    next-fit =
        put_fit (vacant-next f) n b f.few lt (omega arith) l z c.hand (load_more 0 c.totals) f.hand (omega (arith, f.probes))

    pub free-use : (r : Tally) (states' held' place' : List ℕ) → r ≡ next → states' ≡ set states c.used load_word
        → held' ≡ set held c.used b
        → place' ≡ set place b (suc c.used)
        → Used n c states held b r states' held' place'
    free-use r states' held' place' e g h k =
        let t = trace_of c states held in
        rw (e, g, h, k) (next-trace ∙ sym (used-free n t b (lacks f b z) (omega (arith, held-length f))), (next-fit, omega arith))

  -- ---- it comes into the sweep's victim
  module _ (full : c.used ≡ n) (some : 0 < n) where
    abbrev end : Swept
    end = sweep_all cap (take n states) c.hand

    -- the words of the pool's buffers, in front
    pub front : length (take n states) ≡ n
    front = length-take-le n states (omega (arith, f.few, f.words))

    pub sweep-asks : (c.hand < length (take n states)) × (length (take n states) ≤ max_buffers) × (cap ≤ max_cap)
    sweep-asks = (omega (arith, front, f.hand), omega (arith, front, f.few), omega arith)

    front-idle : (i : ℕ) → i < length (take n states) → Idle (get_or (take n states) i 0)
    front-idle i m = rw (get_or-take n states i 0 (omega (arith, front))) (f.idle i (omega (arith, front)))

    -- nothing is pinned
    finds : (v : ℕ) × (end.victim ≡ found v) × (end.probes ≤ (cap + 1) * length (take n states))
        × Sweeps (length (take n states)) 0 c.hand (take n states) end
    finds =
        let k : 0 < length (take n states) = omega (arith, front) in
        sweep-finds cap (take n states) c.hand sweep-asks.0 0 k (idle-unpinned _ (front-idle 0 k))
        (λ i m. idle-few _ (front-idle i m))

    from : SweptFrom (take n states) end
    from = sweeps-from sweep-asks.0 refl finds.3

    -- the code's answer of it
    victim-is : victim_of end ≡ Some (record { buffer = record { 0 = finds.0 }; hand = end.hand; probes = end.probes })
    unfolding victim_of
    victim-is = rw finds.1

    pub victim-at : {x : Option Victim} {w : Victim} → x ≡ victim_of end → x ≡ Some w
        → (end.victim ≡ found w.buffer.0) × (end.hand ≡ w.hand) × (end.probes ≡ w.probes)
    victim-at {w} e q =
        let k : ◌≡◌ {A = Victim} (record { buffer = record { 0 = finds.0 }; hand = end.hand; probes = end.probes }) w =
        same_Some _ _ (sym victim-is ∙ sym e ∙ q) in
        (finds.1 ∙ ap (λ (x : Victim). found x.buffer.0) k, ap (λ (x : Victim). x.hand) k, ap (λ (x : Victim). x.probes) k)

    -- there is one
    pub somebody : {x : Option Victim} → x ≡ victim_of end → IsSome x
    somebody e = rw (e, victim-is)

    pub words-length : length (end.words ++ drop n states) ≡ max_buffers
    words-length = length_front states end.words n from.same_length ∙ f.words

    pub few-probes : end.probes ≤ (cap + 1) * max_buffers
    few-probes = omega (arith, finds.2, front, f.few)

    module _ (v : ℕ) (e : end.victim ≡ found v) where
      pub victim-lt : v < n
      victim-lt = omega (arith, (from.taken v e).0, front)

      old-lt : get_or held v 0 < length place
      old-lt = omega (arith, f.below v (omega (arith, victim-lt)), f.table)

      abbrev words : List ℕ
      words = end.words ++ drop n states

      words-idle : (i : ℕ) → i < c.used → Idle (get_or words i 0)
      words-idle i m =
          rw (get_or-append end.words (drop n states) 0 i (omega (arith, from.same_length, front)))
          (less-idle _ (front-idle i (omega (arith, front))) _ (from.each i))

      swept-is : sweep_all cap (trace_of c states held).states (trace_of c states held).hand ≡ end
      unfolding trace_of
      swept-is = ap (λ (k : ℕ). sweep_all cap (take k states) c.hand) full

      abbrev swept : Tally
      swept = tally c.used end.hand (load_more end.probes c.totals)

      module _ (b : ℕ) (l : b < max_blocks) (z : get_or place b 0 ≡ 0) where
        victim-trace : trace_of swept (set words v load_word) (set held v b) ≡ into_victim (trace_of c states held) b end (found v)
        unfolding trace_of into_victim
        victim-trace =
            rw (
              take-set-lt c.used words v load_word (omega (arith, victim-lt)),
              take_at end.words (drop n states) c.used (from.same_length ∙ front ∙ sym full),
              take-set-lt c.used held v b (omega (arith, victim-lt)),
            )

        victim-used : use1 n (trace_of c states held) b ≡ into_victim (trace_of c states held) b end (found v)
        victim-used = used-swept n (trace_of c states held) b (lacks f b z) (omega (arith, held-length f)) end swept-is v e

        victim-fit : Fit n swept (set words v load_word) (set held v b) (set (set place (get_or held v 0) 0) b (suc v))
        victim-fit =
            let vu : v < c.used = omega (arith, victim-lt) in
            put_fit (vacant-out f words words-length words-idle v vu) n b f.few f.used vu l
            (lacks-still place (get_or held v 0) b old-lt z) end.hand (load_more end.probes c.totals)
            (omega (arith, from.hand-lt, front)) (omega (arith, few-probes, f.probes))

        victim-use : (a states' held' place' : List ℕ) (old hand probes : ℕ) (totals : Totals) → a ≡ end.words → end.hand ≡ hand
            → end.probes ≡ probes
            → old ≡ get_or held v 0
            → totals ≡ load_more probes c.totals
            → states' ≡ set (a ++ drop n states) v load_word
            → held' ≡ set held v b
            → place' ≡ set (set place old 0) b (suc v)
            → Used n c states held b (tally c.used hand totals) states' held' place'
        victim-use a states' held' place' old hand probes totals w q m o t i j k =
            rw (i, j, k, t, o, w, ← q, ← m) (victim-trace ∙ sym victim-used, (victim-fit, omega arith))

    -- what the code knows of the victim, and what it leaves
    module _ {x : Option Victim} {w : Victim} (is : x ≡ victim_of end) (some-is : x ≡ Some w) where
      pub taken : (w.buffer.0 < max_buffers) × (get_or held w.buffer.0 0 < max_blocks) × (w.probes ≤ (cap + 1) * max_buffers)
      taken =
          let k = victim-at is some-is in
          let l = victim-lt w.buffer.0 k.0 in
          (omega (arith, l, f.few), f.below _ (omega (arith, l)), omega (arith, k.2, few-probes))

      pub words-still : (a : List ℕ) → a ≡ end.words → length (a ++ drop n states) ≡ max_buffers
      words-still a e = rw e words-length

      pub taken-use : (b : ℕ) → b < max_blocks → get_or place b 0 ≡ 0 → (a states' held' place' : List ℕ) (old : ℕ) (totals : Totals)
          → a ≡ end.words
          → old ≡ get_or held w.buffer.0 0
          → totals ≡ load_more w.probes c.totals
          → states' ≡ set (a ++ drop n states) w.buffer.0 load_word
          → held' ≡ set held w.buffer.0 b
          → place' ≡ set (set place old 0) b (suc w.buffer.0)
          → Used n c states held b (tally c.used w.hand totals) states' held' place'
      taken-use b l z a states' held' place' old totals e =
          let k = victim-at is some-is in
          victim-use w.buffer.0 k.0 b l z a states' held' place' old w.hand w.probes totals e k.1 k.2
