-- One use of a page that is held, or comes into a free buffer.
use Prim.Native.Nat.{ℕ, suc, ◌+◌, ◌-◌, ◌*◌, ◌<◌}
use native.Mathlib.Omega.{arith}
use native.Mathlib.Nat.{add-zero}
use mathlib.Core.Path.{◌≡◌, sym, ap, ap₂, ◌∙◌}
use mathlib.Core.Logic.{◌≢◌}
use mathlib.Core.List.{List, [], ◌∷◌, ◌++◌}
use lib.Dec.{eqb}
use lib.ListN.{length, get_or, set, replicate, length-set, length-append, get_or-append}
use lib.Seq.{set-set, set-append_left, set_at, append_snoc, get_or-set_same, get_or-append_seam}
use Rattle.laws.specs.First.{found, missing}
use Rattle.laws.proofs.First.{first_found}
use Rattle.buftag.specs.declared.link.Link.TheVariants.{To}
use Rattle.bufmodel.specs.Word.{pin_more, pin_less}
use Rattle.bufmodel.specs.Memory.{Memory, buffers, cap_of, word_of, name_of}
use Rattle.bufmodel.specs.Counts.{max_holders, count_at, set_count}
use Rattle.bufmodel.specs.Outcome.{done}
use Rattle.bufmodel.specs.Pin.{held_in, held_word, pin_held, pin_free, pin_new, pin_to}
use Rattle.bufmodel.proofs.GoodLaws.{Good}
use Rattle.bufmodel.proofs.CountLaws.{count_same}
use Rattle.bufmodel.proofs.RecountLaws.{recounted}
use Rattle.buftrace.specs.declared.usage.Totals.{Totals}
use Rattle.buftrace.specs.Usage.{holder, page, tallied}
use Rattle.buftrace.specs.Trace.{Trace, hit_more, load_more, hit_word, load_word, buffer_of, hit_at, into_free}
use Rattle.buftrace.proofs.Agrees.{Agrees, UsedOnce}
use Rattle.buftrace.proofs.AgreesLaws.{buffers-are, count_none, held_at, held-nowhere, place_is, pinned-is}
use Rattle.buftrace.proofs.UnpinLaws.{pin-good, pin-empty, pin-dirty, unpin-good, unpin-empty, unpin-dirty, unpin-ends}
use Rattle.buftrace.proofs.UnpinLaws.{Ends, zeros-back, Taking, came, load-used, used-once}

-- the totals with a hit more, and with a load that swept nothing
hit-tallied : (s : Totals) (i : ℕ) → tallied s (i ∷ 1 ∷ 0 ∷ 0 ∷ []) ≡ hit_more s
unfolding tallied
hit-tallied s i = ap₂ (λ (l q : ℕ). record { hits = s.hits + 1; loads = l; probes = q }) (add-zero s.loads) (add-zero s.probes)

load-tallied : (s : Totals) (i : ℕ) → tallied s (i ∷ 0 ∷ 0 ∷ 0 ∷ []) ≡ load_more 0 s
unfolding tallied
load-tallied s i = ap (λ (h : ℕ). record { hits = h; loads = s.loads + 1; probes = s.probes + 0 }) (add-zero s.hits)

module _ (p n blocks : ℕ) (m : Memory) (t : Trace) (a : Agrees p n blocks m t) where
  no_pin_is : (i : ℕ) → count_at m.counts i holder ≡ 0
  no_pin_is i = count_none p n blocks m t a i holder

  -- ---- held in buffer i
  module _ (i : ℕ) (h : i < length t.held) where
    abbrev w : ℕ
    w = word_of m i

    abbrev x : Memory
    x = recounted m holder i (pin_more (cap_of m) w) 1

    abbrev y : Memory
    y = recounted x holder i (pin_less (word_of x i)) 0

    below : i < buffers m
    below = omega (arith, buffers-are p n blocks m t a, a.most)

    x_below : i < buffers x
    x_below = rw (length-set m.states i (pin_more (cap_of m) w)) below

    x-good : Good x
    x-good = pin-good m a.good i below (no_pin_is i) (a.full i h)

    x-one : count_at x.counts i holder ≡ 1
    x-one = let l = below in count_same m.counts i holder 1 (omega (arith, a.good.sizes.counts)) (omega arith)

    x-word : word_of x i ≡ pin_more (cap_of m) w
    x-word = get_or-set_same m.states i (pin_more (cap_of m) w) 0 below

    -- the word is the trace's
    own-word : w ≡ get_or t.states i 0
    own-word =
        ap (λ (ws : List ℕ). get_or ws i 0) a.words
        ∙ get_or-append t.states (replicate (n - length t.held) 0) 0 i (omega (arith, a.same))

    new_word : pin_less (word_of x i) ≡ hit_word (get_or t.states i 0)
    new_word = ap pin_less (x-word ∙ ap₂ pin_more a.cap-is own-word)

    y-words : y.states ≡ set t.states i (hit_word (get_or t.states i 0)) ++ replicate (n - length t.held) 0
    y-words =
        set-set m.states i (pin_more (cap_of m) w) (pin_less (word_of x i))
        ∙ ap₂ (λ (ws : List ℕ) (v : ℕ). set ws i v) a.words new_word
        ∙ set-append_left t.states (replicate (n - length t.held) 0) i (hit_word (get_or t.states i 0)) (omega (arith, a.same))

    y-agrees : Agrees p n blocks y (hit_at t i)
    unfolding hit_at
    y-agrees =
        record {
          good = unpin-good x x-good i x_below x-one;
          size_is = a.size_is;
          cap-is = a.cap-is;
          rows = a.rows;
          store = a.store;
          counts = ap (λ (cs : List ℕ). set_count (set_count cs i holder 1) i holder 0) a.counts ∙ zeros-back (n * max_holders) i;
          least = a.least;
          most = a.most;
          same = length-set t.states i (hit_word (get_or t.states i 0)) ∙ a.same;
          words = y-words;
          hand = a.hand;
          names = a.names;
          full = λ j l.
              unpin-empty x x-good i x_below x-one j ∙ pin-empty m a.good i below (no_pin_is i) (a.full i h) j ∙ a.full j l;
          top-free = a.top-free;
          top-end = a.top-end;
          on = a.on;
          last = a.last;
          clean = λ j l.
              unpin-dirty x x-good i x_below x-one j ∙ pin-dirty m a.good i below (no_pin_is i) (a.full i h) j ∙ a.clean j l;
        }

    held-used : Ends p n blocks x i (hit_at t i)
    held-used = unpin-ends x x-good i x_below x-one p n blocks (hit_at t i) y-agrees

    pin-held : pin_held m holder i ≡ done (i ∷ 1 ∷ 0 ∷ 0 ∷ []) [] x
    unfolding pin_held held_word
    pin-held = rw (no_pin_is i)

  -- ---- the next buffer of the free list
  module _ (b : ℕ) (l : b < blocks) (e : buffer_of t b ≡ missing) (f : length t.held < n) where
    abbrev k : ℕ
    k = length t.held

    more : length (into_free t b).held ≡ suc k
    unfolding into_free
    more = length-append t.held (b ∷ []) ∙ omega arith

    u-words : set m.states k load_word ≡ (into_free t b).states ++ replicate (n - length (into_free t b).held) 0
    unfolding into_free
    u-words =
        let r = n - length (into_free t b).held in
        let s : n - k ≡ suc r = omega (arith, more) in
        ap (λ (ws : List ℕ). set ws k load_word) (a.words ∙ ap (λ (q : ℕ). t.states ++ replicate q 0) s)
        ∙ set_at t.states 0 (replicate r 0) load_word k a.same
        ∙ sym (append_snoc t.states load_word (replicate r 0))

    -- the others keep their names
    u-name : (j : ℕ) → j < length (into_free t b).held → j ≢ k → name_of m j ≡ page (get_or (into_free t b).held j 0)
    unfolding into_free
    u-name j h ne =
        let q : j < k = omega (arith, more) in
        a.names j q ∙ ap page (sym (get_or-append t.held (b ∷ []) 0 j q))

    taking : Taking p n blocks m (into_free t b) k b
    unfolding into_free
    taking =
        record {
          good = a.good;
          size_is = a.size_is;
          cap-is = a.cap-is;
          rows = a.rows;
          store = a.store;
          counts = a.counts;
          new = held-nowhere p n blocks m t a b e;
          place = place_is p n blocks m t a b l;
          top = a.top-free f;
          below = omega (arith, more);
          least = a.least;
          most = omega (arith, more);
          same = length-append t.states (load_word ∷ []) ∙ omega (arith, more, a.same);
          words = u-words;
          hand = a.hand;
          own = get_or-append_seam t.held b [] 0;
          names = u-name;
          full = λ j h ne. a.full j (omega (arith, more));
          clean = λ j h ne. a.clean j (omega (arith, more));
          top-free = λ h. a.on k (omega arith) (omega (arith, more)) ∙ ap To (sym more);
          top-end = λ h. a.last k (omega arith) (omega (arith, more));
          on = λ j h s. a.on j (omega (arith, more)) s;
          last = λ j h s. a.last j (omega (arith, more)) s;
        }

    pin-free : pin_to m holder (page b) (held_in m (page b)) ≡ done (k ∷ 0 ∷ 0 ∷ 0 ∷ []) [] (came m k b)
    unfolding pin_to pin_new pin_free
    pin-free = rw (held-nowhere p n blocks m t a b e, a.top-free f)

module _ (p n blocks : ℕ) (m : Memory) (t : Trace) (a : Agrees p n blocks m t) (b : ℕ) (l : b < blocks) where
  pub use-held : (i : ℕ) → buffer_of t b ≡ found i → UsedOnce p n blocks m t (hit_at t i) b
  unfolding buffer_of hit_at pin_to
  use-held i e =
      let h = (first_found (λ j. eqb (get_or t.held j 0) b) (length t.held) e).0 in
      used-once p n blocks m t (hit_at t i) b (i ∷ 1 ∷ 0 ∷ 0 ∷ []) (x p n blocks m t a i h)
      (pinned-is p n blocks m t a b l ∙ ap (pin_to m holder (page b)) (held_at p n blocks m t a b i e) ∙ pin-held p n blocks m t a i h)
      (held-used p n blocks m t a i h)
      (hit-tallied t.totals i)

  pub use-free : buffer_of t b ≡ missing → length t.held < n → UsedOnce p n blocks m t (into_free t b) b
  unfolding into_free
  use-free e f =
      used-once p n blocks m t (into_free t b) b (length t.held ∷ 0 ∷ 0 ∷ 0 ∷ []) (came m (length t.held) b)
      (pinned-is p n blocks m t a b l ∙ pin-free p n blocks m t a b l e f)
      (load-used p n blocks m (into_free t b) (length t.held) b (taking p n blocks m t a b l e f))
      (load-tallied t.totals (length t.held))
