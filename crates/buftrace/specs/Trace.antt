-- The same with no page bytes, names, links or counts: of each buffer that has a page, in order, the state word and the block; the hand;
-- the totals so far. The words are the pool's, and so is the sweep. A buffer that has a page keeps one, so the free list gives the next
use Rattle.std.specs.Prelude.{ℕ, suc, ◌+◌, ◌-◌, ◌*◌, ◌≤◌, ◌<◌, ◌≡◌, true, false, cond, List, [], ◌∷◌, ◌++◌, length, get_or, set, take, eqb, ltb}
use Rattle.laws.specs.First.{Found, found, missing, first}
use Rattle.bufmodel.specs.Word.{pins, empty, sound_word, loaded, pin_more, pin_less}
use Rattle.bufmodel.specs.Sizes.{max_buffers, max_blocks}
use Rattle.bufmodel.specs.Sweep.{Swept, sweep_all}
use Rattle.buftrace.specs.declared.usage.Totals.{Totals}
use Rattle.buftrace.specs.declared.trace.Tally.{Tally}
use Rattle.buftrace.specs.Usage.{cap, none_yet}

pub record Trace : Type 0 where
  pub states : List ℕ
  pub held : List ℕ
  pub hand : ℕ
  pub totals : Totals

-- no buffer has a page yet
abbrev pub unused : Trace
unused = record { states = []; held = []; hand = 0; totals = none_yet }

-- the buffer that has block b
unfoldable pub buffer_of : Trace → ℕ → Found
buffer_of t b = first (length t.held) (λ i. eqb (get_or t.held i 0) b)

abbrev pub hit_more : Totals → Totals
hit_more t = record { hits = t.hits + 1; loads = t.loads; probes = t.probes }

abbrev pub load_more : ℕ → Totals → Totals
load_more probes t = record { hits = t.hits; loads = t.loads + 1; probes = t.probes + probes }

-- the words of a page used: held, and just loaded, each pinned and unpinned again
abbrev pub hit_word : ℕ → ℕ
hit_word w = pin_less (pin_more cap w)

abbrev pub load_word : ℕ
load_word = pin_less loaded

unfoldable pub hit_at : Trace → ℕ → Trace
hit_at t i =
    record {
      states = set t.states i (hit_word (get_or t.states i 0));
      held = t.held;
      hand = t.hand;
      totals = hit_more t.totals;
    }

-- block b comes into the next buffer of the free list
unfoldable pub into_free : Trace → ℕ → Trace
into_free t b =
    record {
      states = t.states ++ (load_word ∷ []);
      held = t.held ++ (b ∷ []);
      hand = t.hand;
      totals = load_more 0 t.totals;
    }

-- or into the sweep's victim
unfoldable pub into_victim : Trace → ℕ → Swept → Found → Trace
into_victim t b s (found v) =
    record {
      states = set s.words v load_word;
      held = set t.held v b;
      hand = s.hand;
      totals = load_more s.probes t.totals;
    }
into_victim t b s missing = t

unfoldable pub swept_for : Trace → ℕ → Swept → Trace
swept_for t b s = into_victim t b s s.victim

-- one use of block b in a pool of n buffers
unfoldable pub missed : ℕ → Trace → ℕ → Trace
missed n t b =
    let free = into_free t b in
    let swept = swept_for t b (sweep_all cap t.states t.hand) in
    cond (ltb (length t.held) n) free swept

unfoldable pub use_at : ℕ → Trace → ℕ → Found → Trace
use_at n t b (found i) = hit_at t i
use_at n t b missing = missed n t b

unfoldable pub use1 : ℕ → Trace → ℕ → Trace
use1 n t b = use_at n t b (buffer_of t b)

unfoldable pub uses : ℕ → Trace → List ℕ → Trace
uses n t [] = t
uses n t (b ∷ bs) = uses n (use1 n t b) bs

-- ---- as the code has it: the words and the blocks stand at the front of lent slices
unfoldable pub trace_of : Tally → List ℕ → List ℕ → Trace
trace_of c states held =
    record { states = take c.used states; held = take c.used held; hand = c.hand; totals = c.totals }

-- how many uses there were
abbrev pub many : Totals → ℕ
many t = t.hits + t.loads

-- a word of a page that nobody has pinned
pub record Idle (w : ℕ) : Type 0 where
  pub sound : sound_word cap w ≡ true
  pub full : empty w ≡ false
  pub free : pins w ≡ 0

-- What a use of a block asks of lent slices, for a pool of n buffers, and leaves: a third slice says for each block which buffer has it, as
-- a number one higher, 0 for none
pub record Fit (n : ℕ) (c : Tally) (states held place : List ℕ) : Type 0 where
  pub few : n ≤ max_buffers
  pub words : length states ≡ max_buffers
  pub blocks : length held ≡ max_buffers
  pub table : length place ≡ max_blocks
  pub used : c.used ≤ n
  pub hand : c.hand ≤ n - 1
  pub probes : c.totals.probes ≤ c.totals.loads * ((cap + 1) * max_buffers)
  pub idle : (i : ℕ) → i < c.used → Idle (get_or states i 0)
  pub below : (i : ℕ) → i < c.used → get_or held i 0 < max_blocks
  pub there : (i : ℕ) → i < c.used → get_or place (get_or held i 0) 0 ≡ suc i
  pub only : (b : ℕ) → b < max_blocks → 0 < get_or place b 0 → (get_or place b 0 ≤ c.used) × (get_or held (get_or place b 0 - 1) 0 ≡ b)
