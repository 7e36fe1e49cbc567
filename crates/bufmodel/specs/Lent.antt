-- The C side: the control record as six 64-bit words, the answer's slice, and a call of the memory as it is lent.
use Rattle.std.specs.Prelude.{ℕ, zero, suc, ◌-◌, ◌^◌, cond, List, [], ◌∷◌, length, get_or, ℤ, pos, negsuc, eqb}
use Rattle.buftag.specs.Link.{none}
use Rattle.bufmodel.specs.declared.control.Control.{Control}
use Rattle.bufmodel.specs.Memory.{Memory}
use Rattle.bufmodel.specs.Outcome.{Outcome, zeros}

pub record Lent : Type 0 where
  pub control : List ℕ
  pub states : List ℕ
  pub names : List ℕ
  pub pool : List ℕ
  pub free : List ℤ
  pub heads : List ℤ
  pub chain : List ℤ
  pub rows : List ℕ
  pub store : List ℕ
  pub counts : List ℕ

-- ---- the control record as 64-bit words in the order P, hand, top of the free list, inserted, flushed, cap; −1 as 64 one bits
abbrev pub control_words : ℕ
control_words = 6

abbrev pub one_bits : ℕ
one_bits = 2 ^ 64 - 1

-- a word that no link can be is a link beyond every buffer, and the books are not sound
unfoldable pub top_of : ℕ → ℤ
top_of w = cond (eqb w one_bits) none (pos w)

unfoldable pub top_word : ℤ → ℕ
top_word (pos i) = i
top_word (negsuc k) = one_bits

unfoldable pub control_of : List ℕ → Control
control_of ws =
    record {
      size = get_or ws 0 0;
      hand = get_or ws 1 0;
      top = top_of (get_or ws 2 0);
      inserted = get_or ws 3 0;
      flushed = get_or ws 4 0;
      cap = get_or ws 5 0;
    }

unfoldable pub words_of : Control → List ℕ
words_of c = c.size ∷ c.hand ∷ top_word c.top ∷ c.inserted ∷ c.flushed ∷ c.cap ∷ []

unfoldable pub opened : Lent → Memory
opened m =
    record {
      control = control_of m.control;
      states = m.states;
      names = m.names;
      pool = m.pool;
      free = m.free;
      heads = m.heads;
      chain = m.chain;
      rows = m.rows;
      store = m.store;
      counts = m.counts;
    }

unfoldable pub closed : Memory → Lent
closed m =
    record {
      control = words_of m.control;
      states = m.states;
      names = m.names;
      pool = m.pool;
      free = m.free;
      heads = m.heads;
      chain = m.chain;
      rows = m.rows;
      store = m.store;
      counts = m.counts;
    }

-- ---- a call: the result, the answer slice, the caller's own bytes and the lent memory, afterwards
pub record Called : Type 0 where
  pub result : ℕ
  pub answer : List ℕ
  pub bytes : List ℕ
  pub lent : Lent

abbrev pub answer_words : ℕ
answer_words = 4

-- a refused call leaves the lent memory as it was, to the letter
unfoldable pub ended : Lent → Outcome → ℕ → Called
ended m o zero = record { result = 0; answer = o.answer; bytes = o.bytes; lent = closed o.after }
ended m o (suc k) = record { result = suc k; answer = o.answer; bytes = o.bytes; lent = m }

-- an answer slice of another length gives 1 and stays untouched; a control record of another length gives 1
unfoldable pub called : (Memory → Outcome) → Lent → List ℕ → List ℕ → Called
called call m bytes answer =
    cond (eqb (length answer) answer_words)
    (cond (eqb (length m.control) control_words)
    (ended m (call (opened m)) (call (opened m)).refusal)
    (record { result = 1; answer = zeros; bytes = bytes; lent = m }))
    (record { result = 1; answer = answer; bytes = bytes; lent = m })
