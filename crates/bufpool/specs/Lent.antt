-- The C side in the contracts of the exports: the lent memory of its parts, and what a call leaves.
use Rattle.std.specs.Prelude.{ℕ, cond, List, eqb, ℤ}
use Rattle.bufmodel.specs.declared.control.Control.{Control}
use Rattle.bufmodel.specs.Lent.{Lent, Called, words_of}

abbrev pub lent : List ℕ → List ℕ → List ℕ → List ℕ → List ℤ → List ℤ → List ℤ → List ℕ → List ℕ → List ℕ → Lent
lent control states names pool free heads chain rows store counts =
    record {
      control = control;
      states = states;
      names = names;
      pool = pool;
      free = free;
      heads = heads;
      chain = chain;
      rows = rows;
      store = store;
      counts = counts;
    }

abbrev pub ends : ℕ → List ℕ → List ℕ → Lent → Called
ends r answer bytes l = record { result = r; answer = answer; bytes = bytes; lent = l }

-- the control record's words after a call with result r: a refused call leaves them
abbrev pub kept_words : ℕ → Control → List ℕ → List ℕ
kept_words r c ws = cond (eqb r 0) (words_of c) ws
