-- The lent memory, with the control record taken apart, and what is read off it.
use Rattle.std.specs.Prelude.{ℕ, List, [], length, get_or, ℤ}
use Rattle.laws.specs.Block.{block}
use Rattle.buftag.specs.declared.name.PageName.{PageName}
use Rattle.buftag.specs.Names.{name_at}
use Rattle.bufmodel.specs.declared.control.Control.{Control}

pub record Memory : Type 0 where
  pub control : Control
  pub states : List ℕ
  pub names : List ℕ
  pub pool : List ℕ
  pub free : List ℤ
  pub heads : List ℤ
  pub chain : List ℤ
  pub rows : List ℕ
  pub store : List ℕ
  pub counts : List ℕ

-- the memory of document 01's parts, in the order in which they are lent: what a change lends beside them is added by `with_counts`
abbrev pub memory : Control → List ℕ → List ℕ → List ℕ → List ℤ → List ℤ → List ℤ → List ℕ → List ℕ → Memory
memory control states names pool free heads chain rows store =
    record {
      control = control;
      states = states;
      names = names;
      pool = pool;
      free = free;
      heads = heads;
      chain = chain;
      rows = rows;
      store = store;
      counts = [];
    }

-- N, the number of buffers, and P, the block size
abbrev pub buffers : Memory → ℕ
buffers m = length m.states

abbrev pub size : Memory → ℕ
size m = m.control.size

-- the greatest usage count, as it was given at set up
abbrev pub cap_of : Memory → ℕ
cap_of m = m.control.cap

-- buffer i's state word, name and page
abbrev pub word_of : Memory → ℕ → ℕ
word_of m i = get_or m.states i 0

abbrev pub name_of : Memory → ℕ → PageName
name_of m i = name_at m.names i

abbrev pub page_of : Memory → ℕ → List ℕ
page_of m i = block (size m) i m.pool

-- ---- the memory with one part replaced
abbrev pub with_control : Control → Memory → Memory
with_control x m =
    record {
      control = x;
      states = m.states;
      names = m.names;
      pool = m.pool;
      free = m.free;
      heads = m.heads;
      chain = m.chain;
      rows = m.rows;
      store = m.store;
      counts = m.counts;
    }

abbrev pub with_states : List ℕ → Memory → Memory
with_states x m =
    record {
      control = m.control;
      states = x;
      names = m.names;
      pool = m.pool;
      free = m.free;
      heads = m.heads;
      chain = m.chain;
      rows = m.rows;
      store = m.store;
      counts = m.counts;
    }

abbrev pub with_names : List ℕ → Memory → Memory
with_names x m =
    record {
      control = m.control;
      states = m.states;
      names = x;
      pool = m.pool;
      free = m.free;
      heads = m.heads;
      chain = m.chain;
      rows = m.rows;
      store = m.store;
      counts = m.counts;
    }

abbrev pub with_pool : List ℕ → Memory → Memory
with_pool x m =
    record {
      control = m.control;
      states = m.states;
      names = m.names;
      pool = x;
      free = m.free;
      heads = m.heads;
      chain = m.chain;
      rows = m.rows;
      store = m.store;
      counts = m.counts;
    }

abbrev pub with_free : List ℤ → Memory → Memory
with_free x m =
    record {
      control = m.control;
      states = m.states;
      names = m.names;
      pool = m.pool;
      free = x;
      heads = m.heads;
      chain = m.chain;
      rows = m.rows;
      store = m.store;
      counts = m.counts;
    }

abbrev pub with_heads : List ℤ → Memory → Memory
with_heads x m =
    record {
      control = m.control;
      states = m.states;
      names = m.names;
      pool = m.pool;
      free = m.free;
      heads = x;
      chain = m.chain;
      rows = m.rows;
      store = m.store;
      counts = m.counts;
    }

abbrev pub with_chain : List ℤ → Memory → Memory
with_chain x m =
    record {
      control = m.control;
      states = m.states;
      names = m.names;
      pool = m.pool;
      free = m.free;
      heads = m.heads;
      chain = x;
      rows = m.rows;
      store = m.store;
      counts = m.counts;
    }

abbrev pub with_rows : List ℕ → Memory → Memory
with_rows x m =
    record {
      control = m.control;
      states = m.states;
      names = m.names;
      pool = m.pool;
      free = m.free;
      heads = m.heads;
      chain = m.chain;
      rows = x;
      store = m.store;
      counts = m.counts;
    }

abbrev pub with_store : List ℕ → Memory → Memory
with_store x m =
    record {
      control = m.control;
      states = m.states;
      names = m.names;
      pool = m.pool;
      free = m.free;
      heads = m.heads;
      chain = m.chain;
      rows = m.rows;
      store = x;
      counts = m.counts;
    }

abbrev pub with_counts : List ℕ → Memory → Memory
with_counts x m =
    record {
      control = m.control;
      states = m.states;
      names = m.names;
      pool = m.pool;
      free = m.free;
      heads = m.heads;
      chain = m.chain;
      rows = m.rows;
      store = m.store;
      counts = x;
    }

abbrev pub with_hand : ℕ → Memory → Memory
with_hand x m =
    let c = m.control in
    with_control (record { size = c.size; hand = x; top = c.top; inserted = c.inserted; flushed = c.flushed; cap = c.cap }) m

abbrev pub with_top : ℤ → Memory → Memory
with_top x m =
    let c = m.control in
    with_control (record { size = c.size; hand = c.hand; top = x; inserted = c.inserted; flushed = c.flushed; cap = c.cap }) m

abbrev pub with_inserted : ℕ → Memory → Memory
with_inserted x m =
    let c = m.control in
    with_control (record { size = c.size; hand = c.hand; top = c.top; inserted = x; flushed = c.flushed; cap = c.cap }) m

abbrev pub with_flushed : ℕ → Memory → Memory
with_flushed x m =
    let c = m.control in
    with_control (record { size = c.size; hand = c.hand; top = c.top; inserted = c.inserted; flushed = x; cap = c.cap }) m
