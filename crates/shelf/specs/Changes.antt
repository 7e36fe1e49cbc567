-- How wrong pools are made of the right one.
use Rattle.std.specs.Prelude.{ℕ, Bool, ◌&&◌, cond, List, get_or, set, eqb}
use Rattle.buftag.specs.declared.name.PageName.{PageName}
use Rattle.buftag.specs.Names.{no_name}
use Rattle.bufmodel.specs.Memory.{Memory, cap_of, word_of, with_states, with_store}
use Rattle.bufmodel.specs.Counts.{count_at}
use Rattle.bufmodel.specs.Sweep.{Swept}
use Rattle.bufmodel.specs.Outcome.{Outcome}
use Rattle.bufmodel.specs.Pin.{pin_swept}
use Rattle.bufmodel.specs.Step.{
  Call,
  Pin,
  Unpin,
  Read,
  Write,
  Flush,
  GiveBack,
  Checkpoint,
  Peek,
  Extend,
  Drop,
  LogInserted,
  LogFlushed,
  step,
}
use Rattle.bufmodel.specs.Lent.{Lent, Called, opened, closed}
use Rattle.shelf.specs.Statement.{Pool, calling}

-- ---- the right one, but for some of its calls
-- a call's kind, its holder, its first number (buffer, block or log position) and its page, where it has them
pub record Parts : Type 0 where
  pub kind : ℕ
  pub holder : ℕ
  pub number : ℕ
  pub page : PageName

abbrev pub parts : Call → Parts
parts (Pin h n) = record { kind = 1; holder = h; number = n.block.0; page = n }
parts (Unpin h b) = record { kind = 2; holder = h; number = b; page = no_name }
parts (Read h b from out) = record { kind = 3; holder = h; number = b; page = no_name }
parts (Write h b from bytes at) = record { kind = 4; holder = h; number = b; page = no_name }
parts (Flush h b) = record { kind = 5; holder = h; number = b; page = no_name }
parts Checkpoint = record { kind = 6; holder = 0; number = 0; page = no_name }
parts (Peek n) = record { kind = 7; holder = 0; number = n.block.0; page = n }
parts (Extend f) = record { kind = 8; holder = 0; number = 0; page = no_name }
parts (Drop f) = record { kind = 9; holder = 0; number = 0; page = no_name }
parts (LogInserted p) = record { kind = 10; holder = 0; number = p; page = no_name }
parts (LogFlushed p) = record { kind = 11; holder = 0; number = p; page = no_name }
parts (GiveBack h) = record { kind = 12; holder = h; number = 0; page = no_name }

-- another outcome, made of the memory before, the call's parts and the right outcome
abbrev pub Change : Type 0
Change = Memory → Parts → Outcome → Outcome

-- for the calls that are refused, that are accepted, that pass another test
abbrev pub if_refused : Change → Change
if_refused other m c o = let o' = other m c o in cond (eqb o.refusal 0) o o'

abbrev pub if_accepted : Change → Change
if_accepted other m c o = let o' = other m c o in cond (eqb o.refusal 0) o' o

abbrev pub stepping : Change → Memory → Call → Outcome
stepping other m c = other m (parts c) (step m c)

abbrev pub calls : Change → Pool
calls other = calling (stepping other)

abbrev pub otherwise : (Parts → Bool) → Change → Pool
otherwise some other = calls (λ m c o. let o' = other m c o in cond (some c) o' o)

abbrev pub pins : Change → Pool
pins = otherwise (λ c. eqb c.kind 1)

abbrev pub unpins : Change → Pool
unpins = otherwise (λ c. eqb c.kind 2)

abbrev pub reads : Change → Pool
reads = otherwise (λ c. eqb c.kind 3)

abbrev pub writes : Change → Pool
writes = otherwise (λ c. eqb c.kind 4)

abbrev pub flushes : Change → Pool
flushes = otherwise (λ c. eqb c.kind 5)

abbrev pub checkpoints : Change → Pool
checkpoints = otherwise (λ c. eqb c.kind 6)

abbrev pub peeks : Change → Pool
peeks = otherwise (λ c. eqb c.kind 7)

abbrev pub extends : Change → Pool
extends = otherwise (λ c. eqb c.kind 8)

abbrev pub drops : Change → Pool
drops = otherwise (λ c. eqb c.kind 9)

abbrev pub log_inserts : Change → Pool
log_inserts = otherwise (λ c. eqb c.kind 10)

abbrev pub log_flushes : Change → Pool
log_flushes = otherwise (λ c. eqb c.kind 11)

abbrev pub gives_back : Change → Pool
gives_back = otherwise (λ c. eqb c.kind 12)

-- an outcome with another answer, with one word of the answer changed, with other bytes in the caller's slice, with a changed memory
abbrev pub answering : List ℕ → Outcome → Outcome
answering a o = record { refusal = o.refusal; answer = a; bytes = o.bytes; after = o.after }

abbrev pub saying : ℕ → ℕ → Outcome → Outcome
saying i word o = answering (set o.answer i word) o

abbrev pub filling : List ℕ → Outcome → Outcome
filling bytes o = record { refusal = o.refusal; answer = o.answer; bytes = bytes; after = o.after }

abbrev pub leaving : (Memory → Memory) → Outcome → Outcome
leaving f o = record { refusal = o.refusal; answer = o.answer; bytes = o.bytes; after = f o.after }

-- the store as it was
abbrev pub unwritten : Memory → Outcome → Outcome
unwritten m o = leaving (with_store m.store) o

-- word i of an answer
abbrev pub said : Outcome → ℕ → ℕ
said o i = get_or o.answer i 0

-- another word, of the cap and the former word, for a held page that a holder pins first; another sweep
abbrev pub pins_again : (ℕ → ℕ → ℕ) → Pool
pins_again word =
    pins
    (λ m c o.
    let b = said o 0 in
    let o' = leaving (with_states (set m.states b (word (cap_of m) (word_of m b)))) o in
    cond (eqb (said o 1) 1 && eqb (count_at m.counts b c.holder) 0) o' o)

abbrev pub sweeps : (ℕ → List ℕ → ℕ → Swept) → Pool
sweeps by =
    pins
    (λ m c o.
    let o' = pin_swept m c.holder c.page (by (cap_of m) m.states m.control.hand) in
    cond (eqb (said o 3) 0) o o')

-- ---- on the lent memory
abbrev pub lending : Lent → Called → Called
lending m r = record { result = r.result; answer = r.answer; bytes = r.bytes; lent = m }

abbrev pub with_control_words : List ℕ → Lent → Lent
with_control_words x m =
    record {
      control = x;
      states = m.states;
      names = m.names;
      pool = m.pool;
      free = m.free;
      heads = m.heads;
      chain = m.chain;
      rows = m.rows;
      store = m.store;
      counts = m.counts;
    }

-- calls that change what they find and what they leave; that leave another memory, accepted or refused
abbrev pub lends : (Lent → Lent) → Pool
lends f =
    record {
      sets_up = (calling step).sets_up;
      calls = λ c m own answer. let r = (calling step).calls c (f m) own answer in lending (f r.lent) r;
    }

abbrev pub leaves : (Lent → Lent) → Pool
leaves f =
    record {
      sets_up = (calling step).sets_up;
      calls = λ c m own answer.
          let r = (calling step).calls c m own answer in
          let r' = lending (f r.lent) r in
          cond (eqb r.result 0) r' r;
    }

abbrev pub refuses : (Memory → Memory) → Pool
refuses f =
    record {
      sets_up = (calling step).sets_up;
      calls = λ c m own answer.
          let r = (calling step).calls c m own answer in
          let r' = lending (closed (f (opened r.lent))) r in
          cond (eqb r.result 0) r r';
    }

-- calls that leave other words in the answer slice, made of those in it and of what the right call ends with
abbrev pub slices : (List ℕ → Called → List ℕ) → Pool
slices f =
    record {
      sets_up = (calling step).sets_up;
      calls = λ c m own answer.
          let r = (calling step).calls c m own answer in
          record { result = r.result; answer = f answer r; bytes = r.bytes; lent = r.lent };
    }

-- ---- another set up: of block size, log position, cap, the lent memory before and what the right one ends with
abbrev pub sets_up : (ℕ → ℕ → ℕ → Lent → Called → Called) → Pool
sets_up other =
    record { sets_up = λ p at cap m answer. other p at cap m ((calling step).sets_up p at cap m answer); calls = (calling step).calls }

-- one that ends with another number and memory
abbrev pub ended : ℕ → Lent → Called → Called
ended k m r = record { result = k; answer = r.answer; bytes = r.bytes; lent = m }

-- one that, where it is accepted, leaves another memory
abbrev pub sets_up_to : (Memory → Memory → Memory) → Pool
sets_up_to f = sets_up (λ p at cap m r. let r' = lending (closed (f (opened m) (opened r.lent))) r in cond (eqb r.result 0) r' r)
