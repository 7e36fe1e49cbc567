use Prim.Native.Nat.{◌+◌}
use mathlib.Core.Path.{sym, ◌∙◌, ap}
use lib.ListN.{get_or, set}
use borrow.Author.Tests.{eq-eqb, ne_eqb}
use Rattle.bufmodel.specs.Counts.{max_count, count_at, set_count}
use Rattle.bufmodel.specs.Pin.{held_word}
use Rattle.bufpin.specs.Pin.{held_at, held_words, held_counts}
use Rattle.bufpin.proofs.held.pin_held.Goals as goal

pub returns-then-count : goal.returns-then-count
unfolding held_at held_words held_counts
returns-then-count c =
    let had = count_at c.args.counts.now c.args.buffer.0 c.args.holder.0 in
    let e = eq-eqb had max_count (sym c.count_of-count.ensures ∙ c.if-count.true) in
    record { value = rw e; states_after = rw e; counts_after = rw e }

pub returns : goal.returns
unfolding held_at held_words held_counts
returns c =
    let b = c.args.buffer.0 in
    let words = c.args.states.now in
    let counts = c.args.counts.now in
    let read = c.count_of-count.ensures in
    let e = ne_eqb (count_at counts b c.args.holder.0) max_count (λ z. c.if-count.false (read ∙ z)) in
    let word = ap (λ x. set words b (held_word c.args.control.cap x (get_or words b 0))) read in
    let count = ap (λ x. set_count counts b c.args.holder.0 (x + 1)) read in record {
      value = rw e;
      states_after = rw e (c.count_first.ensures ∙ word);
      counts_after = rw e (c.put_count.ensures ∙ count);
    }
