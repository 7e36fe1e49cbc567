-- Laws of flush: what a refused one leaves and what an accepted one does.
use Prim.Native.Nat.{ℕ}
use mathlib.Core.Path.{◌≡◌, sym, ap, ◌∙◌}
use mathlib.Core.List.{List, []}
use Rattle.laws.specs.Sum.{ind}
use Rattle.bufmodel.specs.declared.control.Control.{Control}
use Rattle.std.specs.Prelude.{Ok, Err}
use Rattle.bufmodel.specs.declared.refusal.Refusal.{Refusal}
use Rattle.bufmodel.specs.Refusal.{refusal_number}
use Rattle.bufmodel.specs.Word.{dirty}
use Rattle.bufmodel.specs.Memory.{Memory, memory, word_of, with_counts}
use Rattle.bufmodel.specs.Outcome.{checked, done, one}
use Rattle.bufmodel.specs.Answer.{written_at}
use Rattle.bufmodel.specs.Moves.{write_back}
use Rattle.bufmodel.specs.Calls.{buffer_places, flush}
use Rattle.bufmodel.proofs.OutcomeLaws.{refusal-none, outcome-done}
use Rattle.bufmodel.proofs.AnswerLaws.{WrittenEnds, refused-at, refused-all, done-all}
use Rattle.bufmoves.proofs.WholeLaws.{back_part, back_whole}
use Rattle.bufcalls.proofs.BufferLaws.{Held, buffer-later}

module _ (m : Memory) (h i : ℕ) where
  pub flush-refused : (r : Refusal) → refusal_number r ≡ checked m (buffer_places m h i []) → WrittenEnds (Err r) m (flush m h i)
  unfolding flush
  flush-refused r e = refused-all one written_at r (refused-at m _ [] _ r e)

  -- the parts that write-back is not lent are as they were
  pub flush-done : Held m h i → {n : ℕ} {c : Control} {states store : List ℕ} → n ≡ ind (dirty (word_of m i))
      → memory c states m.names m.pool [] [] [] m.rows store ≡ write_back (back_part m) i
      → WrittenEnds (Ok n) (with_counts m.counts (memory c states m.names m.pool m.free m.heads m.chain m.rows store)) (flush m h i)
  unfolding flush
  flush-done k {n} {c} {states} {store} e b =
      let o = done (one (ind (dirty (word_of m i)))) [] (write_back m i) in
      let end = done-all one written_at {x = n} (outcome-done [] m o (buffer-later m h i k [] ∙ refusal-none)) (sym e) (ap one e) in
      (end.0, end.1, end.2, back_whole m i c states store b ∙ end.3)
