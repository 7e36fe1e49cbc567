-- How the control record's words are read.
use Rattle.std.specs.Prelude.{cond, List, ℕ, ◌^◌, eqb, ltb, ℤ, pos, negsuc, get_or}
use Rattle.buftag.specs.Link.{none}
use Rattle.bufmodel.specs.declared.control.Control.{Control}
use Rattle.bufmodel.specs.Lent.{one_bits}

-- a word that no 32-bit link can be is read as −3, which no link is either
unfoldable pub top_read : ℕ → ℤ
top_read w = cond (eqb w one_bits) none (cond (ltb w (2 ^ 31)) (pos w) (negsuc 2))

unfoldable pub control_read : List ℕ → Control
control_read ws =
    record {
      size = get_or ws 0 0;
      hand = get_or ws 1 0;
      top = top_read (get_or ws 2 0);
      inserted = get_or ws 3 0;
      flushed = get_or ws 4 0;
      cap = get_or ws 5 0;
    }
