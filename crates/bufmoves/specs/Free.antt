-- The control record with another top of the free list.
use Rattle.std.specs.Prelude.{ℤ}
use Rattle.bufmodel.specs.declared.control.Control.{Control}

abbrev pub topped : Control → ℤ → Control
topped c t = record { size = c.size; hand = c.hand; top = t; inserted = c.inserted; flushed = c.flushed; cap = c.cap }
