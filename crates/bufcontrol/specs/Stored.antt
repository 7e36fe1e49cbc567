-- The control record as a call stores it back: hand, top and log positions are the new ones, and the block size and the cap stay.
use Rattle.bufmodel.specs.declared.control.Control.{Control}

-- the record c after a call by value has given d
abbrev pub back : Control → Control → Control
back c d = record { size = c.size; hand = d.hand; top = d.top; inserted = d.inserted; flushed = d.flushed; cap = c.cap }
