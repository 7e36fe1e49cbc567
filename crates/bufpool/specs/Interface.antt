-- The number of the interface for C: one more with each change after which a program has to be compiled again. Document 01 has no such
-- number.
use Rattle.std.specs.Prelude.{ℕ}

abbrev pub interface : ℕ
interface = 4
