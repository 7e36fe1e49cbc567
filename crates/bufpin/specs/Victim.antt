-- What a pin that loads its page answers.
use Rattle.std.specs.Prelude.{ℕ, Bool, false}
use Rattle.bufmodel.specs.declared.answer.Pinned.{Pinned}

-- loaded into buffer i
abbrev pub loaded_at : ℕ → Bool → ℕ → Pinned
loaded_at i wrote probes = record { buffer = record { 0 = i }; hit = false; wrote = wrote; probes = probes }
