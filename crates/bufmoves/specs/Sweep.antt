-- What the code's sweep answers.
use Rattle.std.specs.Prelude.{ℕ, Option, Some, None}
use Rattle.laws.specs.First.{Found, found, missing}
use Rattle.bufmodel.specs.Sweep.{Swept}
use Rattle.bufmoves.specs.declared.sweep.Victim.{Victim}

abbrev pub victim_at : Found → ℕ → ℕ → Option Victim
victim_at (found v) hand probes = Some (record { buffer = record { 0 = v }; hand = hand; probes = probes })
victim_at missing hand probes = None

unfoldable pub victim_of : Swept → Option Victim
victim_of s = victim_at s.victim s.hand s.probes
