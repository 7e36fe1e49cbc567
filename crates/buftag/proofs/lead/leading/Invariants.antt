use Rattle.laws.specs.Sum.{count}
use Rattle.buftag.specs.Link.{link_at, is_end}
use Rattle.std.proofs.Common.{◌≡◌, ℕ, ℤ, List, Bool, not}
use Rattle.buftag.proofs.lead.leading.Given as goal

-- whether the link at a place leads on
abbrev pub on : List ℤ → ℕ → Bool
on links i = not (is_end (link_at links i))

abbrev pub invariant-loop-link : goal.invariant-loop-link
invariant-loop-link l = l.many ≡ count l.link-index (on l.links)
