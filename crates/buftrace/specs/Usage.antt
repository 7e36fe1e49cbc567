-- What a list of used pages costs (document 02, 2026-06): hits, loads and probes of pinning and unpinning each on a fresh pool, by the
-- pool's own set up, pin and unpin.
use Rattle.std.specs.Prelude.{ℕ, ◌+◌, ◌-◌, ◌*◌, ◌<◌, Bool, true, ◌&&◌, List, [], ◌∷◌, get_or, replicate, eqb}
use Rattle.buftag.specs.declared.name.PageName.{PageName}
use Rattle.buftag.specs.Link.{none}
use Rattle.buftag.specs.Name.{name_of}
use Rattle.buftag.specs.Names.{name_words}
use Rattle.bufmodel.specs.Memory.{Memory}
use Rattle.bufmodel.specs.Counts.{max_holders}
use Rattle.bufmodel.specs.Outcome.{Outcome}
use Rattle.bufmodel.specs.Pin.{pin}
use Rattle.bufmodel.specs.Calls.{set_up, unpin}
use Rattle.buftrace.specs.declared.usage.Totals.{Totals}

-- the cap, and who pins
abbrev pub cap : ℕ
cap = 5

abbrev pub holder : ℕ
holder = 0

-- block b of the one file
abbrev pub page : ℕ → PageName
page b = name_of 1663 5 16384 0 b

-- ---- one use: a pin, and the unpin of the buffer that it answered
abbrev pub pinned : Memory → ℕ → Outcome
pinned m b = pin m holder (page b)

abbrev pub unpinned : Memory → ℕ → Outcome
unpinned m b = unpin (pinned m b).after holder (get_or (pinned m b).answer 0 0)

-- the totals with one pin's answer more: buffer, hit or loaded, wrote, probes
unfoldable pub tallied : Totals → List ℕ → Totals
tallied t answer =
    let hit = get_or answer 1 0 in
    record { hits = t.hits + hit; loads = t.loads + (1 - hit); probes = t.probes + get_or answer 3 0 }

-- each block of a list, over the memory as the last left it
unfoldable pub used_from : Memory → Totals → List ℕ → Totals
used_from m t [] = t
used_from m t (b ∷ bs) = used_from (unpinned m b).after (tallied t (pinned m b).answer) bs

-- that none of these calls is refused
unfoldable pub served_from : Memory → List ℕ → Bool
served_from m [] = true
served_from m (b ∷ bs) =
    let later = served_from (unpinned m b).after bs in
    eqb (pinned m b).refusal 0 && eqb (unpinned m b).refusal 0 && later

-- ---- lent memory before set up: n buffers of p bytes, so many buckets, a file of so many blocks of zeros
unfoldable pub blank : ℕ → ℕ → ℕ → ℕ → Memory
blank p buckets n blocks =
    record {
      control = record { size = 0; hand = 0; top = none; inserted = 0; flushed = 0; cap = 0 };
      states = replicate n 0;
      names = replicate (name_words * n) 0;
      pool = replicate (n * p) 0;
      free = replicate n none;
      heads = replicate buckets none;
      chain = replicate n none;
      rows = 1663 ∷ 5 ∷ 16384 ∷ 0 ∷ blocks ∷ blocks ∷ [];
      store = replicate (blocks * p) 0;
      counts = replicate (n * max_holders) 0;
    }

-- set up, the log at 0
abbrev pub start : ℕ → ℕ → ℕ → ℕ → Outcome
start p buckets n blocks = set_up (blank p buckets n blocks) p 0 cap

abbrev pub none_yet : Totals
none_yet = record { hits = 0; loads = 0; probes = 0 }

-- with blocks of p bytes and so many buckets, of which document 02 says nothing: the numbers are the same for all of them (`same_numbers`)
unfoldable pub used_with : ℕ → ℕ → ℕ → ℕ → List ℕ → Totals
used_with p buckets n blocks bs = used_from (start p buckets n blocks).after none_yet bs

-- blocks of 1,024 bytes, a bucket for each buffer
unfoldable pub used_on : ℕ → ℕ → List ℕ → Totals
used_on n blocks bs = used_with 1024 n n blocks bs

-- block numbers that the file has
pub data Below (blocks : ℕ) : List ℕ → Type 0 where
  no_more : Below blocks []
  one_more_is : {b : ℕ} {bs : List ℕ} → b < blocks → Below blocks bs → Below blocks (b ∷ bs)
