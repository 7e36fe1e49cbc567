-- The private counts (document 02): for each buffer 64 counts of 16 bits, one for each holder, buffer by buffer. A holder is document 02's
-- word for who has pins, as published a process: here a till.
use Rattle.std.specs.Prelude.{ℕ, ◌+◌, ◌*◌, Bool, not, List, get_or, set, eqb}
use Rattle.laws.specs.Sum.{count}

abbrev pub max_holders : ℕ
max_holders = 64

-- the greatest private count
abbrev pub max_count : ℕ
max_count = 65535

-- where holder h's count of buffer i stands
abbrev pub count_place : ℕ → ℕ → ℕ
count_place i h = i * max_holders + h

unfoldable pub count_at : List ℕ → ℕ → ℕ → ℕ
count_at counts i h = get_or counts (count_place i h) 0

unfoldable pub set_count : List ℕ → ℕ → ℕ → ℕ → List ℕ
set_count counts i h c = set counts (count_place i h) c

-- holder h has a pin on buffer i
unfoldable pub has_pin : List ℕ → ℕ → ℕ → Bool
has_pin counts i h = not (eqb (count_at counts i h) 0)

-- how many holders have one
unfoldable pub holders_of : List ℕ → ℕ → ℕ
holders_of counts i = count max_holders (has_pin counts i)
