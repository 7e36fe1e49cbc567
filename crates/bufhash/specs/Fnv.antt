-- 32-bit FNV-1a over bytes, and over the bytes of words.
use Rattle.std.specs.Prelude.{List, [], ◌∷◌, ℕ, ◌*◌, ◌/◌, ◌%◌, ◌^◌}
use Rattle.std.specs.Int.Bits.{bit_xor}

abbrev pub fnv_start : ℕ
fnv_start = 2166136261

abbrev pub fnv_prime : ℕ
fnv_prime = 16777619

-- a byte is exclusive-ored in, and the product with the prime keeps its low 32 bits
unfoldable pub fnv_step : ℕ → ℕ → ℕ
fnv_step b h = bit_xor b h * fnv_prime % 2 ^ 32

-- the hash continued over some bytes
abbrev pub fnv : List ℕ → ℕ → ℕ
fnv [] h = h
fnv (b ∷ bs) h = fnv bs (fnv_step b h)

-- the hash continued over a word: its four bytes, the lowest first, each taken out of the word as it is met
unfoldable pub fnv_word : ℕ → ℕ → ℕ
fnv_word w h = fnv_step (w / 16777216 % 256) (fnv_step (w / 65536 % 256) (fnv_step (w / 256 % 256) (fnv_step (w % 256) h)))
