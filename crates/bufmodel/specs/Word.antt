-- The state word of a buffer: bits 0 to 17 pin count, 18 to 21 usage count, 22 to 31 flags.
use Rattle.std.specs.Prelude.{ℕ, ◌+◌, ◌-◌, ◌*◌, ◌/◌, ◌%◌, ◌^◌, Bool, not, ◌&&◌, ◌||◌, cond, eqb, leb, ltb}
use Rattle.std.specs.Bool.{beq}

-- The cap is document 02's word for the greatest usage count, as published BM_MAX_USAGE_COUNT: here a number given at set up, from 1, the
-- usage count of a page just loaded, to 15, which four bits hold
abbrev pub max_cap : ℕ
max_cap = 15

unfoldable pub sound_cap : ℕ → Bool
sound_cap cap = leb 1 cap && leb cap max_cap

-- ---- the fields of a word, and the word of its fields
unfoldable pub pins : ℕ → ℕ
pins w = w % 2 ^ 18

unfoldable pub usage : ℕ → ℕ
usage w = w / 2 ^ 18 % 2 ^ 4

unfoldable pub flags : ℕ → ℕ
flags w = w / 2 ^ 22

unfoldable pub pack : ℕ → ℕ → ℕ → ℕ
pack p u f = p + u * 2 ^ 18 + f * 2 ^ 22

-- ---- the flags: dirty 23, valid 24, tag valid 25, just dirtied 28, permanent 31
unfoldable pub bit : ℕ → ℕ → Bool
bit k w = eqb (w / 2 ^ k % 2) 1

unfoldable pub dirty : ℕ → Bool
dirty w = bit 23 w

unfoldable pub valid : ℕ → Bool
valid w = bit 24 w

unfoldable pub tag_valid : ℕ → Bool
tag_valid w = bit 25 w

unfoldable pub just_dirtied : ℕ → Bool
just_dirtied w = bit 28 w

unfoldable pub permanent : ℕ → Bool
permanent w = bit 31 w

-- every other flag is 0
unfoldable pub no_other : ℕ → Bool
no_other w = not (bit 22 w) && not (bit 26 w) && not (bit 27 w) && not (bit 29 w) && not (bit 30 w)

-- ---- a sound word
-- An empty buffer has word 0. Any other has valid, tag valid and permanent, has dirty and just dirtied both or neither, and no other flag
unfoldable pub empty : ℕ → Bool
empty w = eqb w 0

unfoldable pub sound_flags : ℕ → Bool
sound_flags w = valid w && tag_valid w && permanent w && beq (dirty w) (just_dirtied w) && no_other w

unfoldable pub sound_word : ℕ → ℕ → Bool
sound_word cap w = empty w || (leb (usage w) cap && sound_flags w)

-- ---- pinned and not, and the changes of a word of a buffer in use
unfoldable pub pinned : ℕ → Bool
pinned w = not (eqb (pins w) 0)

-- the flags of a page in a buffer, as a number: valid, tag valid and permanent; dirty and just dirtied besides
abbrev pub clean_flags : ℕ
clean_flags = 2 ^ 2 + 2 ^ 3 + 2 ^ 9

abbrev pub dirty_flags : ℕ
dirty_flags = clean_flags + 2 ^ 1 + 2 ^ 6

-- pin count + 1, usage + 1 where it is below the cap
unfoldable pub pin_more : ℕ → ℕ → ℕ
pin_more cap w = pack (pins w + 1) (cond (ltb (usage w) cap) (usage w + 1) (usage w)) (flags w)

-- pin count − 1
unfoldable pub pin_less : ℕ → ℕ
pin_less w = pack (pins w - 1) (usage w) (flags w)

-- usage count − 1
unfoldable pub use_less : ℕ → ℕ
use_less w = pack (pins w) (usage w - 1) (flags w)

-- both dirty bits set, and both cleared: a sound word of a buffer in use has no flags but these
unfoldable pub make_dirty : ℕ → ℕ
make_dirty w = pack (pins w) (usage w) dirty_flags

unfoldable pub make_clean : ℕ → ℕ
make_clean w = pack (pins w) (usage w) clean_flags

-- the word of a page just loaded: pin and usage counts are 1, clean
unfoldable pub loaded : ℕ
loaded = pack 1 1 clean_flags
