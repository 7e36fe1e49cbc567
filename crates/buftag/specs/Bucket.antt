-- A bucket by a mask.
use Rattle.std.specs.Prelude.{◌≡◌, ℕ, ◌%◌, Option, Some}
use Rattle.std.specs.Int.Bits.{bit_and}

-- a mask for so many buckets, if there is one: what its bits leave of a number is the remainder by the number of buckets
pub record Masks (buckets : ℕ) (mask : Option ℕ) : Type 0 where
  pub each : (bits : ℕ) → mask ≡ Some bits → (h : ℕ) → bit_and h bits ≡ h % buckets
