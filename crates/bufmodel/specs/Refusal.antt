-- The refusals and their numbers.
use Rattle.std.specs.Prelude.{ℕ, List, [], ◌∷◌, ◌-◌, get_or}
use Rattle.bufmodel.specs.declared.refusal.Refusal.{Refusal}
use Rattle.bufmodel.specs.declared.refusal.Refusal.TheVariants.{
  Sizes,
  Books,
  NoFile,
  NoBlock,
  PinCount,
  AllPinned,
  NoBuffer,
  NotPinned,
  Range,
  NoBytes,
  NotInserted,
  Earlier,
  FileFull,
  FilePinned,
  LogShorter,
  FlushedBeyond,
  Checksum,
  Cap,
  NoHolder,
}

abbrev pub refusal_number : Refusal → ℕ
refusal_number Sizes = 1
refusal_number Books = 2
refusal_number NoFile = 3
refusal_number NoBlock = 4
refusal_number PinCount = 5
refusal_number AllPinned = 6
refusal_number NoBuffer = 7
refusal_number NotPinned = 8
refusal_number Range = 9
refusal_number NoBytes = 10
refusal_number NotInserted = 11
refusal_number Earlier = 12
refusal_number FileFull = 13
refusal_number FilePinned = 14
refusal_number LogShorter = 15
refusal_number FlushedBeyond = 16
refusal_number Checksum = 17
refusal_number Cap = 18
refusal_number NoHolder = 19

-- in the order of their numbers, from 1 on
abbrev pub refusals : List Refusal
refusals =
    Sizes ∷ Books ∷ NoFile ∷ NoBlock ∷ PinCount ∷ AllPinned ∷ NoBuffer ∷ NotPinned ∷ Range ∷ NoBytes ∷ NotInserted ∷ Earlier ∷ FileFull
    ∷ FilePinned ∷ LogShorter ∷ FlushedBeyond ∷ Checksum ∷ Cap ∷ NoHolder ∷ []

-- the refusal of a number; of one that no refusal has, Sizes
unfoldable pub refusal_at : ℕ → Refusal
refusal_at k = get_or refusals (k - 1) Sizes
