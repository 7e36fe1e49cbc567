-- A refusal and its number say each other; a list of places gives the number of a refusal, or 0.
use Prim.Native.Nat.{ℕ, zero, suc, ◌<◌}
use native.Mathlib.Omega.{arith}
use mathlib.Core.Path.{◌≡◌, refl}
use mathlib.Core.Logic.{◌≢◌}
use mathlib.Core.Bool.{Bool, true, false, ◌&&◌, cond}
use mathlib.Core.List.{List, [], ◌∷◌}
use lib.Dec.{ltb}
use borrow.Author.Tests.{ltb-true}
use Rattle.laws.proofs.Tests.{and_left, and_right}
use Rattle.bufmodel.specs.declared.refusal.Refusal.{Refusal}
use Rattle.bufmodel.specs.declared.refusal.Refusal.TheVariants.{
  Sizes,
  Books,
  NoFile,
  NoBlock,
  PinCount,
  AllPinned,
  NoBuffer,
  NotPinned,
  Range,
  NoBytes,
  NotInserted,
  Earlier,
  FileFull,
  FilePinned,
  LogShorter,
  FlushedBeyond,
  Checksum,
  Cap,
  NoHolder,
}
use Rattle.bufmodel.specs.Memory.{Memory}
use Rattle.bufmodel.specs.Outcome.{Place, refusal_of, checked}
use Rattle.bufmodel.specs.Refusal.{refusal_number, refusal_at}

pub refusal-not0 : (r : Refusal) → refusal_number r ≢ 0
refusal-not0 Sizes e = absurd (omega arith)
refusal-not0 Books e = absurd (omega arith)
refusal-not0 NoFile e = absurd (omega arith)
refusal-not0 NoBlock e = absurd (omega arith)
refusal-not0 PinCount e = absurd (omega arith)
refusal-not0 AllPinned e = absurd (omega arith)
refusal-not0 NoBuffer e = absurd (omega arith)
refusal-not0 NotPinned e = absurd (omega arith)
refusal-not0 Range e = absurd (omega arith)
refusal-not0 NoBytes e = absurd (omega arith)
refusal-not0 NotInserted e = absurd (omega arith)
refusal-not0 Earlier e = absurd (omega arith)
refusal-not0 FileFull e = absurd (omega arith)
refusal-not0 FilePinned e = absurd (omega arith)
refusal-not0 LogShorter e = absurd (omega arith)
refusal-not0 FlushedBeyond e = absurd (omega arith)
refusal-not0 Checksum e = absurd (omega arith)
refusal-not0 Cap e = absurd (omega arith)
refusal-not0 NoHolder e = absurd (omega arith)

pub refusal-back : (r : Refusal) → refusal_at (refusal_number r) ≡ r
unfolding refusal_at
refusal-back Sizes = refl
refusal-back Books = refl
refusal-back NoFile = refl
refusal-back NoBlock = refl
refusal-back PinCount = refl
refusal-back AllPinned = refl
refusal-back NoBuffer = refl
refusal-back NotPinned = refl
refusal-back Range = refl
refusal-back NoBytes = refl
refusal-back NotInserted = refl
refusal-back Earlier = refl
refusal-back FileFull = refl
refusal-back FilePinned = refl
refusal-back LogShorter = refl
refusal-back FlushedBeyond = refl
refusal-back Checksum = refl
refusal-back Cap = refl
refusal-back NoHolder = refl

-- there are 19
pub number-back : (k : ℕ) → k ≢ 0 → k < 20 → refusal_number (refusal_at k) ≡ k
unfolding refusal_at
number-back zero n l = absurd (n refl)
number-back (suc zero) n l = refl
number-back (suc (suc zero)) n l = refl
number-back (suc (suc (suc zero))) n l = refl
number-back (suc (suc (suc (suc zero)))) n l = refl
number-back (suc (suc (suc (suc (suc zero))))) n l = refl
number-back (suc (suc (suc (suc (suc (suc zero)))))) n l = refl
number-back (suc (suc (suc (suc (suc (suc (suc zero))))))) n l = refl
number-back (suc (suc (suc (suc (suc (suc (suc (suc zero)))))))) n l = refl
number-back (suc (suc (suc (suc (suc (suc (suc (suc (suc zero))))))))) n l = refl
number-back (suc (suc (suc (suc (suc (suc (suc (suc (suc (suc zero)))))))))) n l = refl
number-back (suc (suc (suc (suc (suc (suc (suc (suc (suc (suc (suc zero))))))))))) n l = refl
number-back (suc (suc (suc (suc (suc (suc (suc (suc (suc (suc (suc (suc zero)))))))))))) n l = refl
number-back (suc (suc (suc (suc (suc (suc (suc (suc (suc (suc (suc (suc (suc zero))))))))))))) n l = refl
number-back (suc (suc (suc (suc (suc (suc (suc (suc (suc (suc (suc (suc (suc (suc zero)))))))))))))) n l = refl
number-back (suc (suc (suc (suc (suc (suc (suc (suc (suc (suc (suc (suc (suc (suc (suc zero))))))))))))))) n l = refl
number-back (suc (suc (suc (suc (suc (suc (suc (suc (suc (suc (suc (suc (suc (suc (suc (suc zero)))))))))))))))) n l = refl
number-back (suc (suc (suc (suc (suc (suc (suc (suc (suc (suc (suc (suc (suc (suc (suc (suc (suc zero))))))))))))))))) n l = refl
number-back (suc (suc (suc (suc (suc (suc (suc (suc (suc (suc (suc (suc (suc (suc (suc (suc (suc (suc zero)))))))))))))))))) n l = refl
number-back (suc (suc (suc (suc (suc (suc (suc (suc (suc (suc (suc (suc (suc (suc (suc (suc (suc (suc (suc zero))))))))))))))))))) n l = refl
number-back (suc (suc (suc (suc (suc (suc (suc (suc (suc (suc (suc (suc (suc (suc (suc (suc (suc (suc (suc (suc k)))))))))))))))))))) n l = absurd (omega arith)

-- ---- the number that places give
abbrev pub numbered : List Place → Bool
numbered [] = true
numbered (p ∷ ps) = ltb p.number 20 && numbered ps

chosen : (t : Bool) (a b : ℕ) → a < 20 → b < 20 → cond t a b < 20
chosen true a b h k = h
chosen false a b h k = k

pub refusal-below : (ps : List Place) → numbered ps ≡ true → refusal_of ps < 20
unfolding refusal_of
refusal-below [] h = omega arith
refusal-below (p ∷ ps) h =
    chosen p.refuses p.number (refusal_of ps) (ltb-true _ _ (and_left (ltb p.number 20) (numbered ps) h))
    (refusal-below ps (and_right (ltb p.number 20) (numbered ps) h))

pub checked-below : (m : Memory) (own : List Place) → numbered own ≡ true → checked m own < 20
unfolding checked
checked-below m own h = refusal-below _ h
