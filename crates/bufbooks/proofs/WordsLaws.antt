-- A buffer's word and links: what the code compares, and what it counts.
use Prim.Native.Nat.{ℕ, zero, suc}
use mathlib.Core.Path.{◌≡◌, refl}
use mathlib.Core.Bool.{Bool, true, false, not, ◌&&◌, ◌||◌, cond}
use mathlib.Core.List.{List}
use lib.Dec.{eqb}
use lib.IntN.{ℤ, pos, negsuc}
use lib.ListN.{get_or}
use mir.Syntax.{w32}
use mir.Val.{SFits, of_z}
use native.Mathlib.Omega.{arith}
use Rattle.laws.proofs.Tests.{never}
use Rattle.buftag.specs.Link.{link_of, is_end}
use Rattle.buftag.proofs.SignedLaws.{mark-test, end_test}
use Rattle.bufmodel.specs.Word.{empty, sound_word}
use Rattle.bufmodel.specs.Books.{is_off}
use Rattle.bufbooks.proofs.TurnsLaws.{turns_count}
use Rattle.bufbooks.specs.Words.{fine}

-- ---- a link compared with −2
off-only : (z : ℤ) → is_off (link_of z) ≡ true → z ≡ negsuc 1
off-only (pos n) e = never e refl
off-only (negsuc zero) e = never e refl
off-only (negsuc (suc zero)) e = refl
off-only (negsuc (suc (suc k))) e = never e refl

off-test : (z : ℤ) → SFits w32 z → eqb (of_z w32 z) 4294967294 ≡ is_off (link_of z)
off-test = mark-test (negsuc 1) (record { sfits = omega arith }) (λ z. is_off (link_of z)) refl off-only

-- ---- the test of a buffer without a branch
by_cases : (e n s o : Bool) → (e && n || s && not e && o) ≡ cond e n (s && o)
by_cases true true s o = refl
by_cases true false true o = refl
by_cases true false false o = refl
by_cases false n true o = refl
by_cases false n false o = refl

pub fine-test : (cap w : ℕ) (free chain : ℤ) → SFits w32 free → SFits w32 chain → {full : Bool} → full ≡ (sound_word cap w && not (empty w))
    → (eqb w 0 && eqb (of_z w32 chain) 4294967295 || full && eqb (of_z w32 free) 4294967294) ≡ fine cap w free chain
unfolding fine empty
fine-test cap w free chain f g e =
    rw (e, end_test chain g, off-test free f) (by_cases (empty w) (is_end (link_of chain)) (sound_word cap w) (is_off (link_of free)))

-- ---- the loop over the buffers
-- buffer i is empty
abbrev pub idle : List ℕ → ℕ → Bool
idle states i = empty (get_or states i 0)

-- an empty word is 0
pub empty_is : (w : ℕ) → empty w ≡ eqb w 0
unfolding empty
empty_is w = refl

pub ruleset words = (turns_count, empty_is)
