-- A list that is served, computed.
use Prim.Native.Nat.{ℕ}
use native.Mathlib.Omega.{arith}
use mathlib.Core.Path.{◌≡◌, refl, sym, ap, ◌∙◌}
use mathlib.Core.List.{List, [], ◌∷◌, ◌++◌}
use lib.ListN.{length, take}
use Rattle.bufmodel.specs.Lent.{Lent}
use Rattle.shelf.specs.Statement.{outcome_of, Pool}
use Rattle.shelf.specs.Trial.{log}
use Rattle.twopools.specs.Asked.{Asked}
use Rattle.twopools.specs.Pins.{Pins}
use Rattle.twopools.specs.Receipts.{Receipt, receipt, called_by, pins_then, turns, receipts_of}
use Rattle.twopools.specs.WrongSizes.{Setups, setup}
use Rattle.twopools.specs.ServedLate.{late, one_more, gives, done, written_page, late_receipts, ServedLate}
use Rattle.twopools.proofs.SizesTests.{
  named_test,
  named,
  runs,
  served,
  fits-setup,
  Ready,
  two_ready,
  Served,
  asked,
  names_in,
  never-in,
}

three-ready : Ready log (setup 3)
unfolding runs
three-ready = record { fits = fits-setup 2 _ 3 refl; up = refl }

two-three : Setups (setup 2) (setup 3)
unfolding runs
two-three = (omega arith, refl, refl)

late-two : Served named_test (setup 2) late
unfolding runs late
late-two = record { fits = refl; serves = refl }

six : receipts_of (served (setup 2) (late ++ (one_more ∷ []))) ≡ late_receipts ++ (gives 6 [] 0 ∷ [])
unfolding runs late late_receipts written_page
six = refl

accepted : receipts_of (served (setup 3) (late ++ (one_more ∷ []))) ≡ late_receipts ++ (done ∷ [])
unfolding runs late late_receipts written_page
accepted = refl

-- the receipts of a list's beginning are the beginning of its receipts
begun : (pool : Pool) (slices : ℕ → List ℕ) (m : Lent) (p : Pins) (cs ds : List Asked)
    → take (length cs) (receipts_of (turns pool slices m p (cs ++ ds))) ≡ receipts_of (turns pool slices m p cs)
unfolding turns receipts_of
begun pool slices m p [] ds = refl
begun pool slices m p (c ∷ cs) ds =
    let r = called_by pool slices m p c in
    ap (◌∷◌ (receipt c (outcome_of r))) (begun pool slices r.lent (pins_then p c r) cs ds)

first-ones : (last : Receipt) → take (length late) (late_receipts ++ (last ∷ [])) ≡ late_receipts
unfolding late late_receipts
first-ones last = refl

-- SERVED LATE
pub served-late : ServedLate
served-late =
    record {
      fits = (two_ready.fits, three-ready.fits, asked late-two);
      setups = two-three;
      small_up = two_ready.up;
      large_up = three-ready.up;
      named = named _ (names_in late-two);
      never = never-in late-two;
      small = sym (begun _ _ _ _ late _) ∙ ap (take (length late)) six ∙ first-ones _;
      large = sym (begun _ _ _ _ late _) ∙ ap (take (length late)) accepted ∙ first-ones _;
      six = six;
      accepted = accepted;
    }
