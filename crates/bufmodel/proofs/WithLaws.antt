-- Write-back and release leave the private counts, and do not look at them.
use Prim.Native.Nat.{ℕ, zero, suc}
use mathlib.Core.Path.{◌≡◌, refl, ap, ◌∙◌}
use mathlib.Core.Bool.{Bool, true, false}
use mathlib.Core.List.{List}
use Rattle.buftag.specs.declared.name.FileName.{FileName}
use Rattle.bufmodel.specs.Memory.{Memory, with_counts}
use Rattle.bufmodel.specs.Books.{empty_at}
use Rattle.bufmodel.specs.Moves.{write_back, write_up_to, release, of_file, release_if, release_up_to}

module _ (cs : List ℕ) where
  pub back-counts : (m : Memory) (i : ℕ) → write_back (with_counts cs m) i ≡ with_counts cs (write_back m i)
  unfolding write_back
  back-counts m i = refl

  pub backs-counts : (k : ℕ) (m : Memory) → write_up_to k (with_counts cs m) ≡ with_counts cs (write_up_to k m)
  unfolding write_up_to
  backs-counts zero m = refl
  backs-counts (suc k) m = ap (λ (x : Memory). write_back x k) (backs-counts k m) ∙ back-counts (write_up_to k m) k

  pub release-counts : (m : Memory) (i : ℕ) → release (with_counts cs m) i ≡ with_counts cs (release m i)
  unfolding release
  release-counts m i = refl

  if-counts : (t : Bool) (m : Memory) (i : ℕ) → release_if t (with_counts cs m) i ≡ with_counts cs (release_if t m i)
  unfolding release_if
  if-counts true m i = release-counts m i
  if-counts false m i = refl

  of-counts : (m : Memory) (f : FileName) (i : ℕ) → of_file (with_counts cs m) f i ≡ of_file m f i
  unfolding of_file empty_at
  of-counts m f i = refl

  pub released-counts : (f : FileName) (k : ℕ) (m : Memory) → release_up_to f k (with_counts cs m) ≡ with_counts cs (release_up_to f k m)
  unfolding release_up_to
  released-counts f zero m = refl
  released-counts f (suc k) m =
      let on = release_up_to f k m in
      ap (λ (x : Memory). release_if (of_file x f k) x k) (released-counts f k m)
      ∙ ap (λ (t : Bool). release_if t (with_counts cs on) k) (of-counts on f k)
      ∙ if-counts (of_file on f k) on k
