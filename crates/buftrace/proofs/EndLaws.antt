-- What the end of a line makes of a scan, case by case.
use Prim.Native.Nat.{ℕ, zero, suc, ◌≤◌, ◌<◌}
use native.Mathlib.Omega.{arith}
use mathlib.Core.Path.{◌≡◌, refl, ◌∙◌}
use mathlib.Core.Bool.{true, false}
use borrow.Author.Tests.{eq-eqb, ne_eqb, le-leb, lt-leb, lt-ltb, le-ltb}
use Rattle.laws.specs.First.{found, missing}
use Rattle.bufmodel.specs.Sizes.{max_buffers, max_blocks}
use Rattle.buftrace.specs.Input.{between}
use Rattle.buftrace.specs.Trace.{use1}
use Rattle.buftrace.specs.Scan.{Scan, spoilt, onward, taken_at, taken, number_of, least_at, end_at, ended}

between_in : (least end v : ℕ) → least ≤ v → v < end → between least end (found v) ≡ found v
unfolding between
between_in least end v l u = rw (le-leb least v l, lt-ltb v end u) refl

between-under : (least end v : ℕ) → v < least → between least end (found v) ≡ missing
unfolding between
between-under least end v l = rw (lt-leb least v l) refl

between-over : (least end v : ℕ) → least ≤ v → end ≤ v → between least end (found v) ≡ missing
unfolding between
between-over least end v l u = rw (le-leb least v l, le-ltb v end u) refl

-- ---- which numbers the line begun may have
least_first : (line : ℕ) → line ≡ 0 → least_at line ≡ 1
unfolding least_at
least_first line e = rw (eq-eqb line 0 e) refl

least-later : (line : ℕ) → 0 < line → least_at line ≡ 0
unfolding least_at
least-later line l = rw (ne_eqb line 0 (λ e. absurd (omega (arith, e, l)))) refl

end-first : (line blocks : ℕ) → line ≡ 0 → end_at line blocks ≡ suc max_buffers
unfolding end_at
end-first line blocks e = rw (eq-eqb line 0 e) refl

end-second : (line blocks : ℕ) → line ≡ 1 → end_at line blocks ≡ suc max_blocks
unfolding end_at
end-second line blocks e = rw (ne_eqb line 0 (λ z. absurd (omega (arith, e, z))), eq-eqb line 1 e) refl

end_later : (line blocks : ℕ) → 1 < line → end_at line blocks ≡ blocks
unfolding end_at
end_later line blocks l =
    rw (ne_eqb line 0 (λ z. absurd (omega (arith, l, z))), ne_eqb line 1 (λ z. absurd (omega (arith, l, z)))) refl

-- ---- a number that counts, by which line it is
taken-first : (line : ℕ) (s : Scan) (v : ℕ) → line ≡ 0 → taken_at line s v ≡ onward s v s.blocks s.trace
unfolding taken_at
taken-first zero s v e = refl
taken-first (suc line) s v e = absurd (omega (arith, e))

taken-second : (line : ℕ) (s : Scan) (v : ℕ) → line ≡ 1 → taken_at line s v ≡ onward s s.buffers v s.trace
unfolding taken_at
taken-second zero s v e = absurd (omega (arith, e))
taken-second (suc zero) s v e = refl
taken-second (suc (suc line)) s v e = absurd (omega (arith, e))

taken-later : (line : ℕ) (s : Scan) (v : ℕ) → 1 < line
    → taken_at line s v ≡ onward s s.buffers s.blocks (use1 s.buffers s.trace v)
unfolding taken_at
taken-later zero s v l = absurd (omega (arith, l))
taken-later (suc zero) s v l = absurd (omega (arith, l))
taken-later (suc (suc line)) s v l = refl

module _ (s : Scan) where
  number-none : s.digits ≡ false → number_of s ≡ missing
  unfolding number_of
  number-none d = rw (d) refl

  number-some : s.digits ≡ true → number_of s ≡ found s.value
  unfolding number_of
  number-some d = rw (d) refl

  -- the line's number counts, or the line is bad
  ended_by_is : (least end v : ℕ) → least_at s.line ≡ least → end_at s.line s.blocks ≡ end → s.digits ≡ true
      → between least end (found s.value) ≡ found v
      → ended s ≡ taken_at s.line s v
  unfolding ended taken
  ended_by_is least end v l e d b = rw (l, e, number-some d, b) refl

  ended-not : (least end : ℕ) → least_at s.line ≡ least → end_at s.line s.blocks ≡ end → s.digits ≡ true
      → between least end (found s.value) ≡ missing
      → ended s ≡ spoilt s
  unfolding ended taken
  ended-not least end l e d b = rw (l, e, number-some d, b) refl

  pub ended-none : s.digits ≡ false → ended s ≡ spoilt s
  unfolding ended taken between
  ended-none d = rw (number-none d) refl

  pub ended-buffers : s.line ≡ 0 → s.digits ≡ true → 1 ≤ s.value → s.value ≤ max_buffers
      → ended s ≡ onward s s.value s.blocks s.trace
  ended-buffers e d l u =
      ended_by_is 1 (suc max_buffers) s.value (least_first s.line e) (end-first s.line s.blocks e) d
      (between_in 1 (suc max_buffers) s.value l (omega (arith, u)))
      ∙ taken-first s.line s s.value e

  pub ended-under : s.line ≡ 0 → s.digits ≡ true → s.value < 1 → ended s ≡ spoilt s
  ended-under e d l =
      ended-not 1 (suc max_buffers) (least_first s.line e) (end-first s.line s.blocks e) d
      (between-under 1 (suc max_buffers) s.value l)

  pub ended-over : s.line ≡ 0 → s.digits ≡ true → max_buffers < s.value → ended s ≡ spoilt s
  ended-over e d l =
      ended-not 1 (suc max_buffers) (least_first s.line e) (end-first s.line s.blocks e) d
      (between-over 1 (suc max_buffers) s.value (omega (arith, l)) (omega (arith, l)))

  pub ended-blocks : s.line ≡ 1 → s.digits ≡ true → s.value ≤ max_blocks
      → ended s ≡ onward s s.buffers s.value s.trace
  ended-blocks e d u =
      ended_by_is 0 (suc max_blocks) s.value (least-later s.line (omega (arith, e))) (end-second s.line s.blocks e) d
      (between_in 0 (suc max_blocks) s.value (omega arith) (omega (arith, u)))
      ∙ taken-second s.line s s.value e

  pub ended-use : 1 < s.line → s.digits ≡ true → s.value < s.blocks
      → ended s ≡ onward s s.buffers s.blocks (use1 s.buffers s.trace s.value)
  ended-use l d u =
      ended_by_is 0 s.blocks s.value (least-later s.line (omega (arith, l))) (end_later s.line s.blocks l) d
      (between_in 0 s.blocks s.value (omega arith) u)
      ∙ taken-later s.line s s.value l

  pub ended-outside : 1 < s.line → s.digits ≡ true → s.blocks ≤ s.value → ended s ≡ spoilt s
  ended-outside l d u =
      ended-not 0 s.blocks (least-later s.line (omega (arith, l))) (end_later s.line s.blocks l) d
      (between-over 0 s.blocks s.value (omega arith) u)
