use native.Mathlib.Omega.{arith}
use mathlib.Core.Path.{◌≡◌, sym, ap, ◌∙◌}
use mathlib.Core.List.{[], ◌∷◌}
use Prim.Native.Nat.{ℕ, ◌/◌, ◌%◌}
use Rattle.bufmodel.specs.Checksum.{checksum, sum_bytes}
use Rattle.bufmodel.specs.Position.{paste}
use Rattle.bufmodel.proofs.ChecksumLaws.{checksum-most, sealed-zero, sealed-summed}
use Rattle.bufmem.proofs.seal.seal.Goals as goal

pub returns-then-is_blank : goal.returns-then-is_blank
returns-then-is_blank c =
    let a = c.args in
    sealed-zero a.number.0 a.page.now (sym c.is_blank.ensures ∙ c.if-is_blank.true)

pub overflow_cast-s : goal.overflow_cast-s
overflow_cast-s c =
    let a = c.args in
    omega (arith, c.page_checksum-s.ensures, checksum-most a.number.0 a.page.now)

pub returns : goal.returns
unfolding paste
returns c =
    let page = c.args.page.now in
    let b = c.args.number.0 in
    let s = c.page_checksum-s.result in
    let high : s / 256 % 256 ≡ s / 256 = omega (arith, c.page_checksum-s.ensures, checksum-most b page) in
    let low = c.copy_from_slice.ensures.after ∙ c.to_le_bytes.ensures in
    let stored : c.copy_from_slice.new.self ≡ sum_bytes (checksum b page) =
    low ∙ ap (λ (h : ℕ). s % 256 ∷ h ∷ []) high ∙ ap sum_bytes c.page_checksum-s.ensures in
    rw stored (sealed-summed b page (sym c.is_blank.ensures ∙ c.if-is_blank.false))
