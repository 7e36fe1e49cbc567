use native.Mathlib.Omega.{arith}
use native.Mathlib.Nat.{add-sub_cancel_left}
use lib.ListN.{length, take, drop, length-drop, take-append-drop}
use lib.Seq.{drop-drop, drop-append-le, take-append-le, length-take-le}
use mathlib.Core.List.{List}
use mathlib.Core.Path.{◌≡◌, sym, ap, ◌∙◌}
use Prim.Native.Nat.{ℕ, ◌+◌, ◌*◌, ◌≤◌}
use Rattle.laws.specs.Block.{block}
use Rattle.bufmem.proofs.page.read_page.Goals as goal

-- a part of a page is a part of the pool
page-part : (p i from n : ℕ) (pool : List ℕ) → i * p + p ≤ length pool → from + n ≤ p
    → take n (drop (i * p + from) pool) ≡ take n (drop from (block p i pool))
unfolding block
page-part p i from n pool room h =
    let xs = drop (i * p) pool in
    let full = length-take-le p xs (simp length-drop (omega arith)) in
    ap (take n) (sym (drop-drop from (i * p) pool)) ∙ ap (λ (l : List ℕ). take n (drop from l)) (sym (take-append-drop p xs))
    ∙ rw (drop-append-le from (take p xs) (drop p xs) (omega (arith, full)))
    (take-append-le n (drop from (take p xs)) (drop p xs) (simp length-drop (omega (arith, full))))

pub returns : goal.returns
returns c =
    let a = c.args in
    c.copy_page.ensures
    ∙ rw (add-sub_cancel_left (a.buffer.0 * a.size + a.from) (length a.out.now))
    (page-part a.size a.buffer.0 a.from (length a.out.now) a.pool.now c.requires.0 c.requires.1)
