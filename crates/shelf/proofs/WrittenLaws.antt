-- The page that the pool writes is the shelf's.
use Prim.Native.Nat.{ℕ, ◌+◌, ◌-◌, ◌≤◌}
use mathlib.Core.Path.{◌≡◌, sym, ap, ◌∙◌}
use mathlib.Core.List.{List, ◌++◌}
use native.Mathlib.Omega.{arith}
use lib.ListN.{length, take, drop, length-take}
use lib.Seq.{take-add, drop_at, drop-append-le, drop-drop}
use Rattle.bufmodel.specs.Position.{position_bytes, paste, written}
use Rattle.shelf.specs.Shelf.{written_page}

between : (k : ℕ) (page : List ℕ) → 8 + k ≤ length page → drop 8 (take (8 + k) page) ≡ take k (drop 8 page)
between k page h =
    ap (drop 8) (take-add 8 k page) ∙ drop_at (take 8 page) (take k (drop 8 page)) 8 (length-take 8 page ∙ omega arith)

pub written_is : (p from : ℕ) (new page : List ℕ) → 8 ≤ from → from ≤ length page → written p from new page ≡ written_page p from new page
unfolding written paste position_bytes written_page
written_is p from new page h l =
    let e : 8 + (from - 8) ≡ from = omega arith in
    let rest = new ++ drop (length new) (drop from page) in
    ap (λ (xs : List ℕ). position_bytes p ++ xs)
    (drop-append-le 8 (take from page) rest (omega (arith, length-take from page))
    ∙ ap (λ (xs : List ℕ). xs ++ rest)
    (ap (λ (j : ℕ). drop 8 (take j page)) (sym e) ∙ between (from - 8) page (omega arith))
    ∙ ap (λ (xs : List ℕ). take (from - 8) (drop 8 page) ++ (new ++ xs)) (drop-drop (length new) from page))
