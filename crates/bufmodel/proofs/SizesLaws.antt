-- The tests of the rows and of the sizes decide their statements; the least and the greatest block size.
use Prim.Native.Nat.{ℕ, ◌<◌, ◌≤◌}
use mathlib.Core.Path.{◌≡◌, sym, subst}
use mathlib.Core.Bool.{true}
use mathlib.Core.Logic.{inl, inr, ⊎_elim}
use mathlib.Core.List.{List, [], ◌∷◌}
use native.Mathlib.Omega.{arith}
use types.Run.{OneOf}
use borrow.Author.Tests.{lt-ltb}
use Rattle.laws.specs.Says.{Says}
use Rattle.laws.specs.Times.{times}
use Rattle.laws.proofs.Says.{says_eq, says-le, says-lt, says-and, says-not, says_all, says-as}
use Rattle.laws.proofs.Tests.{eq-or-ne}
use Rattle.laws.proofs.Times.{times-here, times-other}
use Rattle.buftag.proofs.NameLaws.{says-same-file}
use Rattle.bufmodel.specs.Rows.{files, file_at, blocks_at, capacity_at}
use Rattle.bufmodel.specs.Memory.{Memory}
use Rattle.bufmodel.specs.Sizes.{block_sizes, permitted, new_file, sound_row, sound_rows, RowsSound, sized_for, SizedFor}

row-says : (rows : List ℕ) (r : ℕ)
    → Says (sound_row rows r)
    ((((file_at rows r).fork ≤ 2) × (blocks_at rows r ≤ capacity_at rows r)) × ((s : ℕ) → s < r → file_at rows s ≡ file_at rows r → ⊥))
unfolding sound_row new_file
row-says rows r =
    says-and (says-and (says-le _ _) (says-le _ _))
    (says_all r _ _ (λ s l. says-not (says-same-file (file_at rows s) (file_at rows r))))

pub rows-say : (rows : List ℕ) → Says (sound_rows rows) (RowsSound rows)
unfolding sound_rows
rows-say rows =
    says-as
    (λ s.
    record {
      whole = s.0.0.0;
      few = s.0.0.1;
      room = s.0.1;
      fork = λ r l. (s.1 r l).0.0;
      fill = λ r l. (s.1 r l).0.1;
      differ = λ r t l m. (s.1 r l).1 t m;
    })
    (λ k. (((k.whole, k.few), k.room), λ r l. ((k.fork r l, k.fill r l), λ t m. k.differ r t l m)))
    (says-and (says-and (says-and (says_eq _ _) (says-le _ _)) (says-le _ _))
    (says_all (files rows) (sound_row rows) _ (λ r l. row-says rows r)))

pub sizes-say : (p : ℕ) (m : Memory) → Says (sized_for p m) (SizedFor p m)
unfolding sized_for permitted
sizes-say p m =
    says-as
    (λ s.
    record {
      permitted = s.0.0.0.0.0.0.0.0.0.0.0;
      least = s.0.0.0.0.0.0.0.0.0.0.1;
      most = s.0.0.0.0.0.0.0.0.0.1;
      wide = s.0.0.0.0.0.0.0.0.1;
      heads = s.0.0.0.0.0.0.0.1;
      names = s.0.0.0.0.0.0.1;
      pool = s.0.0.0.0.0.1;
      free = s.0.0.0.0.1;
      chain = s.0.0.0.1;
      rows = s.0.0.1;
      store = s.0.1;
      counts = s.1;
    })
    (λ k. (
      ((((((((((k.permitted, k.least), k.most), k.wide), k.heads), k.names), k.pool), k.free), k.chain), k.rows), k.store),
      k.counts,
    ))
    (says-and
    (says-and
    (says-and
    (says-and
    (says-and
    (says-and
    (says-and
    (says-and
    (says-and (says-and (says-and (says-lt _ _) (says-le _ _)) (says-le _ _)) (says-le _ _)) (says-le _ _)) (says_eq _ _))
    (says_eq _ _))
    (says_eq _ _))
    (says_eq _ _))
    (rows-say m.rows))
    (says_eq _ _))
    (says_eq _ _))

-- ---- block sizes
-- a number that is one of a list, as an arm of a match says it
one-times : (k : ℕ) (xs : List ℕ) → OneOf xs k → 0 < times k xs
unfolding times
one-times k [] h = absurd h
one-times k (x ∷ []) h = rw h (times-here x [])
one-times k (x ∷ y ∷ xs) h = ⊎_elim (λ e. subst (λ (z : ℕ). 0 < times z (x ∷ y ∷ xs)) (sym e) (times-here x (y ∷ xs))) (λ l. omega (arith, one-times k (y ∷ xs) l)) h

times-one : (k : ℕ) (xs : List ℕ) → 0 < times k xs → OneOf xs k
unfolding times
times-one k [] h = absurd (omega arith)
times-one k (x ∷ []) h = ⊎_elim (λ e. e) (λ ne. absurd (omega (arith, times-other k x [] ne))) (eq-or-ne k x)
times-one k (x ∷ y ∷ xs) h =
    ⊎_elim (λ e. inl e) (λ ne. inr (times-one k (y ∷ xs) (omega (arith, times-other k x (y ∷ xs) ne)))) (eq-or-ne k x)

pub permitted-says : (p : ℕ) → Says (permitted p) (OneOf block_sizes p)
unfolding permitted
permitted-says p = says-as (times-one p block_sizes) (one-times p block_sizes) (says-lt _ _)

-- the least and the greatest
pub permitted-within : {p : ℕ} → permitted p ≡ true → (1024 ≤ p) × (p ≤ 32768)
permitted-within {p} h =
    ⊎_elim (λ e. (omega arith, omega arith))
    (⊎_elim (λ e. (omega arith, omega arith))
    (⊎_elim (λ e. (omega arith, omega arith))
    (⊎_elim (λ e. (omega arith, omega arith)) (⊎_elim (λ e. (omega arith, omega arith)) (λ e. (omega arith, omega arith))))))
    ((permitted-says p).holds h)

-- a page has room for its log position
pub permitted-fits : {p : ℕ} → permitted p ≡ true → (8 ≤ p) × (p ≤ 32768)
permitted-fits h = let w = permitted-within h in (omega (arith, w.0), w.1)

pub permitted-sized : {p : ℕ} {m : Memory} → SizedFor p m → permitted p ≡ true
unfolding permitted
permitted-sized s = lt-ltb _ _ s.permitted

pub sized-page : {p : ℕ} {m : Memory} → SizedFor p m → (8 ≤ p) × (p ≤ 32768)
sized-page s = permitted-fits (permitted-sized s)

-- and for a row of the checksum's words
pub sized-least : {p : ℕ} {m : Memory} → SizedFor p m → 1024 ≤ p
sized-least s = (permitted-within (permitted-sized s)).0
