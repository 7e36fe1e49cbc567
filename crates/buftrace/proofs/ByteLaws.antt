-- The input byte by byte, and line by line: what counts of a scan at its end is the same.
use Prim.Native.Nat.{ℕ, zero, suc, ◌+◌, ◌-◌, ◌*◌, ◌≤◌, ◌<◌}
use native.Mathlib.Omega.{arith}
use mathlib.Core.Path.{◌≡◌, refl, sym, ap, ◌∙◌, subst}
use mathlib.Core.Bool.{Bool, true, false, cond}
use mathlib.Core.Logic.{◌⊎◌, inl, inr, ⊎_elim, ◌≢◌}
use mathlib.Core.List.{List, [], ◌∷◌}
use lib.Dec.{eqb}
use borrow.Author.Tests.{ne_eqb}
use Rattle.laws.specs.First.{Found, found, missing}
use Rattle.laws.proofs.First.{found-same, found-missing}
use Rattle.laws.proofs.Tests.{eq-or-ne, lt-or-le}
use Rattle.bufmodel.specs.Sizes.{max_buffers, max_blocks}
use Rattle.buftrace.specs.Input.{newline, onto, lines_of, is_digit, value_from, value_of, between}
use Rattle.buftrace.specs.Scan.{Scan, max_lines, spoilt, taken_at, taken, number_of, least_at, end_at, ended, digit, fed, feds}
use Rattle.buftrace.specs.Scan.{last_line, closed, finished}
use Rattle.buftrace.proofs.FeedLaws.{
  stepped-past,
  stepped-end,
  stepped-digit,
  stepped-other,
  digit-grown,
  digit-great,
  fed-on,
  feds-late,
  closed-late,
  finished-late,
}
use Rattle.buftrace.proofs.LineLaws.{begun, allowed, lines_fed, lines_none, lines-many, lines-on, lines_end}
use Rattle.buftrace.proofs.LineLaws.{spoilt-bad, spoilt-not, taken-missing, between-found}

-- what counts of a scan at its end
pub record Alike (s t : Scan) : Type 0 where
  pub bad : s.bad ≡ t.bad
  pub trace : t.bad ≡ 0 → s.trace ≡ t.trace

alike_same : {s t : Scan} → s ≡ t → Alike s t
alike_same e = record { bad = ap (λ x. x.bad) e; trace = λ z. ap (λ x. x.trace) e }

-- ---- behind a bad line nothing changes
bytes-end : (s : Scan) → s.bad ≢ 0 → (bs : List ℕ) → finished (feds s bs) ≡ s
bytes-end s h bs = ap finished (feds-late s bs h) ∙ finished-late s h

-- the line begun is bad, by bytes and by lines
module _ (s : Scan) (d : Bool) (v : ℕ) where
  alike-spoilt : Alike (spoilt (begun s d v)) (spoilt (begun s false 0))
  alike-spoilt =
      let t = begun s false 0 in
      record { bad = spoilt-bad (begun s d v) ∙ sym (spoilt-bad t); trace = λ z. absurd (spoilt-not t z) }

  both-spoilt : (bs : List ℕ) (lines : List (List ℕ))
      → Alike (finished (feds (spoilt (begun s d v)) bs)) (closed (lines_fed (spoilt (begun s false 0)) lines))
  both-spoilt bs lines =
      let t = spoilt (begun s d v) in
      let u = spoilt (begun s false 0) in
      rw (bytes-end t (spoilt-not (begun s d v)) bs, lines_end u (spoilt-not (begun s false 0)) lines) alike-spoilt

  bad-line : (bs : List ℕ) (f : Found) (lines : List (List ℕ)) → f ≡ missing
      → Alike (finished (feds (spoilt (begun s d v)) bs)) (closed (lines_fed (taken (begun s false 0) f) lines))
  bad-line bs f lines e = rw (e, taken-missing) (both-spoilt bs lines)

-- ---- the first of some lines, and the others
abbrev first_of : List (List ℕ) → List ℕ
first_of [] = []
first_of (line ∷ lines) = line

abbrev rest_of : List (List ℕ) → List (List ℕ)
rest_of [] = []
rest_of (line ∷ lines) = lines

onto-is : (b : ℕ) (lines : List (List ℕ)) → onto b lines ≡ (b ∷ first_of lines) ∷ rest_of lines
unfolding onto
onto-is b [] = refl
onto-is b (line ∷ lines) = refl

lines-newline : (bs : List ℕ) → lines_of (newline ∷ bs) ≡ [] ∷ lines_of bs
unfolding lines_of
lines-newline bs = refl

lines_more : (b : ℕ) (bs : List ℕ) → b ≢ newline → lines_of (b ∷ bs) ≡ (b ∷ first_of (lines_of bs)) ∷ rest_of (lines_of bs)
unfolding lines_of
lines_more b bs f = rw (ne_eqb b newline f) (onto-is b (lines_of bs))

-- ---- the number of a line
module _ (v b : ℕ) (bs : List ℕ) where
  value-digit : is_digit b ≡ true → value_from v (b ∷ bs) ≡ value_from (v * 10 + (b - 48)) bs
  unfolding value_from
  value-digit e = rw e

  value-other : is_digit b ≡ false → value_from v (b ∷ bs) ≡ missing
  unfolding value_from
  value-other e = rw e

value_none : value_of [] ≡ missing
unfolding value_of
value_none = refl

value-some : (b : ℕ) (bs : List ℕ) → value_of (b ∷ bs) ≡ value_from 0 (b ∷ bs)
unfolding value_of
value-some b bs = refl

value_grows : (bs : List ℕ) (v w : ℕ) → value_from v bs ≡ found w → v ≤ w
unfolding value_from
value_grows [] v w e = let q = found-same e in omega arith
value_grows (b ∷ bs) v w e = go (is_digit b) refl (value_grows bs (v * 10 + (b - 48)) w)
  where
    go : (t : Bool) → is_digit b ≡ t → (value_from (v * 10 + (b - 48)) bs ≡ found w → v * 10 + (b - 48) ≤ w) → v ≤ w
    go true q ih = omega (arith, ih (sym (value-digit v b bs q) ∙ e))
    go false q ih = found-missing (sym e ∙ value-other v b bs q)

allowed-missing : (s : Scan) → allowed s missing ≡ missing
unfolding between
allowed-missing s = refl

end-le : (line blocks : ℕ) → blocks ≤ max_blocks → end_at line blocks ≤ suc max_blocks
unfolding end_at
end-le line blocks l = go (eqb line 0) (eqb line 1)
  where
    go : (t u : Bool) → cond t (suc max_buffers) (cond u (suc max_blocks) blocks) ≤ suc max_blocks
    go true u = omega arith
    go false true = omega arith
    go false false = omega arith

module _ (s : Scan) (few : s.blocks ≤ max_blocks) where
  -- no line may have a greater number than the number of blocks may be
  allowed-le : (f : Found) {w : ℕ} → allowed s f ≡ found w → (f ≡ found w) × (w ≤ max_blocks)
  allowed-le f e =
      let k = between-found (least_at s.line) (end_at s.line s.blocks) f e in
      (k.0, omega (arith, k.2, end-le s.line s.blocks few))

  -- so one that is too great already is bad whatever follows
  too-great : (v : ℕ) (bs : List ℕ) → max_blocks < v → allowed s (value_from v bs) ≡ missing
  too-great v bs h = go (allowed s (value_from v bs)) refl
    where
      go : (f : Found) → allowed s (value_from v bs) ≡ f → f ≡ missing
      go (found w) e = let k = allowed-le (value_from v bs) e in absurd (omega (arith, k.1, value_grows bs v w k.0))
      go missing e = refl

-- ---- one byte of a scan with no bad line
feds-one : (s t : Scan) (b : ℕ) (bs : List ℕ) → fed s b ≡ t → feds s (b ∷ bs) ≡ feds t bs
unfolding feds
feds-one s t b bs e = ap (λ x. feds x bs) e

module _ (s : Scan) (d : Bool) (v : ℕ) where
  fed-many : (b : ℕ) → s.line ≡ max_lines → fed (begun s d v) b ≡ spoilt (begun s d v)
  fed-many b e = fed-on (begun s d v) b refl ∙ stepped-past (begun s d v) b e

  module _ (f : s.line ≢ max_lines) where
    fed-newline : fed (begun s d v) newline ≡ ended (begun s d v)
    fed-newline = fed-on (begun s d v) newline refl ∙ stepped-end (begun s d v) newline f refl

    module _ (b : ℕ) (g : b ≢ newline) where
      fed-other : is_digit b ≡ false → fed (begun s d v) b ≡ spoilt (begun s d v)
      fed-other e = fed-on (begun s d v) b refl ∙ stepped-other (begun s d v) b f g e

      fed-digit : is_digit b ≡ true → fed (begun s d v) b ≡ digit (begun s d v) b
      fed-digit e = fed-on (begun s d v) b refl ∙ stepped-digit (begun s d v) b f g e

-- ---- the end of a line
ended-empty : (s : Scan) → ended (begun s false 0) ≡ taken (begun s false 0) missing
unfolding ended number_of
ended-empty s = ap (taken (begun s false 0)) (allowed-missing s)

ended-number : (s : Scan) (v : ℕ) → ended (begun s true v) ≡ taken (begun s true v) (allowed s (found v))
unfolding ended number_of
ended-number s v = refl

-- of the line that ended nothing is kept but its number
taken_at_is : (k : ℕ) (s : Scan) (d : Bool) (v w : ℕ) → taken_at k (begun s d v) w ≡ begun (taken_at k (begun s false 0) w) false 0
unfolding taken_at
taken_at_is zero s d v w = refl
taken_at_is (suc zero) s d v w = refl
taken_at_is (suc (suc k)) s d v w = refl

taken-found : (s : Scan) (d : Bool) (v w : ℕ) → taken (begun s d v) (found w) ≡ begun (taken (begun s false 0) (found w)) false 0
unfolding taken
taken-found s d v w = taken_at_is s.line s d v w

blocks_at : (k : ℕ) (s : Scan) (w : ℕ) → s.blocks ≤ max_blocks → w ≤ max_blocks → (taken_at k (begun s false 0) w).blocks ≤ max_blocks
unfolding taken_at
blocks_at zero s w few h = few
blocks_at (suc zero) s w few h = h
blocks_at (suc (suc k)) s w few h = few

blocks-kept : (s : Scan) (w : ℕ) → s.blocks ≤ max_blocks → w ≤ max_blocks → (taken (begun s false 0) (found w)).blocks ≤ max_blocks
unfolding taken
blocks-kept s w few h = blocks_at s.line s w few h

-- ---- from a line's start, and from within a line
abbrev Same : Scan → List ℕ → List (List ℕ) → Type 0
Same s bs lines = Alike (finished (feds (begun s false 0) bs)) (closed (lines_fed (begun s false 0) lines))

abbrev AtStart : List ℕ → Type 0
AtStart bs = (s : Scan) → s.blocks ≤ max_blocks → Same s bs (lines_of bs)

-- the line begun has this number so far, and goes on with these bytes
abbrev SameOn : Scan → Bool → ℕ → List ℕ → List ℕ → List (List ℕ) → Type 0
SameOn s d v bs line lines =
    Alike (finished (feds (begun s d v) bs)) (closed (lines_fed (taken (begun s false 0) (allowed s (value_from v line))) lines))

abbrev Within : List ℕ → Type 0
Within bs =
    (s : Scan) → s.blocks ≤ max_blocks → s.line ≢ max_lines → (v : ℕ) → SameOn s true v bs (first_of (lines_of bs)) (rest_of (lines_of bs))

-- ---- no byte
start_none : (s : Scan) → finished (begun s false 0) ≡ closed (begun s false 0)
unfolding finished last_line
start_none s = refl

within_none : (s : Scan) (v : ℕ) → Alike (finished (begun s true v)) (closed (lines_fed (taken (begun s false 0) (allowed s (found v))) []))
unfolding finished last_line
within_none s v = rw (ended-number s v, lines_none) (go (allowed s (found v)))
  where
    go : (f : Found) → Alike (closed (taken (begun s true v) f)) (closed (taken (begun s false 0) f))
    go (found w) = rw (taken-found s true v w, taken-found s false 0 w) (alike_same refl)
    go missing =
        let t = begun s true v in
        let u = begun s false 0 in
        rw (taken-missing t, taken-missing u, closed-late (spoilt t) (spoilt-not t), closed-late (spoilt u) (spoilt-not u))
        (alike-spoilt s true v)

-- ---- a byte of a line that may be there
module _ (s : Scan) (few : s.blocks ≤ max_blocks) (f : s.line ≢ max_lines) where
  one_more_is : (d : Bool) (v b : ℕ) (bs line : List ℕ) (lines : List (List ℕ)) → b ≢ newline
      → ((w : ℕ) → SameOn s true w bs line lines)
      → SameOn s d v (b ∷ bs) (b ∷ line) lines
  one_more_is d v b bs line lines g ih = go (is_digit b) refl (lt-or-le max_blocks (v * 10 + (b - 48)))
    where
      go : (t : Bool) → is_digit b ≡ t → (max_blocks < v * 10 + (b - 48)) ⊎ (v * 10 + (b - 48) ≤ max_blocks)
          → SameOn s d v (b ∷ bs) (b ∷ line) lines
      go true e (inl h) =
          rw (feds-one (begun s d v) _ b bs (fed-digit s d v f b g e ∙ digit-great (begun s d v) b h))
          (bad-line s d v bs _ lines (ap (allowed s) (value-digit v b line e) ∙ too-great s few _ line h))
      go true e (inr h) =
          rw (feds-one (begun s d v) _ b bs (fed-digit s d v f b g e ∙ digit-grown (begun s d v) b h), value-digit v b line e) (ih _)
      go false e h =
          rw (feds-one (begun s d v) _ b bs (fed-other s d v f b g e))
          (bad-line s d v bs _ lines (ap (allowed s) (value-other v b line e) ∙ allowed-missing s))

  line-ends : (v : ℕ) (bs : List ℕ) → AtStart bs → SameOn s true v (newline ∷ bs) [] (lines_of bs)
  unfolding value_from
  line-ends v bs start =
      rw (feds-one (begun s true v) _ newline bs (fed-newline s true v f ∙ ended-number s v)) (go (allowed s (found v)) refl)
    where
      go : (o : Found) → allowed s (found v) ≡ o
          → Alike (finished (feds (taken (begun s true v) o) bs)) (closed (lines_fed (taken (begun s false 0) o) (lines_of bs)))
      go (found w) e =
          rw (taken-found s true v w, taken-found s false 0 w)
          (start (taken (begun s false 0) (found w)) (blocks-kept s w few (allowed-le s few (found v) e).1))
      go missing e = rw (taken-missing (begun s true v)) (bad-line s true v bs missing (lines_of bs) refl)

  -- an empty line is bad
  line-empty : (bs : List ℕ) → Same s (newline ∷ bs) ([] ∷ lines_of bs)
  line-empty bs =
      rw (
        feds-one _ _ newline bs (fed-newline s false 0 f ∙ ended-empty s ∙ taken-missing (begun s false 0)),
        lines-on s [] (lines_of bs) f,
      )
      (bad-line s false 0 bs _ (lines_of bs) (ap (allowed s) value_none ∙ allowed-missing s))

  line-begins : (b : ℕ) (bs : List ℕ) → b ≢ newline → Within bs → Same s (b ∷ bs) ((b ∷ first_of (lines_of bs)) ∷ rest_of (lines_of bs))
  line-begins b bs g within =
      let line = first_of (lines_of bs) in
      let lines = rest_of (lines_of bs) in
      rw (lines-on s (b ∷ line) lines f, value-some b line) (one_more_is false 0 b bs line lines g (within s few f))

-- a line too many is bad as soon as it has a byte
start-byte : (s : Scan) (b : ℕ) (bs line : List ℕ) (lines : List (List ℕ)) → (s.line ≢ max_lines → Same s (b ∷ bs) (line ∷ lines))
    → Same s (b ∷ bs) (line ∷ lines)
start-byte s b bs line lines h =
    ⊎_elim (λ e. rw (feds-one _ _ b bs (fed-many s false 0 b e), lines-many s line lines e) (both-spoilt s false 0 bs lines)) h
    (eq-or-ne s.line max_lines)

-- ---- all bytes
abbrev Both : List ℕ → Type 0
Both bs = AtStart bs × Within bs

both-none : Both []
unfolding lines_of feds value_from
both-none = (λ s few. rw (lines_none (begun s false 0)) (alike_same (start_none s)), λ s few f v. within_none s v)

both-newline : (bs : List ℕ) → Both bs → Both (newline ∷ bs)
both-newline bs ih = (
  λ s few. rw (lines-newline bs) (start-byte s newline bs [] (lines_of bs) (λ f. line-empty s few f bs)),
  λ s few f v. rw (lines-newline bs) (line-ends s few f v bs ih.0),
)

both-more : (b : ℕ) (bs : List ℕ) → b ≢ newline → Both bs → Both (b ∷ bs)
both-more b bs g ih = (
  λ s few. rw (lines_more b bs g) (start-byte s b bs _ _ (λ f. line-begins s few f b bs g ih.1)),
  λ s few f v. rw (lines_more b bs g) (one_more_is s few f true v b bs _ _ g (ih.1 s few f)),
)

both : (bs : List ℕ) → Both bs
both [] = both-none
both (b ∷ bs) =
    let ih = both bs in
    ⊎_elim (λ e. subst (λ x. Both (x ∷ bs)) (sym e) (both-newline bs ih)) (λ g. both-more b bs g ih) (eq-or-ne b newline)

pub bytes-lines : (s : Scan) → s.blocks ≤ max_blocks → (bs : List ℕ)
    → Alike (finished (feds (begun s false 0) bs)) (closed (lines_fed (begun s false 0) (lines_of bs)))
bytes-lines s few bs = (both bs).0 s few
