-- The table from blocks to buffers: it finds the buffer that has a block, and keeps to the blocks as a page goes out and another comes in.
use Prim.Native.Nat.{ℕ, suc, ◌+◌, ◌-◌, ◌*◌, ◌≤◌, ◌<◌}
use native.Mathlib.Omega.{arith}
use mathlib.Core.Path.{◌≡◌, sym, ap, ◌∙◌}
use mathlib.Core.Logic.{◌≢◌, ◌⊎◌, inl, inr, ⊎_elim}
use mathlib.Core.List.{List}
use lib.ListN.{length, get_or, set, take, length-set}
use lib.Seq.{length-take-le, get_or-take, get_or-set_same, get_or-set_other}
use lib.Dec.{eqb}
use borrow.Author.Tests.{eq-eqb, ne_eqb, eqb-true}
use Rattle.laws.specs.First.{found, missing}
use Rattle.laws.proofs.First.{first-only, first-none}
use Rattle.laws.proofs.Tests.{eq-or-ne}
use Rattle.bufmodel.specs.Sizes.{max_buffers, max_blocks}
use Rattle.buftrace.specs.declared.usage.Totals.{Totals}
use Rattle.buftrace.specs.declared.trace.Tally.{Tally}
use Rattle.buftrace.specs.Usage.{cap}
use Rattle.buftrace.specs.Trace.{Idle, Fit, load_word, trace_of, buffer_of}
use Rattle.buftrace.proofs.IdleLaws.{load-idle}

abbrev pub tally : ℕ → ℕ → Totals → Tally
tally used hand totals = record { used = used; hand = hand; totals = totals }

-- ---- the buffer that has a block is found in the table
module _ {n : ℕ} {c : Tally} {states held place : List ℕ} (f : Fit n c states held place) where
  fore : length (take c.used held) ≡ c.used
  fore = length-take-le c.used held (omega (arith, f.used, f.few, f.blocks))

  pub held-length : length (trace_of c states held).held ≡ c.used
  unfolding trace_of
  held-length = fore

  fore-is : (b i : ℕ) → i < c.used → get_or (take c.used held) i 0 ≡ b → get_or place b 0 ≡ suc i
  fore-is b i l e = rw (← e, get_or-take c.used held i 0 l) (f.there i l)

  pub has : (b : ℕ) → b < max_blocks → 0 < get_or place b 0 → buffer_of (trace_of c states held) b ≡ found (get_or place b 0 - 1)
  unfolding buffer_of trace_of
  has b l z =
      let o = f.only b l z in
      let at = get_or place b 0 - 1 in
      let h : at < c.used = omega (arith, o.0) in
      rw fore
      (first-only (λ i. eqb (get_or (take c.used held) i 0) b) c.used at h (eq-eqb _ _ (get_or-take c.used held at 0 h ∙ o.1))
      (λ j m t. omega (arith, fore-is b j m (eqb-true _ _ t))))

  pub lacks : (b : ℕ) → get_or place b 0 ≡ 0 → buffer_of (trace_of c states held) b ≡ missing
  unfolding buffer_of trace_of
  lacks b z =
      rw fore
      (first-none (λ i. eqb (get_or (take c.used held) i 0) b) c.used
      (λ i l. ne_eqb (get_or (take c.used held) i 0) b (λ e. omega (arith, fore-is b i l e))))

-- ---- all buffers below u but v have their page, and v has none
pub record Vacant (u v : ℕ) (states held place : List ℕ) : Type 0 where
  words : length states ≡ max_buffers
  blocks : length held ≡ max_buffers
  table : length place ≡ max_blocks
  idle : (i : ℕ) → i < u → i ≢ v → Idle (get_or states i 0)
  below : (i : ℕ) → i < u → i ≢ v → get_or held i 0 < max_blocks
  there : (i : ℕ) → i < u → i ≢ v → get_or place (get_or held i 0) 0 ≡ suc i
  only : (b : ℕ) → b < max_blocks → 0 < get_or place b 0
      → (get_or place b 0 ≤ u) × (get_or held (get_or place b 0 - 1) 0 ≡ b) × (get_or place b 0 ≢ suc v)

-- the next buffer of the free list is so
pub vacant-next : {n : ℕ} {c : Tally} {states held place : List ℕ} → Fit n c states held place
    → Vacant (suc c.used) c.used states held place
vacant-next f =
    record {
      words = f.words;
      blocks = f.blocks;
      table = f.table;
      idle = λ i l g. f.idle i (omega arith);
      below = λ i l g. f.below i (omega arith);
      there = λ i l g. f.there i (omega arith);
      only = λ b l z. let o = f.only b l z in (omega (arith, o.0), o.1, λ e. omega (arith, o.0));
    }

-- and one whose block is taken out of the table; the words may have changed
pub vacant-out : {n : ℕ} {c : Tally} {states held place : List ℕ} → Fit n c states held place → (words : List ℕ)
    → length words ≡ max_buffers
    → ((i : ℕ) → i < c.used → Idle (get_or words i 0))
    → (v : ℕ)
    → v < c.used
    → Vacant c.used v words held (set place (get_or held v 0) 0)
vacant-out {c} {held} {place} f words len idle v l =
    record {
      words = len;
      blocks = f.blocks;
      table = length-set place old 0 ∙ f.table;
      idle = λ i m g. idle i m;
      below = λ i m g. f.below i m;
      there = λ i m g. get_or-set_other place old (get_or held i 0) 0 0 (differ i m g) ∙ f.there i m;
      only = λ b m z. go b m z (eq-or-ne b old);
    }
  where
    old : ℕ
    old = get_or held v 0

    differ : (i : ℕ) → i < c.used → i ≢ v → get_or held i 0 ≢ old
    differ i m g = λ e. g (omega (arith, f.there i m, f.there v l, ap (λ (x : ℕ). get_or place x 0) e))

    go : (b : ℕ) → b < max_blocks → 0 < get_or (set place old 0) b 0 → (b ≡ old) ⊎ (b ≢ old)
        → (get_or (set place old 0) b 0 ≤ c.used) × (get_or held (get_or (set place old 0) b 0 - 1) 0 ≡ b)
        × (get_or (set place old 0) b 0 ≢ suc v)
    go b m z (inl e) =
        let out = get_or-set_same place old 0 0 (omega (arith, f.below v l, f.table)) in
        absurd (omega (arith, ap (λ (x : ℕ). get_or (set place old 0) x 0) e))
    go b m z (inr g) =
        let same = get_or-set_other place old b 0 0 g in
        let o = f.only b m (rw same at z) in
        rw same (o.0, o.1, λ e. g (sym o.1 ∙ ap (λ (x : ℕ). get_or held x 0) (omega arith)))

-- no other block comes into the table by that
pub lacks-still : (place : List ℕ) (old b : ℕ) → old < length place → get_or place b 0 ≡ 0 → get_or (set place old 0) b 0 ≡ 0
lacks-still place old b l z =
    ⊎_elim
    (λ e. ap (λ (x : ℕ). get_or (set place old 0) x 0) e ∙ get_or-set_same place old 0 0 l)
    (λ g. get_or-set_other place old b 0 0 g ∙ z)
    (eq-or-ne b old)

-- ---- a page that no buffer has comes into it
module _ {u v : ℕ} {states held place : List ℕ} (k : Vacant u v states held place) (n b : ℕ) (few : n ≤ max_buffers) (un : u ≤ n)
    (vu : v < u) (l : b < max_blocks) (z : get_or place b 0 ≡ 0) where
  put-idle : (i : ℕ) → i < u → Idle (get_or (set states v load_word) i 0)
  put-idle i m =
      ⊎_elim
      (λ e. rw (e, get_or-set_same states v load_word 0 (omega (arith, k.words))) load-idle)
      (λ g. rw (get_or-set_other states v i load_word 0 g) (k.idle i m g))
      (eq-or-ne i v)

  held_same : get_or (set held v b) v 0 ≡ b
  held_same = get_or-set_same held v b 0 (omega (arith, k.blocks))

  place_same : get_or (set place b (suc v)) b 0 ≡ suc v
  place_same = get_or-set_same place b (suc v) 0 (omega (arith, k.table))

  held_at : (i : ℕ) → i ≡ v → get_or (set held v b) i 0 ≡ b
  held_at i e = ap (λ (x : ℕ). get_or (set held v b) x 0) e ∙ held_same

  put-below : (i : ℕ) → i < u → get_or (set held v b) i 0 < max_blocks
  put-below i m =
      ⊎_elim (λ e. rw (held_at i e) l) (λ g. rw (get_or-set_other held v i b 0 g) (k.below i m g)) (eq-or-ne i v)

  put-there : (i : ℕ) → i < u → get_or (set place b (suc v)) (get_or (set held v b) i 0) 0 ≡ suc i
  put-there i m =
      ⊎_elim
      (λ e. rw (held_at i e) (place_same ∙ ap suc (sym e)))
      (λ g.
      rw (get_or-set_other held v i b 0 g)
      (get_or-set_other place b (get_or held i 0) (suc v) 0 (λ e. omega (arith, k.there i m g, ap (λ (x : ℕ). get_or place x 0) e, z))
      ∙ k.there i m g))
      (eq-or-ne i v)

  put_only : (a : ℕ) → a < max_blocks → 0 < get_or (set place b (suc v)) a 0
      → (get_or (set place b (suc v)) a 0 ≤ u) × (get_or (set held v b) (get_or (set place b (suc v)) a 0 - 1) 0 ≡ a)
  put_only a m p = ⊎_elim same other (eq-or-ne a b)
    where
      at : ℕ
      at = get_or (set place b (suc v)) a 0

      Only : Type 0
      Only = (at ≤ u) × (get_or (set held v b) (at - 1) 0 ≡ a)

      same : a ≡ b → Only
      same e =
          let q : at ≡ suc v = ap (λ (x : ℕ). get_or (set place b (suc v)) x 0) e ∙ place_same in
          (omega arith, held_at (at - 1) (omega arith) ∙ sym e)

      other : a ≢ b → Only
      other g =
          let q : at ≡ get_or place a 0 = get_or-set_other place b a (suc v) 0 g in
          let o = k.only a m (omega arith) in
          (omega (arith, o.0), get_or-set_other held v (at - 1) b 0 (λ e. o.2 (omega arith)) ∙ ap (λ (x : ℕ). get_or held (x - 1) 0) q ∙ o.1)

  pub put_fit : (hand : ℕ) (totals : Totals) → hand ≤ n - 1 → totals.probes ≤ totals.loads * ((cap + 1) * max_buffers)
      → Fit n (tally u hand totals) (set states v load_word) (set held v b) (set place b (suc v))
  put_fit hand totals h p =
      record {
        few = few;
        words = length-set states v load_word ∙ k.words;
        blocks = length-set held v b ∙ k.blocks;
        table = length-set place b (suc v) ∙ k.table;
        used = un;
        hand = h;
        probes = p;
        idle = put-idle;
        below = put-below;
        there = put-there;
        only = put_only;
      }
