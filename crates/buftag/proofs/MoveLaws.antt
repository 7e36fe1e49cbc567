-- A buffer is filled and enters its name's bucket, or is emptied and leaves it: the chains stay sound and the names distinct.
use mathlib.Core.Path.{◌≡◌, sym, ◌∙◌, ap}
use mathlib.Core.Bool.{true, false, not}
use mathlib.Core.Logic.{⊎_elim}
use mathlib.Core.List.{List}
use Prim.Native.Nat.{ℕ, ◌*◌, ◌<◌}
use native.Mathlib.Omega.{arith}
use lib.Dec.{eqb}
use lib.IntN.{ℤ}
use lib.ListN.{length, set, length-set}
use lib.Seq.{get_or-set_same, get_or-set_other}
use borrow.Author.Tests.{ne_eqb}
use Rattle.laws.proofs.Tests.{eq-or-ne, never}
use Rattle.buftag.specs.declared.name.PageName.{PageName}
use Rattle.std.specs.Prelude.{None}
use Rattle.buftag.specs.Name.{bucket_of}
use Rattle.buftag.specs.Names.{name_words, name_at, set_name, no_name}
use Rattle.buftag.specs.Lookup.{used, held}
use Rattle.buftag.specs.Chain.{ChainsSound, Distinct, enter_heads, enter_chain, unchain_heads, unchain_chain}
use Rattle.buftag.proofs.NameLaws.{bucket-lt}
use Rattle.buftag.proofs.NamesLaws.{name-put, name-kept, name_in}
use Rattle.buftag.proofs.LookupLaws.{held-nowhere}
use Rattle.buftag.proofs.ChainLaws.{Apart, apart-map, enter-sound}
use Rattle.buftag.proofs.UnchainLaws.{length-unchain-heads, unchain-sound}

-- ---- one buffer's word and name are set
-- the others keep theirs
pub set_apart : (words names : List ℕ) (i w : ℕ) (n : PageName) → Apart i words (name_at names) (set words i w) (name_at (set_name names i n))
set_apart words names i w n =
    record {
      used = λ k ne. ap (λ (v : ℕ). not (eqb v 0)) (get_or-set_other words i k w 0 ne);
      kept = name-kept names i n;
    }

-- it is in use afterwards unless the word is 0
pub used-set : (words : List ℕ) (i w : ℕ) → i < length words → used (set words i w) i ≡ not (eqb w 0)
used-set words i w h = ap (λ (v : ℕ). not (eqb v 0)) (get_or-set_same words i w 0 h)

module _ (words names : List ℕ) (heads chain : List ℤ) (i : ℕ) where
  -- an empty buffer is filled
  pub entered : (w : ℕ) (n : PageName) → length chain ≡ length words → length names ≡ name_words * length words → i < length words
      → 0 < length heads → (w ≡ 0 → ⊥) → used words i ≡ false → ChainsSound words names heads chain
      → let b = bucket_of n (length heads) in
      ChainsSound (set words i w) (set_name names i n) (enter_heads heads b i) (enter_chain heads chain b i)
  unfolding enter_heads
  entered w n len lens h some ne e sound =
      let falls : PageName → ℕ = λ m. bucket_of m (length heads) in
      rw length-set
      (enter-sound (apart-map falls (set_apart words names i w n)) sound (omega arith) e (used-set words i w h ∙ ap not (ne_eqb w 0 ne))
      (ap falls (name-put names i n (name_in (length words) i names lens h))) (bucket-lt n (length heads) some))

  -- a buffer in use is emptied
  pub left : length chain ≡ length words → length names ≡ name_words * length words → i < length words → 0 < length heads
      → used words i ≡ true → ChainsSound words names heads chain
      → ChainsSound (set words i 0) (set_name names i no_name) (unchain_heads heads chain i) (unchain_chain chain i)
  left len lens h some u sound =
      rw (length-unchain-heads chain i heads)
      (unchain-sound (apart-map (λ (m : PageName). bucket_of m (length heads)) (set_apart words names i 0 no_name)) sound (omega arith)
      (used-set words i 0 h))

-- ---- the names
-- names stay distinct where only buffer i's changes, and no buffer in use has its new one
distinct_apart : {i : ℕ} {words words' : List ℕ} (names names' : List ℕ) → Apart i words (name_at names) words' (name_at names')
    → Distinct words names → (used words' i ≡ true → (k : ℕ) → used words k ≡ true → name_at names k ≡ name_at names' i → ⊥)
    → Distinct words' names'
distinct_apart {i} names names' apart d new j k u v e =
    ⊎_elim
    (λ p.
    ⊎_elim
    (λ q. p ∙ sym q)
    (λ q. absurd (new (rw p at u) k (sym (apart.used k q) ∙ v) (sym (apart.kept k q) ∙ sym e ∙ ap (name_at names') p)))
    (eq-or-ne k i))
    (λ p.
    ⊎_elim
    (λ q. absurd (new (rw q at v) j (sym (apart.used j p) ∙ u) (sym (apart.kept j p) ∙ e ∙ ap (name_at names') q)))
    (λ q. d j k (sym (apart.used j p) ∙ u) (sym (apart.used k q) ∙ v) (sym (apart.kept j p) ∙ e ∙ apart.kept k q))
    (eq-or-ne k i))
    (eq-or-ne j i)

module _ (words names : List ℕ) (i : ℕ) where
  -- a buffer is given a name that none has
  pub distinct-entered : (w : ℕ) (n : PageName) → length names ≡ name_words * length words → i < length words → Distinct words names
      → held words names n ≡ None → Distinct (set words i w) (set_name names i n)
  distinct-entered w n lens h d e =
      distinct_apart names (set_name names i n) (set_apart words names i w n) d
      (λ u k v q. held-nowhere words names n e k v (q ∙ name-put names i n (name_in (length words) i names lens h)))

  -- a buffer is emptied
  pub distinct-left : i < length words → Distinct words names → Distinct (set words i 0) (set_name names i no_name)
  distinct-left h d =
      distinct_apart names (set_name names i no_name) (set_apart words names i 0 no_name) d (λ u k v q. never u (used-set words i 0 h))
