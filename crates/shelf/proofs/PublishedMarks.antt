-- The books place by place: laws of alike books, and what a release and a load leave of them.
use Prim.Native.Nat.{ℕ, ◌*◌, ◌<◌}
use mathlib.Core.Path.{◌≡◌, refl, sym, ap, ap₂, ◌∙◌}
use mathlib.Core.Logic.{◌≢◌, ⊎_elim}
use mathlib.Core.Bool.{cond}
use mathlib.Core.List.{List, map}
use native.Mathlib.Omega.{arith}
use lib.Dec.{eqb}
use lib.IntN.{pos}
use lib.ListN.{length, get_or, set, length-set, length-map}
use lib.Seq.{get_or-set_same, get_or-set_other}
use borrow.Author.Tests.{eq-eqb, ne_eqb}
use Rattle.laws.proofs.Tests.{eq-or-ne}
use Rattle.buftag.specs.declared.name.PageName.{PageName}
use Rattle.buftag.specs.Name.{bucket_of}
use Rattle.buftag.specs.Names.{name_words, name_at, set_name, no_name}
use Rattle.buftag.specs.Link.{none, number_at}
use Rattle.buftag.specs.Chain.{enter_heads, enter_chain, past, unchain_heads, unchain_chain}
use Rattle.buftag.proofs.NamesLaws.{length-set_name, name-put, name-kept, name_in}
use Rattle.buftag.proofs.UnchainLaws.{map-past, length-unchain, length-unchain-heads}
use Rattle.bufmodel.specs.Word.{loaded}
use Rattle.bufmodel.specs.Memory.{Memory, buffers}
use Rattle.bufmodel.specs.Moves.{off, release, load_at}
use Rattle.bufmodel.proofs.GoodLaws.{Good}
use Rattle.bufmodel.proofs.LoadLaws.{loaded_for}
use Rattle.shelf.specs.Shelf.{with}
use Rattle.shelf.specs.Published.{Marks, marks_of, with_words, led_past, emptied, loaded_into, Alike}
use Rattle.shelf.proofs.WithLaws.{with-same, with-other}
use Rattle.shelf.proofs.PublishedWords.{loaded-is}
use Rattle.shelf.proofs.PublishedCounts.{count-with}

-- ---- alike
module _ {n b : ℕ} where
  pub alike_same : {k : Marks} → Alike n b k k
  alike_same =
      record {
        words = λ i h. refl;
        names = λ i h. refl;
        links = λ i h. refl;
        chains = λ i h. refl;
        heads = λ j h. refl;
        counts = λ i o h l. refl;
        hand = refl;
        top = refl;
      }

  pub alike_then : {k l o : Marks} → Alike n b k l → Alike n b l o → Alike n b k o
  alike_then x y =
      record {
        words = λ i h. x.words i h ∙ y.words i h;
        names = λ i h. x.names i h ∙ y.names i h;
        links = λ i h. x.links i h ∙ y.links i h;
        chains = λ i h. x.chains i h ∙ y.chains i h;
        heads = λ j h. x.heads j h ∙ y.heads j h;
        counts = λ i o h l. x.counts i o h l ∙ y.counts i o h l;
        hand = x.hand ∙ y.hand;
        top = x.top ∙ y.top;
      }

-- equal values at a place, and equal ones elsewhere
pub with-both : {A : Type 0} (k j : ℕ) {x y u v : A} → x ≡ y → (j ≢ k → u ≡ v) → cond (eqb j k) x u ≡ cond (eqb j k) y v
with-both k j e h = ⊎_elim (λ q. rw (eq-eqb j k q) e) (λ ne. rw (ne_eqb j k ne) (h ne)) (eq-or-ne j k)

module _ {n b : ℕ} {k l : Marks} where
  -- an emptied buffer's own word does not matter
  pub emptied-past : (i : ℕ) → i < n → (word : ℕ → ℕ) → ((j : ℕ) → j ≢ i → k.word j ≡ word j)
      → Alike n b (with_words word k.hand k) l → Alike n b (emptied i k) (emptied i l)
  unfolding emptied
  emptied-past i h word others x =
      record {
        words = λ j q. with-both i j refl (λ ne. others j ne ∙ x.words j q);
        names = λ j q. with-both i j refl (λ ne. x.names j q);
        links = λ j q. with-both i j x.top (λ ne. x.links j q);
        chains = λ j q. with-both i j refl (λ ne. ap₂ (led_past i) (x.chains i h) (x.chains j q));
        heads = λ j q. ap₂ (led_past i) (x.chains i h) (x.heads j q);
        counts = x.counts;
        hand = x.hand;
        top = refl;
      }

  pub emptied-alike : (i : ℕ) → i < n → Alike n b k l → Alike n b (emptied i k) (emptied i l)
  emptied-alike i h x = emptied-past i h k.word (λ j ne. refl) x

  pub loaded-alike : (c : ℕ) → c < b → (o : ℕ) (p : PageName) (i : ℕ) → i < n → Alike n b k l
      → Alike n b (loaded_into c o p i k) (loaded_into c o p i l)
  unfolding loaded_into
  loaded-alike c w o p i h x =
      record {
        words = λ j q. with-both i j refl (λ ne. x.words j q);
        names = λ j q. with-both i j refl (λ ne. x.names j q);
        links = λ j q. with-both i j refl (λ ne. x.links j q);
        chains = λ j q. with-both i j (x.heads c w) (λ ne. x.chains j q);
        heads = λ j q. with-both c j refl (λ ne. x.heads j q);
        counts = λ j t q d.
            ⊎_elim
            (λ e. rw (eq-eqb j i e) (with-both o t refl (λ ne. x.counts i t h d)))
            (λ ne. rw (ne_eqb j i ne) (x.counts j t q d))
            (eq-or-ne j i);
        hand = x.hand;
        top = x.links i h;
      }

-- ---- a list with another value at one place, and names with another one
pub set-with : {A : Type 0} (xs : List A) (k : ℕ) (x d : A) → k < length xs → (i : ℕ)
    → get_or (set xs k x) i d ≡ with k x (λ j. get_or xs j d) i
set-with xs k x d l i =
    ⊎_elim
    (λ e. rw e (get_or-set_same xs k x d l ∙ sym (with-same k x (λ j. get_or xs j d))))
    (λ ne. get_or-set_other xs k i x d ne ∙ sym (with-other k x (λ j. get_or xs j d) i ne))
    (eq-or-ne i k)

name-with : (ws : List ℕ) (n k : ℕ) (p : PageName) → length ws ≡ name_words * n → k < n → (i : ℕ)
    → name_at (set_name ws k p) i ≡ with k p (name_at ws) i
name-with ws n k p e l i =
    ⊎_elim
    (λ q. rw q (name-put ws k p (name_in n k ws e l) ∙ sym (with-same k p (name_at ws))))
    (λ ne. name-kept ws k p i ne ∙ sym (with-other k p (name_at ws) i ne))
    (eq-or-ne i k)

-- ---- a memory of n buffers and b buckets
pub record Shape (n b : ℕ) (m : Memory) : Type 0 where
  pub many : buffers m ≡ n
  pub wide : length m.heads ≡ b
  pub names : length m.names ≡ name_words * n
  pub free : length m.free ≡ n
  pub chain : length m.chain ≡ n
  pub counts : length m.counts ≡ n * 64

pub good-shape : (m : Memory) → Good m → Shape (buffers m) (length m.heads) m
good-shape m k =
    record {
      many = refl;
      wide = refl;
      names = k.sizes.names;
      free = k.sizes.free;
      chain = k.sizes.chain;
      counts = k.sizes.counts;
    }

module _ {n b : ℕ} (m : Memory) (s : Shape n b m) (i : ℕ) (l : i < n) where
  -- ---- release
  pub release-shape : Shape n b (release m i)
  unfolding release
  release-shape =
      record {
        many = length-set m.states i 0 ∙ s.many;
        wide = length-unchain-heads m.chain i m.heads ∙ s.wide;
        names = length-set_name m.names i no_name ∙ s.names;
        free = length-set m.free i m.control.top ∙ s.free;
        chain = length-unchain m.chain i ∙ s.chain;
        counts = s.counts;
      }

  pub release-marks : Alike n b (marks_of (release m i)) (emptied i (marks_of m))
  unfolding release emptied unchain_heads unchain_chain
  release-marks =
      let own = number_at m.chain i in
      record {
        words = λ j q. set-with m.states i 0 0 (omega (arith, s.many)) j;
        names = λ j q. name-with m.names n i no_name s.names l j;
        links = λ j q. set-with m.free i m.control.top (pos 0) (omega (arith, s.free)) j;
        chains = λ j q.
            set-with (map (past i own) m.chain) i none (pos 0) (rw length-map (omega (arith, s.chain))) j
            ∙ with-both i j refl (λ ne. map-past m.chain i own j (omega (arith, s.chain)));
        heads = λ j q. map-past m.heads i own j (omega (arith, s.wide));
        counts = λ j o q t. refl;
        hand = refl;
        top = refl;
      }

  -- ---- load
  module _ (p : PageName) (g : ℕ) where
    pub load-wide : length (load_at m p i g).heads ≡ b
    unfolding load_at enter_heads
    load-wide = length-set m.heads (bucket_of p (length m.heads)) (pos i) ∙ s.wide

    -- once holder o has its pin
    pub load-marks : (o : ℕ) → o < 64 → bucket_of p b < b
        → Alike n b (marks_of (loaded_for m o p i g)) (loaded_into (bucket_of p b) o p i (marks_of m))
    unfolding load_at loaded_into enter_heads enter_chain
    load-marks o few w =
        let c = bucket_of p (length m.heads) in
        let e : c ≡ bucket_of p b = ap (bucket_of p) s.wide in
        record {
          words = λ j q.
              set-with m.states i loaded 0 (omega (arith, s.many)) j
              ∙ with-both i j loaded-is (λ ne. refl);
          names = λ j q. name-with m.names n i p s.names l j;
          links = λ j q. set-with m.free i off (pos 0) (omega (arith, s.free)) j;
          chains = λ j q.
              set-with m.chain i (number_at m.heads c) (pos 0) (omega (arith, s.chain)) j
              ∙ with-both i j (ap (number_at m.heads) e) (λ ne. refl);
          heads = λ j q.
              ap (λ (x : ℕ). number_at (set m.heads x (pos i)) j) e
              ∙ set-with m.heads (bucket_of p b) (pos i) (pos 0) (omega (arith, s.wide)) j;
          counts = λ j t q d. count-with m.counts i o 1 (omega (arith, s.counts)) few j t d;
          hand = refl;
          top = refl;
        }
