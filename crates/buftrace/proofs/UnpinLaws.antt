-- The pin and the unpin of a use, by word and count, and what they leave of a page that came into the top of the free list.
use Prim.Native.Nat.{ℕ, suc, ◌+◌, ◌-◌, ◌*◌, ◌/◌, ◌%◌, ◌^◌, ◌≤◌, ◌<◌}
use native.Mathlib.Omega.{arith}
use native.Mathlib.Nat.{div-div-eq-div-mul}
use mathlib.Core.Path.{◌≡◌, refl, sym, ap, ◌∙◌, subst}
use mathlib.Core.Bool.{Bool, true, false, ◌&&◌, cond}
use mathlib.Core.Logic.{◌≢◌, ⊎_elim}
use mathlib.Core.List.{List, [], ◌∷◌, ◌++◌}
use lib.Dec.{eqb, leb, ltb}
use lib.IntN.{pos}
use lib.ListN.{length, get_or, set, replicate}
use lib.Pow.{pow-add}
use lib.Seq.{get_or-set_same, get_or-set_other, set-set, set-get_or}
use borrow.Author.Tests.{ltb-true, leb-true, le-leb}
use Rattle.laws.specs.First.{found}
use Rattle.laws.proofs.Lists.{get_d-replicate-all}
use Rattle.laws.proofs.Tests.{eq-or-ne, true-or-false, never, and-true, and_left, and_right}
use Rattle.buftag.specs.declared.link.Link.TheVariants.{To, End}
use Rattle.std.specs.Prelude.{None}
use Rattle.buftag.specs.Link.{link_of, link_at}
use Rattle.bufmodel.specs.Word.{pins, usage, flags, pack, max_cap, bit, dirty, valid, tag_valid, just_dirtied, permanent, no_other}
use Rattle.bufmodel.specs.Word.{empty, sound_flags, sound_word, pin_more, pin_less, loaded}
use Rattle.bufmodel.specs.Rows.{place_of}
use Rattle.bufmodel.specs.Memory.{Memory, buffers, size, cap_of, word_of, name_of, with_counts}
use Rattle.bufmodel.specs.Counts.{max_holders, count_place, count_at, set_count}
use Rattle.bufmodel.specs.Books.{empty_at}
use Rattle.bufmodel.specs.Moves.{off, load_at, load}
use Rattle.bufmodel.specs.Outcome.{Outcome, done, zeros}
use Rattle.bufmodel.specs.Pin.{held_in}
use Rattle.bufmodel.specs.Calls.{less_word, unpin_at, unpin}
use Rattle.bufmodel.proofs.GoodLaws.{Good}
use Rattle.bufmodel.proofs.WordLaws.{pins-pack, usage-pack, flags-pack, pins-lt, usage-lt, pins-pinned, empty-zero, loaded-clean}
use Rattle.bufmodel.proofs.HeldLaws.{pinned-full}
use Rattle.bufmodel.proofs.FreeListLaws.{top-empty}
use Rattle.bufmodel.proofs.LoadLaws.{load_is, load-buffers, load_word_is, load-name, load_kept, load-own, load_full, load-own-name}
use Rattle.bufmodel.proofs.LoadLaws.{loaded_for, load-good}
use Rattle.bufmodel.proofs.CountLaws.{count_same, pin-one, pin-none, pin-some, first-room}
use Rattle.bufmodel.proofs.RecountLaws.{recounted, Turned, recount-good}
use Rattle.buftrace.specs.Usage.{cap, holder, page, pinned, tallied}
use Rattle.buftrace.specs.Trace.{Trace, load_word}
use Rattle.buftrace.proofs.Agrees.{Agrees, UsedOnce}
use Rattle.buftrace.proofs.AgreesLaws.{unpinned-is}

-- this holder's unpin of buffer i is done, and leaves a pool as the trace says
abbrev pub Ends : ℕ → ℕ → ℕ → Memory → ℕ → Trace → Type 0
Ends p n blocks x i u = ((unpin x holder i).refusal ≡ 0) × Agrees p n blocks (unpin x holder i).after u

-- ---- words: other counts, the same flags. A memory's books do not say that a word has 32 bits
module _ (v w : ℕ) (e : flags v ≡ flags w) where
  bit-same : (k : ℕ) → bit (22 + k) v ≡ bit (22 + k) w
  unfolding bit flags
  bit-same k =
      ap (λ (x : ℕ). eqb (x % 2) 1)
      (ap (λ (x : ℕ). v / x) (pow-add 2 22 k)
      ∙ sym (div-div-eq-div-mul v (2 ^ 22) (2 ^ k))
      ∙ ap (λ (x : ℕ). x / 2 ^ k) e
      ∙ div-div-eq-div-mul w (2 ^ 22) (2 ^ k)
      ∙ ap (λ (x : ℕ). w / x) (sym (pow-add 2 22 k)))

  dirty-same : dirty v ≡ dirty w
  unfolding dirty
  dirty-same = bit-same 1

  flags-same : sound_flags v ≡ sound_flags w
  unfolding sound_flags valid tag_valid permanent dirty just_dirtied no_other
  flags-same =
      rw (bit-same 0, bit-same 1, bit-same 2, bit-same 3, bit-same 4, bit-same 5, bit-same 6, bit-same 7, bit-same 8, bit-same 9)

zero_flags : sound_flags 0 ≡ false
unfolding sound_flags valid bit
zero_flags = refl

module _ (cap w : ℕ) (s : sound_word cap w ≡ true) (f : empty w ≡ false) where
  both : (leb (usage w) cap && sound_flags w) ≡ true
  unfolding sound_word
  both = rw f at s

  pub few : usage w ≤ cap
  few = leb-true _ _ (and_left (leb (usage w) cap) (sound_flags w) both)

  sound : sound_flags w ≡ true
  sound = and_right (leb (usage w) cap) (sound_flags w) both

  pub turned_by : (v : ℕ) → flags v ≡ flags w → usage v ≤ cap → Turned cap w v
  unfolding sound_word
  turned_by v e le =
      let some : empty v ≡ false =
      ⊎_elim
      (λ z. never (flags-same v w e ∙ sound) (ap sound_flags (empty-zero v z) ∙ zero_flags))
      (λ q. q)
      (true-or-false (empty v)) in
      record {
        blank = some ∙ sym f;
        sound = rw some (and-true (le-leb (usage v) cap le) (flags-same v w e ∙ sound));
        dirt = dirty-same v w e;
      }

  turned : (p u : ℕ) → p < 2 ^ 18 → u < 2 ^ 4 → u ≤ cap → Turned cap w (pack p u (flags w))
  turned p u hp hu le =
      turned_by (pack p u (flags w)) (flags-pack p u (flags w) hp hu) (rw (usage-pack p u (flags w) hp hu) le)

  -- one use more, up to the cap
  few-more : cond (ltb (usage w) cap) (usage w + 1) (usage w) ≤ cap
  few-more =
      ⊎_elim (λ e. let lt = ltb-true (usage w) cap e in rw e (omega arith)) (λ e. rw e few) (true-or-false (ltb (usage w) cap))

  more-turned : cap ≤ max_cap → suc (pins w) < 2 ^ 18 → Turned cap w (pin_more cap w)
  unfolding pin_more
  more-turned c h = let le = few-more in turned (pins w + 1) _ (omega arith) (omega arith) le

  more-pins : cap ≤ max_cap → suc (pins w) < 2 ^ 18 → pins (pin_more cap w) ≡ pins w + 1
  unfolding pin_more
  more-pins c h = let le = few-more in pins-pack (pins w + 1) _ (flags w) (omega arith) (omega arith)

  less-turned : Turned cap w (pin_less w)
  unfolding pin_less
  less-turned = turned (pins w - 1) (usage w) (omega (arith, pins-lt w)) (usage-lt w) few

less-pins : (w : ℕ) → pins (pin_less w) ≡ pins w - 1
unfolding pin_less
less-pins w = pins-pack (pins w - 1) (usage w) (flags w) (omega (arith, pins-lt w)) (usage-lt w)

-- ---- a holder's first pin on a page, and its last
holder-few : holder < max_holders
holder-few = omega arith

module _ (m : Memory) (k : Good m) (i : ℕ) (l : i < buffers m) where
  abbrev w : ℕ
  w = word_of m i

  -- what a new word of buffer i does not change of its old one is unchanged of every buffer
  word-as : (v : ℕ) (g : ℕ → Bool) → g v ≡ g w → (j : ℕ) → g (get_or (set m.states i v) j 0) ≡ g (word_of m j)
  word-as v g e j =
      ⊎_elim
      (λ q. rw q (ap g (get_or-set_same m.states i v 0 l) ∙ e))
      (λ ne. ap g (get_or-set_other m.states i j v 0 ne))
      (eq-or-ne j i)

  sound-word : sound_word (cap_of m) w ≡ true
  sound-word = k.books.words i l

  -- the first: the same pages are held, and dirty
  module _ (z : count_at m.counts i holder ≡ 0) (f : empty_at m i ≡ false) where
    room : suc (pins w) < 2 ^ 18
    room = omega (arith, first-room m.counts i holder holder-few z, k.books.counts i l)

    turned_more : Turned (cap_of m) w (pin_more (cap_of m) w)
    unfolding empty_at
    turned_more = more-turned (cap_of m) w sound-word f k.books.cap.1 room

    pub pin-good : Good (recounted m holder i (pin_more (cap_of m) w) 1)
    unfolding empty_at
    pin-good =
        recount-good m k holder i holder-few l (pin_more (cap_of m) w) 1 turned_more
        (omega (arith, more-pins (cap_of m) w sound-word f k.books.cap.1 room, pin-none m.counts i holder z))

    pub pin-empty : (j : ℕ) → empty_at (recounted m holder i (pin_more (cap_of m) w) 1) j ≡ empty_at m j
    unfolding empty_at
    pin-empty = word-as (pin_more (cap_of m) w) empty turned_more.blank

    pub pin-dirty : (j : ℕ) → dirty (word_of (recounted m holder i (pin_more (cap_of m) w) 1) j) ≡ dirty (word_of m j)
    pin-dirty = word-as (pin_more (cap_of m) w) dirty turned_more.dirt

  -- the last: so they are afterwards
  module _ (one : count_at m.counts i holder ≡ 1) where
    some-pin : 0 < pins w
    some-pin = omega (arith, pin-some m.counts i holder holder-few (λ z. absurd (omega arith)), k.books.counts i l)

    some-full : empty w ≡ false
    unfolding empty_at
    some-full = pinned-full m i (pins-pinned w some-pin)

    turned-less : Turned (cap_of m) w (pin_less w)
    turned-less = less-turned (cap_of m) w sound-word some-full

    pub unpin-good : Good (recounted m holder i (pin_less w) 0)
    unpin-good =
        recount-good m k holder i holder-few l (pin_less w) 0 turned-less
        (omega (arith, less-pins w, some-pin, pin-one m.counts i holder (λ z. absurd (omega arith))))

    pub unpin-empty : (j : ℕ) → empty_at (recounted m holder i (pin_less w) 0) j ≡ empty_at m j
    unfolding empty_at
    unpin-empty = word-as (pin_less w) empty turned-less.blank

    pub unpin-dirty : (j : ℕ) → dirty (word_of (recounted m holder i (pin_less w) 0) j) ≡ dirty (word_of m j)
    unpin-dirty = word-as (pin_less w) dirty turned-less.dirt

    unpin-is : unpin m holder i ≡ done zeros [] (recounted m holder i (pin_less w) 0)
    unfolding unpin_at less_word
    unpin-is = unpinned-is m k i l one ∙ rw one

    pub unpin-ends : (p n blocks : ℕ) (u : Trace) → Agrees p n blocks (recounted m holder i (pin_less w) 0) u → Ends p n blocks m i u
    unpin-ends p n blocks u a = (
      ap (λ (o : Outcome). o.refusal) unpin-is,
      subst (λ (o : Outcome). Agrees p n blocks o.after u) (sym unpin-is) a,
    )

-- counts of zeros, one set to 1 and back, are zeros
pub zeros-back : (many i : ℕ) → set_count (set_count (replicate many 0) i holder 1) i holder 0 ≡ replicate many 0
unfolding set_count
zeros-back many i =
    let cs : List ℕ = replicate many 0 in
    let at = count_place i holder in
    set-set cs at 1 0 ∙ ap (set cs at) (sym (get_d-replicate-all many at 0)) ∙ set-get_or cs at 0

-- ---- a page comes into the top of the free list
-- buffer i, empty and on top of the free list, takes block b, so that the trace is u
pub record Taking (p n blocks : ℕ) (m : Memory) (u : Trace) (i b : ℕ) : Type 0 where
  pub good : Good m
  pub size_is : size m ≡ p
  pub cap-is : cap_of m ≡ cap
  pub rows : m.rows ≡ 1663 ∷ 5 ∷ 16384 ∷ 0 ∷ blocks ∷ blocks ∷ []
  pub store : m.store ≡ replicate (blocks * p) 0
  pub counts : m.counts ≡ replicate (n * max_holders) 0
  pub new : held_in m (page b) ≡ None
  pub place : place_of m.rows (page b) ≡ found b
  pub top : link_of m.control.top ≡ To i
  pub below : i < length u.held
  pub least : 1 ≤ n
  pub most : length u.held ≤ n
  pub same : length u.states ≡ length u.held
  pub words : set m.states i load_word ≡ u.states ++ replicate (n - length u.held) 0
  pub hand : m.control.hand ≡ u.hand
  pub own : get_or u.held i 0 ≡ b
  pub names : (j : ℕ) → j < length u.held → j ≢ i → name_of m j ≡ page (get_or u.held j 0)
  pub full : (j : ℕ) → j < length u.held → j ≢ i → empty_at m j ≡ false
  pub clean : (j : ℕ) → j < length u.held → j ≢ i → dirty (word_of m j) ≡ false
  -- what the free list has behind it
  pub top-free : length u.held < n → link_at m.free i ≡ To (length u.held)
  pub top-end : length u.held ≡ n → link_at m.free i ≡ End
  pub on : (j : ℕ) → length u.held ≤ j → suc j < n → link_at m.free j ≡ To (suc j)
  pub last : (j : ℕ) → length u.held ≤ j → suc j ≡ n → link_at m.free j ≡ End

-- the memory once this holder has its pin on the page
abbrev pub came : Memory → ℕ → ℕ → Memory
came m i b = with_counts (set_count m.counts i holder 1) (load m (page b))

module _ (p n blocks : ℕ) (m : Memory) (u : Trace) (i b : ℕ) (t : Taking p n blocks m u i b) where
  abbrev x : Memory
  x = loaded_for m holder (page b) i b

  came-is : came m i b ≡ x
  came-is =
      ap (λ (y : Memory). with_counts (set_count m.counts i holder 1) y) (load_is m (page b) i b t.top t.place)

  below : i < buffers m
  below = (top-empty m t.good i t.top).0

  x_below : i < buffers x
  x_below = rw (load-buffers m (page b) i b) below

  x-good : Good x
  x-good = load-good m t.good holder holder-few (page b) i b t.top t.place t.new

  x-one : count_at x.counts i holder ≡ 1
  x-one = let l = below in count_same m.counts i holder 1 (omega (arith, t.good.sizes.counts)) holder-few

  abbrev y : Memory
  y = recounted x holder i (pin_less (word_of x i)) 0

  y-words : y.states ≡ set m.states i load_word
  unfolding load_at
  y-words =
      ap (λ (v : ℕ). set (set m.states i loaded) i (pin_less v)) (load-own m (page b) i b below) ∙ set-set m.states i loaded load_word

  y-counts : y.counts ≡ replicate (n * max_holders) 0
  unfolding load_at
  y-counts =
      ap (λ (cs : List ℕ). set_count (set_count cs i holder 1) i holder 0) t.counts ∙ zeros-back (n * max_holders) i

  y-name : (j : ℕ) → j < length u.held → name_of (load_at m (page b) i b) j ≡ page (get_or u.held j 0)
  y-name j l =
      ⊎_elim
      (λ e. rw e (load-own-name m (page b) i b t.good below ∙ ap page (sym t.own)))
      (λ ne. load-name m (page b) i b j ne ∙ t.names j l ne)
      (eq-or-ne j i)

  x-full : (j : ℕ) → j < length u.held → empty_at x j ≡ false
  unfolding empty_at
  x-full j l =
      ⊎_elim
      (λ e. rw e (load_full m (page b) i b below))
      (λ ne. load_kept m (page b) i b j ne ∙ t.full j l ne)
      (eq-or-ne j i)

  x-clean : (j : ℕ) → j < length u.held → dirty (word_of (load_at m (page b) i b) j) ≡ false
  x-clean j l =
      ⊎_elim
      (λ e. rw e (ap dirty (load-own m (page b) i b below) ∙ loaded-clean))
      (λ ne. ap dirty (load_word_is m (page b) i b j ne) ∙ t.clean j l ne)
      (eq-or-ne j i)

  y-link : (j : ℕ) → length u.held ≤ j → link_at (set m.free i off) j ≡ link_at m.free j
  y-link j l = let s = t.below in ap link_of (get_or-set_other m.free i j off (pos 0) (λ e. omega arith))

  y-agrees : Agrees p n blocks y u
  unfolding load_at
  y-agrees =
      record {
        good = unpin-good x x-good i x_below x-one;
        size_is = t.size_is;
        cap-is = t.cap-is;
        rows = t.rows;
        store = t.store;
        counts = y-counts;
        least = t.least;
        most = t.most;
        same = t.same;
        words = y-words ∙ t.words;
        hand = t.hand;
        names = y-name;
        full = λ j l. unpin-empty x x-good i x_below x-one j ∙ x-full j l;
        top-free = t.top-free;
        top-end = t.top-end;
        on = λ j l s. y-link j l ∙ t.on j l s;
        last = λ j l s. y-link j l ∙ t.last j l s;
        clean = λ j l. unpin-dirty x x-good i x_below x-one j ∙ x-clean j l;
      }

  -- so it is, once that pin is given up
  pub load-used : Ends p n blocks (came m i b) i u
  load-used =
      subst (λ (z : Memory). Ends p n blocks z i u) (sym came-is) (unpin-ends x x-good i x_below x-one p n blocks u y-agrees)

-- ---- a use: what its pin left, and this holder's unpin
pub used-once : (p n blocks : ℕ) (m : Memory) (t u : Trace) (b : ℕ) (answer : List ℕ) (x : Memory) → pinned m b ≡ done answer [] x
    → Ends p n blocks x (get_or answer 0 0) u
    → tallied t.totals answer ≡ u.totals
    → UsedOnce p n blocks m t u b
used-once p n blocks m t u b answer x e d s =
    record {
      pin-done = ap (λ (o : Outcome). o.refusal) e;
      unpin-done = ap (λ (o : Outcome). (unpin o.after holder (get_or o.answer 0 0)).refusal) e ∙ d.0;
      agrees = subst (λ (o : Outcome). Agrees p n blocks (unpin o.after holder (get_or o.answer 0 0)).after u) (sym e) d.1;
      totals = ap (λ (o : Outcome). tallied t.totals o.answer) e ∙ s;
    }
