-- Document 01's own numbers hold of what the statement and the pool both use.
use Prim.Native.Nat.{ℕ, suc, ◌+◌, ◌-◌, ◌*◌, ◌/◌, ◌%◌, ◌<◌}
use mathlib.Core.Path.{◌≡◌, refl, sym, ap, ◌∙◌}
use mathlib.Core.Logic.{◌≢◌, ◌⊎◌, ⊎_elim}
use mathlib.Core.Bool.{not, beq}
use mathlib.Core.List.{List, [], ◌∷◌}
use native.Mathlib.Nat.{div-div-eq-div-mul}
use native.Mathlib.Omega.{arith}
use lib.ListN.{length, get_or, set}
use lib.Bits.{bit_xor}
use lib.Dec.{eqb}
use borrow.Author.Tests.{ne_eqb, eqb-true, eqb-false, ltb-true}
use Rattle.laws.specs.Block.{block}
use Rattle.laws.specs.Says.{Says}
use Rattle.laws.specs.Sum.{sum}
use Rattle.laws.proofs.Says.{says_eq, says-le, says-and, says-not, says-else, says-as}
use Rattle.laws.proofs.Tests.{true-or-false, beq-true}
use Rattle.bufhash.specs.Fnv.{fnv_step, fnv}
use Rattle.buftag.specs.declared.name.FileName.{FileName}
use Rattle.buftag.specs.Name.{file_of, name_bytes, hash_of, bucket_of}
use Rattle.bufmodel.specs.Word.{pins, usage, pack, bit, dirty, valid, tag_valid, just_dirtied, permanent, no_other, empty}
use Rattle.bufmodel.specs.Word.{sound_flags, sound_word, pinned, use_less}
use Rattle.bufmodel.specs.Position.{position, position_bytes}
use Rattle.bufmodel.specs.Checksum.{bare_from, sum_starts, mix_sum, words_in, sum_to, sum_of, fold_to, checksum}
use Rattle.bufmodel.specs.Rows.{files, file_at, blocks_at, capacity_at, set_blocks, row_of, start_of, store_blocks, place_in, place_of}
use Rattle.bufmodel.specs.Counts.{count_at, has_pin, holders_of}
use Rattle.bufmodel.specs.Sizes.{permitted}
use Rattle.bufmodel.specs.Books.{empty_at}
use Rattle.bufmodel.specs.Sweep.{next}
use Rattle.bufmodel.specs.Calls.{part_in, part_at, part}
use Rattle.bufmodel.specs.Lent.{top_of, control_of, opened}
use Rattle.bufmodel.proofs.WordLaws.{pack-fields}
use Rattle.bufmodel.proofs.ChecksumLaws.{bare-at, length-bare}
use Rattle.bufmodel.proofs.HeldLaws.{held_at, held_none}
use Rattle.bufmodel.proofs.SizesLaws.{permitted-says, permitted-sized}
use Rattle.shelf.specs.Numbers.{fnv1a, Numbers}

-- ---- the hash
fnv-is : (xs : List ℕ) (h : ℕ) → fnv xs h ≡ fnv1a xs h
unfolding fnv_step
fnv-is [] h = refl
fnv-is (x ∷ xs) h = fnv-is xs _

-- ---- a word in use: its flags by their bits
bit-off : (x : ℕ) → Says (not (eqb (x % 2) 1)) (x % 2 ≡ 0)
bit-off x = says-as (λ ne. omega arith) (λ e f. omega arith) (says-not (says_eq (x % 2) 1))

both-or-neither : (x y : ℕ) → Says (beq (eqb (x % 2) 1) (eqb (y % 2) 1)) (x % 2 ≡ y % 2)
both-or-neither x y =
    record {
      holds = λ h.
          let e = beq-true _ _ h in
          ⊎_elim (λ t. eqb-true (x % 2) 1 t ∙ sym (eqb-true (y % 2) 1 (sym e ∙ t)))
          (λ f. let a = eqb-false (x % 2) 1 f in let b = eqb-false (y % 2) 1 (sym e ∙ f) in omega arith)
          (true-or-false (eqb (x % 2) 1));
      shown = λ e. rw e (⊎_elim (λ t. rw t refl) (λ f. rw f refl) (true-or-false (eqb (y % 2) 1)));
    }

-- ---- counts and rows
lowered_by : (w : ℕ) → 0 < w / 262144 % 16 → use_less w ≡ w - 262144
unfolding use_less pack usage
lowered_by w h = omega (arith, pack-fields w)

one_more_is : (k : ℕ) → k + 1 ≡ suc k
one_more_is k = omega arith

module _ (rows : List ℕ) (r : ℕ) where
  file-at : file_at rows r ≡ file_of (get_or rows (6 * r) 0) (get_or rows (6 * r + 1) 0) (get_or rows (6 * r + 2) 0) (get_or rows (6 * r + 3) 0)
  unfolding file_at
  file-at = let e : r * 6 ≡ 6 * r = omega arith in rw e refl

  fork_at : (file_at rows r).fork ≡ get_or rows (6 * r + 3) 0
  fork_at = ap (λ (f : FileName). f.fork) file-at

  blocks_at_is : blocks_at rows r ≡ get_or rows (6 * r + 4) 0
  unfolding blocks_at
  blocks_at_is = ap (λ (k : ℕ). get_or rows k 0) (omega arith)

  capacity-at : capacity_at rows r ≡ get_or rows (6 * r + 5) 0
  unfolding capacity_at
  capacity-at = ap (λ (k : ℕ). get_or rows k 0) (omega arith)

-- ---- the checksum
module _ (s k : ℕ) (xs : List ℕ) where
  left_out_is : (s + k ≡ 8) ⊎ (s + k ≡ 9) → get_or (bare_from s xs) k 0 ≡ 0
  left_out_is h = bare-at s xs k ∙ ⊎_elim (λ e. rw e refl) (λ e. rw e refl) h

  kept_in_is : s + k ≢ 8 → s + k ≢ 9 → get_or (bare_from s xs) k 0 ≡ get_or xs k 0
  kept_in_is a b = bare-at s xs k ∙ rw (ne_eqb (s + k) 8 a, ne_eqb (s + k) 9 b) refl

round_is : (v s : ℕ) → mix_sum v s ≡ bit_xor (bit_xor v s * 16777619 % 4294967296) (bit_xor v s / 131072)
unfolding mix_sum
round_is v s = refl

words_are : (a b c d : ℕ) (xs : List ℕ) → words_in (a ∷ b ∷ c ∷ d ∷ xs) ≡ (a + b * 256 + c * 65536 + d * 16777216) ∷ words_in xs
unfolding words_in
words_are a b c d xs = ap (λ (w : ℕ). w ∷ words_in xs) (omega arith)

no_words_is : words_in [] ≡ []
unfolding words_in
no_words_is = refl

module _ (ws : List ℕ) (j : ℕ) where
  sum-start : sum_to ws j 0 ≡ get_or sum_starts j 0
  unfolding sum_to
  sum-start = refl

  sum_row_is : (i : ℕ) → sum_to ws j (suc i) ≡ mix_sum (get_or ws (i * 32 + j) 0) (sum_to ws j i)
  unfolding sum_to
  sum_row_is i = refl

  sum-end : sum_of ws j ≡ mix_sum 0 (mix_sum 0 (sum_to ws j (length ws / 32)))
  unfolding sum_of
  sum-end = refl

  fold_more : fold_to ws (suc j) ≡ bit_xor (fold_to ws j) (sum_of ws j)
  unfolding fold_to
  fold_more = refl

fold-none : (ws : List ℕ) → fold_to ws 0 ≡ 0
unfolding fold_to
fold-none ws = refl

checksum-is : (b : ℕ) (page : List ℕ) → checksum b page ≡ bit_xor (fold_to (words_in (bare_from 0 page)) 32) b % 65535 + 1
unfolding checksum
checksum-is b page = refl

-- THE THEOREM
pub numbers : Numbers
unfolding hash_of bucket_of pins usage dirty valid tag_valid just_dirtied permanent no_other bit empty sound_flags sound_word pinned next
    empty_at position position_bytes block files set_blocks row_of start_of sum store_blocks place_of place_in permitted top_of control_of opened
    part_in part_at part count_at has_pin holders_of
numbers =
    record {
      fits = λ t d r f b. (
        λ k. (k.file.tablespace, k.file.database, k.file.relation, k.file.fork, k.block),
        λ k. record { file = record { tablespace = k.0; database = k.1; relation = k.2; fork = k.3 }; block = k.4 },
      );
      bytes = λ t d r f b. refl;
      hash = λ n. fnv-is (name_bytes n) 2166136261;
      bucket = λ n b. refl;
      held = λ m n b e. let k = held_at m n b e in (k.0, eqb-false _ 0 k.1, k.2);
      nowhere = λ m n e i ne. held_none m n e i (ne_eqb _ 0 ne);
      pin_count = λ w. refl;
      usage_count = λ w. refl;
      bit23 = λ w. refl;
      bit24 = λ w. refl;
      bit25 = λ w. refl;
      bit28 = λ w. refl;
      bit31 = λ w. refl;
      empty_word = λ w. refl;
      zero_sound = λ cap. refl;
      sound = λ cap w ne.
          let on : (p : ℕ) → Says (eqb (w / p % 2) 1) (w / p % 2 ≡ 1) = λ p. says_eq (w / p % 2) 1 in
          let three = says-and (says-and (on 16777216) (on 33554432)) (on 2147483648) in
          let dirt = both-or-neither (w / 8388608) (w / 268435456) in
          let low = says-and (says-and (bit-off (w / 4194304)) (bit-off (w / 67108864))) (bit-off (w / 134217728)) in
          let others = says-and (says-and low (bit-off (w / 536870912))) (bit-off (w / 1073741824)) in
          let says = says-and (says-le (w / 262144 % 16) cap) (says-and (says-and three dirt) others) in
          let word = says-else (eqb w 0) says in (
            λ s.
                let k = word.holds s (ne_eqb w 0 ne) in
                let f = k.1.0 in
                let o = k.1.1 in
                (k.0, f.0.0.0, f.0.0.1, f.0.1, f.1, o.0.0.0.0, o.0.0.0.1, o.0.0.1, o.0.1, o.1),
            λ k. word.shown (λ e. (k.0, ((((k.1, k.2), k.3), k.4), ((((k.5, k.6), k.7), k.8), k.9)))),
          );
      pinned_word = λ w. refl;
      holders = λ counts i. refl;
      counted = λ m b i l. b.counts i l;
      lowered = lowered_by;
      onward = λ n hand. rw (one_more_is hand) refl;
      control = λ m. refl;
      names = λ ws i. refl;
      blank = refl;
      place = λ i. refl;
      end = refl;
      off = refl;
      bad = λ k. refl;
      many = λ rows. refl;
      file = file-at;
      blocks = blocks_at_is;
      capacity = capacity-at;
      recount = λ rows r b. ap (λ (k : ℕ). set rows k b) (omega arith);
      row = λ rows f. refl;
      four = λ t d r f u e s g. refl;
      start = λ rows. refl;
      later = λ rows r. rw (one_more_is r) refl;
      whole = λ rows. refl;
      page = λ rows n r e. rw (e, blocks_at_is rows r) refl;
      no_page = λ rows n e. rw e refl;
      stored = λ p g xs. refl;
      pooled = λ m i. refl;
      position8 = λ a b c d e f g h xs. omega arith;
      bytes8 = λ p.
          let e : p / 256 ≡ p / 4294967296 * 16777216 + p % 4294967296 / 256 = omega arith in
          let f : p / 65536 ≡ p / 4294967296 * 65536 + p % 4294967296 / 65536 = omega arith in
          let g : p / 16777216 ≡ p / 4294967296 * 256 + p % 4294967296 / 16777216 = omega arith in
          let a : p % 4294967296 % 256 ≡ p % 256 = omega arith in
          let b : p % 4294967296 / 256 % 256 ≡ p / 256 % 256 = rw e (omega arith) in
          let c : p % 4294967296 / 65536 % 256 ≡ p / 65536 % 256 = rw f (omega arith) in
          let d : p % 4294967296 / 16777216 % 256 ≡ p / 16777216 % 256 = rw g (omega arith) in
          rw (a, b, c, d) (simp div-div-eq-div-mul);
      left_out = left_out_is;
      kept_in = kept_in_is;
      as_many = length-bare;
      starts = (refl, refl);
      round = round_is;
      words = words_are;
      no_words = no_words_is;
      sum_start = sum-start;
      sum_row = sum_row_is;
      sum_end = sum-end;
      no_sums = fold-none;
      one_more = fold_more;
      checksum_of = checksum-is;
      rows = λ rows. (
        λ k. (
          k.whole,
          k.few,
          k.room,
          λ r l. omega (arith, k.fork r l, fork_at rows r),
          λ r l. omega (arith, k.fill r l, blocks_at_is rows r, capacity-at rows r),
          k.differ,
        ),
        λ t.
            record {
              whole = t.0;
              few = t.1;
              room = t.2;
              fork = λ r l. omega (arith, t.3 r l, fork_at rows r);
              fill = λ r l. omega (arith, t.4 r l, blocks_at_is rows r, capacity-at rows r);
              differ = t.5;
            },
      );
      sizes = λ p m. (
        λ k.
            let size = (permitted-says p).holds (permitted-sized k) in
            (size, k.least, k.most, k.wide, k.heads, k.names, k.pool, k.free, k.chain, k.rows, k.store, k.counts),
        λ t.
            record {
              permitted = ltb-true _ _ ((permitted-says p).shown t.0);
              least = t.1;
              most = t.2;
              wide = t.3;
              heads = t.4;
              names = t.5;
              pool = t.6;
              free = t.7;
              chain = t.8;
              rows = t.9;
              store = t.10;
              counts = t.11;
            },
      );
      answer = (refl, refl);
      parts = λ a b. (refl, refl);
      of_store = λ m at xs own. refl;
      of_pool = λ m at xs own. refl;
      no_part = λ m k own. refl;
    }
