-- A pool of zeros that is set up: no place refuses, and it agrees with a trace in which nothing was used.
use Prim.Native.Nat.{ℕ, zero, suc, ◌+◌, ◌-◌, ◌*◌, ◌≤◌, ◌<◌}
use native.Mathlib.Omega.{arith}
use mathlib.Core.Path.{◌≡◌, refl, sym, ap, ◌∙◌, subst}
use mathlib.Core.Bool.{not}
use mathlib.Core.List.{List, [], ◌∷◌}
use lib.ListN.{length, replicate, length-replicate}
use Rattle.laws.specs.Sum.{sum}
use Rattle.laws.specs.Times.{times}
use Rattle.buftag.specs.declared.link.Link.TheVariants.{To, End}
use Rattle.buftag.specs.Names.{name_words}
use Rattle.buftag.specs.Link.{none, link_at}
use Rattle.bufmodel.specs.Word.{sound_cap}
use Rattle.bufmodel.specs.Rows.{files, file_at, blocks_at, capacity_at, start_of, store_blocks}
use Rattle.bufmodel.specs.Counts.{max_holders}
use Rattle.bufmodel.specs.Sizes.{block_sizes, max_buffers, max_buckets, max_blocks, RowsSound, SizedFor}
use Rattle.bufmodel.specs.Outcome.{Outcome, done, zeros}
use Rattle.bufmodel.specs.Calls.{free_links, fresh, set_up}
use Rattle.bufmodel.proofs.SizesLaws.{sizes-say}
use Rattle.bufmodel.proofs.OutcomeLaws.{refusal-past, refusal-none, outcome-done}
use Rattle.bufmodel.proofs.FreshLaws.{fresh-good}
use Rattle.buftrace.specs.Usage.{cap, blank, start}
use Rattle.buftrace.specs.Trace.{unused}
use Rattle.buftrace.proofs.Agrees.{Agrees}

-- ---- the free list
-- each link leads to the next buffer, the last one ends the list
link_on : (i n j t : ℕ) → suc j < n → t ≡ suc (i + j) → link_at (free_links i n) j ≡ To t
unfolding free_links
link_on i zero j t l e = absurd (omega arith)
link_on i (suc zero) j t l e = absurd (omega arith)
link_on i (suc (suc n)) zero t l e = ap To (omega arith)
link_on i (suc (suc n)) (suc j) t l e = link_on (suc i) (suc n) j t (omega arith) (omega arith)

link-end : (i j : ℕ) → link_at (free_links i (suc j)) j ≡ End
unfolding free_links
link-end i zero = refl
link-end i (suc j) = link-end (suc i) j

-- ---- the one file
row-sound : (blocks : ℕ) → blocks ≤ max_blocks → RowsSound (1663 ∷ 5 ∷ 16384 ∷ 0 ∷ blocks ∷ blocks ∷ [])
unfolding files file_at blocks_at capacity_at start_of store_blocks sum
row-sound blocks room =
    let rows : List ℕ = 1663 ∷ 5 ∷ 16384 ∷ 0 ∷ blocks ∷ blocks ∷ [] in
    record {
      whole = refl;
      few = omega arith;
      room = omega arith;
      fork = λ r l. let z : 0 ≡ r = omega arith in subst (λ (k : ℕ). (file_at rows k).fork ≤ 2) z (omega arith);
      fill = λ r l. let z : 0 ≡ r = omega arith in subst (λ (k : ℕ). blocks_at rows k ≤ capacity_at rows k) z (omega arith);
      differ = λ r s l k e. absurd (omega arith);
    }

one_store : (blocks : ℕ) → store_blocks (1663 ∷ 5 ∷ 16384 ∷ 0 ∷ blocks ∷ blocks ∷ []) ≡ blocks
unfolding files capacity_at start_of store_blocks sum
one_store blocks = omega arith

-- ---- the pool
module _ (p buckets n blocks : ℕ) (size : 0 < times p block_sizes) (least : 1 ≤ n) (most : n ≤ max_buffers) (wide : n ≤ buckets)
    (heads : buckets ≤ max_buckets) (room : blocks ≤ max_blocks) where
  blank-sized : SizedFor p (blank p buckets n blocks)
  unfolding blank
  blank-sized =
      let l = length-replicate {A = ℕ} n 0 in
      let b = length-replicate buckets none in
      record {
        permitted = size;
        least = rw l least;
        most = rw l most;
        wide = rw (l, b) wide;
        heads = rw b heads;
        names = rw l (length-replicate (name_words * n) 0);
        pool = rw l (length-replicate (n * p) 0);
        free = rw l (length-replicate n none);
        chain = rw l (length-replicate n none);
        rows = row-sound blocks room;
        store = length-replicate (blocks * p) 0 ∙ ap (λ (k : ℕ). k * p) (sym (one_store blocks));
        counts = rw l (length-replicate (n * max_holders) 0);
      }

  -- no place refuses
  pub start_is : start p buckets n blocks ≡ done zeros [] (fresh (blank p buckets n blocks) p 0 cap)
  unfolding set_up sound_cap
  start_is =
      let m = blank p buckets n blocks in
      outcome-done [] m (done zeros [] (fresh m p 0 cap))
      (refusal-past 1 _ (ap not ((sizes-say p m).shown blank-sized)) ∙ refusal-past 18 [] refl ∙ refusal-none)

  fresh-agrees : Agrees p n blocks (fresh (blank p buckets n blocks) p 0 cap) unused
  unfolding fresh blank
  fresh-agrees =
      let l = length-replicate {A = ℕ} n 0 in
      let many : length (replicate {A = ℕ} n 0) ≡ n - 0 = omega (arith, l) in
      record {
        good = fresh-good (blank p buckets n blocks) p 0 cap blank-sized (omega arith, omega arith);
        size_is = refl;
        cap-is = refl;
        rows = refl;
        store = refl;
        counts = ap (λ (k : ℕ). replicate k 0) (length-replicate {A = ℕ} (n * max_holders) 0);
        least = least;
        most = omega arith;
        same = refl;
        words = ap (λ (k : ℕ). replicate k 0) many;
        hand = refl;
        names = λ i h. absurd (omega arith);
        full = λ i h. absurd (omega arith);
        clean = λ i h. absurd (omega arith);
        top-free = λ h. refl;
        top-end = λ h. absurd (omega arith);
        on = λ i h k. rw l (link_on 0 n i (suc i) k (omega arith));
        last = λ i h e. rw (l, sym e) (link-end 0 i);
      }

  pub start-agrees : Agrees p n blocks (start p buckets n blocks).after unused
  start-agrees = subst (λ (o : Outcome). Agrees p n blocks o.after unused) (sym start_is) fresh-agrees
