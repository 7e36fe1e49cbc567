-- Wrong pools: each does one thing wrong, which a set up or a short list of calls shows. The cap.
use Rattle.std.specs.Prelude.{ℕ, suc, ◌+◌, ◌*◌, ◌/◌, ◌%◌, ◌^◌, cond, List, [], ◌∷◌, ◌++◌, map, length, get_or, eqb, leb, ltb}
use Rattle.bufmodel.specs.Word.{usage}
use Rattle.bufmodel.specs.Memory.{Memory, cap_of, with_control, with_states}
use Rattle.bufmodel.specs.Sweep.{sweep}
use Rattle.bufmodel.specs.Step.{Call, Unpin, Checkpoint, step}
use Rattle.shelf.specs.Statement.{Pool, calling}
use Rattle.shelf.specs.Tests.{Accepted, Begun, Refused, Six, Cap, Words}
use Rattle.shelf.specs.Trial.{bench, sales, stock, pin, unpin, by_each, hits, Wrong, wrong, wrong_at, wrong_cap}
use Rattle.shelf.specs.Changes.{
  if_accepted,
  calls,
  pins,
  unpins,
  checkpoints,
  leaving,
  pins_again,
  sweeps,
  refuses,
  with_control_words,
  ended,
  sets_up,
  sets_up_to,
}

-- another cap in the control record
abbrev pub with_cap : ℕ → Memory → Memory
with_cap x m = let c = m.control in
    with_control
    (record { size = c.size; hand = c.hand; top = c.top; inserted = c.inserted; flushed = c.flushed; cap = x }) m

-- the right pool, which takes another cap for the one that it is given
abbrev takes_for : (ℕ → ℕ) → Pool
takes_for f = record { sets_up = λ p at cap m answer. (calling step).sets_up p at (f cap) m answer; calls = (calling step).calls }

-- one page pinned by so many holders, and unpinned
abbrev warmed : ℕ → List Call
warmed n = hits n ++ by_each n (λ h. Unpin h 0)

-- ---- raising a count, the sweep, the control record
unfoldable pub wrong_rises : List Wrong
wrong_rises =
    -- the published cap of 5, whatever was given: above it, and below it
    wrong_at 2 (pins_again (λ cap w. cond (ltb (usage w) 5) (w + 1 + 0x40000) (w + 1))) 1 (hits 3) Words
    ∷ wrong_at 7 (pins_again (λ cap w. cond (ltb (usage w) 5) (w + 1 + 0x40000) (w + 1))) 1 (hits 6) Words
    -- usage rises past the cap
    ∷ wrong_at 1 (pins_again (λ cap w. cond (leb (usage w) cap) (w + 1 + 0x40000) (w + 1))) 1 (hits 2) Words
    -- usage stays one below it
    ∷ wrong_at 2 (pins_again (λ cap w. cond (ltb (usage w + 1) cap) (w + 1 + 0x40000) (w + 1))) 1 (hits 2) Words
    -- at the cap usage begins again
    ∷ wrong_at 2 (pins_again (λ cap w. cond (ltb (usage w) cap) (w + 1 + 0x40000) (w % 2 ^ 18 + 1 + w / 2 ^ 22 * 2 ^ 22))) 1
    (hits 3) Words
    -- a page just loaded has the cap for its usage
    ∷ wrong_at 2 (pins (λ m c o. leaving (λ k. with_states (map (λ w. w + 0x40000) k.states) k) o)) 1 (pin sales 0 ∷ []) Words
    -- a sweep gives up after six probes for each buffer
    ∷ wrong_at 7 (sweeps (λ cap words hand. sweep (6 * length words) (length words) 0 0 hand words)) 1 (warmed 7 ++ (pin stock 0 ∷ [])) Six
    -- and after the cap, not one more
    ∷ wrong_at 2 (sweeps (λ cap words hand. sweep (cap * length words) (length words) 0 0 hand words)) 1 (warmed 2 ++ (pin stock 0 ∷ [])) Six
    -- a pin raises the cap, and lowers it
    ∷ wrong (pins (if_accepted (λ m c o. leaving (λ k. with_cap (suc (cap_of k)) k) o))) 1 (pin sales 0 ∷ []) Cap
    ∷ wrong (pins (if_accepted (λ m c o. leaving (with_cap 1) o))) 1 (pin sales 0 ∷ []) Cap
    -- an unpin lets the cap follow the usage
    ∷ wrong (unpins (if_accepted (λ m c o. leaving (λ k. with_cap (usage (get_or k.states 0 0)) k) o))) 1 (pin sales 0 ∷ unpin 0 ∷ []) Cap
    -- a checkpoint brings the published cap back
    ∷ wrong_at 2 (checkpoints (λ m c o. leaving (with_cap 5) o)) 1 (Checkpoint ∷ []) Cap
    -- every call loses the cap; so does a refused one
    ∷ wrong (calls (if_accepted (λ m c o. leaving (with_cap 0) o))) 1 (Checkpoint ∷ []) Cap
    ∷ wrong (refuses (with_cap 1)) 1 (unpin 0 ∷ []) Cap
    ∷ []

-- ---- set up
unfoldable pub wrong_caps : List Wrong
wrong_caps =
    -- a cap of 0 is accepted, and of 16
    wrong_cap 0 (sets_up (λ p at cap m r. cond (eqb cap 0) (ended 0 m r) r)) (bench 1) Accepted
    ∷ wrong_cap 16 (sets_up (λ p at cap m r. cond (eqb cap 16) (ended 0 m r) r)) (bench 1) Accepted
    -- caps of 1 and 15 are refused
    ∷ wrong_cap 1 (sets_up (λ p at cap m r. cond (eqb cap 1) (ended 18 m r) r)) (bench 1) Accepted
    ∷ wrong_cap 15 (sets_up (λ p at cap m r. cond (eqb cap 15) (ended 18 m r) r)) (bench 1) Accepted
    -- of the cap only the low 32 bits are looked at, or those below the sign
    ∷ wrong_cap (2 ^ 32 + 5) (takes_for (λ cap. cap % 2 ^ 32)) (bench 1) Accepted
    ∷ wrong_cap (2 ^ 63 + 5) (takes_for (λ cap. cap % 2 ^ 63)) (bench 1) Accepted
    -- the published cap is taken, whatever is given
    ∷ wrong_cap 2 (takes_for (λ cap. 5)) (bench 1) Begun
    -- the control record keeps the word that stood there; it gets one more
    ∷ wrong_cap 5 (sets_up_to (λ m k. with_cap (cap_of m) k)) (bench 1) Begun
    ∷ wrong_cap 5 (sets_up_to (λ m k. with_cap 6 k)) (bench 1) Begun
    -- a bad cap is 1, or 2
    ∷ wrong_cap 16 (sets_up (λ p at cap m r. ended 1 m r)) (bench 1) Refused
    ∷ wrong_cap 16 (sets_up (λ p at cap m r. ended 2 m r)) (bench 1) Refused
    -- 18 comes before 1
    ∷ wrong_cap 0 (sets_up (λ p at cap m r. cond (leb 1 cap) r (ended 18 m r))) (bench 0) Refused
    -- refused with 18, it writes the control record
    ∷ wrong_cap 16 (sets_up (λ p at cap m r. ended 18 (with_control_words (p ∷ 0 ∷ 0 ∷ at ∷ at ∷ cap ∷ []) m) r)) (bench 1) Refused
    ∷ []
