-- Each call as the exports need it: refused early where the places 1 and 2 refuse; and which calls leave the memory.
use Prim.Native.Nat.{ℕ, zero, suc}
use mathlib.Core.Path.{◌≡◌, refl}
use mathlib.Core.List.{List, []}
use Rattle.buftag.specs.declared.name.FileName.{FileName}
use Rattle.buftag.specs.declared.name.PageName.{PageName}
use Rattle.bufmodel.specs.declared.control.Control.{Control}
use Rattle.bufmodel.specs.Memory.{Memory}
use Rattle.bufmodel.specs.Sizes.{sized_for}
use Rattle.bufmodel.specs.Outcome.{Outcome, outcome}
use Rattle.bufmodel.specs.Lent.{Lent, opened, ended}
use Rattle.bufmodel.specs.Pin.{pin}
use Rattle.bufmodel.specs.Calls.{set_up, fresh, unpin, read, write, flush, give_back, checkpoint, peek, extend, drop_file}
use Rattle.bufmodel.specs.Calls.{log_inserted, log_flushed}
use Rattle.bufmodel.proofs.AnswerLaws.{end-first}
use Rattle.bufmodel.proofs.AnsweredLaws.{by-case}
use Rattle.bufpool.proofs.ExportLaws.{Early, under, ended_by}

-- ---- set up: it looks at no control record
module _ (p at cap : ℕ) where
  ended-like : (l : Lent) (k : ℕ) (a b : Memory) (o : Outcome)
      → ended_by l (outcome k [] a o) ≡ ended_by l (outcome k [] b o)
  unfolding outcome ended
  ended-like l zero a b o = refl
  ended-like l (suc k) a b o = refl

  pub set-up-read : (l : Lent) (c : Control) → ended_by l (set_up (under c l) p at cap) ≡ ended_by l (set_up (opened l) p at cap)
  unfolding set_up fresh sized_for opened
  set-up-read l c = ended-like l _ (under c l) (opened l) _

-- ---- calls of a holder on a buffer
module _ (h i : ℕ) where
  pub unpin-early : Early (λ m. unpin m h i) []
  unfolding unpin
  unpin-early m k e ne = end-first m _ [] _ e ne

  pub flush-early : Early (λ m. flush m h i) []
  unfolding flush
  flush-early m k e ne = end-first m _ [] _ e ne

  module _ (from : ℕ) (bytes : List ℕ) where
    pub read-early : Early (λ m. read m h i from bytes) bytes
    unfolding read
    read-early m k e ne = end-first m _ bytes _ e ne

    -- the memory stays
    pub read_left : (m : Memory) → m ≡ (read m h i from bytes).after
    unfolding read
    read_left m = by-case (λ o. m ≡ o.after) _ bytes m _ refl (λ j. refl)

    pub write-early : (at : ℕ) → Early (λ m. write m h i from bytes at) bytes
    unfolding write
    write-early at m k e ne = end-first m _ bytes _ e ne

-- ---- give back
pub give-early : (h : ℕ) → Early (λ m. give_back m h) []
unfolding give_back
give-early h m k e ne = end-first m _ [] _ e ne

-- ---- checkpoint
pub checkpoint-early : Early checkpoint []
unfolding checkpoint
checkpoint-early m k e h = end-first m _ [] _ e h

-- ---- log positions
module _ (p : ℕ) where
  pub inserted-early : Early (λ m. log_inserted m p) []
  unfolding log_inserted
  inserted-early m k e h = end-first m _ [] _ e h

  pub flushed-early : Early (λ m. log_flushed m p) []
  unfolding log_flushed
  flushed-early m k e h = end-first m _ [] _ e h

-- ---- calls on a file
module _ (f : FileName) where
  pub extend-early : Early (λ m. extend m f) []
  unfolding extend
  extend-early m k e h = end-first m _ [] _ e h

  pub drop-early : Early (λ m. drop_file m f) []
  unfolding drop_file
  drop-early m k e h = end-first m _ [] _ e h

-- ---- calls on a page
module _ (n : PageName) where
  pub peek-early : Early (λ m. peek m n) []
  unfolding peek
  peek-early m k e h = end-first m _ [] _ e h

  pub peek-left : (m : Memory) → m ≡ (peek m n).after
  unfolding peek
  peek-left m = by-case (λ o. m ≡ o.after) _ [] m _ refl (λ j. refl)

  pub pin-early : (h : ℕ) → Early (λ m. pin m h n) []
  unfolding pin
  pin-early h m k e ne = end-first m _ [] _ e ne
