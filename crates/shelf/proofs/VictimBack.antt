-- The victim of a sweep before it is released: written back if it is dirty, so that it is clean, and what that leaves.
use Prim.Native.Nat.{ℕ, max}
use mathlib.Core.Path.{◌≡◌, refl, sym, ap, ◌∙◌, subst}
use mathlib.Core.Bool.{Bool, true, false, not, ◌&&◌, ◌||◌, cond}
use lib.ListN.{length}
use Rattle.laws.specs.First.{Found, found}
use Rattle.laws.specs.Block.{block}
use Rattle.laws.proofs.Tests.{never}
use Rattle.bufmodel.specs.Word.{pinned, dirty}
use Rattle.bufmodel.specs.Position.{position}
use Rattle.bufmodel.specs.Memory.{Memory, size, word_of}
use Rattle.bufmodel.specs.Moves.{write_back}
use Rattle.shelf.specs.Ledger.{is_place}
use Rattle.shelf.proofs.Kept.{View, Has, Nobody, Kept}
use Rattle.shelf.proofs.KeptLaws.{same-position, is_place-self, Alike, kept-alike}
use Rattle.shelf.proofs.PinAccepted.{was_last, view_wrote}
use Rattle.bufmodel.proofs.CleanLaws.{back-clean}
use Rattle.shelf.proofs.BackKept.{back_of, back-dirty, view_back}
use Rattle.shelf.proofs.BackKept.{back-own, back-pinned, back-then, back-has, back_long, back-other, kept-back_of}

-- ---- the victim, clean
-- memory o is m after buffer w, which has the page at place h, was written back or not
pub record Backed (m o : Memory) (v : View) (w h : ℕ) (t : Bool) : Type 0 where
  pub kept : Kept o (view_wrote v t w)
  pub has : Has o w h
  pub free : pinned (word_of o w) ≡ false
  pub clean : dirty (word_of o w) ≡ false
  pub nobody : (g : ℕ) → Nobody m g → Nobody o g
  pub flushed : o.control.flushed ≡ cond t (max m.control.flushed (position (v.bytes h))) m.control.flushed
  pub others : (g : ℕ) → was_last v t w g ≡ false → block (size m) g o.store ≡ block (size m) g m.store
  pub long : length o.store ≡ length m.store

module _ (m : Memory) (v : View) (k : Kept m v) (w h : ℕ) (own : Has m w h) (free : pinned (word_of m w) ≡ false) where
  last : v.last w ≡ found h
  last = (k.same w h own).last

  -- a clean one
  clean-backed : dirty (word_of m w) ≡ false → Backed m m v w h false
  clean-backed e =
      record {
        kept = k;
        has = own;
        free = free;
        clean = e;
        nobody = λ g none. none;
        flushed = refl;
        others = λ g z. refl;
        long = refl;
      }

  -- a dirty one
  module _ (marked : dirty (word_of m w) ≡ true) where
    alike : Alike (view_back v h) (view_wrote v true w)
    alike =
        record {
          bytes = λ g. refl;
          counts = λ o g. refl;
          holds = λ b. refl;
          bads = λ g. refl;
          marks = λ g. ap (λ (f : Found). not (is_place f g) && v.dirty g) last;
          last = λ b. refl;
          put = λ g. ap (λ (f : Found). is_place f g || v.put g) last;
        }

    dirty-backed : Backed m (back_of m w h) v w h true
    dirty-backed =
        record {
          kept = kept-alike (back_of m w h) (view_back v h) (view_wrote v true w) alike (kept-back_of m v k w h own marked);
          has = back-has m v k w h own w h own;
          free = back-pinned m v k w h own ∙ free;
          clean = back-own m v k w h own;
          nobody = λ g none j x. none j (back-then m v k w h own j g x);
          flushed = ap (max m.control.flushed) (sym (same-position (k.same w h own)));
          others = λ g z.
              back-other m v k w h own g
              (λ e. never (ap (is_place (v.last w)) e ∙ ap (λ (f : Found). is_place f h) last ∙ is_place-self h) z);
          long = back_long m v k w h own;
        }

  -- the one or the other
  pub victim-backed : (t : Bool) → dirty (word_of m w) ≡ t → Backed m (write_back m w) v w h t
  victim-backed true e =
      subst (λ (o : Memory). Backed m o v w h true) (sym (back-dirty m w h own.place e)) (dirty-backed e)
  victim-backed false e =
      subst (λ (o : Memory). Backed m o v w h false) (sym (back-clean m w e)) (clean-backed e)
