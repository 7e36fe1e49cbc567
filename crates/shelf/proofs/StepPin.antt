-- Pin agrees with the shelf: held, from the free list, or the victim of a sweep.
use Prim.Native.Nat.{ℕ, ◌<◌}
use mathlib.Core.Path.{◌≡◌, refl, sym, ◌∙◌, subst}
use mathlib.Core.Logic.{⊎_elim}
use mathlib.Core.Bool.{false}
use mathlib.Core.List.{[]}
use Rattle.laws.specs.First.{Found, found}
use Rattle.buftag.specs.declared.link.Link.{Link}
use Rattle.buftag.specs.declared.link.Link.TheVariants.{To, End}
use Rattle.buftag.specs.Lookup.{Held}
use Rattle.std.specs.Prelude.{Some, None}
use Rattle.buftag.specs.declared.name.PageName.{PageName}
use Rattle.buftag.specs.Link.{link_of}
use Rattle.buftag.specs.declared.number.BufferNumber.{BufferNumber}
use Rattle.bufmodel.specs.Rows.{place_of}
use Rattle.bufmodel.specs.Memory.{Memory}
use Rattle.bufmodel.specs.Counts.{max_holders}
use Rattle.bufmodel.specs.Outcome.{refusal_of}
use Rattle.bufmodel.specs.Pin.{held_in, pin_places, pin_held, pin_free, pin_victim, pin_swept, pin_new, pin_to, pin}
use Rattle.bufmodel.specs.Step.{Pin, step}
use Rattle.bufmodel.proofs.FreeListLaws.{top-none}
use Rattle.shelf.specs.Shelf.{refuses}
use Rattle.shelf.proofs.Kept.{View, shelf_of, Kept, Ended}
use Rattle.shelf.proofs.Refused.{call_step}
use Rattle.shelf.proofs.Accepted.{accepted-ended}
use Rattle.shelf.proofs.MemoryPlaces.{pin-holder, pin-place, pin-victim}
use Rattle.shelf.proofs.PagePlaces.{page-fine}
use Rattle.shelf.proofs.PinPlaces.{pin-number, pin-neither, pin-page}
use Rattle.shelf.proofs.PinHit.{hit-accepted}
use Rattle.shelf.proofs.PinFree.{free-accepted}
use Rattle.shelf.proofs.PinVictim.{sweep_of, victim-accepted}

module _ (m : Memory) (v : View) (k : Kept m v) (o : ℕ) (n : PageName) (z : refusal_of (pin_places m o n) ≡ 0) where
  -- held
  held-ended : (b : BufferNumber) → held_in m n ≡ Some b → Ended m v (Pin o n) (pin_to m o n (Some b))
  unfolding pin_to pin_held
  held-ended b e = accepted-ended m v (Pin o n) _ [] _ (hit-accepted m v k o n b e z)

  -- not held: where the page is, and what an accepted number says
  place : (g : ℕ) × (place_of m.rows n ≡ found g)
  place = pin-place m o n z

  few : o < max_holders
  few = pin-holder m o n z

  number : refuses (shelf_of m v) (Pin o n) ≡ 0
  number = sym (pin-number m v k o n) ∙ z

  -- it did not come in bad
  fine : v.bad place.0 ≡ false
  fine = page-fine m v k n _ (pin-page m o n z) place.0 place.1

  module _ (new : held_in m n ≡ None) where
    -- from the free list
    free_ended : (i : ℕ) → link_of m.control.top ≡ To i → Ended m v (Pin o n) (pin_free m o n i)
    unfolding pin_free
    free_ended i top =
        accepted-ended m v (Pin o n) _ [] _ (free-accepted m v k o few n i place.0 new top place.1 fine number)

    -- the victim of a sweep
    module _ (top : link_of m.control.top ≡ End) where
      taken-ended : (w : ℕ) → (sweep_of m).victim ≡ found w → Ended m v (Pin o n) (pin_victim m o n (sweep_of m) (found w))
      unfolding pin_victim
      taken-ended w e =
          accepted-ended m v (Pin o n) _ [] _ (victim-accepted m v k o few n w place.0 new top place.1 fine e number)

      -- some buffer is unpinned, so there is one
      victim : (w : ℕ) × ((sweep_of m).victim ≡ found w)
      victim = pin-victim m o n z k.good new

      victim-ended : Ended m v (Pin o n) (pin_swept m o n (sweep_of m))
      unfolding pin_swept
      victim-ended =
          subst (λ (f : Found). Ended m v (Pin o n) (pin_victim m o n (sweep_of m) f)) (sym victim.1) (taken-ended victim.0 victim.1)

    -- the one or the other
    new-ended : Ended m v (Pin o n) (pin_new m o n (link_of m.control.top))
    unfolding pin_new
    new-ended =
        ⊎_elim
        (λ top. subst (λ (l : Link). Ended m v (Pin o n) (pin_new m o n l)) (sym top) (victim-ended top))
        (λ t. subst (λ (l : Link). Ended m v (Pin o n) (pin_new m o n l)) (sym t.1) (free_ended t.0 t.1))
        (top-none m k.good)

  pin-ended : Ended m v (Pin o n) (pin_to m o n (held_in m n))
  unfolding pin_to
  pin-ended = go (held_in m n) refl
    where
      go : (h : Held) → held_in m n ≡ h → Ended m v (Pin o n) (pin_to m o n h)
      go (Some b) e = held-ended b e
      go None e = new-ended e

pub pin-step : (m : Memory) (v : View) → Kept m v → (o : ℕ) (n : PageName) → Ended m v (Pin o n) (step m (Pin o n))
unfolding step pin
pin-step m v k o n =
    call_step m v (Pin o n) k (pin_places m o n) (pin_to m o n (held_in m n)) refl (pin-number m v k o n) (pin-neither m o n)
    (pin-ended m v k o n)
