-- A pin that sweeps: what it does with the victim, and that it changes nothing where every buffer is pinned.
use Prim.Native.Nat.{ℕ, ◌<◌}
use mathlib.Core.Path.{◌≡◌, refl, sym, ap, ◌∙◌}
use mathlib.Core.Bool.{Bool, true, false}
use mathlib.Core.List.{List}
use lib.ListN.{length, get_or}
use lib.Dec.{eqb}
use Rattle.std.specs.Prelude.{Some, None, Ok, Err}
use Rattle.laws.specs.First.{Found, found, missing}
use Rattle.laws.specs.Sum.{ind}
use Rattle.buftag.specs.declared.link.Link.TheVariants.{End}
use Rattle.buftag.specs.declared.name.PageName.{PageName}
use Rattle.buftag.specs.Link.{link_of}
use Rattle.bufmodel.specs.declared.refusal.Refusal.TheVariants.{AllPinned}
use Rattle.bufmodel.specs.Word.{pinned, empty, dirty}
use Rattle.bufmodel.specs.Memory.{Memory, cap_of, word_of, with_states, with_counts, with_hand}
use Rattle.bufmodel.specs.Counts.{set_count}
use Rattle.bufmodel.specs.Sizes.{sized}
use Rattle.bufmodel.specs.Books.{sound}
use Rattle.bufmodel.specs.Sweep.{Swept, sweep_all}
use Rattle.bufmodel.specs.Moves.{write_back, release, load}
use Rattle.bufmodel.specs.Refusal.{refusal_at}
use Rattle.bufmodel.specs.Answer.{answer_at, pinned_of}
use Rattle.bufmodel.specs.Pin.{pin_victim, pin_swept}
use Rattle.bufmodel.proofs.GoodLaws.{Good, good-sized, good-sound}
use Rattle.bufmodel.proofs.FreeListLaws.{top-end}
use Rattle.bufmodel.proofs.LessUsedLaws.{less-dirty}
use Rattle.bufmoves.specs.declared.sweep.Victim.{Victim}
use Rattle.bufmoves.specs.Sweep.{victim_at, victim_of}
use Rattle.bufpin.specs.Victim.{loaded_at}
use Rattle.bufpin.proofs.SweptLaws.{swept-from, swept-good, swept-full, swept-pinned, swept-stuck}

-- ---- the code's answer of the sweep
at_same : (f : Found) (h p : ℕ) (v : Victim) → victim_at f h p ≡ Some v
    → (f ≡ found v.buffer.0) × (h ≡ v.hand) × (p ≡ v.probes)
at_same (found i) h p v e =
    let q : ◌≡◌ {A = Victim} (record { buffer = record { 0 = i }; hand = h; probes = p }) v = cc in
    (ap (λ (x : Victim). found x.buffer.0) q, ap (λ (x : Victim). x.hand) q, ap (λ (x : Victim). x.probes) q)
at_same missing h p v e = cc

none-missing : (f : Found) (h p : ℕ) → victim_at f h p ≡ None → f ≡ missing
none-missing (found i) h p e = cc
none-missing missing h p e = refl

pub victim-at : (s : Swept) {v : Victim} → Some v ≡ victim_of s
    → (s.victim ≡ found v.buffer.0) × (s.hand ≡ v.hand) × (s.probes ≡ v.probes)
unfolding victim_of
victim-at s {v} e = at_same s.victim s.hand s.probes v (sym e)

pub victim-none : (s : Swept) → None ≡ victim_of s → s.victim ≡ missing
unfolding victim_of
victim-none s e = none-missing s.victim s.hand s.probes (sym e)

-- ---- the pin
wrote-ind : (t : Bool) → t ≡ eqb (ind t) 1
wrote-ind true = refl
wrote-ind false = refl

module _ (m : Memory) (k : Good m) (holder : ℕ) (n : PageName) where
  abbrev end : Swept
  end = sweep_all (cap_of m) m.states m.control.hand

  -- none is found
  pub swept-refused : end.victim ≡ missing
      → Err AllPinned ≡ pinned_of (pin_swept m holder n end)
  unfolding pin_swept pin_victim answer_at refusal_at
  swept-refused e = rw e

  pub swept-still : end.victim ≡ missing → {states : List ℕ} → states ≡ end.words → with_states states m ≡ (pin_swept m holder n end).after
  unfolding pin_swept pin_victim
  swept-still e q = rw e (ap (λ (x : List ℕ). with_states x m) (q ∙ (swept-stuck m k (swept-pinned m k e)).1))

  -- buffer v is found
  module _ {v hand : ℕ} {states : List ℕ} (e : end.victim ≡ found v) (h : end.hand ≡ hand) (q : states ≡ end.words) where
    -- the memory after the sweep
    abbrev after : Memory
    after = with_hand hand (with_states states m)

    good : Good after
    good = rw (← h, q) (swept-good m k)

    pub swept-asks : link_of m.control.top ≡ End
        → (sized after ≡ true) × (sound after ≡ true) × (v < length states) × (empty (get_or states v 0) ≡ false)
        × (pinned (get_or states v 0) ≡ false)
    swept-asks top =
        let t = (swept-from m k).taken v e in
        let l = t.0 in (
          good-sized after good,
          good-sound after good,
          rw (q, (swept-from m k).same_length) l,
          rw q (swept-full m k v l (top-end m k top v l)),
          rw q t.1,
        )

    pub swept-answer : {probes : ℕ} → end.probes ≡ probes
        → Ok (loaded_at v (dirty (get_or states v 0)) probes) ≡ pinned_of (pin_swept m holder n end)
    unfolding pin_swept pin_victim answer_at refusal_at
    swept-answer p =
        rw (e, ← p)
        (ap (λ t. Ok (loaded_at v t end.probes)) (rw q (less-dirty ((swept-from m k).each v) ∙ wrote-ind (dirty (word_of m v)))))

    pub swept-after : with_counts (set_count m.counts v holder 1) (load (release (write_back after v) v) n)
        ≡ (pin_swept m holder n end).after
    unfolding pin_swept pin_victim
    swept-after = rw (e, ← h, q)
