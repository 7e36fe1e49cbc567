use borrow.Author.Rules.{rules}
use lib.IntN.{ℤ, pos}
use lib.ListN.{length, replicate}
use mathlib.Core.Bool.{true, false, not}
use mathlib.Core.List.{List, [], ◌∷◌}
use mathlib.Core.Path.{◌≡◌, sym, ◌∙◌, ap}
use Rattle.bufmodel.specs.declared.refusal.Refusal.TheVariants.{Sizes, Cap}
use native.Mathlib.Omega.{arith}
use Prim.Native.Nat.{ℕ}
use Rattle.buftag.specs.Link.{none}
use Rattle.bufmodel.specs.Word.{sound_cap}
use Rattle.bufmodel.specs.Memory.{Memory, memory, with_counts}
use Rattle.bufmodel.specs.Sizes.{sized, sized_for}
use Rattle.bufmodel.specs.Outcome.{place, refusal_of, refused, done, zeros}
use Rattle.bufmodel.specs.Calls.{free_links, fresh, set_up}
use Rattle.bufmodel.proofs.SizesLaws.{sizes-say}
use Rattle.bufmodel.proofs.OutcomeLaws.{refusal-at, refusal-past, refusal-none, outcome-refused, outcome-done}
use Rattle.bufmodel.proofs.AnswerLaws.{accepted-refused, accepted-done}
use Rattle.bufcalls.proofs.set_up.set_up_pool.Goals as goal

module _ (m : Memory) (p at cap : ℕ) where
  -- sizes that do not fit
  unfit : sized_for p m ≡ false → set_up m p at cap ≡ refused 1 [] m
  unfolding set_up
  unfit e =
      let f = refusal-at 1 (place 18 (not (sound_cap cap)) ∷ []) (ap not e) in rw f (outcome-refused [] m _ 1 (λ z. omega arith))

  module _ (e : sized_for p m ≡ true) where
    past : refusal_of (place 1 (not (sized_for p m)) ∷ place 18 (not (sound_cap cap)) ∷ []) ≡ refusal_of (place 18 (not (sound_cap cap)) ∷ [])
    past = refusal-past 1 (place 18 (not (sound_cap cap)) ∷ []) (ap not e)

    -- a cap that is not from 1 to 15
    capless : sound_cap cap ≡ false → set_up m p at cap ≡ refused 18 [] m
    unfolding set_up
    capless h = let f = past ∙ refusal-at 18 [] (ap not h) in rw f (outcome-refused [] m _ 18 (λ z. omega arith))

    -- both fit: each part was filled to its own length
    fit : sound_cap cap ≡ true → {states names counts : List ℕ} {free heads chain : List ℤ}
        → states ≡ replicate (length m.states) 0
        → names ≡ replicate (length m.names) 0
        → free ≡ free_links 0 (length m.free)
        → heads ≡ replicate (length m.heads) none
        → chain ≡ replicate (length m.chain) none
        → counts ≡ replicate (length m.counts) 0
        → set_up m p at cap
        ≡ done zeros []
        (with_counts counts
        (memory (record { size = p; hand = 0; top = pos 0; inserted = at; flushed = at; cap = cap }) states names m.pool free heads chain
        m.rows m.store))
    unfolding set_up fresh
    fit h s n f b c k =
        let z = (sizes-say p m).holds e in
        rw (s, n, f, b, c, k, z.names, z.free) (outcome-done [] m _ (past ∙ refusal-past 18 [] (ap not h) ∙ refusal-none))

pub returns-then-not-sizes_ok : goal.returns-then-not-sizes_ok
unfolding sized sized_for
returns-then-not-sizes_ok c =
    let a = c.args in
    let m =
    with_counts a.counts.now
    (memory a.control a.states.now a.names.now a.pool.now a.free.now a.heads.now a.chain.now a.rows.now a.store.now) in
    let t = accepted-refused Sizes (unfit m a.size a.position a.cap (sym c.sizes_ok.ensures ∙ c.if-not-sizes_ok.true)) in
    record { value = t.0; number = t.1; words = t.2; store_after = t.3 }

pub returns-then-not-cap_ok : goal.returns-then-not-cap_ok
unfolding sized sized_for
returns-then-not-cap_ok c =
    let a = c.args in
    let m =
    with_counts a.counts.now
    (memory a.control a.states.now a.names.now a.pool.now a.free.now a.heads.now a.chain.now a.rows.now a.store.now) in
    let t = accepted-refused Cap
    (capless m a.size a.position a.cap (sym c.sizes_ok.ensures ∙ c.if-not-sizes_ok.false) (sym c.cap_ok.ensures ∙ c.if-not-cap_ok.true)) in
    record { value = t.0; number = t.1; words = t.2; store_after = t.3 }

pub link_all-requires : goal.link_all-requires
unfolding sized sized_for
link_all-requires c =
    let a = c.args in
    let m =
    with_counts a.counts.now
    (memory a.control a.states.now a.names.now a.pool.now a.free.now a.heads.now a.chain.now a.rows.now a.store.now) in
    let z = (sizes-say a.size m).holds (sym c.sizes_ok.ensures ∙ c.if-not-sizes_ok.false) in
    (omega (arith, z.free, z.least), omega (arith, z.free, z.most))

pub returns : goal.returns
unfolding sized sized_for
returns c =
    let a = c.args in
    let m =
    with_counts a.counts.now
    (memory a.control a.states.now a.names.now a.pool.now a.free.now a.heads.now a.chain.now a.rows.now a.store.now) in
    let t = accepted-done
    (fit m a.size a.position a.cap (sym c.sizes_ok.ensures ∙ c.if-not-sizes_ok.false) (sym c.cap_ok.ensures ∙ c.if-not-cap_ok.false)
    (search rules) (search rules) c.link_all.ensures (search rules) (search rules) (search rules)) in
    record { value = t.0; number = t.1; words = t.2; store_after = t.3 }
