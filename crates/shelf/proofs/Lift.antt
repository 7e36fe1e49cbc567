-- A list of calls over the memory, as calls of the memory as it is lent.
use Prim.Native.Nat.{ℕ}
use mathlib.Core.Path.{◌≡◌, refl, sym, ap, ◌∙◌, subst}
use mathlib.Core.List.{List, [], ◌∷◌}
use lib.IntN.{ℤ, pos, negsuc}
use Rattle.bufmodel.specs.Memory.{Memory}
use Rattle.bufmodel.specs.Outcome.{Outcome}
use Rattle.bufmodel.specs.Step.{Call, step}
use Rattle.bufmodel.specs.Sizes.{SizedFor}
use Rattle.bufmodel.specs.Books.{BooksSound}
use Rattle.bufmodel.specs.Lent as lent
use Rattle.bufmodel.specs.Lent.{Lent, Called, words_of, closed, called}
use Rattle.bufmodel.proofs.GoodLaws.{Good}
use Rattle.bufmodel.proofs.LentLaws.{opened-closed, called_of, called-closed}
use Rattle.bufmodel.proofs.CalledLaws.{top-fits}
use Rattle.shelf.specs.Ledger.{Ledger, ledger_after}
use Rattle.shelf.specs.Published.{Published}
use Rattle.shelf.specs.Statement.{Agrees, top_word, Left, Made, FitsMade, own, outcome_of, calling, ClaimFor}
use Rattle.shelf.proofs.Kept.{Ran, Runs, FitsCalls}
use Rattle.shelf.proofs.PublishedWords.{HeldWords}
use Rattle.shelf.proofs.Published.{published, refused-same}

-- the calls that the till program makes, without the lists that it passes for answers
abbrev pub calls_of : List Made → List Call
calls_of [] = []
calls_of (c ∷ cs) = c.call ∷ calls_of cs

pub fits-calls : (cs : List Made) → FitsMade cs → FitsCalls (calls_of cs)
fits-calls [] f = tt
fits-calls (c ∷ cs) f = (f.0, fits-calls cs f.2)

-- what the till program sees is the outcome
outcome-is : (o : Outcome) → Good o.after → outcome_of (called_of o) ≡ o
outcome-is o g =
    ap (λ (m : Memory). record { refusal = o.refusal; answer = o.answer; bytes = o.bytes; after = m })
    (opened-closed o.after (top-fits o.after g))

-- the claim's parts, at what a call leaves: m the memory, k as it is lent
abbrev Says : Memory → Lent → Ledger → Made → List Made → Called → Type 0
Says m k l c cs r =
    let o = outcome_of r in
    let l' = ledger_after l c.call o.answer o.refusal in
    Agrees m l c.call o l' × Left k r l' × Published m l.cap l.shelf.buffers c.call o
    × ClaimFor (calling step) r.lent l' cs

-- the words of a control record, one by one
words_are : {a b c d e f a' b' c' d' e' f' : ℕ} → a ≡ a' → b ≡ b' → c ≡ c' → d ≡ d' → e ≡ e' → f ≡ f'
    → ◌≡◌ {A = List ℕ} (a ∷ b ∷ c ∷ d ∷ e ∷ f ∷ []) (a' ∷ b' ∷ c' ∷ d' ∷ e' ∷ f' ∷ [])
words_are p q r s t u = cc

-- −1 as 64 one bits
top-word : (t : ℤ) → lent.top_word t ≡ top_word t
unfolding lent.top_word
top-word (pos i) = refl
top-word (negsuc k) = refl

-- what a call leaves of the lent memory
left_is : (m : Memory) (l : Ledger) (c : Call) → let o = step m c in
    let l' = ledger_after l c o.answer o.refusal in
    Ran m l c o l' → Left (closed m) (called_of o) l'
unfolding closed words_of
left_is m l c r =
    let o = step m c in
    let back = opened-closed o.after (top-fits o.after r.good) in
    record {
      same = λ h. ap closed (refused-same m c h);
      sizes = subst (SizedFor _) (sym back) (subst (λ (p : ℕ). SizedFor p o.after) (sym r.size) r.good.sizes);
      books = subst BooksSound (sym back) r.good.books;
      control =
          words_are (sym r.size) (ap (λ (x : Memory). x.control.hand) (sym back))
          (top-word o.after.control.top ∙ ap (λ (x : Memory). top_word x.control.top) (sym back)) r.agrees.inserted
          r.agrees.flushed r.agrees.cap;
    }

-- what holds of the calls over the memory holds of those that the till program makes
pub lift : (m : Memory) (l : Ledger) (cs : List Made) → Good m → HeldWords m → FitsMade cs → Runs m l (calls_of cs)
    → ClaimFor (calling step) (closed m) l cs
lift m l [] g w f r = tt
lift m l (c ∷ cs) g w f r =
    let o = step m c.call in
    let back = outcome-is o r.0.good in
    let says : Says m (closed m) l c cs (called_of o) = (
      subst (λ (x : Outcome). Agrees m l c.call x (ledger_after l c.call x.answer x.refusal)) (sym back) r.0.agrees,
      left_is m l c.call r.0,
      subst (Published m l.cap l.shelf.buffers c.call) (sym back)
          (rw (r.0.cap, r.0.many) (published m c.call g w)),
      lift o.after _ cs r.0.good r.0.words f.2 r.1,
    ) in
    let fits = top-fits m g in
    let e = called-closed (λ k. step k c.call) m (own c.call) c.answer fits f.1 (refused-same m c.call) in
    subst (λ (k : Memory). Says k (closed m) l c cs (called (λ x. step x c.call) (closed m) (own c.call) c.answer))
    (sym (opened-closed m fits))
    (subst (Says m (closed m) l c cs) (sym e) says)
