-- Two memories of the same sizes whose books are alike, place by place, have the same lists of books.
use Prim.Native.Nat.{ℕ, ◌<◌}
use native.Mathlib.Omega.{arith}
use mathlib.Core.Path.{◌≡◌, sym, ◌∙◌}
use mathlib.Core.List.{List}
use lib.ListN.{length, get_or}
use lib.Seq.{ext_get_or}
use lib.IntN.{pos}
use Rattle.bufmodel.specs.Memory.{Memory, buffers}
use Rattle.bufmodel.specs.Sizes.{SizedFor}
use Rattle.shelf.specs.Published.{Marks, marks_of, Alike}
use Rattle.shelf.proofs.OneLists.{ext-names, ext-counts}

-- a memory for blocks of p bytes, with n buffers and w buckets, whose books are those
pub record Booked (p n w : ℕ) (k : Marks) (a : Memory) : Type 0 where
  pub sizes : SizedFor p a
  pub many : buffers a ≡ n
  pub wide : length a.heads ≡ w
  pub alike : Alike n w (marks_of a) k

pub record SameBooks (a b : Memory) : Type 0 where
  pub states : a.states ≡ b.states
  pub names : a.names ≡ b.names
  pub free : a.free ≡ b.free
  pub heads : a.heads ≡ b.heads
  pub chain : a.chain ≡ b.chain
  pub counts : a.counts ≡ b.counts
  pub hand : a.control.hand ≡ b.control.hand
  pub top : a.control.top ≡ b.control.top

-- two lists of n elements that are those of one function
same-listed : {A : Type 0} (d : A) (n : ℕ) (xs ys : List A) (f : ℕ → A) → length xs ≡ n → length ys ≡ n
    → ((i : ℕ) → i < n → get_or xs i d ≡ f i) → ((i : ℕ) → i < n → get_or ys i d ≡ f i) → xs ≡ ys
same-listed d n xs ys f e g x y = ext_get_or d xs ys (e ∙ sym g) (λ i l. x i (omega arith) ∙ sym (y i (omega arith)))

pub same_books : {p n w : ℕ} {k : Marks} {a b : Memory} → Booked p n w k a → Booked p n w k b → SameBooks a b
same_books {n} {w} {k} {a} {b} x y =
    record {
      states = same-listed 0 n a.states b.states k.word x.many y.many x.alike.words y.alike.words;
      names = ext-names n a.names b.names (omega arith) (omega arith) (λ i l. x.alike.names i l ∙ sym (y.alike.names i l));
      free = same-listed (pos 0) n a.free b.free k.link (x.sizes.free ∙ x.many) (y.sizes.free ∙ y.many) x.alike.links
          y.alike.links;
      heads = same-listed (pos 0) w a.heads b.heads k.head x.wide y.wide x.alike.heads y.alike.heads;
      chain = same-listed (pos 0) n a.chain b.chain k.chain (x.sizes.chain ∙ x.many) (y.sizes.chain ∙ y.many)
          x.alike.chains y.alike.chains;
      counts = ext-counts n a.counts b.counts (omega (arith, x.sizes.counts, x.many)) (omega (arith, y.sizes.counts, y.many))
          (λ i h l q. x.alike.counts i h l q ∙ sym (y.alike.counts i h l q));
      hand = x.alike.hand ∙ sym y.alike.hand;
      top = x.alike.top ∙ sym y.alike.top;
    }
