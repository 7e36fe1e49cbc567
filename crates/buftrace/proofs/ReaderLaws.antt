-- The reader by value: what it becomes, whatever is lent beside it.
use Prim.Native.Nat.{ℕ, suc, ◌+◌, ◌-◌, ◌*◌, ◌≤◌, ◌<◌}
use native.Mathlib.Omega.{arith}
use mathlib.Core.Path.{◌≡◌, refl, sym, ap, ◌∙◌}
use mathlib.Core.Logic.{◌≢◌, ◌⊎◌, inl, inr}
use mathlib.Core.Bool.{Bool, true, false, ◌&&◌, ◌||◌}
use mathlib.Core.List.{List}
use lib.Dec.{eqb, ltb}
use borrow.Author.Tests.{eq-eqb, ne_eqb, ltb-true, ltb-false}
use Rattle.laws.proofs.Tests.{or-neither, true-or-false, never}
use Rattle.bufmodel.specs.Sizes.{max_buffers, max_blocks}
use Rattle.buftrace.specs.declared.trace.Tally.{Tally}
use Rattle.buftrace.specs.declared.scan.Reader.{Reader}
use Rattle.buftrace.specs.Trace.{Fit, many, use1, trace_of}
use Rattle.buftrace.specs.Scan.{
  Scan,
  Ready,
  Becomes,
  max_lines,
  spoilt_reader,
  broken_reader,
  onward_reader,
  scan_of,
  spoilt,
  ended,
  digit,
  closed,
  broken,
}
use Rattle.buftrace.proofs.FeedLaws.{one_more_is, digit-grown, digit-great}
use Rattle.buftrace.proofs.EndLaws.{
  ended-none,
  ended-buffers,
  ended-under,
  ended-over,
  ended-blocks,
  ended-use,
  ended-outside,
}

or-second : {a b : Bool} → a ≡ false → (a || b) ≡ true → b ≡ true
or-second {a} {b} e o = rw (e) at o

-- a pool of more buffers, before any is used
fit-more : (n : ℕ) (c : Tally) (states held place : List ℕ) → n ≤ max_buffers → Fit 0 c states held place → Fit n c states held place
fit-more n c states held place l f =
    record {
      few = l;
      words = f.words;
      blocks = f.blocks;
      table = f.table;
      used = omega (arith, f.used);
      hand = omega (arith, f.hand);
      probes = f.probes;
      idle = f.idle;
      below = f.below;
      there = f.there;
      only = f.only;
    }

module _ (s : Reader) where
  -- the next line begins; slices may have changed
  onward-ready : (buffers blocks : ℕ) (c : Tally) (states held place : List ℕ) → s.line < max_lines
      → Fit buffers c states held place
      → blocks ≤ max_blocks
      → 0 < buffers
      → many c.totals ≤ s.line + 1 - 2
      → Ready (onward_reader s buffers blocks c) states held place
  onward-ready buffers blocks c states held place l f u n m =
      record {
        fit = f;
        line = omega (arith, l);
        begun = λ e. never e refl;
        value = omega arith;
        blocks = u;
        none = λ e. absurd (omega (arith, e));
        some = λ e. n;
        uses = m;
      }

  -- with another bad line, and with another line
  abbrev marked : ℕ → List ℕ → List ℕ → Scan
  marked bad states held =
      record {
        line = s.line;
        digits = s.digits;
        value = s.value;
        buffers = s.buffers;
        blocks = s.blocks;
        bad = bad;
        trace = trace_of s.tally states held;
      }

  abbrev begins : ℕ → ℕ → Tally → List ℕ → List ℕ → ℕ → Scan
  begins buffers blocks c states held line =
      record {
        line = line;
        digits = false;
        value = 0;
        buffers = buffers;
        blocks = blocks;
        bad = s.bad;
        trace = trace_of c states held;
      }

  -- the line begun is bad
  pub spoilt-becomes : s.line ≤ max_lines
      → Becomes spoilt s (spoilt_reader s)
  unfolding spoilt
  spoilt-becomes l =
      record {
        each =
            λ states held place k. (
              ap (λ bad. marked bad states held) (one_more_is s.line),
              record {
                fit = k.fit;
                line = k.line;
                begun = k.begun;
                value = k.value;
                blocks = k.blocks;
                none = k.none;
                some = k.some;
                uses = k.uses;
              },
            );
      }

  -- the same by another name
  becomes-as : {f g : Scan → Scan} {r : Reader}
      → ((states held place : List ℕ) → Ready s states held place → g (scan_of s states held) ≡ f (scan_of s states held))
      → Becomes f s r
      → Becomes g s r
  becomes-as same b =
      record {
        each =
            λ states held place k.
            let e = b.each states held place k in
            (e.0 ∙ sym (same states held place k), e.1);
      }

  pub becomes-is : {f : Scan → Scan} {r t : Reader} → r ≡ t → Becomes f s t → Becomes f s r
  becomes-is e b = rw (e) b

  -- nothing changes
  stays : {f : Scan → Scan} → ((states held : List ℕ) → f (scan_of s states held) ≡ scan_of s states held) → Becomes f s s
  stays same = record { each = λ states held place k. (sym (same states held), k) }

  -- ---- a line ends
  pub none-becomes : {r : Reader} → s.digits ≡ false → Becomes spoilt s r → Becomes ended s r
  none-becomes d = becomes-as (λ states held place k. ended-none (scan_of s states held) d)

  pub under-becomes : {r : Reader} → s.line ≡ 0 → s.digits ≡ true → s.value < 1 → Becomes spoilt s r → Becomes ended s r
  under-becomes e d l = becomes-as (λ states held place k. ended-under (scan_of s states held) e d l)

  pub over-becomes : {r : Reader} → s.line ≡ 0 → s.digits ≡ true → max_buffers < s.value → Becomes spoilt s r → Becomes ended s r
  over-becomes e d l = becomes-as (λ states held place k. ended-over (scan_of s states held) e d l)

  pub head-becomes : {r : Reader} → s.line ≡ 0 → s.digits ≡ true → (ltb s.value 1 || ltb max_buffers s.value) ≡ true
      → Becomes spoilt s r
      → Becomes ended s r
  head-becomes {r} e d o b = go (true-or-false (ltb s.value 1))
    where
      go : (ltb s.value 1 ≡ true) ⊎ (ltb s.value 1 ≡ false) → Becomes ended s r
      go (inl l) = under-becomes e d (ltb-true s.value 1 l) b
      go (inr l) = over-becomes e d (ltb-true max_buffers s.value (or-second l o)) b

  pub outside-becomes : {r : Reader} → 1 < s.line → s.digits ≡ true → s.blocks ≤ s.value → Becomes spoilt s r → Becomes ended s r
  outside-becomes l d u = becomes-as (λ states held place k. ended-outside (scan_of s states held) l d u)

  pub buffers-becomes : s.line ≡ 0 → s.digits ≡ true → (ltb s.value 1 || ltb max_buffers s.value) ≡ false
      → Becomes ended s (onward_reader s s.value s.blocks s.tally)
  buffers-becomes e d o =
      let l = ltb-false s.value 1 (or-neither (ltb s.value 1) (ltb max_buffers s.value) o).0 in
      let u = ltb-false max_buffers s.value (or-neither (ltb s.value 1) (ltb max_buffers s.value) o).1 in
      record {
        each =
            λ states held place k. (
              ap (begins s.value s.blocks s.tally states held) (one_more_is s.line)
                  ∙ sym (ended-buffers (scan_of s states held) e d l u),
              onward-ready s.value s.blocks s.tally states held place (omega (arith, e))
                  (fit-more s.value s.tally states held place u
                  (rw (k.none e) at k.fit))
                  k.blocks l (omega (arith, k.uses, e)),
            );
      }

  pub blocks-becomes : s.line ≡ 1 → s.digits ≡ true → Becomes ended s (onward_reader s s.buffers s.value s.tally)
  blocks-becomes e d =
      record {
        each =
            λ states held place k. (
              ap (begins s.buffers s.value s.tally states held) (one_more_is s.line)
                  ∙ sym (ended-blocks (scan_of s states held) e d k.value),
              onward-ready s.buffers s.value s.tally states held place (omega (arith, e)) k.fit k.value
                  (k.some (omega (arith, e))) (omega (arith, k.uses, e)),
            );
      }

  -- ---- a digit more
  pub digit-becomes : (b d : ℕ) → d ≡ b → s.line < max_lines → s.value * 10 + (d - 48) ≤ max_blocks
      → Becomes (λ s. digit s b) s
      (record {
        line = s.line;
        digits = true;
        value = s.value * 10 + (d - 48);
        buffers = s.buffers;
        blocks = s.blocks;
        bad = s.bad;
        tally = s.tally;
      })
  unfolding digit
  digit-becomes b d e l u =
      record {
        each =
            λ states held place k. (
              rw (e) (sym (digit-grown (scan_of s states held) b (rw (e) at u))),
              record {
                fit = k.fit;
                line = k.line;
                begun = λ e. l;
                value = u;
                blocks = k.blocks;
                none = k.none;
                some = k.some;
                uses = k.uses;
              },
            );
      }

  pub digit-spoils : {r : Reader} (b d : ℕ) → d ≡ b → max_blocks < s.value * 10 + (d - 48) → Becomes spoilt s r
      → Becomes (λ s. digit s b) s r
  digit-spoils b d e u = becomes-as (λ states held place k. digit-great (scan_of s states held) b (rw (e) at u))

  -- ---- the end of the input, and a read that fails
  closed-bad : (states held : List ℕ) → (eqb s.bad 0 && ltb s.line 2) ≡ true
      → closed (scan_of s states held) ≡ spoilt (scan_of s states held)
  unfolding closed
  closed-bad states held e = rw (e) refl

  closed-kept : (states held : List ℕ) → (eqb s.bad 0 && ltb s.line 2) ≡ false → closed (scan_of s states held) ≡ scan_of s states held
  unfolding closed
  closed-kept states held e = rw (e) refl

  pub closed-spoils : {r : Reader} → (eqb s.bad 0 && ltb s.line 2) ≡ true → Becomes spoilt s r → Becomes closed s r
  closed-spoils e = becomes-as (λ states held place k. closed-bad states held e)

  pub closed-stays : (eqb s.bad 0 && ltb s.line 2) ≡ false → Becomes closed s s
  closed-stays e = stays (λ states held. closed-kept states held e)

  broken-bad : (states held : List ℕ) → s.bad ≡ 0 → broken (scan_of s states held) ≡ spoilt (scan_of s states held)
  unfolding broken
  broken-bad states held e = rw (eq-eqb s.bad 0 e) refl

  broken-late : (states held : List ℕ) → s.bad ≢ 0 → broken (scan_of s states held) ≡ scan_of s states held
  unfolding broken
  broken-late states held n = rw (ne_eqb s.bad 0 n) refl

  pub broken-first : s.bad ≡ 0 → broken_reader s ≡ spoilt_reader s
  unfolding broken_reader
  broken-first e = rw (eq-eqb s.bad 0 e) refl

  pub broken-kept : s.bad ≢ 0 → broken_reader s ≡ s
  unfolding broken_reader
  broken-kept n = rw (ne_eqb s.bad 0 n) refl

  pub broken-spoils : {r : Reader} → s.bad ≡ 0 → Becomes spoilt s r → Becomes broken s r
  broken-spoils e = becomes-as (λ states held place k. broken-bad states held e)

  pub broken-was : s.bad ≢ 0 → Becomes broken s s
  broken-was n = stays (λ states held. broken-late states held n)

  -- ---- a block is used, and the slices have changed
  used-next : (c : Tally) (states held states₁ held₁ : List ℕ) → 1 < s.line → s.digits ≡ true → s.value < s.blocks
      → trace_of c states₁ held₁ ≡ use1 s.buffers (trace_of s.tally states held) s.value
      → scan_of (onward_reader s s.buffers s.blocks c) states₁ held₁ ≡ ended (scan_of s states held)
  used-next c states held states₁ held₁ l d u e =
      ap (begins s.buffers s.blocks c states₁ held₁) (one_more_is s.line)
      ∙ ap
      (λ t.
      record {
        line = suc s.line;
        digits = false;
        value = 0;
        buffers = s.buffers;
        blocks = s.blocks;
        bad = s.bad;
        trace = t;
      })
      e
      ∙ sym (ended-use (scan_of s states held) l d u)

  pub used-ready : (c : Tally) (states held place states₁ held₁ place₁ : List ℕ) (r : Reader) → Ready s states held place
      → s.line < max_lines
      → 1 < s.line
      → s.digits ≡ true
      → s.value < s.blocks
      → trace_of c states₁ held₁ ≡ use1 s.buffers (trace_of s.tally states held) s.value
      → Fit s.buffers c states₁ held₁ place₁
      → many c.totals ≡ suc (many s.tally.totals)
      → r ≡ onward_reader s s.buffers s.blocks c
      → (scan_of r states₁ held₁ ≡ ended (scan_of s states held)) × Ready r states₁ held₁ place₁
  used-ready c states held place states₁ held₁ place₁ r k m l d u e f n i = (
    ap (λ r. scan_of r states₁ held₁) i ∙ used-next c states held states₁ held₁ l d u e,
    rw (i)
        (onward-ready s.buffers s.blocks c states₁ held₁ place₁ m f k.blocks (k.some (omega (arith, l)))
        (omega (arith, n, k.uses, l))),
  )
