use borrow.Author.Rules.{rules}
use borrow.Author.Count.{below_more}
use borrow.Author.Tests.{eqb-true, not-false}
use lib.Dec.{eqb}
use lib.Seq.{get_or-set_same, get_or-set_other}
use Rattle.laws.proofs.Tests.{or-neither}
use Rattle.bufmodel.specs.Rows.{files}
use Rattle.bufmodel.proofs.SizesLaws.{rows-say}
use Rattle.bufhash.specs.Bytes.{word_bytes}
use Rattle.bufhash.specs.Fnv.{fnv, fnv_start}
use Rattle.buftag.specs.declared.name.FileName.{FileName}
use Rattle.buftag.specs.Name.{file_bytes}
use mathlib.Core.Bool.{not}
use mathlib.Core.List.{◌++◌}
use mathlib.Core.Path.{◌≡◌, ap, sym, ◌∙◌}
use native.Mathlib.Omega.{arith}
use Prim.Native.Nat.{ℕ}
use Rattle.bufbooks.proofs.hashes.hash_rows.Goals.{else-file-tablespace, then-file-tablespace}
use Rattle.bufbooks.proofs.hashes.hash_rows.Invariants.{begun}
use Rattle.bufbooks.proofs.hashes.hash_rows.Goals as goal

pub hash_within-requires : goal.hash_within-requires
unfolding files
hash_within-requires c =
    omega (
      arith,
      ap (λ (x : FileName). x.fork) c.file_at-file.ensures,
      ((rows-say c.args.rows.words.now).holds c.args.rows.sound).fork c.loop-row.row c.loop-row-test.true,
    )

pub bounds-all-row : goal.bounds-all-row
unfolding files
bounds-all-row c =
    omega (arith, c.loop-row-test.true, c.loop-row.invariant.0, ((rows-say c.args.rows.words.now).holds c.args.rows.sound).few)

same : {a b c d : ℕ} → a ≡ b → c ≡ d → begun a c ≡ begun b d
same e f = rw (e, f)

-- the database whose hash is at hand is that of the row's file
joined : (c : goal.After-hash_within)
    → let f = c.file_at-file.result in
    (c.if-file-tablespace.start ≡ begun c.if-file-tablespace.tablespace c.if-file-tablespace.database)
    × (c.if-file-tablespace.start ≡ begun f.tablespace f.database)
joined c =
    let l = c.loop-row in
    let file = c.file_at-file.result in
    elim c.if-file-tablespace.branch [
      | then-file-tablespace w ↦
          let new = w.start-is ∙ w.hash_database-start-then-file-tablespace.ensures in
          (new ∙ sym (same w.tablespace-is w.database-is), new)
      | else-file-tablespace w ↦
          let kept = or-neither (not (eqb file.tablespace l.tablespace)) _ w.if-file-tablespace.false in
          let old = w.start-is ∙ l.invariant.1 in
          (old ∙ sym (same w.tablespace-is w.database-is), old ∙ sym (same (eqb-true _ _ (not-false _ kept.0)) (eqb-true _ _ (not-false _ kept.1))))
    ]

pub loop-row-preserved : goal.loop-row-preserved
loop-row-preserved c =
    let file = c.file_at-file.result in
    let whole = ap (fnv (word_bytes file.relation ++ word_bytes file.fork)) (joined c).1 in
    let new = c.hash_within.ensures ∙ whole ∙ ap (λ x. fnv (file_bytes x) fnv_start) c.file_at-file.ensures in (
      search rules,
      (joined c).0,
      below_more _ c.loop-row.row (λ r m. get_or-set_other c.loop-row.all c.loop-row.row r _ 0 (omega arith) ∙ c.loop-row.invariant.2 r m)
          (get_or-set_same c.loop-row.all c.loop-row.row _ 0 (bounds-all-row c) ∙ new),
    )

pub returns : goal.returns
unfolding files
returns c r l = c.loop-row.invariant.2 r (search rules)
