use borrow.Author.Rules.{rules}
use mathlib.Core.Path.{sym, ◌∙◌}
use native.Mathlib.Omega.{arith}
use Rattle.buftag.proofs.SignedLaws.{element-back}
use Rattle.bufbooks.proofs.BuffersLaws.{row-inside, row-low, block-low, held-page, held-first}
use Rattle.bufbooks.proofs.buffers.held_ok.Goals as goal

pub has_block-requires : goal.has_block-requires
has_block-requires c = row-inside c.args.tables.now.rows.words.now _ c.in-Some.ensures

pub offset_bounds-tables-row : goal.offset_bounds-tables-row
offset_bounds-tables-row c = omega (arith, row-low c.args.tables.now.rows.words.now _ c.in-Some.ensures c.args.tables.now.rows.sound)

pub bounds-tables-row : goal.bounds-tables-row
bounds-tables-row c = row-low c.args.tables.now.rows.words.now _ c.in-Some.ensures c.args.tables.now.rows.sound

pub hash_short-hash-requires : goal.hash_short-hash-requires
hash_short-hash-requires c =
    let rows = c.args.tables.now.rows in
    block-low rows.words.now _ c.in-Some.ensures rows.sound (sym c.has_block.ensures ∙ c.if-not-has_block.false)

pub returns : goal.returns
returns c =
    let a = c.args in
    let named = c.stored-name.ensures in
    let t = a.tables.now in
    let head = element-back a.heads.now c.bucket_by-b.result (search rules) in
    let first = held-first a.names.now a.heads.now a.chain.now t.rows.words.now a.buffer.0 named c.in-Some.ensures
    t.hashes.now t.hashed c.hash_short-hash.ensures c.bucket_by-b.ensures head c.is_first.ensures in
    held-page a.names.now a.heads.now a.chain.now t.rows.words.now a.buffer.0 named c.in-Some.ensures
    (sym c.has_block.ensures ∙ c.if-not-has_block.false) first
