-- The moves of a page: written back to its block, released from its buffer, loaded into one.
use Rattle.std.specs.Prelude.{ℕ, zero, suc, max, Bool, true, false, not, ◌&&◌, cond, List, length, set, ℤ, pos, negsuc}
use Rattle.laws.specs.First.{Found, found, missing}
use Rattle.laws.specs.Block.{block, put_block}
use Rattle.buftag.specs.declared.link.Link.{Link}
use Rattle.buftag.specs.declared.link.Link.TheVariants.{To, End, Off, Bad}
use Rattle.buftag.specs.declared.name.FileName.{FileName}
use Rattle.buftag.specs.declared.name.PageName.{PageName}
use Rattle.buftag.specs.Name.{bucket_of, same_file}
use Rattle.buftag.specs.Names.{set_name, no_name}
use Rattle.buftag.specs.Link.{number_at, link_of}
use Rattle.buftag.specs.Chain.{enter_heads, enter_chain, unchain_heads, unchain_chain}
use Rattle.bufmodel.specs.Word.{dirty, loaded, make_clean}
use Rattle.bufmodel.specs.Position.{position}
use Rattle.bufmodel.specs.Checksum.{sealed}
use Rattle.bufmodel.specs.Rows.{place_of}
use Rattle.bufmodel.specs.Memory.{
  Memory,
  size,
  word_of,
  name_of,
  page_of,
  with_states,
  with_names,
  with_pool,
  with_free,
  with_heads,
  with_chain,
  with_store,
  with_top,
  with_flushed,
}
use Rattle.bufmodel.specs.Books.{empty_at}

-- ---- write-back
-- the store with a page put at its place
unfoldable pub put_at : ℕ → List ℕ → List ℕ → Found → List ℕ
put_at p page store (found g) = put_block p g page store
put_at p page store missing = store

-- Writing back a dirty page: flushed becomes the larger of itself and the page's log position; then the page goes to its block, with its
-- checksum unless it is all zeros; both dirty bits clear. The pool's page keeps its own bytes 8 and 9. A page that isn't dirty stays as
-- it is
unfoldable pub write_back : Memory → ℕ → Memory
write_back m i =
    let d = dirty (word_of m i) in
    with_flushed (cond d (max m.control.flushed (position (page_of m i))) m.control.flushed)
    (with_store
    (cond d (put_at (size m) (sealed (name_of m i).block.0 (page_of m i)) m.store (place_of m.rows (name_of m i))) m.store)
    (with_states (set m.states i (cond d (make_clean (word_of m i)) (word_of m i))) m))

-- the first k buffers, rising
unfoldable pub write_up_to : ℕ → Memory → Memory
write_up_to zero m = m
write_up_to (suc k) m = write_back (write_up_to k m) k

-- ---- release: buffer i's chain entry goes, its name becomes zeros, its word 0, and it is put on top of the free list
unfoldable pub release : Memory → ℕ → Memory
release m i =
    with_top (pos i)
    (with_free (set m.free i m.control.top)
    (with_heads (unchain_heads m.heads m.chain i)
    (with_chain (unchain_chain m.chain i)
    (with_names (set_name m.names i no_name)
    (with_states (set m.states i 0) m)))))

-- buffer i holds a page of this file
unfoldable pub of_file : Memory → FileName → ℕ → Bool
of_file m f i = not (empty_at m i) && same_file (name_of m i).file f

unfoldable pub release_if : Bool → Memory → ℕ → Memory
release_if true m i = release m i
release_if false m i = m

-- the file's buffers among the first k, rising
unfoldable pub release_up_to : FileName → ℕ → Memory → Memory
release_up_to f zero m = m
release_up_to f (suc k) m = let on = release_up_to f k m in release_if (of_file on f k) on k

-- ---- load
-- −2, the free link of a buffer that is not in the free list
abbrev pub off : ℤ
off = negsuc 1

-- The page named n, at place g, comes into buffer i from the top of the free list: the name enters at its bucket's head,
-- the block is loaded, pin and usage counts are 1, clean
unfoldable pub load_at : Memory → PageName → ℕ → ℕ → Memory
load_at m n i g =
    let b = bucket_of n (length m.heads) in
    with_top (number_at m.free i)
    (with_free (set m.free i off)
    (with_heads (enter_heads m.heads b i)
    (with_chain (enter_chain m.heads m.chain b i)
    (with_names (set_name m.names i n)
    (with_pool (put_block (size m) i (block (size m) g m.store) m.pool) (with_states (set m.states i loaded) m))))))

-- where the free list is empty, or there is no such page, nothing is loaded: no accepted call comes here
unfoldable pub load_top : Memory → PageName → Link → Found → Memory
load_top m n (To i) (found g) = load_at m n i g
load_top m n (To i) missing = m
load_top m n End g = m
load_top m n Off g = m
load_top m n Bad g = m

unfoldable pub load : Memory → PageName → Memory
load m n = load_top m n (link_of m.control.top) (place_of m.rows n)
