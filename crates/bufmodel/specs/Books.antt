-- The books ("the books are sound when", document 01), refusal 2: the test, and the same as a statement.
use Rattle.std.specs.Prelude.{ℕ, ◌≤◌, ◌<◌, ◌≡◌, Bool, true, false, not, ◌&&◌, ◌||◌, eqb, leb, ltb}
use Rattle.laws.specs.Every.{all}
use Rattle.laws.specs.First.{Found, found, missing}
use Rattle.buftag.specs.declared.link.Link.{Link}
use Rattle.buftag.specs.declared.link.Link.TheVariants.{To, End, Off, Bad}
use Rattle.buftag.specs.Name.{same_name}
use Rattle.buftag.specs.Names.{no_name}
use Rattle.buftag.specs.Link.{link_of, link_at, Holds, holds_test}
use Rattle.buftag.specs.Chain.{ChainsSound, Distinct, chains_test}
use Rattle.bufmodel.specs.Word.{pins, empty, dirty, max_cap, sound_cap, sound_word}
use Rattle.bufmodel.specs.Position.{position}
use Rattle.bufmodel.specs.Rows.{place_of}
use Rattle.bufmodel.specs.Memory.{Memory, buffers, cap_of, word_of, name_of, page_of}
use Rattle.bufmodel.specs.Counts.{holders_of}

abbrev pub is_found : Found → Bool
is_found (found i) = true
is_found missing = false

abbrev pub is_off : Link → Bool
is_off (To i) = false
is_off End = false
is_off Off = true
is_off Bad = false

module _ (m : Memory) where
  -- buffer i is empty
  unfoldable pub empty_at : ℕ → Bool
  empty_at i = empty (word_of m i)

  -- ---- the rules, each as a test
  unfoldable pub sound_words : Bool
  sound_words = all (buffers m) (λ i. sound_word (cap_of m) (word_of m i))

  -- an empty buffer has a name of zeros
  unfoldable pub sound_blanks : Bool
  sound_blanks = all (buffers m) (λ i. not (empty_at i) || same_name (name_of m i) no_name)

  -- the free list holds each empty buffer once and no other; all others have free link −2
  unfoldable pub sound_free : Bool
  sound_free =
      holds_test m.free (link_of m.control.top) empty_at && all (buffers m) (λ i. empty_at i || is_off (link_at m.free i))

  -- a name names a block below its file's block count
  unfoldable pub sound_names : Bool
  sound_names = all (buffers m) (λ i. empty_at i || is_found (place_of m.rows (name_of m i)))

  -- a dirty page's log position is at most inserted
  unfoldable pub sound_pages : Bool
  sound_pages = all (buffers m) (λ i. not (dirty (word_of m i)) || leb (position (page_of m i)) m.control.inserted)

  -- a word counts the holders whose private count isn't 0 (document 02)
  unfoldable pub sound_counts : Bool
  sound_counts = all (buffers m) (λ i. eqb (pins (word_of m i)) (holders_of m.counts i))

  unfoldable pub sound : Bool
  sound =
      sound_cap (cap_of m) && ltb m.control.hand (buffers m) && leb m.control.flushed m.control.inserted && sound_words
      && sound_blanks
      && sound_free
      && sound_names
      && chains_test m.states m.names m.heads m.chain
      && sound_pages
      && sound_counts

-- ---- the same as a statement
pub record BooksSound (m : Memory) : Type 0 where
  -- for other calls than set up a bad cap is 2 (document 02)
  pub cap : (1 ≤ cap_of m) × (cap_of m ≤ max_cap)
  pub hand : m.control.hand < buffers m
  pub log : m.control.flushed ≤ m.control.inserted
  pub words : (i : ℕ) → i < buffers m → sound_word (cap_of m) (word_of m i) ≡ true
  -- empty buffers have names of zeros, are each once in the free list, which holds no other; all others have free link −2
  pub blank : (i : ℕ) → i < buffers m → empty_at m i ≡ true → name_of m i ≡ no_name
  pub free : Holds m.free (link_of m.control.top) (empty_at m)
  pub off : (i : ℕ) → i < buffers m → empty_at m i ≡ false → link_at m.free i ≡ Off
  -- non-empty names are distinct and name a block below its file's block count
  pub distinct : Distinct m.states m.names
  pub page : (i : ℕ) → i < buffers m → empty_at m i ≡ false → (g : ℕ) × (place_of m.rows (name_of m i) ≡ found g)
  -- each chain holds exactly the non-empty buffers whose name falls in its bucket, once; an empty buffer's chain link is −1
  pub chains : ChainsSound m.states m.names m.heads m.chain
  -- a dirty page's log position ≤ inserted
  pub low : (i : ℕ) → i < buffers m → dirty (word_of m i) ≡ true → position (page_of m i) ≤ m.control.inserted
  -- the word counts the holders whose private count isn't 0
  pub counts : (i : ℕ) → i < buffers m → pins (word_of m i) ≡ holders_of m.counts i
