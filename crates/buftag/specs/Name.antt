-- A page's name: five 32-bit numbers, tablespace, database, relation, fork, block. The first four name the file.
use Rattle.std.specs.Prelude.{◌≡◌, refl, Bool, ◌&&◌, List, [], ◌∷◌, ◌++◌, ℕ, ◌%◌, ◌^◌, ◌<◌, eqb, leb}
use Rattle.buftag.specs.declared.name.FileName.{FileName}
use Rattle.buftag.specs.declared.name.PageName.{PageName}
use Rattle.bufhash.specs.Bytes.{word_bytes, word_at}
use Rattle.bufhash.specs.Fnv.{fnv, fnv_start, fnv_step, fnv_word}

abbrev pub file_of : ℕ → ℕ → ℕ → ℕ → FileName
file_of t d r f = record { tablespace = t; database = d; relation = r; fork = f }

abbrev pub name_of : ℕ → ℕ → ℕ → ℕ → ℕ → PageName
name_of t d r f b = record { file = file_of t d r f; block = record { 0 = b } }

-- fork is 0 table, 1 free space map, 2 visibility map
abbrev pub is_fork : ℕ → Bool
is_fork f = leb f 2

-- the numbers of a file's name and of a page's name fit their words
pub record FitsFile (f : FileName) : Type 0 where
  pub tablespace : f.tablespace < 2 ^ 32
  pub database : f.database < 2 ^ 32
  pub relation : f.relation < 2 ^ 32
  pub fork : f.fork < 2 ^ 32

pub record Fits (n : PageName) : Type 0 where
  pub file : FitsFile n.file
  pub block : n.block.0 < 2 ^ 32

-- ---- as bytes: 20, in this order, with fork before block
abbrev pub name_size : ℕ
name_size = 20

abbrev pub file_bytes : FileName → List ℕ
file_bytes f = word_bytes f.tablespace ++ (word_bytes f.database ++ (word_bytes f.relation ++ word_bytes f.fork))

abbrev pub name_bytes : PageName → List ℕ
name_bytes n = file_bytes n.file ++ word_bytes n.block.0

-- the name that has these bytes
abbrev pub name_of_bytes : List ℕ → PageName
name_of_bytes bs = name_of (word_at bs 0) (word_at bs 4) (word_at bs 8) (word_at bs 12) (word_at bs 16)

-- marked case A
pub case-A : name_bytes (name_of 16821 16384 37721 0 7)
    ≡ 0xB5 ∷ 0x41 ∷ 0 ∷ 0 ∷ 0 ∷ 0x40 ∷ 0 ∷ 0 ∷ 0x59 ∷ 0x93 ∷ 0 ∷ 0 ∷ 0 ∷ 0 ∷ 0 ∷ 0 ∷ 7 ∷ 0 ∷ 0 ∷ 0 ∷ []
case-A = refl

-- ---- the hash is FNV-1a over these bytes, the bucket the hash modulo the number of buckets
unfoldable pub hash_of : PageName → ℕ
hash_of n = fnv (name_bytes n) fnv_start

-- the same a word at a time, the words in the order of the bytes: that it is the same is the theorem `hash-words` of NameLaws
unfoldable pub hash_words : ℕ → ℕ → ℕ → ℕ → ℕ → ℕ
hash_words t d r f b = fnv_word b (fnv_word f (fnv_word r (fnv_word d (fnv_word t fnv_start))))

-- not marked: both hashes of the name whose bytes are the first twenty multiples of 13, modulo 256
pub case-bytes : hash_of (name_of 0x34271A0D 0x685B4E41 0x9C8F8275 0xD0C3B6A9 0x04F7EADD) ≡ 498205429
unfolding fnv_step hash_of
case-bytes = refl

pub case-words : hash_words 0x34271A0D 0x685B4E41 0x9C8F8275 0xD0C3B6A9 0x04F7EADD ≡ 498205429
unfolding fnv_step fnv_word hash_words
case-words = refl

unfoldable pub bucket_of : PageName → ℕ → ℕ
bucket_of n buckets = hash_of n % buckets

-- ---- equality, as a test
abbrev pub same_file : FileName → FileName → Bool
same_file a b =
    ((eqb a.tablespace b.tablespace && eqb a.database b.database) && eqb a.relation b.relation) && eqb a.fork b.fork

abbrev pub same_name : PageName → PageName → Bool
same_name a b = same_file a.file b.file && eqb a.block.0 b.block.0
