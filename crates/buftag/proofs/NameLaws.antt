-- Laws of page names: the test of equality, the bytes back to the name, the hash continued from the file's.
use mathlib.Core.Path.{◌≡◌, refl, sym, ◌∙◌, ap}
use mathlib.Core.Bool.{false}
use mathlib.Core.Logic.{◌≢◌, ⊎_elim}
use mathlib.Core.List.{List, ◌∷◌, ◌++◌}
use Prim.Native.Nat.{ℕ, suc, ◌+◌, ◌≤◌, ◌<◌}
use native.Mathlib.Nat.{mod-lt}
use native.Mathlib.Omega.{arith}
use lib.ListN.{length, get_or, drop, drop_of_length-le}
use lib.Seq.{sets, drop-cons}
use Rattle.laws.specs.Says.{Says}
use Rattle.laws.proofs.Tests.{true-or-false}
use Rattle.laws.proofs.Sets.{sets-append, sets-whole}
use Rattle.laws.proofs.Says.{says_eq, says-and, says-as}
use Rattle.buftag.specs.declared.name.FileName.{FileName}
use Rattle.buftag.specs.declared.name.PageName.{PageName}
use Rattle.bufhash.specs.Bytes.{word_bytes, word_at}
use Rattle.bufhash.specs.Fnv.{fnv, fnv_start, fnv_word}
use Rattle.buftag.specs.Name.{file_of, name_of, name_size, file_bytes, name_bytes, name_of_bytes, hash_of, hash_words, bucket_of}
use Rattle.buftag.specs.Name.{same_file, same_name, Fits}
use Rattle.bufhash.proofs.BytesLaws.{word-of-bytes, bytes-of-word}
use Rattle.bufhash.proofs.FnvLaws.{fnv-append}

-- ---- equality
-- equal numbers make equal names
file-parts : {t t' d d' r r' f f' : ℕ} → t ≡ t' → d ≡ d' → r ≡ r' → f ≡ f' → file_of t d r f ≡ file_of t' d' r' f'
file-parts p q r s = cc

pub name-parts : {t t' d d' r r' f f' b b' : ℕ} → t ≡ t' → d ≡ d' → r ≡ r' → f ≡ f' → b ≡ b' → name_of t d r f b ≡ name_of t' d' r' f' b'
name-parts p q r s t = cc

-- the tests of equality decide it
pub says-same-file : (a b : FileName) → Says (same_file a b) (a ≡ b)
says-same-file a b =
    says-as
    (λ s. file-parts s.0.0.0 s.0.0.1 s.0.1 s.1)
    (λ e. (((ap (λ x. x.tablespace) e, ap (λ x. x.database) e), ap (λ x. x.relation) e), ap (λ x. x.fork) e))
    (says-and (says-and (says-and (says_eq _ _) (says_eq _ _)) (says_eq _ _)) (says_eq _ _))

with-block : {f g : FileName} {b c : ℕ} → f ≡ g → b ≡ c
    → ◌≡◌ {A = PageName} (record { file = f; block = record { 0 = b } }) (record { file = g; block = record { 0 = c } })
with-block p q = cc

pub says-same-name : (a b : PageName) → Says (same_name a b) (a ≡ b)
says-same-name a b =
    says-as (λ s. with-block s.0 s.1) (λ e. (ap (λ (n : PageName). n.file) e, ap (λ (n : PageName). n.block.0) e))
    (says-and (says-same-file a.file b.file) (says_eq _ _))

-- names of different blocks are not one
pub blocks-apart : (a b : PageName) → a.block.0 ≢ b.block.0 → same_name a b ≡ false
blocks-apart a b ne =
    ⊎_elim (λ t. absurd (ne (ap (λ (n : PageName). n.block.0) ((says-same-name a b).holds t)))) (λ f. f) (true-or-false (same_name a b))

-- ---- hash
-- continued over the block's bytes from the hash of the file's
pub hash-continued : (n : PageName) → fnv (word_bytes n.block.0) (fnv (file_bytes n.file) fnv_start) ≡ hash_of n
unfolding hash_of
hash-continued n = sym (fnv-append (file_bytes n.file) (word_bytes n.block.0) fnv_start)

-- a word at a time it is the hash of the 20 bytes, for every name
pub hash-words : (n : PageName)
    → hash_words n.file.tablespace n.file.database n.file.relation n.file.fork n.block.0 ≡ hash_of n
unfolding fnv_word hash_words hash_of
hash-words n = refl

-- so the hash is what it comes to when words are mixed in one after the other
pub hash-mixed : (t d r f b : ℕ) {h2 h3 h4 h5 : ℕ}
    → h2 ≡ fnv (word_bytes t ++ word_bytes d) fnv_start → h3 ≡ fnv (word_bytes r) h2 → h4 ≡ fnv (word_bytes f) h3 → h5 ≡ fnv (word_bytes b) h4
    → (h5 ≡ hash_words t d r f b) × (h5 ≡ hash_of (name_of t d r f b))
unfolding hash_of
hash-mixed t d r f b {h5 = h5} p q s u =
    let over : ℕ → ℕ → ℕ = λ w. fnv (word_bytes w) in
    let whole : h5 ≡ hash_of (name_of t d r f b) = u ∙ ap (over b) (s ∙ ap (over f) (q ∙ ap (over r) p)) in
    (whole ∙ sym (hash-words (name_of t d r f b)), whole)

-- a bucket is one of the buckets
pub bucket-lt : (n : PageName) (buckets : ℕ) → 0 < buckets → bucket_of n buckets < buckets
unfolding bucket_of
bucket-lt n buckets h = mod-lt _ h

-- ---- bytes and back
-- a name is the name of its bytes
pub name-of-bytes : (n : PageName) → Fits n → name_of_bytes (name_bytes n) ≡ n
name-of-bytes n f =
    name-parts (word-of-bytes n.file.tablespace f.file.tablespace) (word-of-bytes n.file.database f.file.database)
    (word-of-bytes n.file.relation f.file.relation) (word-of-bytes n.file.fork f.file.fork)
    (word-of-bytes n.block.0 f.block)

module _ (bs : List ℕ) (len : length bs ≡ name_size) (bytes : (i : ℕ) → i < name_size → get_or bs i 0 < 256) where
  -- from place k on there stand its byte and the bytes from the next place on
  byte-first : (k j : ℕ) → k < name_size → j ≡ suc k → {rest : List ℕ} → rest ≡ drop j bs → get_or bs k 0 ∷ rest ≡ drop k bs
  byte-first k j h n e = rw (e, n) (sym (drop-cons bs k 0 (omega arith)))

  -- and so a word's bytes and those from the fourth place after on
  word_first : (at : ℕ) → at + 4 ≤ name_size → {rest : List ℕ} → rest ≡ drop (at + 4) bs → word_bytes (word_at bs at) ++ rest ≡ drop at bs
  word_first at h {rest} e =
      let byte : (k : ℕ) → k < 4 → get_or bs (at + k) 0 < 256 = λ k l. bytes (at + k) (omega arith) in
      ap (λ (l : List ℕ). l ++ rest)
      (bytes-of-word (bytes at (omega arith)) (byte 1 (omega arith)) (byte 2 (omega arith)) (byte 3 (omega arith)))
      ∙ byte-first at (at + 1) (omega arith) (omega arith)
      (byte-first (at + 1) (at + 2) (omega arith) (omega arith)
      (byte-first (at + 2) (at + 3) (omega arith) (omega arith) (byte-first (at + 3) (at + 4) (omega arith) (omega arith) e)))

  -- so many bytes are the bytes of their name
  pub bytes-of-name : name_bytes (name_of_bytes bs) ≡ bs
  bytes-of-name =
      word_first 0 (omega arith)
      (word_first 4 (omega arith)
      (word_first 8 (omega arith)
      (word_first 12 (omega arith) (word_first 16 (omega arith) (sym (drop_of_length-le bs {i = name_size} (omega arith)))))))

-- the words stored one after the other fill the bytes of a name
pub bytes-put : (out : List ℕ) (n : PageName) → length out ≡ name_size
    → sets
    (sets
    (sets
    (sets
    (sets out 0 (word_bytes n.file.tablespace)) 4 (word_bytes n.file.database)) 8 (word_bytes n.file.relation))
    12 (word_bytes n.file.fork))
    16 (word_bytes n.block.0)
    ≡ name_bytes n
bytes-put out n h =
    let t = word_bytes n.file.tablespace in
    let d = word_bytes n.file.database in
    let r = word_bytes n.file.relation in
    let f = word_bytes n.file.fork in
    let b = word_bytes n.block.0 in
    sets-append (sets (sets (sets out 0 t) 4 d) 8 r) 12 f b
    ∙ sets-append (sets (sets out 0 t) 4 d) 8 r (f ++ b)
    ∙ sets-append (sets out 0 t) 4 d (r ++ (f ++ b))
    ∙ sets-append out 0 t (d ++ (r ++ (f ++ b)))
    ∙ sets-whole out (name_bytes n) h
