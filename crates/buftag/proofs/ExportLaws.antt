-- What `buftag_bytes` leaves, `buftag_name` reads back, and the other way round.
use mathlib.Core.Path.{◌≡◌, refl, ap}
use mathlib.Core.Bool.{true}
use mathlib.Core.List.{List, [], ◌∷◌}
use Prim.Native.Nat.{ℕ, ◌<◌}
use lib.ListN.{length, get_or}
use borrow.Author.Tests.{eq-eqb}
use Rattle.buftag.specs.declared.name.PageName.{PageName}
use Rattle.buftag.specs.Name.{name_of, name_size, Fits}
use Rattle.buftag.specs.Names.{name_words, name_at, words_of}
use Rattle.buftag.specs.Export.{both_fit, bytes_into, words_into}
use Rattle.buftag.proofs.NameLaws.{name-of-bytes, bytes-of-name}

-- into slices of the right lengths
module _ (out words : List ℕ) (h : length out ≡ name_size) (k : length words ≡ name_words) where
  -- the bytes of a name are accepted
  pub bytes_fit_is : (n : PageName) → both_fit (bytes_into out n) words ≡ true
  bytes_fit_is n = rw (eq-eqb (length out) name_size h, eq-eqb (length words) name_words k) refl

  -- and their words are the five numbers
  pub words_back : (t d r f b : ℕ) → Fits (name_of t d r f b)
      → words_into words (bytes_into out (name_of t d r f b)) ≡ t ∷ d ∷ r ∷ f ∷ b ∷ []
  words_back t d r f b fits =
      rw (eq-eqb (length out) name_size h, eq-eqb (length words) name_words k) (ap words_of (name-of-bytes (name_of t d r f b) fits))

  -- the bytes of the name that 20 bytes' words make are these bytes
  pub bytes_back : (bytes : List ℕ) → length bytes ≡ name_size → ((i : ℕ) → i < name_size → get_or bytes i 0 < 256)
      → bytes_into out (name_at (words_into words bytes) 0) ≡ bytes
  bytes_back bytes l small =
      rw (eq-eqb (length out) name_size h, eq-eqb (length words) name_words k, eq-eqb (length bytes) name_size l)
      (bytes-of-name bytes l small)
