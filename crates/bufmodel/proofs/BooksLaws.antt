-- The test of the books decides that they are sound.
use Prim.Native.Nat.{ℕ, ◌<◌}
use mathlib.Core.Path.{◌≡◌, refl}
use mathlib.Core.Bool.{true, false, false≢true}
use Rattle.laws.specs.First.{Found, found, missing}
use Rattle.laws.specs.Says.{Says}
use Rattle.laws.proofs.Says.{says-it, says_eq, says-le, says-lt, says-and, says_all, says-else, says_if, says-as}
use Rattle.buftag.specs.declared.link.Link.{Link}
use Rattle.buftag.specs.declared.link.Link.TheVariants.{To, End, Off, Bad}
use Rattle.buftag.specs.Names.{no_name}
use Rattle.buftag.specs.Link.{link_of, link_at, Holds}
use Rattle.buftag.proofs.NameLaws.{says-same-name}
use Rattle.buftag.proofs.LinkLaws.{holds-says}
use Rattle.buftag.proofs.TestLaws.{chains-say}
use Rattle.bufmodel.specs.Word.{dirty, sound_cap}
use Rattle.bufmodel.specs.Rows.{place_of}
use Rattle.bufmodel.specs.Memory.{Memory, buffers, word_of, name_of}
use Rattle.bufmodel.specs.Books.{is_found, is_off, empty_at, sound, BooksSound}
use Rattle.bufmodel.specs.Books.{sound_words, sound_blanks, sound_free, sound_names, sound_pages, sound_counts}

is_off-true : (l : Link) → is_off l ≡ true → l ≡ Off
is_off-true (To i) e = absurd (false≢true e)
is_off-true End e = absurd (false≢true e)
is_off-true Off e = refl
is_off-true Bad e = absurd (false≢true e)

pub says-off : (l : Link) → Says (is_off l) (l ≡ Off)
says-off l = record { holds = is_off-true l; shown = λ e. rw e }

is_found-true : (f : Found) → is_found f ≡ true → (g : ℕ) × (f ≡ found g)
is_found-true (found g) e = (g, refl)
is_found-true missing e = absurd (false≢true e)

pub says-found : (f : Found) → Says (is_found f) ((g : ℕ) × (f ≡ found g))
says-found f = record { holds = is_found-true f; shown = λ e. rw e.1 refl }

module _ (m : Memory) where
  blanks-say : Says (sound_blanks m) ((i : ℕ) → i < buffers m → empty_at m i ≡ true → name_of m i ≡ no_name)
  unfolding sound_blanks
  blanks-say = says_all (buffers m) _ _ (λ i l. says_if (empty_at m i) (says-same-name (name_of m i) no_name))

  free-says : Says (sound_free m)
      (Holds m.free (link_of m.control.top) (empty_at m) × ((i : ℕ) → i < buffers m → empty_at m i ≡ false → link_at m.free i ≡ Off))
  unfolding sound_free
  free-says =
      says-and (holds-says m.free (link_of m.control.top) (empty_at m))
      (says_all (buffers m) _ _ (λ i l. says-else (empty_at m i) (says-off (link_at m.free i))))

  names-say : Says (sound_names m)
      ((i : ℕ) → i < buffers m → empty_at m i ≡ false → (g : ℕ) × (place_of m.rows (name_of m i) ≡ found g))
  unfolding sound_names
  names-say = says_all (buffers m) _ _ (λ i l. says-else (empty_at m i) (says-found (place_of m.rows (name_of m i))))

  pub books-say : Says (sound m) (BooksSound m)
  unfolding sound sound_cap sound_words sound_pages sound_counts
  books-say =
      says-as
      (λ s.
      record {
        cap = s.0.0.0.0.0.0.0.0.0;
        hand = s.0.0.0.0.0.0.0.0.1;
        log = s.0.0.0.0.0.0.0.1;
        words = s.0.0.0.0.0.0.1;
        blank = s.0.0.0.0.0.1;
        free = s.0.0.0.0.1.0;
        off = s.0.0.0.0.1.1;
        page = s.0.0.0.1;
        chains = s.0.0.1.0;
        distinct = s.0.0.1.1;
        low = s.0.1;
        counts = s.1;
      })
      (λ k. (
        ((((((((k.cap, k.hand), k.log), k.words), k.blank), (k.free, k.off)), k.page), (k.chains, k.distinct)), k.low),
        k.counts,
      ))
      (says-and
      (says-and
      (says-and
      (says-and
      (says-and
      (says-and
      (says-and
      (says-and (says-and (says-and (says-le _ _) (says-le _ _)) (says-lt _ _)) (says-le _ _))
      (says_all (buffers m) _ _ (λ i l. says-it _))) blanks-say) free-says) names-say)
      (chains-say m.states m.names m.heads m.chain))
      (says_all (buffers m) _ _ (λ i l. says_if (dirty (word_of m i)) (says-le _ _))))
      (says_all (buffers m) _ _ (λ i l. says_eq _ _)))
