-- Checksums in the statement's own words: which blocks fail theirs, and how a page goes to the store. What this shares with the pool is the
-- checksum itself, whose numbers `Numbers` and `Vectors` have.
use Rattle.std.specs.Prelude.{ℕ, zero, suc, ◌+◌, ◌*◌, ◌/◌, ◌%◌, Bool, true, false, not, ◌&&◌, cond, List, [], ◌∷◌, ◌++◌, get_or, take, drop, eqb}
use Rattle.bufmodel.specs.Checksum.{checksum}

-- all zeros
unfoldable pub blank : List ℕ → Bool
blank [] = true
blank (zero ∷ bytes) = blank bytes
blank (suc k ∷ bytes) = false

-- block b of its file is bad: it is not all zeros, and bytes 8 and 9, low byte first, are not its checksum
unfoldable pub fails : ℕ → List ℕ → Bool
fails b page = let other = not (eqb (get_or page 8 0 + 256 * get_or page 9 0) (checksum b page)) in not (blank page) && other

-- the page of block b of its file as it is written back: not all zeros, bytes 8 and 9 are set to its checksum
unfoldable pub goes_out : ℕ → List ℕ → List ℕ
goes_out b page =
    let s = checksum b page in
    let out = take 8 page ++ (s % 256 ∷ s / 256 ∷ drop 10 page) in
    cond (blank page) page out
