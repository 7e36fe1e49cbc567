-- The bucket chains: when they are sound, and how a buffer enters one and leaves it.
use Rattle.std.specs.Prelude.{◌≡◌, Bool, true, false, not, ◌&&◌, ◌||◌, cond, List, map, ℕ, zero, suc, ◌<◌, ltb, eqb, ℤ, pos, length, set, Option, Some, None}
use Rattle.laws.specs.Every.{all}
use Rattle.buftag.specs.declared.link.Link.{Link}
use Rattle.buftag.specs.declared.link.Link.TheVariants.{To, End, Off, Bad}
use Rattle.buftag.specs.Name.{bucket_of, same_name}
use Rattle.buftag.specs.Names.{name_at}
use Rattle.buftag.specs.Link.{none, number_at, link_of, link_at, is_end, is_to, Holds, holds_test}
use Rattle.buftag.specs.Lookup.{used}

-- ---- when they are sound, whichever bucket is a buffer's home
-- buffer i is in use, and its home is bucket b
abbrev pub in_bucket_by : List ℕ → (ℕ → ℕ) → ℕ → ℕ → Bool
in_bucket_by words home b i = used words i && eqb (home i) b

pub record ChainsBy (words : List ℕ) (home : ℕ → ℕ) (heads chain : List ℤ) : Type 0 where
  -- each chain holds exactly the buffers in use whose home is its bucket, once
  pub each : (b : ℕ) → b < length heads → Holds chain (link_at heads b) (in_bucket_by words home b)
  -- an empty buffer's chain link is −1
  pub idle : (i : ℕ) → i < length chain → used words i ≡ false → link_at chain i ≡ End

-- a buffer's home is the bucket that its name falls in
abbrev pub bucket_at : List ℕ → ℕ → ℕ → ℕ
bucket_at names buckets i = bucket_of (name_at names i) buckets

-- buffer i is in use, and its name falls in bucket b
abbrev pub in_bucket : List ℕ → List ℕ → ℕ → ℕ → ℕ → Bool
in_bucket words names buckets b i = in_bucket_by words (bucket_at names buckets) b i

-- each chain holds exactly the buffers in use whose name falls in its bucket, once, and an empty buffer's chain link is −1
abbrev pub ChainsSound : List ℕ → List ℕ → List ℤ → List ℤ → Type 0
ChainsSound words names heads chain = ChainsBy words (bucket_at names (length heads)) heads chain

-- the names of the buffers in use are distinct
abbrev pub Distinct : List ℕ → List ℕ → Type 0
Distinct words names = (i j : ℕ) → used words i ≡ true → used words j ≡ true → name_at names i ≡ name_at names j → i ≡ j

-- ---- the same as a test
unfoldable pub idle : List ℕ → List ℤ → ℕ → Bool
idle words chain i = used words i || is_end (link_at chain i)

unfoldable pub twins : List ℕ → List ℕ → ℕ → ℕ → Bool
twins words names i j = used words i && used words j && same_name (name_at names i) (name_at names j)

unfoldable pub distinct_test : List ℕ → List ℕ → Bool
distinct_test words names = all (length words) (λ i. all i (λ j. not (twins words names i j)))

unfoldable pub each_test : List ℕ → List ℕ → List ℤ → List ℤ → Bool
each_test words names heads chain = all (length heads) (λ b. holds_test chain (link_at heads b) (in_bucket words names (length heads) b))

unfoldable pub chains_test : List ℕ → List ℕ → List ℤ → List ℤ → Bool
chains_test words names heads chain = each_test words names heads chain && all (length chain) (idle words chain) && distinct_test words names

-- ---- a buffer enters at the head of bucket b: the head leads to it, and it leads where the head led
unfoldable pub enter_heads : List ℤ → ℕ → ℕ → List ℤ
enter_heads heads b i = set heads b (pos i)

unfoldable pub enter_chain : List ℤ → List ℤ → ℕ → ℕ → List ℤ
enter_chain heads chain b i = set chain i (number_at heads b)

-- ---- a buffer's chain entry goes: the link that leads to it, head or chain link, becomes its own link, and its own becomes −1
abbrev pub past : ℕ → ℤ → ℤ → ℤ
past i own link = cond (is_to i (link_of link)) own link

unfoldable pub unchain_heads : List ℤ → List ℤ → ℕ → List ℤ
unchain_heads heads chain i = map (past i (number_at chain i)) heads

unfoldable pub unchain_chain : List ℤ → ℕ → List ℤ
unchain_chain chain i = set (map (past i (number_at chain i)) chain) i none

-- ---- what the code does, for any memory: it looks for that link along the chain of bucket b
-- from a link on, in so many steps at most: the first place whose own link leads to i
unfoldable pub prev : List ℤ → ℕ → ℕ → Link → Option ℕ
prev chain i zero l = None
prev chain i (suc k) (To p) =
    let on = prev chain i k (link_at chain p) in
    let here = cond (is_to i (link_at chain p)) (Some p) on in
    cond (ltb p (length chain)) here None
prev chain i (suc k) End = None
prev chain i (suc k) Off = None
prev chain i (suc k) Bad = None

-- the chain with the link at a place led past i
abbrev pub past_at : List ℤ → ℕ → Option ℕ → List ℤ
past_at chain i (Some p) = set chain p (number_at chain i)
past_at chain i None = chain

unfoldable pub past_heads : List ℤ → List ℤ → ℕ → ℕ → List ℤ
past_heads heads chain b i = cond (is_to i (link_at heads b)) (set heads b (number_at chain i)) heads

unfoldable pub past_chain : List ℤ → List ℤ → ℕ → ℕ → List ℤ
past_chain heads chain b i =
    let other = past_at chain i (prev chain i (length chain) (link_at heads b)) in
    cond (is_to i (link_at heads b)) chain other

unfoldable pub leave_chain : List ℤ → List ℤ → ℕ → ℕ → List ℤ
leave_chain heads chain b i = set (past_chain heads chain b i) i none
