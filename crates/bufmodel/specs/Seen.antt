-- What the cases see of a memory after some calls, and the cases' own types.
use Rattle.std.specs.Prelude.{ℕ, ◌≡◌, refl, List, [], ◌∷◌, ◌++◌, take, drop, set, replicate, ℤ}
use Rattle.std.proofs.Common.{sym, ap, ap₂, ◌∙◌}
use Rattle.bufmodel.specs.Memory.{Memory, word_of, with_states, with_store, with_counts}
use Rattle.bufmodel.specs.Calls.{set_up}
use Rattle.bufmodel.specs.Step.{Call, Read, step, memory_after, answers}
use Rattle.bufmodel.specs.Lent.{Lent, called}
use Rattle.bufmodel.specs.Bench.{bench}

-- ---- what is seen. These are definitions and not abbreviations, so that the checker computes a memory once for all that is read off it
-- the memory after set up and these calls
unfoldable pub after : Memory → List Call → Memory
after m calls = memory_after (set_up m 1024 100 5).after calls

-- the same on the bench with another cap
unfoldable pub warmed : ℕ → List Call → Memory
warmed cap calls = memory_after (set_up bench 1024 100 cap).after calls

-- the refusal number and the answer's words of each of some calls, after others
unfoldable pub seen : Memory → List Call → List Call → List (List ℕ)
seen m before calls = answers (after m before) calls

unfoldable pub seen_at : ℕ → List Call → List Call → List (List ℕ)
seen_at cap before calls = answers (warmed cap before) calls

-- the same, and behind them what a look at the memory sees that the last call leaves
unfoldable pub looked : (Memory → List (List ℕ)) → Memory → List Call → List (List ℕ)
looked look m [] = look m
looked look m (c ∷ cs) = let o = step m c in (o.refusal ∷ o.answer) ∷ looked look o.after cs

unfoldable pub seen_then : (Memory → List (List ℕ)) → Memory → List Call → List Call → List (List ℕ)
seen_then look m before calls = looked look (after m before) calls

-- and with a look before the first call and after each
unfoldable pub followed : (Memory → List (List ℕ)) → Memory → List Call → List (List ℕ)
followed look m [] = look m
followed look m (c ∷ cs) = let o = step m c in look m ++ ((o.refusal ∷ o.answer) ∷ followed look o.after cs)

unfoldable pub seen_along : (Memory → List (List ℕ)) → Memory → List Call → List Call → List (List ℕ)
seen_along look m before calls = followed look (after m before) calls

-- ---- looks
-- the hand, and behind it the state words
unfoldable pub clock : Memory → List (List ℕ)
clock m = (m.control.hand ∷ m.states) ∷ []

-- of each of three buffers the state word, and behind it the first k of its 64 counts
unfoldable pub holders : ℕ → Memory → List (List ℕ)
holders k m =
    (word_of m 0 ∷ take k m.counts)
    ∷ (word_of m 1 ∷ take k (drop 64 m.counts))
    ∷ (word_of m 2 ∷ take k (drop 128 m.counts))
    ∷ []

-- the bytes that a read of a buffer's page by holder 0 hands back
unfoldable pub bytes : ℕ → ℕ → ℕ → Memory → List (List ℕ)
bytes buffer from n m = (step m (Read 0 buffer from (replicate n 0))).bytes ∷ []

-- the bytes from 4 to 12 of each of five blocks of the store
unfoldable pub blocks : Memory → List (List ℕ)
blocks m =
    let store = m.store in
    take 9 (drop 4 store)
    ∷ take 9 (drop 1028 store)
    ∷ take 9 (drop 2052 store)
    ∷ take 9 (drop 3076 store)
    ∷ take 9 (drop 4100 store)
    ∷ []

-- ---- calls on another memory than calls left
-- calls as C makes them: each one's result and answer, and the control words that it leaves
unfoldable pub results : Lent → List Call → List (List ℕ)
results m [] = []
results m (c ∷ cs) =
    let r = called (λ k. step k c) m [] (7 ∷ 7 ∷ 7 ∷ 7 ∷ []) in
    (r.result ∷ r.answer) ∷ r.lent.control ∷ results r.lent cs

-- the same, where these control words are lent with the rest of a memory after other calls
unfoldable pub told : Memory → List Call → List ℕ → List Call → List (List ℕ)
told m before words calls =
    let left = after m before in
    results
    (record {
      control = words;
      states = left.states;
      names = left.names;
      pool = left.pool;
      free = left.free;
      heads = left.heads;
      chain = left.chain;
      rows = left.rows;
      store = left.store;
      counts = left.counts;
    })
    calls

-- calls where another store, other counts or one other count are lent with the rest of the bench after others
unfoldable pub seen_store : List Call → List ℕ → List Call → List (List ℕ)
seen_store before store calls = let left = after bench before in answers (with_store store left) calls

unfoldable pub seen_counts : List Call → List ℕ → List Call → List (List ℕ)
seen_counts before counts calls = let left = after bench before in answers (with_counts counts left) calls

unfoldable pub seen_count : List Call → ℕ → ℕ → List Call → List (List ℕ)
seen_count before at c calls = let left = after bench before in answers (with_counts (set left.counts at c) left) calls

-- the same of one other word, at a cap, with the hand and the words that the last call leaves
unfoldable pub seen_word : ℕ → List Call → ℕ → ℕ → List Call → List (List ℕ)
seen_word cap before i w calls = let left = warmed cap before in looked clock (with_states (set left.states i w) left) calls

-- ---- what the definitions give, beside what document 01 says
pub data Letter : Type 0 where
  A B C D E F G H I J unmarked : Letter

-- rows of numbers, or the free links with the top of the free list
pub data Shown : Type 0 where
  numbers : List (List ℕ) → Shown
  links : List ℤ → ℤ → Shown

unfoldable pub links_after : Memory → List Call → Shown
links_after m calls = let left = after m calls in links left.free left.control.top

pub record Case : Type 0 where
  pub letter : Letter
  pub gives : Shown
  pub says : Shown

abbrev pub case : Letter → List (List ℕ) → List (List ℕ) → Case
case l g s = record { letter = l; gives = numbers g; says = numbers s }

abbrev pub linked : Letter → Shown → Shown → Case
linked l g s = record { letter = l; gives = g; says = s }

-- numbers as a row of one
abbrev pub just : ℕ → List (List ℕ)
just k = (k ∷ []) ∷ []

-- what the definitions give: where this unfolds, they compute
unfoldable pub given : List Case → List Shown
unfolding Rattle.laws.specs.Every.all Rattle.laws.specs.Every.any Rattle.laws.specs.Sum.sum Rattle.laws.specs.Sum.count
    Rattle.laws.specs.Times.times Rattle.laws.specs.Times.without Rattle.laws.specs.First.first Rattle.laws.specs.Block.block
    Rattle.laws.specs.Block.put_block Rattle.bufhash.specs.Fnv.fnv_step Rattle.buftag.specs.Name.hash_of
    Rattle.buftag.specs.Name.bucket_of Rattle.buftag.specs.Link.ends Rattle.buftag.specs.Link.members
    Rattle.buftag.specs.Link.holds_test Rattle.buftag.specs.Lookup.held Rattle.buftag.specs.Chain.idle
    Rattle.buftag.specs.Chain.twins Rattle.buftag.specs.Chain.distinct_test Rattle.buftag.specs.Chain.each_test
    Rattle.buftag.specs.Chain.chains_test Rattle.buftag.specs.Chain.enter_heads Rattle.buftag.specs.Chain.enter_chain
    Rattle.buftag.specs.Chain.unchain_heads Rattle.buftag.specs.Chain.unchain_chain Rattle.bufmodel.specs.Word.pins
    Rattle.bufmodel.specs.Word.usage Rattle.bufmodel.specs.Word.flags Rattle.bufmodel.specs.Word.pack
    Rattle.bufmodel.specs.Word.bit Rattle.bufmodel.specs.Word.dirty Rattle.bufmodel.specs.Word.valid
    Rattle.bufmodel.specs.Word.tag_valid Rattle.bufmodel.specs.Word.just_dirtied
    Rattle.bufmodel.specs.Word.permanent Rattle.bufmodel.specs.Word.no_other Rattle.bufmodel.specs.Word.empty
    Rattle.bufmodel.specs.Word.sound_cap Rattle.bufmodel.specs.Word.sound_flags
    Rattle.bufmodel.specs.Word.sound_word Rattle.bufmodel.specs.Word.pinned Rattle.bufmodel.specs.Word.pin_more
    Rattle.bufmodel.specs.Word.pin_less Rattle.bufmodel.specs.Word.use_less
    Rattle.bufmodel.specs.Word.make_dirty Rattle.bufmodel.specs.Word.make_clean Rattle.bufmodel.specs.Word.loaded
    Rattle.bufmodel.specs.Position.position Rattle.bufmodel.specs.Position.position_bytes
    Rattle.bufmodel.specs.Position.paste Rattle.bufmodel.specs.Position.written
    Rattle.bufmodel.specs.Checksum.bare_from Rattle.bufmodel.specs.Checksum.sum_in
    Rattle.bufmodel.specs.Checksum.mix_sum Rattle.bufmodel.specs.Checksum.sum_to Rattle.bufmodel.specs.Checksum.sum_of
    Rattle.bufmodel.specs.Checksum.words_in Rattle.bufmodel.specs.Checksum.fold_to
    Rattle.bufmodel.specs.Checksum.checksum
    Rattle.bufmodel.specs.Checksum.all_zero Rattle.bufmodel.specs.Checksum.sealed
    Rattle.bufmodel.specs.Checksum.passes Rattle.bufmodel.specs.Rows.files
    Rattle.bufmodel.specs.Rows.file_at Rattle.bufmodel.specs.Rows.blocks_at Rattle.bufmodel.specs.Rows.capacity_at
    Rattle.bufmodel.specs.Rows.set_blocks Rattle.bufmodel.specs.Rows.row_of Rattle.bufmodel.specs.Rows.start_of
    Rattle.bufmodel.specs.Rows.store_blocks Rattle.bufmodel.specs.Rows.place_in Rattle.bufmodel.specs.Rows.place_of
    Rattle.bufmodel.specs.Sizes.permitted Rattle.bufmodel.specs.Sizes.new_file
    Rattle.bufmodel.specs.Sizes.sound_row
    Rattle.bufmodel.specs.Sizes.sound_rows Rattle.bufmodel.specs.Sizes.sized_for Rattle.bufmodel.specs.Sizes.sized
    Rattle.bufmodel.specs.Books.empty_at Rattle.bufmodel.specs.Books.sound_words
    Rattle.bufmodel.specs.Books.sound_blanks Rattle.bufmodel.specs.Books.sound_free
    Rattle.bufmodel.specs.Books.sound_names Rattle.bufmodel.specs.Books.sound_pages
    Rattle.bufmodel.specs.Counts.count_at Rattle.bufmodel.specs.Counts.set_count
    Rattle.bufmodel.specs.Counts.has_pin Rattle.bufmodel.specs.Counts.holders_of
    Rattle.bufmodel.specs.Books.sound_counts Rattle.bufmodel.specs.Pin.holder_place
    Rattle.bufmodel.specs.Pin.held_word Rattle.bufmodel.specs.Calls.less_word
    Rattle.bufmodel.specs.Calls.unpin_at Rattle.bufmodel.specs.Calls.given_word
    Rattle.bufmodel.specs.Calls.give_at Rattle.bufmodel.specs.Calls.give_up_to
    Rattle.bufmodel.specs.Calls.give_back
    Rattle.bufmodel.specs.Books.sound Rattle.bufmodel.specs.Sweep.next Rattle.bufmodel.specs.Sweep.sweep
    Rattle.bufmodel.specs.Sweep.sweep_all Rattle.bufmodel.specs.Moves.put_at Rattle.bufmodel.specs.Moves.write_back
    Rattle.bufmodel.specs.Moves.write_up_to Rattle.bufmodel.specs.Moves.release Rattle.bufmodel.specs.Moves.of_file
    Rattle.bufmodel.specs.Moves.release_if Rattle.bufmodel.specs.Moves.release_up_to
    Rattle.bufmodel.specs.Moves.load_at Rattle.bufmodel.specs.Moves.load_top Rattle.bufmodel.specs.Moves.load
    Rattle.bufmodel.specs.Outcome.refusal_of Rattle.bufmodel.specs.Outcome.checked
    Rattle.bufmodel.specs.Outcome.outcome Rattle.bufmodel.specs.Pin.no_row Rattle.bufmodel.specs.Pin.no_block
    Rattle.bufmodel.specs.Pin.count_full Rattle.bufmodel.specs.Pin.no_victim Rattle.bufmodel.specs.Pin.held_in
    Rattle.bufmodel.specs.Pin.sum_differs Rattle.bufmodel.specs.Pin.name_places
    Rattle.bufmodel.specs.Pin.page_places Rattle.bufmodel.specs.Pin.pin_places Rattle.bufmodel.specs.Pin.pin_held
    Rattle.bufmodel.specs.Pin.pin_free Rattle.bufmodel.specs.Pin.pin_victim Rattle.bufmodel.specs.Pin.pin_swept
    Rattle.bufmodel.specs.Pin.pin_new Rattle.bufmodel.specs.Pin.pin_to Rattle.bufmodel.specs.Pin.pin
    Rattle.bufmodel.specs.Calls.free_links Rattle.bufmodel.specs.Calls.fresh Rattle.bufmodel.specs.Calls.set_up
    Rattle.bufmodel.specs.Calls.buffer_places Rattle.bufmodel.specs.Calls.unpin Rattle.bufmodel.specs.Calls.read
    Rattle.bufmodel.specs.Calls.write_places Rattle.bufmodel.specs.Calls.write_to
    Rattle.bufmodel.specs.Calls.write Rattle.bufmodel.specs.Calls.flush Rattle.bufmodel.specs.Calls.checkpoint
    Rattle.bufmodel.specs.Calls.offset_of Rattle.bufmodel.specs.Calls.part_of Rattle.bufmodel.specs.Calls.peek
    Rattle.bufmodel.specs.Calls.file_full Rattle.bufmodel.specs.Calls.extend_at Rattle.bufmodel.specs.Calls.extend
    Rattle.bufmodel.specs.Calls.file_pinned Rattle.bufmodel.specs.Calls.drop_at
    Rattle.bufmodel.specs.Calls.drop_file Rattle.bufmodel.specs.Calls.log_inserted
    Rattle.bufmodel.specs.Calls.log_flushed Rattle.bufmodel.specs.Step.step
    Rattle.bufmodel.specs.Step.memory_after Rattle.bufmodel.specs.Step.answers
    Rattle.bufmodel.specs.Lent.top_of Rattle.bufmodel.specs.Lent.top_word Rattle.bufmodel.specs.Lent.control_of
    Rattle.bufmodel.specs.Lent.words_of Rattle.bufmodel.specs.Lent.opened Rattle.bufmodel.specs.Lent.closed
    Rattle.bufmodel.specs.Lent.ended Rattle.bufmodel.specs.Lent.called Rattle.bufmodel.specs.Bench.bench
    Rattle.bufmodel.specs.Bench.two_files Rattle.bufmodel.specs.Bench.damaged
    after warmed seen seen_at looked seen_then followed seen_along clock holders bytes blocks results told seen_store seen_counts
    seen_count seen_word links_after
given [] = []
given (c ∷ cs) = c.gives ∷ given cs

unfoldable pub said : List Case → List Shown
said [] = []
said (c ∷ cs) = c.says ∷ said cs

given-append : (xs ys : List Case) → given (xs ++ ys) ≡ given xs ++ given ys
unfolding given
given-append [] ys = refl
given-append (x ∷ xs) ys = ap (λ (r : List Shown). x.gives ∷ r) (given-append xs ys)

said-append : (xs ys : List Case) → said (xs ++ ys) ≡ said xs ++ said ys
unfolding said
said-append [] ys = refl
said-append (x ∷ xs) ys = ap (λ (r : List Shown). x.says ∷ r) (said-append xs ys)

pub joined : (xs ys : List Case) → given xs ≡ said xs → given ys ≡ said ys → given (xs ++ ys) ≡ said (xs ++ ys)
joined xs ys h k = given-append xs ys ∙ ap₂ (λ (a b : List Shown). a ++ b) h k ∙ sym (said-append xs ys)
