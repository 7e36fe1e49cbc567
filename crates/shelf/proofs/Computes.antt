-- All that the trials of pools compute with, each definition after those that it uses.
unfoldable pub computes : Unit {0}
unfolding Rattle.laws.specs.Every.all Rattle.laws.specs.Every.any Rattle.laws.specs.Sum.sum Rattle.laws.specs.Sum.count
    Rattle.laws.specs.Times.times Rattle.laws.specs.First.first Rattle.laws.specs.Block.block Rattle.laws.specs.Block.put_block
    Rattle.bufhash.specs.Fnv.fnv_step Rattle.buftag.specs.Name.hash_of Rattle.buftag.specs.Name.bucket_of Rattle.buftag.specs.Link.ends
    Rattle.buftag.specs.Link.members Rattle.buftag.specs.Link.holds_test Rattle.buftag.specs.Lookup.held Rattle.buftag.specs.Chain.idle
    Rattle.buftag.specs.Chain.twins Rattle.buftag.specs.Chain.distinct_test Rattle.buftag.specs.Chain.each_test
    Rattle.buftag.specs.Chain.chains_test Rattle.buftag.specs.Chain.enter_heads Rattle.buftag.specs.Chain.enter_chain
    Rattle.buftag.specs.Chain.unchain_heads Rattle.buftag.specs.Chain.unchain_chain Rattle.bufmodel.specs.Word.pins
    Rattle.bufmodel.specs.Word.usage Rattle.bufmodel.specs.Word.flags Rattle.bufmodel.specs.Word.pack Rattle.bufmodel.specs.Word.bit
    Rattle.bufmodel.specs.Word.dirty Rattle.bufmodel.specs.Word.valid Rattle.bufmodel.specs.Word.tag_valid
    Rattle.bufmodel.specs.Word.just_dirtied Rattle.bufmodel.specs.Word.permanent Rattle.bufmodel.specs.Word.no_other
    Rattle.bufmodel.specs.Word.empty Rattle.bufmodel.specs.Word.sound_cap Rattle.bufmodel.specs.Word.sound_flags
    Rattle.bufmodel.specs.Word.sound_word Rattle.bufmodel.specs.Word.pinned Rattle.bufmodel.specs.Word.pin_more
    Rattle.bufmodel.specs.Word.pin_less Rattle.bufmodel.specs.Word.use_less Rattle.bufmodel.specs.Word.make_dirty
    Rattle.bufmodel.specs.Word.make_clean Rattle.bufmodel.specs.Word.loaded Rattle.bufmodel.specs.Position.position
    Rattle.bufmodel.specs.Position.position_bytes Rattle.bufmodel.specs.Position.paste Rattle.bufmodel.specs.Position.written
    Rattle.bufmodel.specs.Checksum.bare_from Rattle.bufmodel.specs.Checksum.sum_in Rattle.bufmodel.specs.Checksum.mix_sum
    Rattle.bufmodel.specs.Checksum.words_in Rattle.bufmodel.specs.Checksum.sum_to Rattle.bufmodel.specs.Checksum.sum_of
    Rattle.bufmodel.specs.Checksum.fold_to Rattle.bufmodel.specs.Checksum.checksum Rattle.bufmodel.specs.Checksum.all_zero
    Rattle.bufmodel.specs.Checksum.sealed Rattle.bufmodel.specs.Checksum.passes Rattle.bufmodel.specs.Rows.files
    Rattle.bufmodel.specs.Rows.file_at Rattle.bufmodel.specs.Rows.blocks_at Rattle.bufmodel.specs.Rows.capacity_at
    Rattle.bufmodel.specs.Rows.set_blocks Rattle.bufmodel.specs.Rows.row_of Rattle.bufmodel.specs.Rows.start_of
    Rattle.bufmodel.specs.Rows.store_blocks Rattle.bufmodel.specs.Rows.place_in Rattle.bufmodel.specs.Rows.place_of
    Rattle.bufmodel.specs.Counts.count_at Rattle.bufmodel.specs.Counts.set_count Rattle.bufmodel.specs.Counts.has_pin
    Rattle.bufmodel.specs.Counts.holders_of Rattle.bufmodel.specs.Sizes.permitted Rattle.bufmodel.specs.Sizes.new_file
    Rattle.bufmodel.specs.Sizes.sound_row Rattle.bufmodel.specs.Sizes.sound_rows Rattle.bufmodel.specs.Sizes.sized_for
    Rattle.bufmodel.specs.Sizes.sized Rattle.bufmodel.specs.Books.empty_at Rattle.bufmodel.specs.Books.sound_words
    Rattle.bufmodel.specs.Books.sound_blanks Rattle.bufmodel.specs.Books.sound_free Rattle.bufmodel.specs.Books.sound_names
    Rattle.bufmodel.specs.Books.sound_pages Rattle.bufmodel.specs.Books.sound_counts Rattle.bufmodel.specs.Books.sound
    Rattle.bufmodel.specs.Sweep.next Rattle.bufmodel.specs.Sweep.sweep Rattle.bufmodel.specs.Sweep.sweep_all
    Rattle.bufmodel.specs.Moves.put_at Rattle.bufmodel.specs.Moves.write_back Rattle.bufmodel.specs.Moves.write_up_to
    Rattle.bufmodel.specs.Moves.release Rattle.bufmodel.specs.Moves.of_file Rattle.bufmodel.specs.Moves.release_if
    Rattle.bufmodel.specs.Moves.release_up_to Rattle.bufmodel.specs.Moves.load_at Rattle.bufmodel.specs.Moves.load_top
    Rattle.bufmodel.specs.Moves.load Rattle.bufmodel.specs.Outcome.refusal_of Rattle.bufmodel.specs.Outcome.checked
    Rattle.bufmodel.specs.Outcome.outcome Rattle.bufmodel.specs.Pin.holder_place Rattle.bufmodel.specs.Pin.no_row
    Rattle.bufmodel.specs.Pin.no_block Rattle.bufmodel.specs.Pin.sum_differs Rattle.bufmodel.specs.Pin.count_full
    Rattle.bufmodel.specs.Pin.no_victim Rattle.bufmodel.specs.Pin.held_in Rattle.bufmodel.specs.Pin.name_places
    Rattle.bufmodel.specs.Pin.page_places Rattle.bufmodel.specs.Pin.pin_places Rattle.bufmodel.specs.Pin.held_word
    Rattle.bufmodel.specs.Pin.pin_held Rattle.bufmodel.specs.Pin.pin_free Rattle.bufmodel.specs.Pin.pin_victim
    Rattle.bufmodel.specs.Pin.pin_swept Rattle.bufmodel.specs.Pin.pin_new Rattle.bufmodel.specs.Pin.pin_to Rattle.bufmodel.specs.Pin.pin
    Rattle.bufmodel.specs.Calls.free_links Rattle.bufmodel.specs.Calls.fresh Rattle.bufmodel.specs.Calls.set_up
    Rattle.bufmodel.specs.Calls.buffer_places Rattle.bufmodel.specs.Calls.less_word Rattle.bufmodel.specs.Calls.unpin_at
    Rattle.bufmodel.specs.Calls.unpin Rattle.bufmodel.specs.Calls.read Rattle.bufmodel.specs.Calls.write_places
    Rattle.bufmodel.specs.Calls.write_to Rattle.bufmodel.specs.Calls.write Rattle.bufmodel.specs.Calls.flush
    Rattle.bufmodel.specs.Calls.given_word Rattle.bufmodel.specs.Calls.give_at Rattle.bufmodel.specs.Calls.give_up_to
    Rattle.bufmodel.specs.Calls.give_back Rattle.bufmodel.specs.Calls.checkpoint Rattle.bufmodel.specs.Calls.offset_of
    Rattle.bufmodel.specs.Calls.part_of Rattle.bufmodel.specs.Calls.part_in Rattle.bufmodel.specs.Calls.part_at
    Rattle.bufmodel.specs.Calls.part Rattle.bufmodel.specs.Calls.peek Rattle.bufmodel.specs.Calls.file_full
    Rattle.bufmodel.specs.Calls.extend_at Rattle.bufmodel.specs.Calls.extend Rattle.bufmodel.specs.Calls.file_pinned
    Rattle.bufmodel.specs.Calls.drop_at Rattle.bufmodel.specs.Calls.drop_file Rattle.bufmodel.specs.Calls.log_inserted
    Rattle.bufmodel.specs.Calls.log_flushed Rattle.bufmodel.specs.Step.step Rattle.bufmodel.specs.Lent.top_of
    Rattle.bufmodel.specs.Lent.top_word Rattle.bufmodel.specs.Lent.control_of Rattle.bufmodel.specs.Lent.words_of
    Rattle.bufmodel.specs.Lent.opened Rattle.bufmodel.specs.Lent.closed Rattle.bufmodel.specs.Lent.ended Rattle.bufmodel.specs.Lent.called
    Rattle.shelf.specs.Sums.blank Rattle.shelf.specs.Sums.fails Rattle.shelf.specs.Sums.goes_out
    Rattle.shelf.specs.Shelf.file_with Rattle.shelf.specs.Shelf.bad_in Rattle.shelf.specs.Shelf.in_row
    Rattle.shelf.specs.Shelf.first_shelf Rattle.shelf.specs.Shelf.first_of Rattle.shelf.specs.Shelf.no_file
    Rattle.shelf.specs.Shelf.pins_in Rattle.shelf.specs.Shelf.has_pins Rattle.shelf.specs.Shelf.pinned_pages
    Rattle.shelf.specs.Shelf.no_page Rattle.shelf.specs.Shelf.is_bad Rattle.shelf.specs.Shelf.count_full
    Rattle.shelf.specs.Shelf.no_buffer Rattle.shelf.specs.Shelf.no_pin Rattle.shelf.specs.Shelf.number_places
    Rattle.shelf.specs.Shelf.too_low Rattle.shelf.specs.Shelf.no_room Rattle.shelf.specs.Shelf.file_pinned
    Rattle.shelf.specs.Shelf.page_first Rattle.shelf.specs.Shelf.above Rattle.shelf.specs.Shelf.places
    Rattle.shelf.specs.Shelf.refuses Rattle.shelf.specs.Shelf.count_with Rattle.shelf.specs.Shelf.pinned_at
    Rattle.shelf.specs.Shelf.still_held Rattle.shelf.specs.Shelf.unpinned_at Rattle.shelf.specs.Shelf.given_back
    Rattle.shelf.specs.Shelf.written_page Rattle.shelf.specs.Shelf.written_at Rattle.shelf.specs.Shelf.next_block
    Rattle.shelf.specs.Shelf.extended_at Rattle.shelf.specs.Shelf.dropped_at Rattle.shelf.specs.Shelf.shelf_after
    Rattle.shelf.specs.Ledger.first_ledger Rattle.shelf.specs.Ledger.is_place Rattle.shelf.specs.Ledger.buffer_in
    Rattle.shelf.specs.Ledger.wrote_in Rattle.shelf.specs.Ledger.back_by Rattle.shelf.specs.Ledger.new_at
    Rattle.shelf.specs.Ledger.new_by Rattle.shelf.specs.Ledger.put_by Rattle.shelf.specs.Ledger.dirtied_by
    Rattle.shelf.specs.Ledger.dirty_after Rattle.shelf.specs.Ledger.last_after Rattle.shelf.specs.Ledger.highest
    Rattle.shelf.specs.Ledger.said_flushed Rattle.shelf.specs.Ledger.flushed_after Rattle.shelf.specs.Ledger.accepted_by
    Rattle.shelf.specs.Ledger.ledger_after Rattle.shelf.specs.Ledger.puts Rattle.shelf.specs.Published.more_pins
    Rattle.shelf.specs.Published.dirtied Rattle.shelf.specs.Published.cleaned Rattle.shelf.specs.Published.emptied
    Rattle.shelf.specs.Published.loaded_into Rattle.shelf.specs.Published.put_in Rattle.shelf.specs.Published.backed
    Rattle.shelf.specs.Published.backed_to Rattle.shelf.specs.Published.extended_by Rattle.shelf.specs.Published.filed
    Rattle.shelf.specs.Published.dropped_to Rattle.shelf.specs.Guards.block_past Rattle.shelf.specs.Guards.sum_wrong
    Rattle.shelf.specs.Guards.pins_full Rattle.shelf.specs.Guards.all_pinned Rattle.shelf.specs.Guards.row_full
    Rattle.shelf.specs.Guards.page_checks Rattle.shelf.specs.Guards.buffer_checks Rattle.shelf.specs.Guards.table
    Rattle.shelf.specs.Tests.failing Rattle.shelf.specs.Tests.same_list Rattle.shelf.specs.Tests.same_links
    Rattle.shelf.specs.Tests.same_lent Rattle.shelf.specs.Tests.start Rattle.shelf.specs.Tests.words_test
    Rattle.shelf.specs.Tests.names_test Rattle.shelf.specs.Tests.links_test Rattle.shelf.specs.Tests.chains_test
    Rattle.shelf.specs.Tests.counts_test Rattle.shelf.specs.JudgePublished.swept_marks
    Rattle.shelf.specs.JudgePublished.new_marks Rattle.shelf.specs.JudgePublished.pin_marks
    Rattle.shelf.specs.JudgePublished.marks_after Rattle.shelf.specs.JudgePublished.loaded_pages
    Rattle.shelf.specs.JudgePublished.swept_pages Rattle.shelf.specs.JudgePublished.swept_blocks
    Rattle.shelf.specs.JudgePublished.new_pages Rattle.shelf.specs.JudgePublished.new_blocks
    Rattle.shelf.specs.JudgePublished.pin_pages Rattle.shelf.specs.JudgePublished.pin_blocks
    Rattle.shelf.specs.JudgePublished.pages_after Rattle.shelf.specs.JudgePublished.blocks_after
    Rattle.shelf.specs.JudgePublished.swept_test Rattle.shelf.specs.JudgePublished.new_test
    Rattle.shelf.specs.JudgePublished.pin_test Rattle.shelf.specs.JudgePublished.peek_test
    Rattle.shelf.specs.JudgePublished.said_tests Rattle.shelf.specs.JudgePublished.clock_tests
    Rattle.shelf.specs.JudgePublished.name_tests Rattle.shelf.specs.JudgePublished.page_tests
    Rattle.shelf.specs.Judge.fresh_test Rattle.shelf.specs.Judge.set_up_tests Rattle.shelf.specs.Judge.answers_test
    Rattle.shelf.specs.Judge.pin_rule_test Rattle.shelf.specs.Judge.shows_test Rattle.shelf.specs.Judge.six_at
    Rattle.shelf.specs.Judge.six_test Rattle.shelf.specs.Judge.settled_all Rattle.shelf.specs.Judge.settled_test
    Rattle.shelf.specs.Judge.ordered_test Rattle.shelf.specs.Judge.others_test Rattle.shelf.specs.Judge.stored_test
    Rattle.shelf.specs.Judge.held_test Rattle.shelf.specs.Judge.holders_at Rattle.shelf.specs.Judge.holders_test
    Rattle.shelf.specs.Judge.sums_test Rattle.shelf.specs.Judge.agrees_tests Rattle.shelf.specs.Judge.left_tests
    Rattle.shelf.specs.Judge.judge_calls Rattle.shelf.specs.Judge.judge Rattle.shelf.specs.Trial.bench_with
    Rattle.shelf.specs.Trial.block_with Rattle.shelf.specs.Trial.by_each Rattle.shelf.specs.Trial.verdict
    Rattle.shelf.specs.Trial.every Rattle.shelf.specs.Trial.all_below Rattle.shelf.specs.Trial.all_signed
    Rattle.shelf.specs.Trial.fits_lent Rattle.shelf.specs.Trial.fits_file Rattle.shelf.specs.Trial.fits_name
    Rattle.shelf.specs.Trial.fits_call Rattle.shelf.specs.Trial.fits_calls Rattle.shelf.specs.Trial.fits
    Rattle.shelf.specs.WrongCalls.wrong_refusals Rattle.shelf.specs.WrongCalls.wrong_flushes
    Rattle.shelf.specs.WrongCalls.wrong_backs Rattle.shelf.specs.WrongCalls.wrong_answers
    Rattle.shelf.specs.WrongCalls.wrong_pages Rattle.shelf.specs.WrongCalls.wrong_files
    Rattle.shelf.specs.WrongBooks.lowers_first Rattle.shelf.specs.WrongBooks.wrong_buffers
    Rattle.shelf.specs.WrongBooks.wrong_counts Rattle.shelf.specs.WrongSums.wrong_sums
    Rattle.shelf.specs.WrongSums.wrong_bytes Rattle.shelf.specs.WrongSums.wrong_verified
    Rattle.shelf.specs.WrongSums.wrong_refused Rattle.shelf.specs.WrongLent.wrong_lent
    Rattle.shelf.specs.WrongLent.wrong_set_ups Rattle.shelf.specs.WrongCaps.wrong_rises
    Rattle.shelf.specs.WrongCaps.wrong_caps Rattle.shelf.specs.WrongHolders.unpinned_by
    Rattle.shelf.specs.WrongHolders.wrong_holders Rattle.shelf.specs.WrongHolders.wrong_owners
    Rattle.shelf.specs.WrongHolders.wrong_given Rattle.shelf.specs.WrongHolders.wrong_private
    Rattle.shelf.specs.WrongPools.wrong_pools
computes = tt
