-- Wrong pools: each does one thing wrong, which a set up or a short list of calls shows. The clause is the first that fails.
use Rattle.std.specs.Prelude.{List, ◌++◌}
use Rattle.shelf.specs.Trial.{Wrong}
use Rattle.shelf.specs.WrongCalls.{wrong_refusals, wrong_flushes, wrong_backs, wrong_answers, wrong_pages, wrong_files}
use Rattle.shelf.specs.WrongBooks.{wrong_buffers, wrong_counts}
use Rattle.shelf.specs.WrongCaps.{wrong_rises, wrong_caps}
use Rattle.shelf.specs.WrongHolders.{wrong_holders, wrong_owners, wrong_given, wrong_private}
use Rattle.shelf.specs.WrongSums.{wrong_sums, wrong_bytes, wrong_verified, wrong_refused}
use Rattle.shelf.specs.WrongLent.{wrong_lent, wrong_set_ups}

unfoldable pub wrong_pools : List Wrong
wrong_pools =
    wrong_refusals
    ++ (wrong_flushes ++ (wrong_backs ++ (wrong_answers ++ (wrong_pages ++ (wrong_files ++ (wrong_buffers ++ (wrong_counts ++ (wrong_sums
    ++ (wrong_bytes ++ (wrong_verified ++ (wrong_refused ++ (wrong_lent ++ (wrong_set_ups ++ (wrong_rises ++ (wrong_caps
    ++ (wrong_holders ++ (wrong_owners ++ (wrong_given ++ wrong_private))))))))))))))))))
