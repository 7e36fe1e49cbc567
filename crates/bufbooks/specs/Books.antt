-- The check of the books as the code makes it, but for the private counts.
use Rattle.std.specs.Prelude.{Bool, ◌&&◌, leb, ltb}
use Rattle.laws.specs.Every.{all}
use Rattle.bufmodel.specs.Word.{sound_cap}
use Rattle.bufmodel.specs.Memory.{Memory, buffers, cap_of}
use Rattle.bufbooks.specs.Buffers.{buffer_test}
use Rattle.bufbooks.specs.Lists.{lists_test}

-- the control record, the words and the lists, each buffer's page and name
unfoldable pub books_test : Memory → Bool
books_test m =
    sound_cap (cap_of m) && ltb m.control.hand (buffers m) && leb m.control.flushed m.control.inserted
    && lists_test (cap_of m) m.control.top m.states m.free m.heads m.chain
    && all (buffers m) (buffer_test m)
