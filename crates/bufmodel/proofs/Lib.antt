-- Laws of the pool's definitions, each module after those that it uses.
-- parts of a memory: places and outcomes, positions, rows, words
pub mod OutcomeLaws
pub mod PositionLaws
pub mod ChecksumLaws
pub mod WordsLaws
pub mod RowsLaws
pub mod WordLaws
pub mod CountLaws
-- memory that passes the places 1 and 2, and which buffer has a page there
pub mod SizesLaws
pub mod BooksLaws
pub mod GoodLaws
pub mod RefusalLaws
pub mod AnswerLaws
pub mod AnsweredLaws
pub mod HeldLaws
-- changes that keep it so
pub mod LikeLaws
pub mod CleanLaws
pub mod FreeListLaws
pub mod LoadLaws
pub mod ReleaseLaws
pub mod FilesLaws
pub mod DropLaws
pub mod FreshLaws
pub mod RecountLaws
-- counts beside the other parts
pub mod WithLaws
-- what no call changes
pub mod FixedLaws
-- the sweep
pub mod LessUsedLaws
pub mod SweepLaws
pub mod SweepEnds
-- the memory as it is lent
pub mod LentLaws
pub mod CalledLaws
