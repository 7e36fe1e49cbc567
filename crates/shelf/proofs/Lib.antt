-- The proofs of the three demands, each module after those that it uses.
-- what calls' numbers say of the memory, and its words
pub mod WithLaws
pub mod SumsLaws
pub mod WrittenLaws
pub mod CallKinds
pub mod ShelfPlaces
pub mod ShelfSizes
pub mod PublishedWords
pub mod MemoryPlaces
-- demand 1: the table's conditions are those of the places; set up; the theorem
pub mod GuardsTable
pub mod SetUpSays
pub mod Guards
-- demand 2: what each call leaves, and the theorem
pub mod PublishedCounts
pub mod PublishedMarks
pub mod PublishedStore
pub mod PublishedLeaves
pub mod PublishedCalls
pub mod PublishedBack
pub mod PublishedDrop
pub mod PublishedPin
pub mod Published
-- the relation between memory and ledger, its laws, and laws of what the ledger is made of
pub mod Kept
pub mod KeptLaws
pub mod HighestLaws
-- a refused call, an accepted one, and one that changes nothing
pub mod Refused
pub mod Accepted
pub mod Unchanged
-- the tests of a buffer number, of a page's name and of its block
pub mod BufferPlaces
pub mod NamePage
pub mod PagePlaces
-- log inserted and log flushed, read, peek
pub mod StepLog
pub mod StepRead
pub mod StepPeek
-- unpin and write: one buffer's word and page change
pub mod TurnKept
pub mod StepUnpin
pub mod StepGive
pub mod WriteKept
pub mod StepWrite
-- flush and checkpoint: pages are written back
pub mod BackKept
pub mod StepFlush
pub mod BackUpTo
pub mod StepCheckpoint
-- extend and drop
pub mod ExtendKept
pub mod StepExtend
pub mod FilePages
pub mod DropKept
pub mod StepDrop
-- pin: its tests; then held, from the free list, and the victim of a sweep
pub mod PinnedPages
pub mod PinPlaces
pub mod LoadKept
pub mod PinAccepted
pub mod PinHit
pub mod PinFree
pub mod SweptKept
pub mod VictimBack
pub mod ReleaseKept
pub mod PinVictim
pub mod StepPin
-- demand 3: an accepted set up, calls over lent memory, and the theorem
pub mod FirstBad
pub mod Start
pub mod Lift
pub mod Demand
-- isolation, of every pool that meets it
pub mod Isolation
-- the calls of the theorem are the exports' calls
pub mod Made
-- one pool is left: lists by their places, books alike, two ends of one call, of set up and of a list
pub mod OneLists
pub mod OneMarks
pub mod OneAnswer
pub mod OneLent
pub mod OnePool
-- the numbers of what the statement and the pool both use
pub mod Numbers
pub mod HeaderSum
-- the statement as a test, and the wrong pools that it shuts out
pub mod TestLaws
pub mod JudgePublishedLaws
pub mod JudgeLaws
pub mod Computes
pub mod Trials
pub mod ShutCaps
pub mod ShutHolders
pub mod ShutOut
