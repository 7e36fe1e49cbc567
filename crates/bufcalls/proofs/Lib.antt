pub mod BufferLaws
pub mod FlushLaws
pub mod CheckpointLaws
pub mod PeekLaws
pub mod FileLaws
pub mod GiveLaws
