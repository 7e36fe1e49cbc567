pub mod WordLaws
pub mod PositionLaws
pub mod ChecksumLaws
pub mod SealLaws
pub mod RowsLaws
pub mod PlaceLaws
pub mod SeekLaws
