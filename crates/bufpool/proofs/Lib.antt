pub mod ExportLaws
pub mod CallLaws
pub mod ChecksumLaws
