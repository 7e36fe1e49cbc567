pub mod BytesLaws
pub mod FnvLaws
