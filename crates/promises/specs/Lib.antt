pub mod Buffer
pub mod Writes
pub mod Quiet
pub mod Granules
pub mod Edits
