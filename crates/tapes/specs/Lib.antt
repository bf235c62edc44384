pub mod Tape
pub mod Row
pub mod Model
pub mod Edits
pub mod Runs
