pub mod Next
pub mod Verdict
pub mod Effects
pub mod Step
pub mod Look
pub mod Edit
