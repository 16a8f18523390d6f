pub mod Words
pub mod Claim
pub mod Expected
pub mod Verdict
pub mod Answers
