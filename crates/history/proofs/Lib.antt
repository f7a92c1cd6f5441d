pub mod Calling
pub mod Chains
pub mod Ran
pub mod Reporting
pub mod CallBytes
pub mod AnswerBytes
