pub mod Chains
pub mod Encoding
pub mod Reports
