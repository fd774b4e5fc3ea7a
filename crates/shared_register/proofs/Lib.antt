pub mod RegisterSteps
pub mod Chains
