pub mod Lists
pub mod Rules
pub mod Verdict
pub mod Policy
pub mod Powers
pub mod Flows
pub mod FlowLaws
