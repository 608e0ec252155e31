pub mod AccessPolicy
pub mod Responses
pub mod Token
pub mod Verdicts
pub mod Connections
