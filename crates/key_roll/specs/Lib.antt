pub mod Stages
pub mod Roles
