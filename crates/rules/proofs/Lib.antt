pub mod Within
mod Chains
