pub mod Claim
pub mod PairClaim
