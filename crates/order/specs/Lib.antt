pub mod Monomials
pub mod Orders
pub mod Listed
pub mod DegreeLaws
pub mod MonomialsLemmas
pub mod Verdicts
pub mod LexLaws
pub mod Carried
