-- The definitions that contracts cite.
pub mod Points
pub mod Inks
-- Lemmas, proved: by them the impls prove the law of kinds. They stand here since an impl can cite nothing of proofs/.
pub mod Orders
pub mod Covering
pub mod PointRules
pub mod InkRules
