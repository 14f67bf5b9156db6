-- The definitions that contracts cite.
pub mod Directions
pub mod Edges
pub mod Segments
-- Lemmas, proved: by them the impl proves the law of kinds. They stand here since an impl can cite nothing of proofs/.
pub mod DirectionsLemmas
pub mod EdgeFacts
pub mod Images
pub mod Covers
pub mod Fitting
pub mod Positions
pub mod Placing
pub mod Stretches
pub mod SegmentRules
