-- What other crates cite.
pub use Rattle.source_items.proofs.division.Once.{one_outcome}
pub use Rattle.source_items.proofs.division.Written.{last_spelled, last_matches}
