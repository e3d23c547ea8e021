pub mod Kept
pub mod Cutting
pub mod Choosing
pub mod Turning
pub mod SameParts
pub mod NearParts
pub mod PartFacts
