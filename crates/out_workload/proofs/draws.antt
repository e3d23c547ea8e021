pub mod TextParts
