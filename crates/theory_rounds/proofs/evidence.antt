pub mod EvidenceWords
