pub mod PointReads
