pub mod ByPolicy
