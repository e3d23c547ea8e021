pub mod RaiseNumbers
pub mod RaiseStep
pub mod GrowthLaw
pub mod PassLaw
pub mod Grown
pub mod ApartLaw
