pub mod Lists
pub mod Puts
pub mod StepLaw
pub mod RayLaw
pub mod ShownLaw
pub mod CertificateLaw
pub mod StepFaults
pub mod LeastOfBelow
pub mod Raises
mod RayExample
pub mod Shown
