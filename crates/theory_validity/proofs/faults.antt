pub mod CertificateFaults
