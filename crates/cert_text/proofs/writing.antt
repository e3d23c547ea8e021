pub mod WrittenCertificates
