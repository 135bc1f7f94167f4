pub mod Purl
pub mod Hash
pub mod Source
pub mod CycloneDx
pub mod Spdx
pub mod Namespace
