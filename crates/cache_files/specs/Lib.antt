pub mod Results
pub mod Manifests
