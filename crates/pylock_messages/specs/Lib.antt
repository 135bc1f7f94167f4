pub mod Diagnostic
