pub mod DependencyLemmas
