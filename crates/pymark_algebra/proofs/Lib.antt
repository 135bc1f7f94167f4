pub mod ClauseLemmas
pub mod ExtraLemmas
pub mod PlatformLemmas
pub mod PythonLemmas
pub mod QuestionLemmas
pub mod ValueLemmas
