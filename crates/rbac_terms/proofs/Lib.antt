pub mod NameLemmas
pub mod PrefixLemmas
pub mod VocabularyLemmas
