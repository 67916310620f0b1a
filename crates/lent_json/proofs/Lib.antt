mod Found
mod InRange
mod KeyLemmas
mod WholeTexts
