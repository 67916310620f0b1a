mod NoEffect
mod ExplainingLemmas
