mod Listing
mod Listed
mod Walks
pub mod PairLists
pub mod PairChanges
pub mod PairRemovals
pub mod PairCalls
pub mod PairSeconds
