mod DeskLemmas
mod ConfirmLemmas
