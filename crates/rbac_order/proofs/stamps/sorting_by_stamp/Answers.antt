use Rattle.rbac_words.specs.Message.{submitted_at}
use Rattle.rbac_order.proofs.StampLemmas.{sort-moves, sort-in_order}
use Rattle.rbac_order.proofs.stamps.sorting_by_stamp.Goals as goal

pub returns : goal.returns
returns c = record { elements = sort-moves submitted_at; in_order = sort-in_order submitted_at }
