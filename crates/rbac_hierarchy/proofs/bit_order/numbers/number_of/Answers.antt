use Rattle.rbac_hierarchy.proofs.NumberLemmas.{number_found, number_missing}
use Rattle.rbac_hierarchy.proofs.bit_order.numbers.number_of.Goals as goal

pub returns-clause-numbered : goal.returns-clause-numbered
returns-clause-numbered c = number_found c.args.role.now c.args.numbers.now.keys c.get_index_of.result c.get_index_of.ensures.index

pub returns-clause-absent : goal.returns-clause-absent
returns-clause-absent c = number_missing c.args.role.now c.args.numbers.now.keys c.get_index_of.result c.get_index_of.ensures.found
