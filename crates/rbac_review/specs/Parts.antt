-- The parts of a policy as its state.
use Rattle.rbac_terms.specs.State.{State}
use Rattle.rbac_review.specs.declared.parts.Parts.{Parts}

abbrev pub state_of : Parts → State
state_of p = record {
  users = p.sets.now.content.users;
  roles = p.hierarchy.now.content.roles;
  assigned = p.sets.now.content.assigned;
  granted = p.sets.now.content.granted;
  declared = p.hierarchy.now.content.declared;
  static_sets = p.static_sets.now.content;
  dynamic_sets = p.dynamic_sets.now.content;
  sessions = p.sessions.now.content;
  vocabulary = p.vocabulary.now;
}
