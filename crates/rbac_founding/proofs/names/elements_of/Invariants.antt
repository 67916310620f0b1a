use Rattle.std.proofs.Common.{◌≡◌, [], map, drop}
use Rattle.rbac_founding.proofs.FoundingLemmas.{read_from}
use Rattle.rbac_founding.proofs.names.elements_of.Given as goal

-- what is left to read after those that are read
abbrev pub invariant-loop-value : goal.invariant-loop-value
invariant-loop-value g l =
    read_from g.E.Element.is_formed [] (map g.E.Element.shown l.values)
    ≡ read_from g.E.Element.is_formed l.elements.items (map g.E.Element.shown (drop l.value-index l.values))
