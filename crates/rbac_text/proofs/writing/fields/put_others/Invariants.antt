use Rattle.std.proofs.Common.{◌≡◌, ◌++◌, codes, take, IsTrue}
use Rattle.std.specs.List.{flat_map, list_all}
use Rattle.rbac_terms.specs.Name.{is_name}
use Rattle.rbac_text.specs.Pieces.{in_quotes}
use Rattle.rbac_text.proofs.writing.fields.put_others.Given as goal

-- the names so far, each behind a comma
abbrev pub invariant-loop-name : goal.invariant-loop-name
invariant-loop-name l =
    (l.text.items ≡ l.fn.text.items ++ flat_map (λ name. codes "," ++ in_quotes name) (take l.name-index l.others)) × IsTrue (list_all is_name (take l.name-index l.others))
