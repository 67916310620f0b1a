use Rattle.std.proofs.Common.{◌≡◌, ℕ, Bool, List, sym, ap, ◌∙◌}
use Rattle.std.specs.List.{list_any, list_all}
use Rattle.std.specs.Str.{bytes_eq}
use Rattle.json.specs.Value.{value_view}
use Rattle.json.proofs.Trees.{view-Object}
use Rattle.lent_json.specs.Data.{data_of, keys_of, members_in}
use Rattle.lent_json.proofs.KeyLemmas.{all_keys_of}
use Rattle.lent_json.proofs.looking.has_only.Goals as goal

pub returns-in-Object : goal.returns-in-Object
returns-in-Object c =
    let among : List ℕ → Bool = λ key. list_any (λ known. bytes_eq key known.now) c.args.keys.now in
    c.are_among.ensures
    ∙ ap (list_all (λ m. among m.0.now)) c.deref.ensures.value
    ∙ sym (all_keys_of among c.in-Object.members.items)
    ∙ ap (λ j. list_all among (keys_of (members_in (data_of j)))) (sym (view-Object c.in-Object.members))
    ∙ ap (λ v. list_all among (keys_of (members_in (data_of (value_view v))))) (sym c.in-Object.is)
