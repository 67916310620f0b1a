-- What contracts see of the entries that the code holds, and what is read of texts that are to be names.
use Rattle.std.specs.Prelude.{ℕ, ◌&&◌, List, [], map, unwrap_or, if◌then◌else◌, Ok, Err}
use Rattle.std.specs.List.{list_all}
use Rattle.toml.specs.Data.{as_str}
use Rattle.toml.specs.View.{view}
use Rattle.toml.specs.declared.value.Value.{Value}
use Rattle.rbac_terms.specs.Name.{Name, Permission, is_name}
use Rattle.rbac_founding.specs.FoundingFile.{Reading, Entries, as_permission}
use Rattle.rbac_founding.specs.declared.values.Entries.{Entries as EntriesHeld}
use Rattle.rbac_founding.specs.declared.refusal.FoundingRefusal.TheVariants.{BadName}

-- the text that a value is
abbrev pub text_of : Value → List ℕ
text_of value = unwrap_or (as_str (view value)) []

-- the two texts that a value is
abbrev pub pair_of : Value → Permission
pair_of value = unwrap_or (as_permission (view value)) ([], [])

abbrev pub entries_view : EntriesHeld → Entries
entries_view held = record {
  members = held.members;
  clock = held.clock;
  sent_limit = held.sent_limit;
  operations = map text_of held.operations.now;
  objects = map text_of held.objects.now;
  permissions = map pair_of held.permissions.now;
  hierarchy = held.hierarchy.now;
}

-- the name that a text is
abbrev pub name_of : List ℕ → Reading Name
name_of text = if is_name text then Ok text else Err BadName

-- the names that these texts are
abbrev pub names_of : List (List ℕ) → Reading (List Name)
names_of texts = if list_all is_name texts then Ok texts else Err BadName

-- the permissions that these pairs are
abbrev pub permissions_of : List Permission → Reading (List Permission)
permissions_of pairs = if list_all (λ pair. is_name pair.0 && is_name pair.1) pairs then Ok pairs else Err BadName
