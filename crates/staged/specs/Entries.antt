-- The entries of a map after a change at one key.
use Rattle.std.specs.Prelude.{List, Option}
use Rattle.std.specs.declared.cmp.Ordering.{Ordering}
use Rattle.std.specs.Option.{option_map_or}
use Rattle.std.specs.FinMap.Entries.{put}
use Rattle.staged.specs.Made.{made_all}

-- the entries with a value at a key, where there is a new one
abbrev pub with_entry : {K V : Type 0} → (K → K → Ordering) → K → Option V → List (K × V) → List (K × V)
with_entry R k value es = option_map_or (λ v. put R k v es) value es

-- the entries with several values, each at its key, one after the other
abbrev pub after_entries : {K V : Type 0} → (K → K → Ordering) → List (K × Option V) → List (K × V) → List (K × V)
after_entries R steps es = made_all (λ step. with_entry R step.0 step.1) steps es
