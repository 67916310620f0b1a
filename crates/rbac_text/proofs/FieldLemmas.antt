-- The keys of an object.
use Rattle.std.proofs.Common.{◌≡◌, ℕ, List, [], ◌∷◌, map, refl, Bor}
use Rattle.std.specs.List.{list_any, list_all}
use Rattle.std.specs.Str.{bytes_eq}
use Rattle.rbac_text.specs.Keys.{is_one_of}
use Rattle.rbac_text.proofs.ReadingLemmas.{list_any-map}

-- whether all these are among the known ones
pub has_only : (known : List (Bor (List ℕ))) (keys : List (List ℕ)) → list_all (λ key. list_any (λ one. bytes_eq key one.now) known) keys ≡ list_all (is_one_of (map (λ one. one.now) known)) keys
has_only known [] = refl
has_only known (key ∷ keys) = rw (list_any-map (bytes_eq key) (λ one. one.now) known, has_only known keys)
