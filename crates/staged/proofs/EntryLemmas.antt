-- What is found after a change at one key.
use Rattle.std.proofs.Common.{◌≡◌, Bool, true, false, cond, List, Option, None, Some, refl}
use Rattle.std.specs.declared.cmp.Ordering.{Ordering}
use Rattle.std.specs.Option.{option_map, option_map_or, option_or}
use Rattle.std.specs.Ordering.{eq_by_cmp}
use Rattle.std.specs.FinMap.Entries.{find, put, find-put}
use Rattle.std.specs.Cmp.{IsTotalOrder}
use Rattle.sorted_keys.specs.Keys.{updated}
use Rattle.staged.specs.Entries.{with_entry}

same_either_way : {A : Type 0} (b : Bool) (x : A) → x ≡ cond b x x
same_either_way true x = refl
same_either_way false x = refl

module _ {K V : Type 0} (R : K → K → Ordering) where
  pub find-with_entry : IsTotalOrder R → (q k : K) (value : Option V) (es : List (K × V)) → find R q (with_entry R k value es) ≡ cond (eq_by_cmp R q k) (option_or value (find R q es)) (find R q es)
  find-with_entry o q k None es = same_either_way (eq_by_cmp R q k) (find R q es)
  find-with_entry o q k (Some v) es = find-put R o q k v es

  -- a value that is changed where it stands
  mapped : (f : V → V) (g : V → List (K × V)) (found : Option V) (es : List (K × V)) → option_map_or (λ v. g (f v)) found es ≡ option_map_or g (option_map f found) es
  mapped f g None es = refl
  mapped f g (Some v) es = refl

  pub updated_is : (k : K) (f : V → V) (es : List (K × V)) → updated R k f es ≡ with_entry R k (option_map f (find R k es)) es
  updated_is k f es = mapped f (λ v. put R k v es) (find R k es) es
