-- Reading values of which each has to be of one kind, and keys that have to be known.
use Rattle.std.proofs.Common.{◌≡◌, ◌&&◌, ◌||◌, List, [], ◌∷◌, map, Bool, true, false, Option, None, Some, is_some, option_map, option_and_then, unwrap_or, if◌then◌else◌, refl, ap}
use Rattle.std.specs.List.{list_any}
use Rattle.std.specs.Option.{ok_or}
use Rattle.rbac_text.specs.Steps.{seen}

-- the view of a value that has to be there
pub seen-ok_or : {V T E : Type 0} (view_of : V → T) (found : Option V) (refusal : E) → seen view_of (ok_or found refusal) ≡ ok_or (option_map view_of found) refusal
seen-ok_or view_of None refusal = refl
seen-ok_or view_of (Some value) refusal = refl

-- a view of what may be there is there where that is
pub is_some-map : {V T : Type 0} (view_of : V → T) (found : Option V) → is_some found ≡ is_some (option_map view_of found)
is_some-map view_of None = refl
is_some-map view_of (Some value) = refl

-- a test of each image
pub list_any-map : {X Y : Type 0} (p : X → Bool) (f : Y → X) (ys : List Y) → list_any p (map f ys) ≡ list_any (λ y. p (f y)) ys
list_any-map p f [] = refl
list_any-map p f (y ∷ ys) = ap (λ b. p (f y) || b) (list_any-map p f ys)

-- one more element of an array of which each has to be of one kind
pub of_kind_more : {T : Type 0} (found : Option T) (all : Bool) (others : List T) (instead : T)
    → option_and_then (λ first. option_map (λ later. first ∷ later) (if all then Some others else None)) found ≡ (if is_some found && all then Some (unwrap_or found instead ∷ others) else None)
of_kind_more None all others instead = refl
of_kind_more (Some first) true others instead = refl
of_kind_more (Some first) false others instead = refl
