-- What changes make, one after the other.
use Rattle.std.specs.Prelude.{List, [], ◌∷◌}

abbrev pub made_all : {Change Content : Type 0} → (Change → Content → Content) → List Change → Content → Content
made_all made [] content = content
made_all made (change ∷ changes) content = made_all made changes (made change content)
