-- The steps of a plan as a list.
use Rattle.std.specs.Prelude.{List, [], ◌∷◌}
use Rattle.staged.specs.declared.steps.Steps.{Steps}
use Rattle.staged.specs.declared.steps.Steps.TheVariants.{Empty, One, Several}

abbrev pub all_steps : {T : Type 0} → Steps T → List T
all_steps Empty = []
all_steps (One step) = step ∷ []
all_steps (Several steps) = steps.items
