-- What a refusal to set a cell says.
use Rattle.rbac_board.specs.declared.refusal.SetRefusal.{SetRefusal}
use Rattle.rbac_board.specs.declared.refusal.SetRefusal.TheVariants.{RowFull, Taken, NoMemory}

-- the value that was not set
abbrev pub value_back : {T : Type 0} → SetRefusal T → T
value_back (RowFull value) = value.value
value_back (Taken value) = value.value
value_back (NoMemory value) = value.value

-- the row has no such place
abbrev pub IsRowFull : {T : Type 0} → SetRefusal T → Type 0
IsRowFull (RowFull value) = Unit {0}
IsRowFull (Taken value) = ⊥
IsRowFull (NoMemory value) = ⊥
