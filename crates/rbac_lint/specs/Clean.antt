-- Lines in which nothing was found.
use Rattle.std.specs.Prelude.{◌≡◌, ⊤, ℕ, List, Bool, false, Result, IsOk}
use Rattle.std.specs.List.{AllByRecursion as Each}
use Rattle.rbac_text.specs.declared.refusal.LineRefusal.{LineRefusal}

-- where no fault of a line is told, the line is read
abbrev pub LintsBy : {T : Type 0} → (List ℕ → Result T LineRefusal) → ⊤ → ℕ → List ℕ → List ℕ → Bool → ⊤ → Type 0
LintsBy read old number line text has_faults new = has_faults ≡ false → IsOk (read line)

-- each of the lines is read
abbrev pub AreRead : {T : Type 0} → (List ℕ → Result T LineRefusal) → List (List ℕ) → Type 0
AreRead read these = Each (λ line. IsOk (read line)) these
