-- Where no line has faults, each is read.
use Rattle.std.proofs.Common.{◌≡◌, ◌+◌, ℕ, List, [], ◌∷◌, Bool, true, false, Result, IsOk, arith, refl, subst}
use Rattle.std.specs.Prelude.{⊤}
use Rattle.line_engine.specs.Lines.{clip}
use Rattle.line_engine.specs.Runs.{TakesAll, refusals}
use Rattle.rbac_text.specs.declared.refusal.LineRefusal.{LineRefusal}
use Rattle.rbac_lint.specs.Clean.{LintsBy, AreRead}

no_faults : (b : Bool) (others refused : ℕ) → refused ≡ refusals b + others → refused ≡ 0 → (b ≡ false) × (others ≡ 0)
no_faults true others refused e z = absurd (omega arith)
no_faults false others refused e z = (refl, omega arith)

pub all_read : {T : Type 0} (read : List ℕ → Result T LineRefusal) → ((line : List ℕ) → read (clip line) ≡ read line)
    → (number : ℕ) (old new : ⊤) (these : List (List ℕ)) (text : List ℕ) (refused : ℕ) → TakesAll (LintsBy read) number old these text refused new → refused ≡ 0 → AreRead read these
all_read read kept number old new [] text refused takes z = tt
all_read read kept number old new (line ∷ rest) text refused (mid, own, is_refused, later, others, takes, more, texts, counted) z =
    let none = no_faults is_refused others refused counted z in
    (subst IsOk (kept line) (takes none.0), all_read read kept (number + 1) mid new rest later others more none.1)
