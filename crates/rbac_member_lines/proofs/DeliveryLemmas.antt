-- The record that a delivery adds is told.
use Rattle.std.proofs.Common.{ℕ, suc, ◌≡◌, ◌+◌, List, [], ◌∷◌, ◌++◌, length, get_or, refl, ap, ◌∙◌, Option, Some, None, Result, Ok, Err}
use Rattle.std.specs.Result.{OnOk}
use Rattle.rbac_words.specs.World.{place_of}
use Rattle.rbac_words.specs.Keeping.Member.{Member, node_of, delivery, deliver_due}
use Rattle.rbac_words.specs.declared.message.Submission.{Submission}
use Rattle.rbac_words.specs.declared.record.Record.{Record}
use Rattle.rbac_member_lines.specs.Text.{delivered_line}
use Rattle.rbac_member_lines.specs.Output.{delivered}

-- what stands behind a list is at its length
last : {X : Type 0} (xs : List X) (y d : X) → get_or (xs ++ y ∷ []) (length xs) d ≡ y
last [] y d = refl
last (x ∷ xs) y d = last xs y d

one : {X : Type 0} (x y : X) → Some x ≡ Some y → x ≡ y
one x y e = cc

pub delivered_is : (line : ℕ) (v u : Member) (o : Option Submission) (place : ℕ) (r : Record) → Some place ≡ place_of (node_of v) o → u ≡ deliver_due v o → r ≡ get_or u.history place r
    → delivered_line line (place + 1) r ≡ delivered line v o
delivered_is line v u None place r e f g = let no : ⊥ = cc in absurd no
delivered_is line v u (Some x) place r e f g =
    let at : place ≡ length v.history = one place (length v.history) e in
    let same : r ≡ delivery v x = g ∙ ap (λ (m : Member). get_or m.history place r) f ∙ ap (λ n. get_or (v.history ++ delivery v x ∷ []) n r) at ∙ last v.history (delivery v x) r in
    ap (λ n. delivered_line line (n + 1) r) at ∙ ap (delivered_line line (length v.history + 1)) same

-- what is so where a text was put is so where what is equal was
pub then : {E : Type 0} (result : Result (Unit {0}) E) (xs ys zs : List ℕ) → OnOk result (xs ≡ ys) → ys ≡ zs → OnOk result (xs ≡ zs)
then (Ok done) xs ys zs e f = e ∙ f
then (Err refusal) xs ys zs e f = tt
