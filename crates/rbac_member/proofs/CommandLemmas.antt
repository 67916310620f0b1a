-- Whether a message has a command.
use Rattle.std.proofs.Common.{ℕ, suc, arith, true, false, not, ◌≡◌, ◌==◌, List, [], ◌∷◌, length, refl, sym, ap, ◌∙◌, true≢false, Result, Ok, Err, OnErr}
use Rattle.std.specs.List.{list_any}
use Rattle.std.proofs.lemmas.Bool.Decides.{nat_tests}
use Rattle.rbac_words.specs.Message.{submissions_of, has_commands, has_bad_batch}
use Rattle.rbac_terms.specs.declared.command.Command.{Command}
use Rattle.rbac_words.specs.declared.message.Message.{Message}
use Rattle.rbac_words.specs.declared.message.Message.TheVariants.{Batch}
use Rattle.rbac_words.specs.declared.message.Submission.{Submission}
use Rattle.rbac_words.specs.declared.stamp.Stamp.{Stamp}

module _ (m : Message) (s : Stamp) (caller serial : ℕ) where
  pub has_some : (cs : List Command) → m ≡ Batch s caller serial cs → has_commands m ≡ not (length cs == 0)
  has_some [] e = ap has_commands e
  has_some (c ∷ cs) e = ap has_commands e ∙ sym (ap not (some (length cs)))
    where
      some : (n : ℕ) → (suc n == 0) ≡ false
      some n = grind (arith, nat_tests)

  -- a batch has one
  pub had_some : (cs : List Command) → m ≡ Batch s caller serial cs → has_bad_batch m ≡ false → submissions_of m ≡ [] → ⊥
  had_some [] e good f = true≢false (sym (ap has_bad_batch e) ∙ good)
  had_some (c ∷ cs) e good f = let g : submissions_of (Batch s caller serial (c ∷ cs)) ≡ [] = sym (ap submissions_of e) ∙ f in cc

-- a message whose commands are some has one
pub has_any : (m : Message) → (submissions_of m ≡ [] → ⊥) → has_commands m ≡ true
has_any m n = go (submissions_of m) n
  where
    go : (xs : List Submission) → (xs ≡ [] → ⊥) → list_any (λ (x : Submission). true) xs ≡ true
    go [] f = absurd (f refl)
    go (x ∷ xs) f = refl

-- what holds anyway holds of a refusal
pub on_err : {T E : Type 0} (r : Result T E) (P : Type 0) → P → OnErr r P
on_err (Ok x) P p = tt
on_err (Err e) P p = p
