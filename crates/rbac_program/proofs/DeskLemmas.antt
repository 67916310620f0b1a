-- A reply that is lost, and conversations with a desk as conversations with its passes.
use Rattle.std.proofs.Common.{ℕ, ◌≡◌, ◌+◌, ◌-◌, inl, inr, ⊎_elim, refl, Bool, List, [], ◌∷◌, slice_index_or, slice_set, Option, None, Some, IfSome, Ok, Err, ap, ◌∙◌, subst, arith}
use Rattle.std.proofs.lemmas.Option.{get_or_from_slice_get}
use Rattle.rbac_terms.specs.declared.command.Command.{Command}
use Rattle.rbac_node.specs.Pass.{PassState}
use Rattle.rbac_lines.specs.declared.refusal.DeskRefusal.TheVariants.{NoMemory, Stopped}
use Rattle.rbac_lines.specs.Text.{Reply}
use Rattle.rbac_text.specs.Fields.{Reading}
use Rattle.rbac_lines.specs.Conversation.{Asks, Answers, AnswersLine, Conversation}
use Rattle.std.specs.Io.KnownBytes.{Appends}
use Rattle.line_engine.specs.Lines.{clip, lines}
use Rattle.line_engine.specs.Runs.{TakesAll}
use Rattle.rbac_text.specs.Client.{client}
use Rattle.rbac_program.specs.Serving.{Told, PassOf, AsksPasses}

-- a pass that was found and told so
pub told_so : (passes : List PassState) (at : ℕ) (command : Command) (reply : Reply) (p q : PassState) → PassOf passes at → p ≡ slice_index_or passes (at - 1) p
    → Told p command reply q → AsksPasses passes at command reply (slice_set passes (at - 1) q)
told_so passes at command reply p q (place, own, number, found, member) here told =
    let there : at - 1 ≡ place = omega arith in
    let same : p ≡ own = here ∙ ap (λ n. slice_index_or passes n p) there ∙ get_or_from_slice_get passes place own p found in
    inr ((place, own, number, found, member), q, ap (λ n. slice_set passes n q) there, subst (λ p. Told p command reply q) same told)

-- where memory ran out, the passes are as after a stop
pub as_stopped : (passes : List PassState) (at : ℕ) (command : Command) (reply : Reply) (p q : PassState) → PassOf passes at → p ≡ slice_index_or passes (at - 1) p
    → Told p command reply q → reply ≡ Err NoMemory → AsksPasses passes at command (Err Stopped) (slice_set passes (at - 1) q)
as_stopped passes at command reply p q its here told lost =
    let refused : Told p command (Err NoMemory) q = subst (λ r. Told p command r q) lost told in
    told_so passes at command (Err Stopped) p q its here ((λ same. cc), ⊎_elim (λ same. inl same) (λ waits. inr (inl refl, waits.1)) refused.1)

module _ {D E : Type 0} (of : D → E) (asks : Asks D) (so : Asks E)
    (each : (old : D) (at : ℕ) (command : Command) (reply : Reply) (new : D) → asks old at command reply new → so (of old) at command reply (of new)) where
  answers_so : (old : D) (number : ℕ) (read : Reading (ℕ × Command)) (text : List ℕ) (is_refused : Bool) (new : D)
      → Answers asks old number read text is_refused new → Answers so (of old) number read text is_refused (of new)
  answers_so old number (Ok (at, command)) text is_refused new (reply, kept, asked, told, counted) = (reply, kept, each old at command reply new asked, told, counted)
  answers_so old number (Err refusal) text is_refused new (same, told, counted) = (ap of same, told, counted)

  -- what is said of a desk by what it tells is said of a part of it by what that tells
  pub conversation_so : (number : ℕ) (old : D) (these : List (List ℕ)) (text : List ℕ) (refused : ℕ) (new : D)
      → TakesAll (AnswersLine asks) number old these text refused new → TakesAll (AnswersLine so) number (of old) these text refused (of new)
  conversation_so number old [] text refused new (none, zero, same) = (none, zero, ap of same)
  conversation_so number old (line ∷ rest) text refused new (mid, own, is_refused, later, others, answered, all, split, counted) = (
    of mid,
    own,
    is_refused,
    later,
    others,
    answers_so old number (client (clip line)) own is_refused mid answered,
    conversation_so (number + 1) mid rest later others new all,
    split,
    counted,
  )

  pub served_so : (input before after : Option (List ℕ)) (old new : D) (refused : ℕ)
      → IfSome input (λ bytes. (text : List ℕ) × Appends before after text × Conversation asks old (lines bytes) text refused new)
      → IfSome input (λ bytes. (text : List ℕ) × (refused : ℕ) × Appends before after text × Conversation so (of old) (lines bytes) text refused (of new))
  served_so None before after old new refused said = tt
  served_so (Some bytes) before after old new refused (text, written, said) = (text, refused, written, conversation_so 1 old (lines bytes) text refused new said)
