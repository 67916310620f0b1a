-- What a desk's reply is to a conversation.
use Rattle.std.proofs.Common.{◌≡◌, ◌≢◌, ◌⊎◌, ℕ, List, Bool, Result, Ok, Err, inl, inr, refl, sym, subst}
use Rattle.std.specs.Result.{OnErr, is_err}
use Rattle.rbac_terms.specs.declared.command.Command.{Command}
use Rattle.rbac_lines.specs.declared.refusal.DeskRefusal.TheVariants.{NoMemory}
use Rattle.rbac_text.specs.Fields.{Reading}
use Rattle.rbac_lines.specs.Text.{Reply, reply_text}
use Rattle.rbac_lines.specs.Conversation.{Asks, IsLost, Answers}

module _ {D : Type 0} (asks : Asks D) (old : D) (number : ℕ) (new : D) where
  -- what an answer that could not be given leaves: the desk was not asked, or its reply was not told
  abbrev pub Untold : Reading (ℕ × Command) → Type 0
  Untold asked = (new ≡ old) ⊎ ((own : List ℕ) × (is_refused : Bool) × Answers asks old number asked own is_refused new)

  untold : (at : ℕ) (command : Command) (reply : Reply) → reply ≢ Err NoMemory → asks old at command reply new → Untold (Ok (at, command))
  untold at command reply kept asked = inr (reply_text number reply, is_err reply, (reply, kept, asked, refl, refl))

  -- a reply that is lost
  pub of_lost : (at : ℕ) (command : Command) → IsLost asks old at command new → Untold (Ok (at, command))
  of_lost at command (inl same) = inl same
  of_lost at command (inr (reply, kept, asked)) = untold at command reply kept asked

  -- a reply whose text could not be made
  pub of_kept : {T E : Type 0} (result : Result T E) (at : ℕ) (command : Command) (reply : Reply) → reply ≢ Err NoMemory → asks old at command reply new → OnErr result (Untold (Ok (at, command)))
  of_kept (Ok value) at command reply kept asked = tt
  of_kept (Err fault) at command reply kept asked = untold at command reply kept asked

  -- a line is answered as what it asks for
  pub of_line : {T E : Type 0} (result : Result T E) (line asked : Reading (ℕ × Command)) → line ≡ asked → OnErr result (Untold asked) → OnErr result (Untold line)
  of_line result line asked is left = subst (λ read. OnErr result (Untold read)) (sym is) left
