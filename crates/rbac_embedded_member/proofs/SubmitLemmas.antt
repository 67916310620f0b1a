-- A submit is to take the message that sends its commands.
use Rattle.std.proofs.Common.{ℕ, ◌≡◌, ◌+◌, List, length, refl, sym, ap, ◌∙◌, subst, Option, None}
use Rattle.rbac_terms.specs.declared.command.Command.{Command}
use Rattle.rbac_words.specs.World.{submit_refusal}
use Rattle.rbac_words.specs.Keeping.Member.{Member, IsMember, node_of, batch, submitted}
use Rattle.rbac_words.specs.Keeping.Own.{next_own, own_refusal, took_own}
use Rattle.rbac_words.specs.declared.event.Refusal.{Refusal}
use Rattle.rbac_words.specs.declared.message.Message.{Message}
use Rattle.rbac_order.proofs.OwnLemmas.{submit_takes, submit_is_taken}
use Rattle.rbac_embedded_member.specs.Step.{Step, done, step_unless, if_short, batch_step, own_step}

-- the message is taken as it is submitted
taken : (longest caller serial : ℕ) (commands : List Command) (v : Member) → IsMember v → submit_refusal v.group (node_of v) caller serial (length commands) ≡ None
    → own_step longest (length v.sent + 1) (batch v caller serial commands) v ≡ if_short longest (batch v caller serial commands) (done (submitted v caller serial commands) (next_own v)) v
taken longest caller serial commands v kept free =
    let m : Message = batch v caller serial commands in
    ap (λ (o : Option Refusal). if_short longest m (step_unless o (done (took_own v m) (next_own v)) v) v) (submit_is_taken v caller serial commands kept free)
    ∙ ap (λ (u : Member). if_short longest m (done u (next_own v)) v) (sym (submit_takes v caller serial commands))

pub submits_by_taking : (longest caller serial number : ℕ) (commands : List Command) (v : Member) (m : Message) → IsMember v → submit_refusal v.group (node_of v) caller serial (length commands) ≡ None
    → number ≡ length v.sent + 1 → m ≡ batch v caller serial commands → own_step longest number m v ≡ batch_step longest caller serial commands v
submits_by_taking longest caller serial number commands v m kept free n e =
    ap (λ k. own_step longest k m v) n ∙ ap (λ (x : Message). own_step longest (length v.sent + 1) x v) e ∙ taken longest caller serial commands v kept free
    ∙ ap (λ (o : Option Refusal). step_unless o (if_short longest (batch v caller serial commands) (done (submitted v caller serial commands) (next_own v)) v) v) (sym free)
