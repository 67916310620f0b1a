-- What a step of a world promises where memory may run out.
use Rattle.std.specs.Prelude.{Bool, true, ◌≡◌, ◌≢◌, None, is_some, Result, Ok, Err, IfOk, IfErr, OnOk, OnErr}
use Rattle.rbac_words.specs.Message.{has_commands}
use Rattle.rbac_words.specs.World.{World, node, message, due, refusal, step, step_outcome}
use Rattle.rbac_words.specs.declared.event.Event.{Event}
use Rattle.rbac_words.specs.declared.event.Event.TheVariants.{Submit, SubmitBatch, Receive, Deliver}
use Rattle.rbac_words.specs.declared.event.Outcome.{Outcome}
use Rattle.rbac_words.specs.declared.event.Refusal.{Refusal}
use Rattle.rbac_words.specs.declared.event.Refusal.TheVariants.{NoMemory}

-- whether an event that is not refused makes something longer: a sent list, what is held, or a history
abbrev pub grows : World → Event → Bool
grows w (Submit at caller serial command) = true
grows w (SubmitBatch at caller serial commands) = true
grows w (Receive at from n) = has_commands (message (node w from) n)
grows w (Deliver at) = is_some (due w (node w at))

-- what a step answers and leaves, where it may also be refused for want of memory: then no other refusal applies, and the
-- event would have made something longer
pub record IsStep (old : World) (e : Event) (result : Result Outcome Refusal) (new : World) : Type 0 where
  pub outcome : IfOk result (λ o. step_outcome old e ≡ Ok o)
  pub stepped : OnOk result (new ≡ step old e)
  pub first_refusal : IfErr result (λ r. r ≢ NoMemory → step_outcome old e ≡ Err r)
  pub memory_last : result ≡ Err NoMemory → refusal old e ≡ None
  pub memory_needed : result ≡ Err NoMemory → grows old e ≡ true
  pub unchanged : OnErr result (new ≡ old)
