-- One event more was played.
use Rattle.std.proofs.Common.{ℕ, ◌≡◌, ◌<◌, ◌+◌, List, [], ◌∷◌, ◌++◌, length, take, get_or, Option, Some, None, Result, Ok, Err, refl, sym, ap, ◌∙◌}
use Rattle.std.proofs.lemmas.List.{take_more}
use Rattle.rbac_words.specs.World.{World, refusal, outcome, after, answer_unless, world_unless, step, step_outcome}
use Rattle.rbac_words.specs.Step.{IsStep}
use Rattle.rbac_words.specs.Play.{world_after, outcomes}
use Rattle.rbac_words.specs.declared.event.Event.{Event}
use Rattle.rbac_words.specs.declared.event.Outcome.{Outcome}
use Rattle.rbac_words.specs.declared.event.Refusal.{Refusal}
use Rattle.rbac_words.specs.declared.event.Refusal.TheVariants.{NoMemory}
use Rattle.rbac_order.proofs.PlayLemmas.{world_after-append, outcomes-append}

-- what a step answers and leaves, where memory was there
record IsTaken (w : World) (e : Event) (result : Result Outcome Refusal) (new : World) : Type 0 where
  answer : step_outcome w e ≡ result
  world : new ≡ step w e

taken : (w new : World) (e : Event) (result : Result Outcome Refusal) → IsStep w e result new → (result ≡ Err NoMemory → ⊥) → IsTaken w e result new
taken w new e (Ok o) is starved = record { answer = is.outcome; world = is.stepped }
taken w new e (Err r) is starved =
    let answer = is.first_refusal (λ f. starved (ap Err f)) in
    record { answer = answer; world = is.unchanged ∙ sym (go (refusal w e) answer) }
  where
    go : (o : Option Refusal) → answer_unless o (outcome w e) ≡ Err r → world_unless o (after w e) w ≡ w
    go None f = let no : ⊥ = cc in absurd no
    go (Some q) f = refl

pub record ArePlayed (old : World) (events : List Event) (done : ℕ) (w : World) (given : List (Result Outcome Refusal)) : Type 0 where
  pub world : w ≡ world_after old (take done events)
  pub answers : given ≡ outcomes old (take done events)

pub one_more : (old w new : World) (events : List Event) (done : ℕ) (e : Event) (answers : List (Result Outcome Refusal)) (result : Result Outcome Refusal)
    → w ≡ world_after old (take done events) → answers ≡ outcomes old (take done events) → done < length events → e ≡ get_or events done e → IsStep w e result new → (result ≡ Err NoMemory → ⊥)
    → ArePlayed old events (done + 1) new (answers ++ result ∷ [])
one_more old w new events done e answers result world so_far inside is stepped starved =
    let t = taken w new e result stepped starved in
    let next : take (done + 1) events ≡ take done events ++ e ∷ [] = take_more events done e inside ∙ ap (λ (x : Event). take done events ++ x ∷ []) (sym is) in record {
      world = t.world ∙ ap (λ (v : World). step v e) world ∙ sym (world_after-append old (take done events) (e ∷ [])) ∙ ap (world_after old) (sym next);
      answers = ap (λ (r : Result Outcome Refusal). answers ++ r ∷ []) (sym t.answer) ∙ ap (λ (v : World). answers ++ step_outcome v e ∷ []) world ∙ ap (λ l. l ++ step_outcome (world_after old (take done events)) e ∷ []) so_far
          ∙ sym (outcomes-append old (take done events) (e ∷ [])) ∙ ap (outcomes old) (sym next);
    }
