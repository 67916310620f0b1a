-- That the premises of the laws of rows can hold: a group of two. Member 1 sent a command, member 2 acknowledged it, both in
-- their rows. A process takes the row of member 2, receives the command, sends nothing and delivers it; another takes the row
-- of member 1, receives the acknowledgement and delivers too. Their histories are the same, and have the command.
use Rattle.std.proofs.Common.{ℕ, zero, suc, ◌≡◌, ◌≤◌, ◌<◌, ◌+◌, List, [], ◌∷◌, get_or, refl, arith}
use Rattle.rbac_terms.specs.Vocabulary.{no_vocabulary}
use Rattle.rbac_terms.specs.declared.command.Command.{Command}
use Rattle.rbac_words.specs.Group.{Group}
use Rattle.rbac_words.specs.Message.{commands_of, IsLawful}
use Rattle.rbac_words.specs.World.{World, nobody, stamp}
use Rattle.rbac_words.specs.Right.{founding_world}
use Rattle.rbac_words.specs.Keeping.Member.{Member, IsNumber, founded}
use Rattle.rbac_words.specs.Keeping.Members.{IsLawfulWorld}
use Rattle.rbac_words.specs.declared.message.Message.{Message}
use Rattle.rbac_words.specs.declared.message.Message.TheVariants.{Batch, Ack}
use Rattle.rbac_words.specs.declared.message.Submission.{Submission}
use Rattle.rbac_order.proofs.MessageLemmas.{serials_go_on}
use Rattle.rbac_moves.specs.Moves.{Move, receives, takes_own, delivers, run, WereSent}
use Rattle.rbac_moves.specs.Seal.{row}
use Rattle.rbac_moves.specs.Rows.{HasWatched, rows_after, AreSet}

abbrev two : Group
two = record { members = 2; clock = 0; sent_limit = 10 }

module _ (c : Command) where
  abbrev first : Message
  first = Batch (stamp 1 1) 0 0 (c ∷ [])

  abbrev answer : Message
  answer = Ack (stamp 3 2)

  abbrev rows : World
  rows = record { group = two; vocabulary = no_vocabulary; nodes = record { number = 1; clock = 0; sent = first ∷ []; read = []; history = [] } ∷ record { number = 2; clock = 0; sent = answer ∷ []; read = []; history = [] } ∷ [] }

  pub lawful : IsLawfulWorld rows
  lawful = record { count = refl; numbered = numbered; lawful = each }
    where
      numbered : (i : ℕ) → i < 2 → (get_or rows.nodes i nobody).number ≡ i + 1
      numbered zero h = refl
      numbered (suc zero) h = refl
      numbered (suc (suc i)) h = absurd (let no : ⊥ = omega arith in no)

      each : (i : ℕ) → i < 2 → IsLawful (get_or rows.nodes i nobody).number two (get_or rows.nodes i nobody).sent
      each zero h = record { own = (refl, tt); first = (refl, tt); rising = (tt, tt); clocks_in_range = (omega arith, tt); within_limit = omega arith; batches = (refl, tt); serials = serials_go_on [] (stamp 1 1) 0 0 (c ∷ []) (λ caller. tt) refl }
      each (suc zero) h = record { own = (refl, tt); first = (refl, tt); rising = (tt, tt); clocks_in_range = (omega arith, tt); within_limit = omega arith; batches = (refl, tt); serials = λ caller. tt }
      each (suc (suc i)) h = absurd (let no : ⊥ = omega arith in no)

  by_two : (P : ℕ → Type 0) → P 1 → P 2 → (k : ℕ) → IsNumber two k → P k
  by_two P a b zero n = absurd (let d : 1 ≤ 0 = n.low in let no : ⊥ = omega arith in no)
  by_two P a b (suc zero) n = a
  by_two P a b (suc (suc zero)) n = b
  by_two P a b (suc (suc (suc k))) n = absurd (let d : suc (suc (suc k)) ≤ 2 = n.high in let no : ⊥ = omega arith in no)

  -- ---- A process of member 2

  abbrev of_two : List Move
  of_two = takes_own 1 answer ∷ receives 1 1 first ∷ delivers ∷ []

  abbrev other : Member
  other = run (founded two 2 no_vocabulary) of_two

  pub watched_two : HasWatched rows 2 other of_two
  watched_two = record {
    is_number = record { low = omega arith; high = omega arith };
    made = record { allowed = (refl, (refl, (refl, tt))); is = refl };
    brought = by_two (λ k. (k ≡ 2 → ⊥) → WereSent k (row rows k) of_two) (λ d. ((λ e. refl), tt)) (λ d. absurd (d refl));
    watching = (refl, (refl, tt));
  }

  -- ---- A process of member 1

  abbrev of_one : List Move
  of_one = takes_own 1 first ∷ receives 2 1 answer ∷ delivers ∷ []

  abbrev one : Member
  one = run (founded two 1 no_vocabulary) of_one

  pub watched_one : HasWatched rows 1 one of_one
  watched_one = record {
    is_number = record { low = omega arith; high = omega arith };
    made = record { allowed = (refl, (refl, (refl, tt))); is = refl };
    brought = by_two (λ k. (k ≡ 1 → ⊥) → WereSent k (row rows k) of_one) (λ d. absurd (d refl)) (λ d. ((λ e. refl), tt));
    watching = (refl, (refl, tt));
  }

  abbrev command : Submission
  command = record { stamp = stamp 1 1; caller = 0; serial = 0; command = c }

  pub same_history : one.history ≡ other.history
  same_history = refl

  pub has_all : commands_of other.history ≡ command ∷ []
  has_all = refl

  -- ---- The rows, message by message, from the founding on

  abbrev sets : List (ℕ × Message)
  sets = (1, first) ∷ (2, answer) ∷ []

  pub are_set : AreSet (founding_world two no_vocabulary) sets
  are_set = (
    record {
      by = founded two 1 no_vocabulary;
      moves = [];
      has_run = record { is_number = record { low = omega arith; high = omega arith }; made = record { allowed = tt; is = refl }; brought = λ k n d. tt; own = ([], refl) };
      has_all = refl;
      accepted = refl;
    },
    (
      record {
        by = founded two 2 no_vocabulary;
        moves = [];
        has_run = record { is_number = record { low = omega arith; high = omega arith }; made = record { allowed = tt; is = refl }; brought = λ k n d. tt; own = ([], refl) };
        has_all = refl;
        accepted = refl;
      },
      tt,
    ),
  )

  pub same_row_1 : row (rows_after (founding_world two no_vocabulary) sets) 1 ≡ row rows 1
  same_row_1 = refl

  pub same_row_2 : row (rows_after (founding_world two no_vocabulary) sets) 2 ≡ row rows 2
  same_row_2 = refl
