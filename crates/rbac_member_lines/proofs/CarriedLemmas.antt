-- Members that are run by lines: each line is a move or changes nothing, and each message that is sent is one that a line can bring.
use Rattle.std.proofs.Common.{ℕ, zero, suc, Bool, true, false, ◌≡◌, ◌≤◌, ◌<◌, ◌+◌, ◌-◌, ◌^◌, ◌⊎◌, List, [], ◌∷◌, ◌++◌, length, slice_get, codes, refl, sym, ap, subst, ◌∙◌, arith, ok_or, Option, Some, None, Result, Ok, Err}
use Rattle.std.specs.Bool.{⊤}
use Rattle.std.specs.List.{AllByRecursion as Each}
use Rattle.std.specs.Str.{bytes_eq}
use Rattle.line_engine.specs.Lines.{lines}
use Rattle.line_engine.specs.Output.{state_after}
use Rattle.serde_json.specs.Data.{Members}
use Rattle.serde_json.specs.Find.{as_object}
use Rattle.rbac_terms.specs.Vocabulary.{Vocabulary}
use Rattle.rbac_words.specs.Group.{Group, IsGroup}
use Rattle.rbac_words.specs.Limits.{last_clock}
use Rattle.rbac_words.specs.World.{stamp}
use Rattle.rbac_words.specs.Right.{AreHistoriesRight}
use Rattle.rbac_words.specs.Play.{IsPrefixOf}
use Rattle.rbac_words.specs.Keeping.Member.{Member, IsMember, IsNumber, founded, batch, due_at}
use Rattle.rbac_words.specs.Keeping.Members.{member_at, world_of}
use Rattle.rbac_words.specs.declared.message.Message.{Message}
use Rattle.rbac_words.specs.declared.message.Message.TheVariants.{Ack}
use Rattle.rbac_order.proofs.MemberLemmas.{keeps_founded}
use Rattle.rbac_text.specs.declared.refusal.LineRefusal.{LineRefusal}
use Rattle.rbac_text.specs.declared.refusal.LineRefusal.TheVariants.{NotObject}
use Rattle.rbac_text.specs.Steps.{◌>>=◌, ◌>>◌}
use Rattle.rbac_text.specs.Fields.{Reading, whole_in, text_in, object_in, objects_in, only_keys, by_word, unknown}
use Rattle.rbac_text.specs.Command.{command_of}
use Rattle.rbac_text.specs.CommandArray.{commands_of}
use Rattle.rbac_text.specs.Value.{value_of}
use Rattle.rbac_message_text.specs.MessageText.{message_text}
use Rattle.rbac_message_text.specs.Message.{message_of}
use Rattle.rbac_message_text.proofs.CommandsBack.{Fits}
use Rattle.rbac_message_text.proofs.MessageBack.{IsAsked}
use Rattle.rbac_message_text.proofs.ReadFits.{read_first, read_behind, same, either, whole_in_fits, command_fits, commands_fit, message_asked}
use Rattle.rbac_moves.specs.Moves.{Move, delivers, run, AreMoves, AreRun}
use Rattle.rbac_moves.proofs.MoveLemmas.{keeps_run, all_right, one_of_two}
use Rattle.rbac_embedded_member.proofs.CallLemmas.{IsMoved, stayed, batch_moved, own_moved, message_moved, both_moved}
use Rattle.rbac_embedded_member.proofs.ShortLemmas.{acknowledgement_short, batch_kept, own_kept, message_kept, delivered_kept}
use Rattle.rbac_member_lines.specs.declared.asked.Submission.{Submission}
use Rattle.rbac_member_lines.specs.declared.asked.Asked.{Asked}
use Rattle.rbac_member_lines.specs.declared.asked.Asked.TheVariants.{Submit, Receive, Own, Deliver, Tell}
use Rattle.rbac_member_lines.specs.declared.asked.Question.TheVariants.{Next, Answer, Message as SentMessage, Record, Waits, Dump}
use Rattle.rbac_member_lines.specs.Asked.{one_submitted, all_submitted, brought, numbered, submit, batch as batch_word, next, receive, answer, own, sent_message, delivered_record, alone, deliver, waits, dump, words, asked_of, asked}
use Rattle.rbac_member_lines.specs.Carried.{IsBrought, AreBrought, AreRunByLines}
use Rattle.rbac_member_lines.specs.Output.{longest_carried, asked_step, read_step, serving, member_after}

-- ---- What is read of a line

-- what is submitted, or taken of the member's own row, is such that a reader takes what is written of it
TakesWhole : Asked → Type 0
TakesWhole (Submit one) = (one.caller < 2 ^ 32) × ((one.serial < 2 ^ 32) × Each Fits one.commands)
TakesWhole (Own number m) = IsAsked m
TakesWhole (Receive one) = ⊤
TakesWhole Deliver = ⊤
TakesWhole (Tell question) = ⊤

abbrev IsTaken : Submission → Type 0
IsTaken one = (one.caller < 2 ^ 32) × ((one.serial < 2 ^ 32) × Each Fits one.commands)

one_taken : (object : Members) (one : Submission) → one_submitted object ≡ Ok one → IsTaken one
one_taken object one e =
    let caller = read_first (whole_in (codes "caller") object) _ one e in
    let serial = read_first (whole_in (codes "serial") object) _ one caller.2 in
    let fields = read_first (object_in (codes "command") object) _ one serial.2 in
    let whole = read_behind (only_keys (codes "do" ∷ codes "caller" ∷ codes "serial" ∷ codes "command" ∷ []) object) _ one fields.2 in
    let asked = read_first (command_of fields.0) (λ c. Ok (record { caller = caller.0; serial = serial.0; commands = c ∷ [] })) one whole in
    subst IsTaken (same {E = LineRefusal} (record { caller = caller.0; serial = serial.0; commands = asked.0 ∷ [] }) one asked.2)
    (whole_in_fits (codes "caller") object caller.0 caller.1, (whole_in_fits (codes "serial") object serial.0 serial.1, (command_fits fields.0 asked.0 asked.1, tt)))

all_taken : (object : Members) (one : Submission) → all_submitted object ≡ Ok one → IsTaken one
all_taken object one e =
    let caller = read_first (whole_in (codes "caller") object) _ one e in
    let serial = read_first (whole_in (codes "serial") object) _ one caller.2 in
    let array = read_first (objects_in (codes "commands") object) _ one serial.2 in
    let whole = read_behind (only_keys (codes "do" ∷ codes "caller" ∷ codes "serial" ∷ codes "commands" ∷ []) object) _ one array.2 in
    let asked = read_first (commands_of array.0) (λ cs. Ok (record { caller = caller.0; serial = serial.0; commands = cs })) one whole in
    subst IsTaken (same {E = LineRefusal} (record { caller = caller.0; serial = serial.0; commands = asked.0 }) one asked.2)
    (whole_in_fits (codes "caller") object caller.0 caller.1, (whole_in_fits (codes "serial") object serial.0 serial.1, commands_fit array.0 asked.0 asked.1))

-- what a word makes of what it reads
made : {T : Type 0} (read : Reading T) (make : T → Asked) (a : Asked) → ((t : T) → read ≡ Ok t → TakesWhole (make t)) → (read >>= λ t. Ok (make t)) ≡ Ok a → TakesWhole a
made read make a takes e = let r = read_first read (λ t. Ok (make t)) a e in subst TakesWhole (same {E = LineRefusal} (make r.0) a r.2) (takes r.0 r.1)

made_alone : (object : Members) (asks a : Asked) → TakesWhole asks → (alone object >> Ok asks) ≡ Ok a → TakesWhole a
made_alone object asks a takes e = subst TakesWhole (same {E = LineRefusal} asks a (read_behind (alone object) (Ok asks) a e)) takes

own_taken : (object : Members) (a : Asked) → own object ≡ Ok a → TakesWhole a
unfolding TakesWhole
own_taken object a e =
    let number = read_first (whole_in (codes "number") object) _ a e in
    let fields = read_first (object_in (codes "message") object) _ a number.2 in
    let whole = read_behind (only_keys (codes "do" ∷ codes "number" ∷ codes "message" ∷ []) object) _ a fields.2 in
    let m = read_first (message_of fields.0) (λ m. Ok (Own number.0 m)) a whole in
    subst TakesWhole (same {E = LineRefusal} (Own number.0 m.0) a m.2) (message_asked fields.0 m.0 m.1)

Reads : (List ℕ × (Members → Reading Asked)) → Type 0
Reads row = (object : Members) (a : Asked) → row.1 object ≡ Ok a → TakesWhole a

rows_taken : (rows : List (List ℕ × (Members → Reading Asked))) (word : List ℕ) (object : Members) (a : Asked) → Each Reads rows → by_word rows unknown word object ≡ Ok a → TakesWhole a
unfolding Reads
rows_taken [] word object a reads e = let no : ⊥ = cc in absurd no
rows_taken (row ∷ rows) word object a reads e = either (bytes_eq word row.0) (row.1 object) (by_word rows unknown word object) a (reads.0 object a) (rows_taken rows word object a reads.1) e

object_taken : (object : Members) (a : Asked) → asked_of object ≡ Ok a → TakesWhole a
unfolding Reads TakesWhole
object_taken object a e =
    let word = read_first (text_in (codes "do") object) (λ word. by_word words unknown word object) a e in
    rows_taken words word.0 object a (
      (λ o b f. made (one_submitted o) Submit b (one_taken o) f),
      (
        (λ o b f. made (all_submitted o) Submit b (all_taken o) f),
        (
          (λ o b f. made (brought o) Receive b (λ t g. tt) f),
          (
            own_taken,
            (
              (λ o b f. made_alone o Deliver b tt f),
              (
                (λ o b f. made (all_submitted o) (λ t. Tell (Next t)) b (λ t g. tt) f),
                (
                  (λ o b f. made (brought o) (λ t. Tell (Answer t)) b (λ t g. tt) f),
                  (
                    (λ o b f. made (numbered o) (λ t. Tell (SentMessage t)) b (λ t g. tt) f),
                    (
                      (λ o b f. made (numbered o) (λ t. Tell (Record t)) b (λ t g. tt) f),
                      (
                        (λ o b f. made_alone o (Tell Waits) b tt f),
                        ((λ o b f. made_alone o (Tell Dump) b tt f), tt),
                      ),
                    ),
                  ),
                ),
              ),
            ),
          ),
        ),
      ),
    )
    word.2

line_taken : (line : List ℕ) (a : Asked) → asked line ≡ Ok a → TakesWhole a
unfolding asked
line_taken line a e =
    let value = read_first (value_of line) _ a e in
    let object = read_first (ok_or (as_object value.0) NotObject) asked_of a value.2 in
    object_taken object.0 a object.2

-- ---- What a line leaves

-- a message that a line can bring
abbrev pub IsCarried : Message → Type 0
IsCarried m = (length (message_text m) ≤ longest_carried) × IsAsked m

carried_acknowledgement : (clock number : ℕ) → clock ≤ last_clock → number ≤ 8 → IsCarried (Ack (stamp clock number))
carried_acknowledgement clock number c n = (omega (arith, acknowledgement_short clock number c n), tt)

asked_kept : (v : Member) (a : Asked) → TakesWhole a → IsMember v → Each IsCarried v.sent → Each IsCarried (asked_step a v).member.sent
unfolding TakesWhole
asked_kept v (Submit one) takes is kept = batch_kept longest_carried IsCarried carried_acknowledgement v one.caller one.serial one.commands (λ fits. (fits, takes)) kept
asked_kept v (Receive one) takes is kept = message_kept longest_carried IsCarried carried_acknowledgement v one.from one.number one.message is kept
asked_kept v (Own number m) takes is kept = own_kept longest_carried IsCarried carried_acknowledgement v number m (λ fits. (fits, takes)) kept
asked_kept v Deliver takes is kept = delivered_kept longest_carried IsCarried carried_acknowledgement v (due_at v) kept
asked_kept v (Tell question) takes is kept = kept

step_kept : (v : Member) (line : List ℕ) (read : Reading Asked) → asked line ≡ read → IsMember v → Each IsCarried v.sent → Each IsCarried (read_step read v).sent
step_kept v line (Ok a) e is kept = asked_kept v a (line_taken line a e) is kept
step_kept v line (Err refusal) e is kept = kept

step_moved : (v : Member) (read : Reading Asked) → IsMoved v (read_step read v) (λ k sent. IsBrought k sent read)
step_moved v (Ok (Submit one)) = batch_moved v longest_carried one.caller one.serial one.commands _
step_moved v (Ok (Receive one)) = message_moved v one.from one.number one.message _ (λ k sent told. told)
step_moved v (Ok (Own number m)) = own_moved v longest_carried number m _
step_moved v (Ok Deliver) = record { moves = delivers ∷ []; allowed = (refl, tt); is = refl; holds = λ k sent told. tt }
step_moved v (Ok (Tell question)) = stayed v _
step_moved v (Err refusal) = stayed v _

lines_moved : (number : ℕ) (v : Member) (these : List (List ℕ)) → IsMoved v (state_after serving number v these) (λ k sent. AreBrought k sent these)
lines_moved number v [] = stayed v _
lines_moved number v (line ∷ rest) = both_moved v (read_step (asked line) v) _ _ _ _ (λ k sent told. told) (step_moved v (asked line)) (lines_moved (number + 1) (read_step (asked line) v) rest)

-- a member that was moved so is still one
moved_kept : (v u : Member) (Told : ℕ → List Message → Type 0) → IsMoved v u Told → IsMember v → IsMember u
moved_kept v u Told moved is = subst IsMember moved.is (keeps_run v moved.moves is moved.allowed)

lines_kept : (number : ℕ) (v : Member) (these : List (List ℕ)) → IsMember v → Each IsCarried v.sent → Each IsCarried (state_after serving number v these).sent
lines_kept number v [] is kept = kept
lines_kept number v (line ∷ rest) is kept =
    lines_kept (number + 1) (read_step (asked line) v) rest (moved_kept v (read_step (asked line) v) _ (step_moved v (asked line)) is) (step_kept v line (asked line) refl is kept)

module _ (group : Group) (vocabulary : Vocabulary) (number : ℕ) (input : List ℕ) (is : IsGroup group) (n : IsNumber group number) where
  pub is_member : IsMember (member_after input (founded group number vocabulary))
  is_member = moved_kept (founded group number vocabulary) _ _ (lines_moved 1 (founded group number vocabulary) (lines input)) (keeps_founded group number vocabulary is n.low n.high)

  pub all_carried : Each IsCarried (member_after input (founded group number vocabulary)).sent
  all_carried = lines_kept 1 (founded group number vocabulary) (lines input) (keeps_founded group number vocabulary is n.low n.high) tt

-- ---- The members

module _ (group : Group) (vocabulary : Vocabulary) (members : List Member) (inputs : ℕ → List ℕ) (are : AreRunByLines group vocabulary members inputs) where
  abbrev moves_of : ℕ → List Move
  moves_of i = (lines_moved 1 (founded group (i + 1) vocabulary) (lines (inputs i))).moves

  are_run : AreRun group vocabulary members moves_of
  are_run = record {
    count = are.count;
    made = λ i h. let m = lines_moved 1 (founded group (i + 1) vocabulary) (lines (inputs i)) in record { allowed = m.allowed; is = m.is ∙ are.made i h };
    brought = λ i j hi hj d. let m = lines_moved 1 (founded group (i + 1) vocabulary) (lines (inputs i)) in m.holds (j + 1) (member_at members j).sent (are.brought i j hi hj d);
  }

  pub run_right : IsGroup group → AreHistoriesRight (world_of group vocabulary members)
  run_right is = all_right group vocabulary members moves_of is are_run

  pub run_one : IsGroup group → (i j : ℕ) → i < length members → j < length members → IsPrefixOf (member_at members i).history (member_at members j).history ⊎ IsPrefixOf (member_at members j).history (member_at members i).history
  run_one is = one_of_two group vocabulary members moves_of is are_run
