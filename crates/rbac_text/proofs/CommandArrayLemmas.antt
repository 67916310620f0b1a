-- Reading an array of commands, one element after another.
use Rattle.std.proofs.Common.{◌≡◌, ◌+◌, ◌<◌, ◌≤◌, ℕ, List, [], ◌∷◌, drop, get_or, length, Ok, Err, ◌++◌, append_assoc, refl, sym, ap, ◌∙◌}
use Rattle.std.proofs.lemmas.List.{at_drop_more, at_drop_all}
use Rattle.lent_json.specs.Data.{Lent}
use Rattle.lent_json.specs.Data.{meaning, items}
use Rattle.rbac_terms.specs.declared.command.Command.{Command}
use Rattle.rbac_text.specs.Steps.{◌>>=◌}
use Rattle.rbac_text.specs.Fields.{Reading}
use Rattle.rbac_text.specs.CommandArray.{command_in, commands_of}

-- what is read already, and what is read of the rest
abbrev pub commands_after : List Command → Reading (List Command) → Reading (List Command)
commands_after done (Ok commands) = Ok (done ++ commands)
commands_after done (Err refusal) = Err refusal

pub none_before : (rest : Reading (List Command)) → rest ≡ commands_after [] rest
none_before (Ok commands) = refl
none_before (Err refusal) = refl

one_before : (done : List Command) (command : Command) (rest : Reading (List Command))
    → commands_after done (rest >>= λ commands. Ok (command ∷ commands)) ≡ commands_after (done ++ command ∷ []) rest
one_before done command (Ok commands) = ap Ok (sym (append_assoc done (command ∷ []) commands))
one_before done command (Err refusal) = refl

first_before : (done : List Command) (first : Reading Command) (rest : Reading (List Command))
    → commands_after done (first >>= λ command. rest >>= λ commands. Ok (command ∷ commands)) ≡ (first >>= λ command. commands_after (done ++ command ∷ []) rest)
first_before done (Ok command) rest = one_before done command rest
first_before done (Err refusal) rest = refl

-- the next element is read as a command, or refused
pub commands_next : (done : List Command) (array : List Lent) (i : ℕ) (value : Lent) (answer : Reading Command)
    → i < length array → value ≡ get_or array i value → command_in (meaning value) ≡ answer
    → commands_after done (commands_of (items (drop i array))) ≡ (answer >>= λ command. commands_after (done ++ command ∷ []) (commands_of (items (drop (i + 1) array))))
commands_next done array i value answer within here read =
    let later = drop (i + 1) array in
    at_drop_more (λ values. commands_after done (commands_of (items values))) array i value within
    ∙ ap (λ element. commands_after done (commands_of (items (element ∷ later)))) (sym here)
    ∙ first_before done (command_in (meaning value)) (commands_of (items later))
    ∙ ap (λ first. first >>= λ command. commands_after (done ++ command ∷ []) (commands_of (items later))) read

-- after the last element all are read
pub commands_end : (done : List Command) (array : List Lent) (i : ℕ) → length array ≤ i → commands_after done (commands_of (items (drop i array))) ≡ Ok (done ++ [])
commands_end done array i h = at_drop_all (λ values. commands_after done (commands_of (items values))) array i h
