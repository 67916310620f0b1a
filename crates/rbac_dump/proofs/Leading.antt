-- Commands that lead from a state to another, each of them done.
use Rattle.std.proofs.Common.{List, [], ◌∷◌, ◌++◌, map, cond, ◌≡◌, Some, None, refl, sym, ap, ◌∙◌, subst, append_assoc}
use Rattle.std.proofs.lemmas.List.{append-nil}
use Rattle.std.specs.List.{flat_map, AllByRecursion as Each}
use Rattle.rbac_terms.specs.State.{State}
use Rattle.rbac_terms.specs.Change.{change}
use Rattle.rbac_terms.specs.Rows.{Precondition, leftmost, preconditions}
use Rattle.rbac_terms.specs.Effect.{answer, effect, effect_unless, reply, reply_unless}
use Rattle.rbac_terms.specs.Replay.{state_after, replies}
use Rattle.rbac_terms.specs.Sound.{BringsASet}
use Rattle.rbac_terms.specs.declared.command.Command.{Command}
use Rattle.rbac_terms.specs.declared.answer.Answer.TheVariants.{Done}
use Rattle.rbac_rules.proofs.SoundParts.{NoneFails}

-- the command brings a set, is done in one state and leaves the other
abbrev pub Makes : State → Command → State → Type 0
Makes s c t = (effect c s ≡ t) × (reply c s ≡ Done) × BringsASet c

-- each of the commands is done and brings a set, and they leave the other
abbrev pub Leads : State → List Command → State → Type 0
Leads s cs t = (state_after s cs ≡ t) × Each (λ a. a ≡ Done) (replies s cs) × Each BringsASet cs

fails_none : (ps : List Precondition) → NoneFails ps → leftmost ps ≡ None
fails_none [] h = refl
fails_none (p ∷ ps) h = ap (λ b. cond b (Some p.denial) (leftmost ps)) h.0 ∙ fails_none ps h.1

-- a command of which no precondition fails
pub makes : (c : Command) (s t : State) → NoneFails (preconditions c s) → change c s ≡ t → answer c s ≡ Done → BringsASet c → Makes s c t
makes c s t none changed done brings =
    let allowed = fails_none (preconditions c s) none in
    (ap (λ d. effect_unless d c s) allowed ∙ changed, ap (λ d. reply_unless d c s) allowed ∙ done, brings)

-- one command
pub leads_one : (s : State) (c : Command) (t : State) → Makes s c t → Leads s (c ∷ []) t
leads_one s c t m = (m.0, (m.1, tt), (m.2, tt))

-- the same state, said otherwise
pub leads_to : (s : State) (cs : List Command) (t u : State) → t ≡ u → Leads s cs t → Leads s cs u
leads_to s cs t u same leads = subst (Leads s cs) same leads

-- commands go on by others
pub leads_on : (s : State) (cs ds : List Command) (t u : State) → Leads s cs t → Leads t ds u → Leads s (cs ++ ds) u
leads_on s [] ds t u first second = subst (λ x. Leads x ds u) (sym first.0) second
leads_on s (c ∷ cs) ds t u first second =
    let rest = leads_on (effect c s) cs ds t u (first.0, first.1.1, first.2.1) second in
    (rest.0, (first.1.0, rest.1), (first.2.0, rest.2))

-- the element after those that were told makes the state with one element more
abbrev pub TellsNext : {X : Type 0} → (X → Command) → (List X → State) → List X → Type 0
TellsNext {X} command at xs = (done : List X) (x : X) (rest : List X) → xs ≡ done ++ (x ∷ rest) → Makes (at done) (command x) (at (done ++ (x ∷ [])))

-- where each does, the commands of a list make the state with all of them
pub told : {X : Type 0} (command : X → Command) (at : List X → State) (xs : List X) → TellsNext command at xs → Leads (at []) (map command xs) (at xs)
told {X} command at xs each = go [] xs refl
  where
    go : (done rest : List X) → xs ≡ done ++ rest → Leads (at done) (map command rest) (at xs)
    go done [] e = (ap at (sym (e ∙ append-nil done)), tt, tt)
    go done (x ∷ rest) e =
        let one = each done x rest e in
        let more = go (done ++ (x ∷ [])) rest (e ∙ sym (append_assoc done (x ∷ []) rest)) in
        let after = subst (λ s. Leads s (map command rest) (at xs)) (sym one.0) more in
        (after.0, (one.1, after.1), (one.2, after.2))

-- commands go on by those of a list
pub and_then : {X : Type 0} (s : State) (cs : List Command) (command : X → Command) (at : List X → State) (xs : List X) → Leads s cs (at []) → TellsNext command at xs → Leads s (cs ++ map command xs) (at xs)
and_then s cs command at xs before each = leads_on s cs (map command xs) (at []) (at xs) before (told command at xs each)

-- ---- Some commands for each element, or none

-- those of the next element lead from the state in which what was told ends before it to the one in which it ends behind it
abbrev pub TellsEach : {X : Type 0} → (X → List Command) → (List X → List X → State) → List X → Type 0
TellsEach {X} commands at xs = (done : List X) (x : X) (rest : List X) → xs ≡ done ++ (x ∷ rest) → Leads (at done (x ∷ rest)) (commands x) (at (done ++ (x ∷ [])) rest)

told_each : {X : Type 0} (commands : X → List Command) (at : List X → List X → State) (xs : List X) → TellsEach commands at xs → Leads (at [] xs) (flat_map commands xs) (at xs [])
told_each {X} commands at xs each = go [] xs refl
  where
    go : (done rest : List X) → xs ≡ done ++ rest → Leads (at done rest) (flat_map commands rest) (at xs [])
    go done [] e = (ap (λ l. at l []) (sym (e ∙ append-nil done)), tt, tt)
    go done (x ∷ rest) e =
        leads_on (at done (x ∷ rest)) (commands x) (flat_map commands rest) (at (done ++ (x ∷ [])) rest) (at xs []) (each done x rest e)
        (go (done ++ (x ∷ [])) rest (e ∙ sym (append_assoc done (x ∷ []) rest)))

-- commands go on by those of each element
pub and_each : {X : Type 0} (s : State) (cs : List Command) (commands : X → List Command) (at : List X → List X → State) (xs : List X) → Leads s cs (at [] xs) → TellsEach commands at xs
    → Leads s (cs ++ flat_map commands xs) (at xs [])
and_each s cs commands at xs before each = leads_on s cs (flat_map commands xs) (at [] xs) (at xs []) before (told_each commands at xs each)
