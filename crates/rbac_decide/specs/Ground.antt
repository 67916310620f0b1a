-- What a decision gathers, and what is planned of the counts.
use Rattle.std.specs.Prelude.{⊤, ◌≡◌, Bool, true, false}
use Rattle.rbac_decide.specs.Words.{Name, State, Command, AssignUser, AddInheritance, Counts, names_of, CountPlan}
use Rattle.rbac_decide.specs.Counting.{TellsAfter, IsCommandStep, AreCountsBy, may_change, gives_roles, affects}
use Rattle.rbac_decide.specs.Gains.{changes_gathered}
use Rattle.rbac_decide.specs.Tables.{state_of}
use Rattle.rbac_decide.specs.declared.tables.Tables.{Tables}
use Rattle.rbac_decide.specs.declared.gathered.Ground.{Ground}

-- what was gathered to decide a command
abbrev pub IsGround : Command → State → Ground → Type 0
IsGround (AssignUser user role) s gathered = TellsAfter (AssignUser user role) (changes_gathered gathered) s
IsGround (AddInheritance ascendant descendant) s gathered = TellsAfter (AddInheritance ascendant descendant) (changes_gathered gathered) s
IsGround c s gathered = ⊤

-- the counts that were gathered are planned, or those that the command may change
abbrev pub IsPlannedBy : Bool → Command → Ground → Tables → CountPlan → Type 0
IsPlannedBy true c gathered t plan = (names_of plan.sets.items ≡ gathered.sets.items) × (names_of plan.users.items ≡ gathered.users.items)
IsPlannedBy false c gathered t plan = (set user : Name) → affects plan set user ≡ may_change c t set user

-- the sets of a policy after a command, with the counts from before it, what was gathered, and what was planned of them
pub record IsPrepared (command : Command) (plan : CountPlan) (gathered : Ground) (counts : Counts) (after : Tables) : Type 0 where
  pub before : Tables
  pub step : IsCommandStep command before after
  pub counted : AreCountsBy before counts
  pub grounded : IsGround command (state_of before step.vocabulary) gathered
  pub planned : IsPlannedBy (gives_roles command) command gathered before plan
