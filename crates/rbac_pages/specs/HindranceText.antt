-- What stands in the way of a command, as a sentence for people.
use Rattle.std.specs.Prelude.{ℕ, ◌-◌, List, [], ◌++◌, length, codes, decimal}
use Rattle.std.specs.List.{flat_map}
use Rattle.rbac_terms.specs.Name.{Name}
use Rattle.rbac_terms.specs.Denials.{denial_word}
use Rattle.rbac_terms.specs.declared.answer.Denial.{Denial}
use Rattle.rbac_terms.specs.declared.answer.Denial.TheVariants as denial
use Rattle.rbac_terms.specs.declared.separation.Separation.{Separation}
use Rattle.rbac_terms.specs.declared.separation.Separation.TheVariants.{Static, Dynamic}
use Rattle.rbac_decide.specs.declared.named.Counted.{Counted}
use Rattle.rbac_decide.specs.declared.named.Counted.TheVariants.{Users, Roles, Sessions, Sets}
use Rattle.rbac_decide.specs.Hindrance.{Hindrance, Named}
use Rattle.rbac_decide.specs.Hindrance.Named.{a_user, a_role, a_session, an_operation, an_object, a_permission, a_grant, an_assignment, an_activation, a_pair, a_set, a_member, a_breach, a_count}
use Rattle.rbac_reasons.specs.declared.told.Explanation.{Explanation}
use Rattle.rbac_reasons.specs.declared.told.Explanation.TheVariants.{Nothing, Breach, Cycle, Size}
use Rattle.rbac_pages.specs.PageText.{name_text}

-- words, and a name or a number behind them
unfoldable pub named : List ℕ → Name → List ℕ
named words name = words ++ name

unfoldable pub numbered : List ℕ → ℕ → List ℕ
numbered words number = words ++ decimal number

-- the kind of a set, whom it breaks, and what there can be no more of
abbrev pub kind_word : Separation → List ℕ
kind_word Static = codes "static"
kind_word Dynamic = codes "dynamic"

abbrev pub holder_word : Separation → List ℕ
holder_word Static = codes "user "
holder_word Dynamic = codes "session "

abbrev pub counted_word : Counted → List ℕ
counted_word Users = codes "users"
counted_word Roles = codes "roles"
counted_word Sessions = codes "sessions"
counted_word (Sets Static) = codes "static sets"
counted_word (Sets Dynamic) = codes "dynamic sets"

-- words, the kind of a set, and its name
unfoldable pub set_named : List ℕ → Separation → Name → List ℕ
set_named words kind set = words ++ kind_word kind ++ codes " set " ++ set

-- the next role that is inherited
abbrev pub inherited_text : Name → List ℕ
inherited_text role = named (codes " inherits ") role

-- how many there would be, and how many there may be: one fewer than a set's number
unfoldable pub excess_text : ℕ → ℕ → List ℕ
excess_text count number = numbered (codes ", ") count ++ numbered (codes " of at most ") (number - 1)

-- what each denial says of its names
abbrev pub words_of : Denial → List ℕ
words_of denial.UserExists = codes "there is already a user "
words_of denial.NoUser = codes "there is no user "
words_of denial.RoleExists = codes "there is already a role "
words_of denial.NoRole = codes "there is no role "
words_of denial.Assigned = codes " is already assigned role "
words_of denial.NotAssigned = codes " is not assigned role "
words_of denial.NoPermission = codes "the founding has no permission "
words_of denial.NotGranted = codes " itself is not granted "
words_of denial.SessionExists = codes "there is already a session "
words_of denial.NoSession = codes "there is no session "
words_of denial.NotOwner = codes "the session belongs to user "
words_of denial.NotAuthorized = codes "the user is not authorized for role "
words_of denial.RoleActive = codes " is already active in session "
words_of denial.RoleNotActive = codes " is not active in session "
words_of denial.Inherits = codes " is already declared to inherit role "
words_of denial.NoInheritance = codes " is not declared to inherit role "
words_of denial.Cycle = codes "the roles would inherit each other: "
words_of denial.SsdViolated = codes " would be authorized for too many roles of static set "
words_of denial.DsdViolated = codes " would have too many active roles of dynamic set "
words_of denial.SetExists = codes "there is already a "
words_of denial.NoSet = codes "there is no "
words_of denial.BadCardinality = codes "the "
words_of denial.InSet = codes " is already in the "
words_of denial.NotInSet = codes " is not in the "
words_of denial.RoleConstrained = codes "the role is in the "
words_of denial.Limit = codes "there can be no more "
words_of denial.NoOperation = codes "the founding has no operation "
words_of denial.NoObject = codes "the founding has no object "
words_of denial.Limited = codes "the hierarchy is limited, and the ascendant already inherits role "

-- a pair: of one that would close a cycle the chain is told, and of a limited ascendant its descendant
abbrev pub pair_text : Denial → Name → Name → List ℕ
pair_text denial.Cycle ascendant descendant = words_of denial.Cycle
pair_text denial.Limited ascendant descendant = named (words_of denial.Limited) descendant
pair_text d ascendant descendant = named (codes "role ") ascendant ++ named (words_of d) descendant

-- the names of a denial, with its words
abbrev pub names_text : Denial → Named → List ℕ
names_text d (a_user user) = named (words_of d) user
names_text d (a_role role) = named (words_of d) role
names_text d (a_session session) = named (words_of d) session
names_text d (an_operation operation) = named (words_of d) operation
names_text d (an_object object) = named (words_of d) object
names_text d (a_permission operation object) = named (words_of d) operation ++ named (codes " on ") object
names_text d (a_grant operation object role) = named (codes "role ") role ++ named (words_of d) operation ++ named (codes " on ") object
names_text d (an_assignment user role) = named (codes "user ") user ++ named (words_of d) role
names_text d (an_activation session role) = named (codes "role ") role ++ named (words_of d) session
names_text d (a_pair ascendant descendant) = pair_text d ascendant descendant
names_text d (a_set kind set) = set_named (words_of d) kind set
names_text d (a_member kind set role) = named (codes "role ") role ++ set_named (words_of d) kind set
names_text d (a_breach kind holder set) = named (holder_word kind) holder ++ named (words_of d) set
names_text d (a_count counted) = words_of d ++ counted_word counted

-- what is told besides
abbrev pub besides_text : Explanation → List ℕ
besides_text Nothing = []
besides_text (Breach roles number) = codes ":" ++ flat_map name_text roles ++ excess_text (length roles) number
besides_text (Cycle chain) = chain.first ++ flat_map inherited_text chain.rest.items
besides_text (Size size number) = numbered (codes " would have the number ") number ++ numbered (codes " and this many roles: ") size

-- Denied: NoUser: there is no user zoe
abbrev pub denied_text : Hindrance → Explanation → List ℕ
denied_text hindrance explanation =
    codes "Denied: " ++ denial_word hindrance.denial ++ codes ": " ++ names_text hindrance.denial hindrance.named ++ besides_text explanation ++ codes "\n"
