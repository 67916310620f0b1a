-- The denials: their numbers and words.
use Rattle.std.specs.Prelude.{ℕ, List, codes}
use Rattle.rbac_terms.specs.declared.answer.Denial.{Denial}
use Rattle.rbac_terms.specs.declared.answer.Denial.TheVariants.{UserExists, NoUser, RoleExists, NoRole, Assigned, NotAssigned, NoPermission, NotGranted, SessionExists, NoSession, NotOwner, NotAuthorized, RoleActive, RoleNotActive, Inherits, NoInheritance, Cycle, SsdViolated, DsdViolated, SetExists, NoSet, BadCardinality, InSet, NotInSet, RoleConstrained, Limit, NoOperation, NoObject, Limited}

-- the number of a denial in the table
abbrev pub denial_number : Denial → ℕ
denial_number UserExists = 1
denial_number NoUser = 2
denial_number RoleExists = 3
denial_number NoRole = 4
denial_number Assigned = 5
denial_number NotAssigned = 6
denial_number NoPermission = 7
denial_number NotGranted = 8
denial_number SessionExists = 9
denial_number NoSession = 10
denial_number NotOwner = 11
denial_number NotAuthorized = 12
denial_number RoleActive = 13
denial_number RoleNotActive = 14
denial_number Inherits = 15
denial_number NoInheritance = 16
denial_number Cycle = 17
denial_number SsdViolated = 18
denial_number DsdViolated = 19
denial_number SetExists = 20
denial_number NoSet = 21
denial_number BadCardinality = 22
denial_number InSet = 23
denial_number NotInSet = 24
denial_number RoleConstrained = 25
denial_number Limit = 26
denial_number NoOperation = 27
denial_number NoObject = 28
denial_number Limited = 29

-- the word of a denial, as bytes
abbrev pub denial_word : Denial → List ℕ
denial_word UserExists = codes "UserExists"
denial_word NoUser = codes "NoUser"
denial_word RoleExists = codes "RoleExists"
denial_word NoRole = codes "NoRole"
denial_word Assigned = codes "Assigned"
denial_word NotAssigned = codes "NotAssigned"
denial_word NoPermission = codes "NoPermission"
denial_word NotGranted = codes "NotGranted"
denial_word SessionExists = codes "SessionExists"
denial_word NoSession = codes "NoSession"
denial_word NotOwner = codes "NotOwner"
denial_word NotAuthorized = codes "NotAuthorized"
denial_word RoleActive = codes "RoleActive"
denial_word RoleNotActive = codes "RoleNotActive"
denial_word Inherits = codes "Inherits"
denial_word NoInheritance = codes "NoInheritance"
denial_word Cycle = codes "Cycle"
denial_word SsdViolated = codes "SsdViolated"
denial_word DsdViolated = codes "DsdViolated"
denial_word SetExists = codes "SetExists"
denial_word NoSet = codes "NoSet"
denial_word BadCardinality = codes "BadCardinality"
denial_word InSet = codes "InSet"
denial_word NotInSet = codes "NotInSet"
denial_word RoleConstrained = codes "RoleConstrained"
denial_word Limit = codes "Limit"
denial_word NoOperation = codes "NoOperation"
denial_word NoObject = codes "NoObject"
denial_word Limited = codes "Limited"
