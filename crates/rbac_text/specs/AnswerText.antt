-- The text of an answer: compact JSON without blanks, its keys in the order of their bytes.
use Rattle.std.specs.Prelude.{ℕ, List, ◌++◌, codes, decimal}
use Rattle.rbac_terms.specs.Name.{Name, Permission}
use Rattle.rbac_terms.specs.Denials.{denial_word, denial_number}
use Rattle.rbac_terms.specs.declared.answer.Denial.{Denial}
use Rattle.rbac_terms.specs.declared.answer.Answer.{Answer}
use Rattle.rbac_terms.specs.declared.answer.Answer.TheVariants.{Done, Granted, Refused, Names, Permissions, Count, Denied}
use Rattle.rbac_text.specs.Pieces.{in_quotes, array_text}

-- {"denied":"NoSession","number":10}
abbrev pub denial_text : Denial → List ℕ
denial_text denial = codes "{\"denied\":\"" ++ denial_word denial ++ codes "\",\"number\":" ++ decimal (denial_number denial) ++ codes "}"

-- ["read","ledger"]: the operation and the object
abbrev pub permission_text : Permission → List ℕ
permission_text permission = codes "[" ++ in_quotes permission.0 ++ codes "," ++ in_quotes permission.1 ++ codes "]"

-- {"names":["boss","payer"]}
abbrev pub names_text : List Name → List ℕ
names_text names = codes "{\"names\":" ++ array_text in_quotes names ++ codes "}"

-- {"permissions":[["read","ledger"]]}
abbrev pub permissions_text : List Permission → List ℕ
permissions_text permissions = codes "{\"permissions\":" ++ array_text permission_text permissions ++ codes "}"

-- {"count":2}
abbrev pub count_text : ℕ → List ℕ
count_text count = codes "{\"count\":" ++ decimal count ++ codes "}"

-- "Done", "Granted", "Refused", what a review lists, or a denial
abbrev pub answer_text : Answer → List ℕ
answer_text Done = codes "\"Done\""
answer_text Granted = codes "\"Granted\""
answer_text Refused = codes "\"Refused\""
answer_text (Names names) = names_text names
answer_text (Permissions permissions) = permissions_text permissions
answer_text (Count count) = count_text count
answer_text (Denied denial) = denial_text denial

-- {"sessions":["morning"],"users":["ann"]}: who may perform an operation on an object
abbrev pub subjects_text : List Name → List Name → List ℕ
subjects_text sessions users = codes "{\"sessions\":" ++ array_text in_quotes sessions ++ codes ",\"users\":" ++ array_text in_quotes users ++ codes "}"
