-- Reading a founding file of a stream.
use Rattle.std.proofs.Common.{◌≡◌, ℕ, ◌+◌, List, [], ◌++◌, take, Option, None, Some, IfSome, Result, sym, ap, ◌∙◌, subst}
use Rattle.std.specs.Option.{option_map}
use Rattle.std.specs.Io.Take.{take_limit, take_inner, take_remaining}
use Rattle.std.specs.declared.io.traits.Take.{Take}
use Rattle.rbac_founding.specs.FoundingFile.{founding_of, longest_file}
use Rattle.rbac_founding.specs.declared.founding.Founding.{Founding}
use Rattle.rbac_founding.specs.declared.refusal.FoundingRefusal.{FoundingRefusal}
use Rattle.rbac_founding.proofs.FoundingLemmas.{founding_of_front}

by_known : (known : Option (List ℕ)) (n : ℕ) (old bytes : List ℕ) → old ≡ [] → IfSome (option_map (take n) known) (λ xs. bytes ≡ old ++ xs) → IfSome known (λ file. bytes ≡ take n file)
by_known None n old bytes none read = tt
by_known (Some file) n old bytes none read = read ∙ ap (λ l. l ++ take n file) none

-- what is read through a limit is the front of what there is
pub front_read : {R : Type 0} (remaining : R → Option (List ℕ)) (limited : Take R) (reader : R) (n : ℕ) (old bytes : List ℕ)
    → take_limit limited ≡ n → take_inner limited ≡ reader → old ≡ [] → IfSome (take_remaining remaining limited) (λ xs. bytes ≡ old ++ xs)
    → IfSome (remaining reader) (λ file. bytes ≡ take n file)
front_read remaining limited reader n old bytes limit inner none read =
    let of_reader = subst (λ r. IfSome (option_map (take (take_limit limited)) (remaining r)) (λ xs. bytes ≡ old ++ xs)) inner read in
    by_known (remaining reader) n old bytes none (subst (λ k. IfSome (option_map (take k) (remaining reader)) (λ xs. bytes ≡ old ++ xs)) limit of_reader)

-- what the front of a file is read as, the file is
pub known_file : (known : Option (List ℕ)) (bytes shown : List ℕ) (answer : Result Founding FoundingRefusal)
    → IfSome known (λ file. bytes ≡ take (longest_file + 1) file) → shown ≡ bytes → founding_of shown ≡ answer → IfSome known (λ file. founding_of file ≡ answer)
known_file None bytes shown answer front same is = tt
known_file (Some file) bytes shown answer front same is = sym (founding_of_front file) ∙ ap founding_of (sym front) ∙ ap founding_of (sym same) ∙ is
