-- What one list of commands has that another has not.
use Rattle.std.proofs.Common.{ℕ, ◌+◌, ◌<◌, ◌≡◌, Bool, true, false, not, cond, ◌||◌, List, [], ◌∷◌, ◌++◌, map, take, length, get_or, refl, sym, ap, ◌∙◌}
use Rattle.std.proofs.lemmas.List.{take_more}
use Rattle.std.proofs.lemmas.List.Folds.{list_any-append}
use Rattle.std.specs.Prelude.{if◌then◌else◌}
use Rattle.std.specs.BTreeSet.{insert_key}
use Rattle.std.specs.declared.cmp.Ordering.{Ordering}
use Rattle.std.specs.declared.cmp.Ordering.TheVariants.{Less, Equal, Greater}
use Rattle.std.specs.FinMap.Entries.{by_order}
use Rattle.std.specs.List.{flat_map, filter, list_any}
use Rattle.std.specs.Ordering.{eq_by_cmp, match_ordering}
use Rattle.sorted_keys.specs.Keys.{has, with_key}
use Rattle.sorted_keys.proofs.Members.{has-with_key}
use Rattle.rbac_terms.specs.declared.command.Command.{Command}
use Rattle.rbac_terms.proofs.NameLemmas.{names_total}
use Rattle.rbac_text.specs.Lines.{asking_line}
use Rattle.rbac_pages.specs.DifferenceText.{is_line_of, line_cmp, marked_text, only_in}

-- ---- The set of lines

-- a set of things that are ordered by their bytes has one line more
inserted : {V : Type 0} (bytes : V → List ℕ) (key : V) (keys : List V) → map bytes (insert_key (λ x y. line_cmp (bytes x) (bytes y)) keys key) ≡ with_key line_cmp (bytes key) (map bytes keys)
inserted bytes key [] = refl
inserted bytes key (x ∷ xs) = go (line_cmp (bytes key) (bytes x)) (inserted bytes key xs)
  where
    go : (r : Ordering) → map bytes (insert_key (λ x y. line_cmp (bytes x) (bytes y)) xs key) ≡ with_key line_cmp (bytes key) (map bytes xs)
        → map bytes (match_ordering r (key ∷ x ∷ xs) (x ∷ xs) (x ∷ insert_key (λ x y. line_cmp (bytes x) (bytes y)) xs key)) ≡ by_order r (bytes key ∷ bytes x ∷ map bytes xs) (bytes x ∷ map bytes xs) (bytes x ∷ with_key line_cmp (bytes key) (map bytes xs))
    go Less e = refl
    go Equal e = refl
    go Greater e = ap (λ l. bytes x ∷ l) e

last_first : (x l : Bool) → (x || l) ≡ (l || (x || false))
last_first true true = refl
last_first true false = refl
last_first false true = refl
last_first false false = refl

-- the lines of the commands so far, and of one more
pub line_more : {V : Type 0} (bytes : V → List ℕ) (keys new : List V) (key : V) (commands : List Command) (i : ℕ) (command : Command) → i < length commands → command ≡ get_or commands i command
    → new ≡ insert_key (λ x y. line_cmp (bytes x) (bytes y)) keys key → bytes key ≡ asking_line command
    → (line : List ℕ) → has line_cmp line (map bytes keys) ≡ is_line_of (take i commands) line → has line_cmp line (map bytes new) ≡ is_line_of (take (i + 1) commands) line
line_more bytes keys new key commands i command within is made told line before =
    let test : Command → Bool = λ c. eq_by_cmp line_cmp line (asking_line c) in
    let front = take_more commands i command within ∙ ap (λ c. take i commands ++ c ∷ []) (sym is) in
    ap (λ k. has line_cmp line (map bytes k)) made
    ∙ ap (has line_cmp line) (inserted bytes key keys)
    ∙ has-with_key names_total (bytes key) (map bytes keys) line
    ∙ ap (λ k. eq_by_cmp line_cmp line k || has line_cmp line (map bytes keys)) told
    ∙ ap (λ b. test command || b) before
    ∙ last_first (test command) (is_line_of (take i commands) line)
    ∙ sym (ap (list_any test) front ∙ list_any-append test (take i commands) (command ∷ []))

-- ---- The text

-- what is put of those that pass a test is the text of the others
only_flat : {X : Type 0} (test : X → Bool) (text_of : X → List ℕ) (xs : List X) → flat_map (λ x. if test x then [] else text_of x) xs ≡ flat_map text_of (filter (λ x. not (test x)) xs)
only_flat test text_of [] = refl
only_flat {X} test text_of (x ∷ xs) = go (test x) (only_flat test text_of xs)
  where
    rest : List ℕ
    rest = flat_map (λ x. if test x then [] else text_of x) xs

    kept : List X
    kept = filter (λ x. not (test x)) xs

    go : (b : Bool) → rest ≡ flat_map text_of kept → (if b then [] else text_of x) ++ rest ≡ flat_map text_of (cond (not b) (x ∷ kept) kept)
    go true e = e
    go false e = ap (λ l. text_of x ++ l) e

pub only_marked : (mark : List ℕ) (set : List (List ℕ)) (these others : List Command) → ((line : List ℕ) → has line_cmp line set ≡ is_line_of others line)
    → flat_map (λ command. if has line_cmp (asking_line command) set then [] else mark ++ asking_line command) these ≡ marked_text mark (only_in these others)
only_marked mark set these others same =
    ap (λ (test : List ℕ → Bool). flat_map (λ command. if test (asking_line command) then [] else mark ++ asking_line command) these) (λ i line. same line i)
    ∙ only_flat (λ command. is_line_of others (asking_line command)) (λ command. mark ++ asking_line command) these
