-- The rows of juniors: what is found in them, and how they change.
use Rattle.std.proofs.Common.{ℕ, zero, suc, ◌≡◌, ◌+◌, ◌<◌, Bool, true, false, not, ◌||◌, cond, List, [], ◌∷◌, length, get_or, take, map, Some, None, is_some, Result, Ok, Err, OnOk, OnErr, refl, sym, ap, ◌∙◌, subst, arith, add-one}
use Rattle.std.specs.List.{filter}
use Rattle.std.specs.List.Sorted.{IsStrictlySortedBy}
use Rattle.std.specs.Ordering.{eq_by_cmp}
use Rattle.std.specs.FinMap.Entries.{find, put}
use Rattle.std.proofs.lemmas.Bool.{and_parts, or_right, false≢true}
use Rattle.std.proofs.lemmas.List.Kept.{IsStrictlySortedBy-filter}
use Rattle.sorted_keys.specs.Keys.{has, with_key, without, without_key, by_key}
use Rattle.sorted_keys.proofs.Order.{sorted_none}
use Rattle.sorted_keys.proofs.KeyPlace.{sorted_with_key}
use Rattle.sorted_keys.proofs.Members.{has-with_key, has-without}
use Rattle.rbac_terms.specs.Name.{Name, name_cmp}
use Rattle.rbac_terms.specs.Relations.{without_pairs_of}
use Rattle.rbac_terms.specs.Inheritance.{inherits, juniors}
use Rattle.sorted_keys.proofs.Ties.{ties_itself}
use Rattle.rbac_terms.proofs.NameLemmas.{names_total, names_exact}
use Rattle.rbac_hierarchy.specs.Order.{Order}
use Rattle.rbac_hierarchy.specs.Rows.{RangesOver, roles_in, rows_over, AreRows}
use Rattle.rbac_hierarchy.proofs.Kept.{keeps_all, key_kept, key_passed}
use Rattle.rbac_hierarchy.proofs.JuniorLemmas.{no_juniors, none_inherited, has_juniors, same_juniors, lone_juniors}
use Rattle.rbac_hierarchy.proofs.EntryLemmas.{keys_of_each, each_put, each_found, each_without, each_same, found_among}
use Rattle.rbac_hierarchy.proofs.RangeLemmas.{ranges_wider, ranges_without}

-- the rows have these roles
pub roles_of_rows : (roles : List Name) (declared : List (Name × Name)) (rows : List (Name × List Name)) → rows ≡ rows_over roles declared → roles_in rows ≡ roles
roles_of_rows roles declared rows are = ap roles_in are ∙ keys_of_each (juniors roles declared) roles

pub are_rows : (roles : List Name) (declared : List (Name × Name)) (rows : List (Name × List Name)) → IsStrictlySortedBy name_cmp roles → RangesOver roles declared → rows ≡ rows_over roles declared → AreRows declared rows
are_rows roles declared rows sorted ranges are =
    let same = sym (roles_of_rows roles declared rows are) in
    record {
      in_order = subst (λ (rs : List Name). IsStrictlySortedBy name_cmp rs) same sorted;
      ranges = subst (λ (rs : List Name). RangesOver rs declared) same ranges;
      juniors = are ∙ ap (λ (rs : List Name). rows_over rs declared) same;
    }

module _ (declared : List (Name × Name)) (rows : List (Name × List Name)) (right : AreRows declared rows) where
  found_row : (r : Name) → find name_cmp r rows ≡ cond (has name_cmp r (roles_in rows)) (Some (juniors (roles_in rows) declared r)) None
  found_row r = ap (find name_cmp r) right.juniors ∙ each_found (juniors (roles_in rows) declared) names_exact r (roles_in rows)

  -- the row that is found has the juniors, and without one there are none
  pub row_found : (r : Name) (names : List Name) → Some names ≡ find name_cmp r rows → names ≡ juniors (roles_in rows) declared r
  row_found r names e = elim (has name_cmp r (roles_in rows)) as (λ b. Some names ≡ cond b (Some (juniors (roles_in rows) declared r)) None → names ≡ juniors (roles_in rows) declared r) [
    | true ↦ λ f. cc
    | false ↦ λ f. cc
  ] (e ∙ found_row r)

  none_is_role : (r : Name) → None ≡ find name_cmp r rows → has name_cmp r (roles_in rows) ≡ false
  none_is_role r e = sym (found_among name_cmp r rows) ∙ sym (ap is_some e)

  pub no_row_found : (r : Name) → None ≡ find name_cmp r rows → [] ≡ juniors (roles_in rows) declared r
  no_row_found r e = sym (no_juniors (roles_in rows) declared r (none_is_role r e))

  pub none_found : (r q : Name) → None ≡ find name_cmp r rows → false ≡ inherits (roles_in rows) declared r q
  none_found r q e = sym (none_inherited (roles_in rows) declared r q (none_is_role r e))

  pub row_tells : (r q : Name) (names : List Name) (answer : Bool) → Some names ≡ find name_cmp r rows → answer ≡ has name_cmp q names → answer ≡ inherits (roles_in rows) declared r q
  row_tells r q names answer e told = told ∙ ap (has name_cmp q) (row_found r names e) ∙ has_juniors (roles_in rows) declared r q

  -- one role more, with itself alone in its row
  pub role_added : (role : Name) (rows_then : List (Name × List Name)) → has name_cmp role (roles_in rows) ≡ false → rows_then ≡ put name_cmp role (role ∷ []) rows
      → rows_then ≡ rows_over (with_key name_cmp role (roles_in rows)) declared
  role_added role rows_then absent are =
      let sorted = right.in_order in
      let more = with_key name_cmp role (roles_in rows) in
      let wider = λ (q : Name) (m : has name_cmp q (roles_in rows) ≡ true). has-with_key names_total role (roles_in rows) q ∙ or_right _ _ m in
      let same = each_same names_total (juniors (roles_in rows) declared) (juniors more declared) (roles_in rows) (same_juniors (roles_in rows) more declared right.ranges sorted (sorted_with_key names_total role _ sorted) wider) in
      are
      ∙ ap (λ t. put name_cmp role (role ∷ []) t) (right.juniors ∙ same)
      ∙ ap (λ t. put name_cmp role t (map (λ r. (r, juniors more declared r)) (roles_in rows))) (lone_juniors (roles_in rows) declared right.ranges role absent sorted)
      ∙ each_put (juniors more declared) names_exact role (roles_in rows)

-- the rows after a role was put in
pub rows_with_role : (role : Name) (declared : List (Name × Name)) (rows rows_then : List (Name × List Name)) → AreRows declared rows → has name_cmp role (roles_in rows) ≡ false
    → rows_then ≡ put name_cmp role (role ∷ []) rows → AreRows declared rows_then × (roles_in rows_then ≡ with_key name_cmp role (roles_in rows))
rows_with_role role declared rows rows_then right absent are =
    let added = role_added declared rows right role rows_then absent are in
    let more = with_key name_cmp role (roles_in rows) in
    let ranges = ranges_wider (roles_in rows) more declared (λ q m. has-with_key names_total role (roles_in rows) q ∙ or_right _ _ m) right.ranges in
    (are_rows more declared rows_then (sorted_with_key names_total role _ right.in_order) ranges added, roles_of_rows more declared rows_then added)

-- a role that is put where it was not, or for which there was no memory
pub role_put : {A E : Type 0} (result : Result A E) (role : Name) (declared : List (Name × Name)) (rows rows_then : List (Name × List Name)) → AreRows declared rows → has name_cmp role (roles_in rows) ≡ false
    → OnOk result (rows_then ≡ put name_cmp role (role ∷ []) rows) → OnErr result (rows_then ≡ rows) → AreRows declared rows_then × OnOk result (roles_in rows_then ≡ with_key name_cmp role (roles_in rows))
role_put (Ok x) role declared rows rows_then right absent ok err = rows_with_role role declared rows rows_then right absent ok
role_put (Err x) role declared rows rows_then right absent ok err = (subst (λ (t : List (Name × List Name)). AreRows declared t) (sym err) right, tt)

-- the rows without that of a role that is in no pair
pub role_taken : (role : Name) (declared declared_then : List (Name × Name)) (rows renewed rows_then : List (Name × List Name)) → AreRows declared rows → AreRows declared_then renewed
    → roles_in renewed ≡ roles_in rows → declared_then ≡ without_pairs_of role declared → rows_then ≡ without_key name_cmp role renewed → AreRows declared_then rows_then × (roles_in rows_then ≡ without name_cmp role (roles_in rows))
role_taken role declared declared_then rows renewed rows_then before right same_roles pairs out =
    let roles = roles_in renewed in
    let others = without name_cmp role (roles_in renewed) in
    let ranges : RangesOver (without name_cmp role (roles_in renewed)) declared_then = rw (same_roles, pairs) (ranges_without (roles_in rows) declared role before.ranges).1 in
    let narrower = λ (q : Name) (m : has name_cmp q others ≡ true). (and_parts _ _ (sym (has-without names_total role roles q) ∙ m)).1 in
    let sorted = IsStrictlySortedBy-filter name_cmp (λ q. not (eq_by_cmp name_cmp role q)) roles right.in_order in
    let same = each_same names_total (juniors others declared_then) (juniors roles declared_then) others (same_juniors others roles declared_then ranges sorted right.in_order narrower) in
    let left = out ∙ ap (λ t. without_key name_cmp role t) right.juniors ∙ each_without (juniors roles declared_then) name_cmp role roles ∙ sym same in
    (are_rows others declared_then rows_then sorted ranges left, roles_of_rows others declared_then rows_then left ∙ ap (λ rs. without name_cmp role rs) same_roles)

-- the rows of the same roles over other pairs
pub rows_renewed : (declared : List (Name × Name)) (rows renewed : List (Name × List Name)) → IsStrictlySortedBy name_cmp (roles_in rows) → RangesOver (roles_in rows) declared → renewed ≡ rows_over (roles_in rows) declared → AreRows declared renewed × (roles_in renewed ≡ roles_in rows)
rows_renewed declared rows renewed sorted ranges are = (are_rows (roles_in rows) declared renewed sorted ranges are, roles_of_rows (roles_in rows) declared renewed are)

-- the keys of the entries that pass, up to one more entry that does
pub key_more : (p : Name × List Name → Bool) (es : List (Name × List Name)) (i : ℕ) (e : Name × List Name) (names : List Name)
    → IsStrictlySortedBy (by_key name_cmp) es → i < length es → e ≡ get_or es i e → p e ≡ true → names ≡ roles_in (filter p (take i es)) → with_key name_cmp e.0 names ≡ roles_in (filter p (take (i + 1) es))
key_more p es i e names sorted lt is passes so_far =
    ap (λ t. with_key name_cmp e.0 t) so_far
    ∙ ap (λ (x : Name × List Name). with_key name_cmp x.0 (roles_in (filter p (take i es)))) is
    ∙ key_kept names_total p es i e sorted lt (ap p (sym is) ∙ passes)
    ∙ ap (λ n. roles_in (filter p (take n es))) (sym (add-one i))

-- the keys that pass are those of the entries whose keys do
pub keys_where : (p : Name → Bool) (es : List (Name × List Name)) → roles_in (filter (λ e. p e.0) es) ≡ filter p (roles_in es)
keys_where p [] = refl
keys_where p (e ∷ es) = elim (p e.0) as (λ b. roles_in (cond b (e ∷ filter (λ x. p x.0) es) (filter (λ x. p x.0) es)) ≡ cond b (e.0 ∷ filter p (roles_in es)) (filter p (roles_in es))) [
  | true ↦ ap (λ t. e.0 ∷ t) (keys_where p es)
  | false ↦ keys_where p es
]

-- or one that does not
pub key_less : (p : Name × List Name → Bool) (es : List (Name × List Name)) (i : ℕ) (e : Name × List Name) (names : List Name)
    → i < length es → e ≡ get_or es i e → p e ≡ false → names ≡ roles_in (filter p (take i es)) → names ≡ roles_in (filter p (take (i + 1) es))
key_less p es i e names lt is fails so_far = so_far ∙ key_passed names_total p es i e lt (ap p (sym is) ∙ fails) ∙ ap (λ n. roles_in (filter p (take n es))) (sym (add-one i))

-- the rows up to one more entry
pub rows_more : (all : List Name) (declared : List (Name × Name)) (es : List (Name × List Name)) (i : ℕ) (e : Name × List Name) (names : List Name) (renewed : List (Name × List Name))
    → IsStrictlySortedBy (by_key name_cmp) es → i < length es → e ≡ get_or es i e → names ≡ juniors all declared e.0 → renewed ≡ map (λ r. (r, juniors all declared r)) (roles_in (take i es))
    → put name_cmp e.0 names renewed ≡ map (λ r. (r, juniors all declared r)) (roles_in (take (i + 1) es))
rows_more all declared es i e names renewed sorted lt is are so_far =
    let next = key_more (λ _. true) es i e (roles_in (take i es)) sorted lt is refl (ap roles_in (sym (keeps_all (take i es)))) ∙ ap roles_in (keeps_all (take (i + 1) es)) in
    ap (λ t. put name_cmp e.0 t renewed) are
    ∙ ap (λ t. put name_cmp e.0 (juniors all declared e.0) t) so_far
    ∙ each_put (juniors all declared) names_exact e.0 (roles_in (take i es))
    ∙ ap (λ (t : List Name). map (λ r. (r, juniors all declared r)) t) next

-- an entry's key is one of the keys
pub key_among : (es : List (Name × List Name)) (i : ℕ) (e : Name × List Name) → i < length es → e ≡ get_or es i e → has name_cmp e.0 (roles_in es) ≡ true
key_among es i e lt is = ap (λ (x : Name × List Name). has name_cmp x.0 (roles_in es)) is ∙ go es i lt
  where
    go : (es : List (Name × List Name)) (i : ℕ) → i < length es → has name_cmp (get_or es i e).0 (roles_in es) ≡ true
    go [] i lt = absurd (omega arith)
    go (x ∷ xs) zero lt = ap (λ b. b || has name_cmp x.0 (roles_in xs)) (ties_itself names_total x.0)
    go (x ∷ xs) (suc i) lt = or_right _ _ (go xs i (omega arith))

-- no rows over no pairs
pub no_rows : AreRows [] []
no_rows = record { in_order = sorted_none name_cmp; ranges = λ a b m. absurd (false≢true m); juniors = refl }

-- the same roles make the same hierarchy
pub same_order : {A E : Type 0} (result : Result A E) (roles roles_then : List Name) (declared : List (Name × Name)) → OnOk result (roles_then ≡ roles) → OnOk result (let before : Order = record { roles = roles_then; declared = declared } in before ≡ record { roles = roles; declared = declared })
same_order (Ok x) roles roles_then declared same = λ i. record { roles = same i; declared = declared }
same_order (Err x) roles roles_then declared same = tt
