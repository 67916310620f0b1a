-- Entries at places, in the order of their keys: where a key stands, and what each change makes of them.
use Rattle.std.proofs.Common.{ℕ, ◌≡◌, ◌<◌, ◌≤◌, ◌+◌, ◌==◌, inl, inr, Bool, true, false, List, length, get_or, set, Some, None, is_some, Result, Ok, Err, IfOk, IfErr, OnOk, OnErr, refl, sym, ap, subst, ◌∙◌, arith, true≢false}
use Rattle.std.specs.declared.cmp.Ordering.{Ordering}
use Rattle.std.specs.declared.cmp.Ordering.TheVariants.{Less, Equal}
use Rattle.std.specs.Cmp.{IsTotalOrder}
use Rattle.std.specs.FinMap.Entries.{find, put}
use Rattle.std.specs.List.{insert, remove, slice_get}
use Rattle.std.specs.List.Sorted.{IsStrictlySortedBy, IsBinarySearchResult, IsSearchInRange}
use Rattle.std.specs.Option.{option_map, option_map_or}
use Rattle.std.specs.Ordering.{is_eq}
use Rattle.std.proofs.lemmas.Bool.{eq-eqb}
use Rattle.std.proofs.lemmas.Bool.Decides.{eqb_tells}
use Rattle.std.proofs.lemmas.Cmp.{tied_itself}
use Rattle.std.proofs.lemmas.List.Kept.{IsStrictlySortedBy-filter}
use Rattle.std.proofs.lemmas.Option.{get_or_from_slice_get, slice_get-get_or, slice_get_within}
use Rattle.slab.specs.Slab.{Slab, get, ContainsKey, Updates}
use Rattle.sorted_keys.specs.Keys.{by_key, updated}
use Rattle.sorted_keys.specs.Place.{IsEntryAt, IsEntryGap}
use Rattle.sorted_keys.proofs.EntryPlace.{entry_place, sorted_put}
use Rattle.hashed_keys.specs.Listed.{listed, times, order_at, IsListed}
use Rattle.hashed_keys.proofs.Listing.{Some-same, first_of, same_read, one_if, times-insert, times-remove, place_in, AreKept, kept_from, listed-agree, listed-found, listed-length, listed-insert, listed-remove, listed-set}

at_most_one : (b : Bool) → one_if b ≤ 1
at_most_one true = omega arith
at_most_one false = omega arith

module _ {K X : Type 0} {R : K → K → Ordering} (o : IsTotalOrder R) where
  pub has_values : (s : Slab (K × X)) (order : List ℕ) → IsListed R s order → (p : ℕ) → 0 < times p order → is_some (get s p) ≡ true
  has_values s order l p more = elim (is_some (get s p)) as (λ b. is_some (get s p) ≡ b → b ≡ true) [
    | true ↦ λ _. refl
    | false ↦ λ none. absurd (omega (arith, more, l.once p, ap one_if none))
  ] refl

  pub are_kept : (s : Slab (K × X)) (order : List ℕ) → IsListed R s order → AreKept (get s) order
  are_kept s order l = kept_from (get s) order (has_values s order l)

  -- the places stand to a key as the entries that are listed there
  same_order : (k : K) (s : Slab (K × X)) (order : List ℕ) → AreKept (get s) order → (i d : ℕ) (e : K × X) → i < length order → order_at R k s (get_or order i d) ≡ R (get_or (listed s order) i e).0 k
  same_order k s order kept i d e lt =
      let p = get_or order i d in
      let found : slice_get (listed s order) i ≡ get s p = listed-found (get s) order i p kept (slice_get-get_or order i d lt) in
      let there = slice_get-get_or (listed s order) i e (omega (arith, lt, listed-length (get s) order kept)) in
      ap (λ v. option_map_or (λ (x : K × X). R x.0 k) v Less) (sym found ∙ there)

  -- an entry that ties with a key at its place, and where it is listed
  pub record IsFound (k : K) (s : Slab (K × X)) (order : List ℕ) (place : ℕ) : Type 0 where
    pub index : ℕ
    pub entry : K × X
    pub is_there : get s place ≡ Some entry
    pub placed : slice_get order index ≡ Some place
    pub read : get_or (listed s order) index entry ≡ entry
    pub stands : IsEntryAt R k (listed s order) index

  pub found_listed : (k : K) (s : Slab (K × X)) (order : List ℕ) (place : ℕ) → IsListed R s order → order_at R k s place ≡ Equal → IsFound k s order place
  found_listed k s order place l tied = elim (get s place) as (λ v. get s place ≡ v → option_map_or (λ e. R e.0 k) v Less ≡ Equal → IsFound k s order place) [
    | Some e ↦ λ there ties.
        let at = place_in order place (omega (arith, l.once place, ap (λ v. one_if (is_some v)) there)) in
        let found : slice_get (listed s order) at.0 ≡ Some e = listed-found (get s) order at.0 place (are_kept s order l) at.1 ∙ there in
        let read = λ (d : K × X). get_or_from_slice_get (listed s order) at.0 e d found in
        record {
          index = at.0;
          entry = e;
          is_there = there;
          placed = at.1;
          read = read e;
          stands = (entry_place o k (listed s order) (Ok at.0) l.in_order (slice_get_within (listed s order) at.0 e found) (λ d. rw (read d) ties)).0;
        }
    | None ↦ λ _ ties. absurd (true≢false (sym (ap is_eq ties)))
  ] refl tied

  pub find_listed : (k : K) (s : Slab (K × X)) (order : List ℕ) (place : ℕ) → IsListed R s order → order_at R k s place ≡ Equal → option_map (λ e. e.1) (get s place) ≡ find R k (listed s order)
  find_listed k s order place l tied =
      let f = found_listed k s order place l tied in
      ap (option_map (λ e. e.1)) f.is_there ∙ ap (λ e. Some e.1) (sym f.read) ∙ sym (f.stands.present f.entry)

  same_kept : (s t : Slab (K × X)) (order : List ℕ) (place : ℕ) → ((p : ℕ) → is_some (get t p) ≡ is_some (get s p)) → IsListed R s order → (p : ℕ) → times p order ≡ one_if (is_some (get t p))
  same_kept s t order place same l p = l.once p ∙ ap one_if (sym (same p))

  -- another value at the place of a key
  pub put_listed : (k : K) (v : X) (s t : Slab (K × X)) (order : List ℕ) (place : ℕ) (e : K × X) → IsListed R s order → order_at R k s place ≡ Equal → get s place ≡ Some e → Updates s t place (Some (e.0, v))
      → (listed t order ≡ put R k v (listed s order)) × IsListed R t order
  put_listed k v s t order place e l tied there u =
      let f = found_listed k s order place l tied in
      let same : f.entry ≡ e = Some-same (sym f.is_there ∙ there) in
      let once : times place order ≡ 1 = l.once place ∙ ap (λ v. one_if (is_some v)) there in
      let changed : listed t order ≡ set (listed s order) f.index (e.0, v) = listed-set (get s) (get t) order f.index place (e.0, v) (are_kept s order l) f.placed once u.changed u.others in
      let is_put : listed t order ≡ put R k v (listed s order) = changed ∙ ap (λ (d : K × X). set (listed s order) f.index (d.0, v)) (sym same ∙ sym f.read) ∙ f.stands.replaced v f.entry in (
        is_put,
        record {
          once = λ p. l.once p ∙ ap one_if (sym (kept_there p));
          in_order = subst (IsStrictlySortedBy (by_key R)) (sym is_put) (sorted_put o k v (listed s order) l.in_order);
        },
      )
    where
      kept_there : (p : ℕ) → is_some (get t p) ≡ is_some (get s p)
      kept_there p = elim (eqb_tells p place) [
        | inl same ↦ ap (λ q. is_some (get t q)) same.1 ∙ ap is_some u.changed ∙ sym (ap is_some there) ∙ ap (λ q. is_some (get s q)) (sym same.1)
        | inr other ↦ ap is_some (u.others p other.1)
      ]

  -- an entry at a new place, where the key had none
  pub insert_listed : (k : K) (v : X) (s t : Slab (K × X)) (order : List ℕ) (i place : ℕ) → IsListed R s order → IsEntryGap R k (listed s order) i → get s place ≡ None → Updates s t place (Some (k, v))
      → (listed t (insert order i place) ≡ put R k v (listed s order)) × IsListed R t (insert order i place)
  insert_listed k v s t order i place l gap vacant u =
      let none : times place order ≡ 0 = l.once place ∙ ap (λ v. one_if (is_some v)) vacant in
      let is_put : listed t (insert order i place) ≡ put R k v (listed s order) = listed-insert (get s) (get t) order place (has_values s order l) u.others i (k, v) none u.changed ∙ gap.inserted v in (
        is_put,
        record {
          once = λ p. times-insert place p order i ∙ counted p none;
          in_order = subst (IsStrictlySortedBy (by_key R)) (sym is_put) (sorted_put o k v (listed s order) l.in_order);
        },
      )
    where
      counted : (p : ℕ) → times place order ≡ 0 → times p order + one_if (place == p) ≡ one_if (is_some (get t p))
      counted p none = elim (eqb_tells place p) [
        | inl same ↦ omega (arith, ap (λ q. times q order) same.1, none, ap one_if same.0, ap (λ q. one_if (is_some (get t q))) same.1, ap (λ v. one_if (is_some v)) u.changed)
        | inr other ↦ omega (arith, ap one_if other.0, l.once p, ap (λ v. one_if (is_some v)) (u.others p (λ same. other.1 (sym same))))
      ]

  -- an entry less
  pub remove_listed : (s t : Slab (K × X)) (order : List ℕ) (i place : ℕ) → IsListed R s order → i < length order → get_or order i place ≡ place → Updates s t place None
      → (listed t (remove order i) ≡ remove (listed s order) i) × IsListed R t (remove order i)
  remove_listed s t order i place l lt is u =
      let kept = are_kept s order l in
      let less = λ (q : ℕ). times-remove q order i place lt in
      let here : one_if (get_or order i place == place) ≡ 1 = ap one_if (eq-eqb (get_or order i place) place is) in
      let none : times place (remove order i) ≡ 0 = omega (arith, less place, here, l.once place, at_most_one (is_some (get s place))) in
      let is_less = listed-remove (get s) (get t) order place (has_values s order l) u.others i none in
      let within : i < length (listed s order) = omega (arith, lt, listed-length (get s) order kept) in
      let e : K × X = first_of (listed s order) i within in
      let k = (get_or (listed s order) i e).0 in
      let stands = (entry_place o k (listed s order) (Ok i) l.in_order within (λ d. ap (λ (x : K × X). R x.0 k) (same_read (listed s order) i d e within) ∙ tied_itself o k)).0 in (
        is_less,
        record {
          once = λ p. counted p (less p) here none;
          in_order = subst (IsStrictlySortedBy (by_key R)) (sym is_less) (rw stands.removed (IsStrictlySortedBy-filter _ _ _ l.in_order));
        },
      )
    where
      counted : (p : ℕ) → times p (remove order i) + one_if (get_or order i place == p) ≡ times p order → one_if (get_or order i place == place) ≡ 1 → times place (remove order i) ≡ 0 → times p (remove order i) ≡ one_if (is_some (get t p))
      counted p less here none = elim (eqb_tells place p) [
        | inl same ↦ ap (λ q. times q (remove order i)) (sym same.1) ∙ none ∙ sym (ap (λ q. one_if (is_some (get t q))) (sym same.1) ∙ ap (λ v. one_if (is_some v)) u.changed)
        | inr other ↦ omega (arith, less, l.once p, ap (λ q. one_if (q == p)) is, ap one_if other.0, ap (λ v. one_if (is_some v)) (u.others p (λ same. other.1 (sym same))))
      ]

  -- what a binary search over the places finds
  pub search_listed : (k : K) (s : Slab (K × X)) (order : List ℕ) (r : Result ℕ ℕ) → IsListed R s order → IsSearchInRange r (length order) → IsBinarySearchResult (order_at R k s) order r
      → IfOk r (IsEntryAt R k (listed s order)) × IfErr r (IsEntryGap R k (listed s order))
  search_listed k s order (Ok at) l range tied =
      let kept = are_kept s order l in
      let within : at < length (listed s order) = omega (arith, range, listed-length (get s) order kept) in
      entry_place o k (listed s order) (Ok at) l.in_order within (λ d. sym (same_order k s order kept at 0 d range) ∙ tied 0)
  search_listed k s order (Err at) l range parts =
      let kept = are_kept s order l in
      let len = listed-length (get s) order kept in
      entry_place o k (listed s order) (Err at) l.in_order (omega (arith, range, len)) (λ rising.
      let point = parts (λ i j d le lt.
      let e = first_of (listed s order) j (omega (arith, lt, len)) in
      let low = same_order k s order kept i d e (omega arith) in
      let high = same_order k s order kept j d e lt in
      rw low (rw high (rising i j e le (omega (arith, lt, len))))) in (
        λ i d low high. sym (same_order k s order kept i 0 d (omega (arith, range))) ∙ point.0 i 0 low high,
        λ i d low high. sym (same_order k s order kept i 0 d (omega (arith, high, len))) ∙ point.1 i 0 low (omega (arith, high, len)),
      ))

  -- what is inside the list is inside the order
  pub within_order : (s : Slab (K × X)) (order : List ℕ) (es : List (K × X)) (i : ℕ) → IsListed R s order → listed s order ≡ es → i < length es → i < length order
  within_order s order es i l same lt = omega (arith, lt, ap length same, listed-length (get s) order (are_kept s order l))

  -- the entry at a place that stands in the order
  pub record IsIndexed (s : Slab (K × X)) (order : List ℕ) (i place : ℕ) : Type 0 where
    pub entry : K × X
    pub is_there : get s place ≡ Some entry
    pub contained : ContainsKey s place
    pub placed : slice_get order i ≡ Some place
    pub read : (d : K × X) → get_or (listed s order) i d ≡ entry

  pub indexed : (s : Slab (K × X)) (order : List ℕ) (i place : ℕ) → IsListed R s order → i < length order → place ≡ get_or order i place → IsIndexed s order i place
  indexed s order i place l lt is =
      let kept = are_kept s order l in
      let within : i < length (listed s order) = omega (arith, lt, listed-length (get s) order kept) in
      let e = get_or (listed s order) i (first_of (listed s order) i within) in
      let placed : slice_get order i ≡ Some place = slice_get-get_or order i place lt ∙ ap Some (sym is) in
      let found = slice_get-get_or (listed s order) i (first_of (listed s order) i within) within in
      let there : get s place ≡ Some e = sym (listed-found (get s) order i place kept placed) ∙ found in
      record {
        entry = e;
        is_there = there;
        contained = ap is_some there;
        placed = placed;
        read = λ d. same_read (listed s order) i d _ within;
      }

  -- another value at a place that stands in the order
  pub set_listed : (v : X) (s t : Slab (K × X)) (order : List ℕ) (i place : ℕ) (e : K × X) → IsListed R s order → i < length order → place ≡ get_or order i place → get s place ≡ Some e → Updates s t place (Some (e.0, v))
      → ((d : K × X) → (listed t order ≡ set (listed s order) i ((get_or (listed s order) i d).0, v)) × (get_or (listed s order) i d ≡ e)) × IsListed R t order
  set_listed v s t order i place e l lt is there u =
      let at = indexed s order i place l lt is in
      let same : at.entry ≡ e = Some-same (sym at.is_there ∙ there) in
      let once : times place order ≡ 1 = l.once place ∙ ap (λ w. one_if (is_some w)) there in
      let tied : order_at R e.0 s place ≡ Equal = ap (λ w. option_map_or (λ (x : K × X). R x.0 e.0) w Less) there ∙ tied_itself o e.0 in
      let changed : listed t order ≡ set (listed s order) i (e.0, v) = listed-set (get s) (get t) order i place (e.0, v) (are_kept s order l) at.placed once u.changed u.others in (
        λ d. (changed ∙ ap (λ (x : K × X). set (listed s order) i (x.0, v)) (sym (at.read d ∙ same)), at.read d ∙ same),
        (put_listed e.0 v s t order place e l tied there u).1,
      )

  -- a value that is changed, or kept, at the place of a key
  pub update_listed : {A E : Type 0} (k : K) (f : X → X) (v : X) (s t : Slab (K × X)) (order : List ℕ) (place : ℕ) (e : K × X) (r : Result A E) → IsListed R s order → order_at R k s place ≡ Equal → get s place ≡ Some e → Updates s t place (Some (e.0, v)) → OnOk r (v ≡ f e.1) → OnErr r (v ≡ e.1)
      → OnOk r (listed t order ≡ updated R k f (listed s order)) × OnErr r (listed t order ≡ listed s order)
  update_listed k f v s t order place e (Ok a) l tied there u changed kept =
      let found : find R k (listed s order) ≡ Some e.1 = sym (find_listed k s order place l tied) ∙ ap (option_map (λ (x : K × X). x.1)) there in (
        (put_listed k v s t order place e l tied there u).0
            ∙ ap (λ w. put R k w (listed s order)) changed
            ∙ sym (ap (λ w. option_map_or (λ x. put R k (f x) (listed s order)) w (listed s order)) found),
        tt,
      )
  update_listed k f v s t order place e (Err a) l tied there u changed kept =
      let same = λ (p : ℕ) (more : 0 < times p order). unchanged p in
      (tt, sym (listed-agree (get s) (get t) order same))
    where
      unchanged : (p : ℕ) → get s p ≡ get t p
      unchanged p = elim (eqb_tells p place) [
        | inl here ↦ ap (get s) here.1 ∙ there ∙ ap (λ w. Some (e.0, w)) (sym kept) ∙ sym u.changed ∙ ap (get t) (sym here.1)
        | inr other ↦ sym (u.others p other.1)
      ]

  -- where a key would go is inside the order, or behind it
  pub gap_within : (s : Slab (K × X)) (order : List ℕ) (k : K) (i : ℕ) → IsListed R s order → IsEntryGap R k (listed s order) i → i ≤ length order
  gap_within s order k i l gap = omega (arith, gap.in_range, listed-length (get s) order (are_kept s order l))
