use Rattle.std.proofs.Common.{rules, ◌≡◌, ℕ, List, length, get_or, Result, Ok, Err, IfOk, ap, sym, ◌∙◌, arith}
use Rattle.std.specs.declared.cmp.Ordering.{Ordering}
use Rattle.std.specs.declared.cmp.Ordering.TheVariants.{Less, Equal}
use Rattle.std.specs.List.Sorted.{IsBinarySearchResult}
use Rattle.std.proofs.lemmas.Fn.{always_returns_same}
use Rattle.sorted_keys.proofs.Beyond.{beyond, less_from_test}
use Rattle.hashed_keys.specs.Listed.{order_at}
use Rattle.hashed_keys.proofs.Listed.{search_listed}
use Rattle.hashed_keys.proofs.map.places.searched.Goals as goal

pub returns-in-Some-clause-gap : goal.returns-in-Some-clause-gap
returns-in-Some-clause-gap g c =
    let cmp = g.K.Ord.cmp in
    let sought = g.P.Probe.sought c.args.probe.now in
    let entries = c.args.entries.now in
    let order = c.args.order.now in
    let below : order_at cmp sought entries c.in-Some.last.now ≡ Less = sym c.compare_at.ensures ∙ less_from_test _ (sym c.is_lt.ensures ∙ c.if-is_lt.true) in
    let ends = beyond (order_at cmp sought entries) order (λ d. ap (order_at cmp sought entries) (sym (c.in-Some.ensures.item.3.1 d)) ∙ below) in
    (search_listed g.met.K.Ord.total sought entries order (Err (length order)) c.requires (omega arith) ends).1

pub returns-in_default-clause-found : goal.returns-in_default-clause-found
returns-in_default-clause-found g c =
    let sought = g.P.Probe.sought c.args.probe.now in
    let ends = c.binary_search_by.ensures.position (order_at g.K.Ord.cmp sought c.args.entries.now) (always_returns_same _ _ _ (λ a r f called. search rules)) in
    (search_listed g.met.K.Ord.total sought c.args.entries.now c.args.order.now c.binary_search_by.result c.requires c.binary_search_by.ensures.bound ends).0

if_found : {X : Type 0} (ord : X → Ordering) (xs : List X) (r : Result ℕ ℕ) (d : X) → IsBinarySearchResult ord xs r → IfOk r (λ at. ord (get_or xs at d) ≡ Equal)
if_found ord xs (Ok at) d ends = ends d
if_found ord xs (Err at) d ends = tt

pub returns-in_default-clause-tied : goal.returns-in_default-clause-tied
returns-in_default-clause-tied g c =
    let sought = g.P.Probe.sought c.args.probe.now in
    let ends = c.binary_search_by.ensures.position (order_at g.K.Ord.cmp sought c.args.entries.now) (always_returns_same _ _ _ (λ a r f called. search rules)) in
    if_found (order_at g.K.Ord.cmp sought c.args.entries.now) c.args.order.now c.binary_search_by.result 0 ends

pub returns-in_default-clause-gap : goal.returns-in_default-clause-gap
returns-in_default-clause-gap g c =
    let sought = g.P.Probe.sought c.args.probe.now in
    let ends = c.binary_search_by.ensures.position (order_at g.K.Ord.cmp sought c.args.entries.now) (always_returns_same _ _ _ (λ a r f called. search rules)) in
    (search_listed g.met.K.Ord.total sought c.args.entries.now c.args.order.now c.binary_search_by.result c.requires c.binary_search_by.ensures.bound ends).1
