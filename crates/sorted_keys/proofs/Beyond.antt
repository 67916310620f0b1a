-- What lies behind a whole list.
use Rattle.std.proofs.Common.{◌≡◌, ◌≤◌, ◌-◌, true, List, length, get_or, Err, refl, arith}
use Rattle.std.specs.declared.cmp.Ordering.{Ordering}
use Rattle.std.specs.declared.cmp.Ordering.TheVariants.{Less, Equal, Greater}
use Rattle.std.specs.List.Sorted.{IsBinarySearchResult}
use Rattle.std.specs.Ordering.{is_lt, ordering_index}
use Rattle.std.proofs.lemmas.Bool.{false≢true}

least : (o : Ordering) → ordering_index o ≤ 0 → o ≡ Less
least Less e = refl
least Equal e = absurd (omega arith)
least Greater e = absurd (omega arith)

-- where the last item is below what is sought, that would stand behind them all
pub beyond : {X : Type 0} (ord : X → Ordering) (xs : List X) → ((d : X) → ord (get_or xs (length xs - 1) d) ≡ Less) → IsBinarySearchResult ord xs (Err (length xs))
beyond ord xs last = λ rising. (
  λ j d low high. least (ord (get_or xs j d)) (let at_most = rising j (length xs - 1) d (omega arith) (omega arith) in rw (last d) at at_most),
  λ j d low high. absurd (omega arith),
)

pub less_from_test : (o : Ordering) → is_lt o ≡ true → o ≡ Less
less_from_test Less e = refl
less_from_test Equal e = absurd (false≢true e)
less_from_test Greater e = absurd (false≢true e)
