-- What the links' arrays say in the words of the definitions.
use Rattle.std.proofs.Common.{ℕ, zero, suc, ◌≡◌, ◌≤◌, ◌<◌, ◌-◌, List, [], ◌∷◌, Option, Some, None, length, take, arith, refl, ◌∙◌, ap, slice_set, slice_get, option_map}
use Rattle.std.proofs.lemmas.Grind.{common_steps}
use Rattle.std.proofs.lemmas.List.{length-take}
use Rattle.std.proofs.Math.Seq.{take-set-lt}
use Rattle.rbac_words.specs.Keeping.Links.{Links, next_of, link_refusal, taken_from}
use Rattle.rbac_words.specs.Stamp.{last_stamp}
use Rattle.rbac_words.specs.Message.{stamp_of}
use Rattle.rbac_words.specs.declared.message.Message.{Message}
use Rattle.rbac_words.specs.declared.stamp.Stamp.{Stamp}
use Rattle.rbac_links.specs.Inside.{links_of}
use Rattle.rbac_links.specs.declared.inlinks.Inlinks.TheInside.{Inside}

-- lists of one length stay so
pub same_length : (n : ℕ) (xs : List ℕ) (ys : List (Option Stamp)) → length ys ≡ length xs → length (take n ys) ≡ length (take n xs)
same_length n xs ys e = rw (length-take n ys, length-take n xs, e)

-- a message that is not refused is of a member of the group, and the next one of it
pub not_refused : (l : Links) (from number : ℕ) (s : Stamp) → link_refusal l from number s ≡ None → record { first : 1 ≤ from; last : from ≤ length l.read; next : number ≡ next_of l from }
not_refused l from number s e = record {
  first = grind (arith, common_steps);
  last = grind (arith, common_steps);
  next = grind (arith, common_steps);
}

-- the last of some messages was sent at their last stamp
last_at : (m : Message) (ms : List Message) (i : ℕ) → i ≡ length ms → last_stamp stamp_of (m ∷ ms) ≡ option_map stamp_of (slice_get (m ∷ ms) i)
last_at m [] zero e = refl
last_at m [] (suc i) e = absurd (let no : ⊥ = omega arith in no)
last_at m (n ∷ ms) zero e = absurd (let no : ⊥ = omega arith in no)
last_at m (n ∷ ms) (suc i) e = last_at n ms i (omega arith)

pub last_is : (ms : List Message) → last_stamp stamp_of ms ≡ option_map stamp_of (slice_get ms (length ms - 1))
last_is [] = refl
last_is (m ∷ ms) = last_at m ms (length (m ∷ ms) - 1) (omega arith)

-- the arrays with the next message of a member are its links after that message
pub taken_is : (a : Inside) (l : Links) (from number : ℕ) (s : Stamp) → links_of a ≡ l → link_refusal l from number s ≡ None →
    links_of (record a { read = slice_set a.read (from - 1) number; latest = slice_set a.latest (from - 1) (Some s) }) ≡ taken_from l from s
taken_is a l from number s is free =
    let facts = not_refused (links_of a) from number s (ap (λ k. link_refusal k from number s) is ∙ free) in
    let in_list : from - 1 < a.members = omega (arith, length-take a.members a.read, facts.first, facts.last) in
    let taken : links_of (record a { read = slice_set a.read (from - 1) number; latest = slice_set a.latest (from - 1) (Some s) }) ≡ taken_from (links_of a) from s =
    rw (take-set-lt a.members a.read (from - 1) number in_list, take-set-lt a.members a.latest (from - 1) (Some s) in_list, facts.next) in
    taken ∙ ap (λ k. taken_from k from s) is
