use Rattle.std.proofs.Common.{ℕ, ◌≡◌, ◌+◌, ◌<◌, List, [], ◌∷◌, ◌++◌, ◌∙◌, length, map, take, get_or, refl, sym, ap, append_assoc}
use Rattle.std.specs.Fn.{FnReturnsAt}
use Rattle.std.proofs.lemmas.Fn.{says_at}
use Rattle.std.proofs.lemmas.List.{map_more, take_all}
use Rattle.rbac_dump.proofs.telling.tell_all.Goals as goal

-- one thing more
one_more : {X Y : Type 0} (f : X → Y) (before so_far then : List Y) (y : Y) (xs : List X) (i : ℕ) (x : X) → i < length xs → x ≡ get_or xs i x → y ≡ f x → so_far ≡ before ++ map f (take i xs)
    → then ≡ so_far ++ y ∷ [] → then ≡ before ++ map f (take (i + 1) xs)
one_more f before so_far then y xs i x within is image told pushed =
    pushed
    ∙ (λ j. told j ++ image j ∷ [])
    ∙ append_assoc before (map f (take i xs)) (f x ∷ [])
    ∙ ap (λ l. before ++ l) (ap (λ z. map f (take i xs) ++ f z ∷ []) is ∙ sym (map_more f xs i x within))

pub loop-thing-preserved : goal.loop-thing-preserved
loop-thing-preserved g c = λ command_of says.
    let thing = c.thing-item.result in
    let called : FnReturnsAt g.F.Fn c.args.tell thing c.tell.result = says_at g.F.Fn c.tell.ensures refl in
    let told : c.in_ok-command.command ≡ command_of thing = rw c.in_ok-command.was at (says thing c.tell.result called) in
    one_more command_of c.args.commands.now.items c.loop-thing.commands.items c.push.new.self.items c.in_ok-command.command c.args.things.now c.loop-thing.thing-index thing c.loop-thing-test.true c.thing-item.is told
    (c.loop-thing.invariant command_of says) c.in_ok-push.ensures.items

pub returns : goal.returns
returns g c = λ command_of says.
    c.loop-thing.invariant command_of says ∙ ap (λ l. c.args.commands.now.items ++ map command_of l) (take_all c.loop-thing.thing-index c.args.things.now c.loop-thing-test.false)
