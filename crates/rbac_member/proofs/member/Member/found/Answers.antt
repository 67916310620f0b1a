use Rattle.std.proofs.Common.{rules, ◌≡◌, subst, sym}
use Rattle.rbac_words.specs.Keeping.Member.{IsMember, founded}
use Rattle.rbac_order.proofs.MemberLemmas.{keeps_founded}
use Rattle.rbac_member.specs.Inside.{member_of}
use Rattle.rbac_member.specs.declared.member.Member.TheInside.{Inside}
use Rattle.rbac_member.proofs.member.Member.found.Goals as goal

pub invariant_of-result : goal.invariant_of-result
invariant_of-result c =
    let inside : Inside = record {
      group = c.args.group;
      number = c.args.number;
      clock = c.clock.result;
      serials = c.new.result;
      outbox = c.found.result;
      links = c.found-2.result;
      held = c.empty.result;
      history = c.new-2.result;
      policy = c.found-3.result;
    } in
    let same : member_of inside ≡ founded c.args.group c.args.number c.args.vocabulary = search rules in
    record {
      counted = search rules;
      limit = search rules;
      me = search rules;
      members = search rules;
      kept = subst IsMember (sym same) (keeps_founded c.args.group c.args.number c.args.vocabulary c.invariants.ensures (search rules) (search rules));
    }
