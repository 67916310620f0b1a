-- A member's fields as what they stand for.
use Rattle.std.specs.Prelude.{◌≡◌}
use Rattle.rbac_words.specs.Keeping.Member.{Member, IsMember, known}
use Rattle.rbac_member.specs.Serials.{AreCounted}
use Rattle.rbac_member.specs.declared.member.Member.TheInside.{Inside}

abbrev pub member_of : Inside → Member
member_of a = record {
  group = a.group;
  vocabulary = a.policy.vocabulary;
  number = a.number;
  clock = a.clock;
  sent = a.outbox.sent;
  read = a.links.read;
  latest = a.links.latest;
  held = a.held.held;
  history = a.history.items;
  policy = a.policy;
}

-- what each member keeps, and that its fields agree on whose they are
pub record IsKept (a : Inside) : Type 0 where
  pub counted : AreCounted a.serials.content (known (member_of a))
  pub limit : a.outbox.limit ≡ a.group.sent_limit
  pub me : a.links.me ≡ a.number
  pub members : a.held.members ≡ a.group.members
  pub kept : IsMember (member_of a)
