-- The fields of a member's links as what they stand for.
use Rattle.std.specs.Prelude.{◌≡◌, ◌≤◌, length, take}
use Rattle.rbac_words.specs.Limits.{most_members}
use Rattle.rbac_words.specs.Keeping.Links.{Links}
use Rattle.rbac_links.specs.declared.inlinks.Inlinks.TheInside.{Inside}

-- the links of the group's members; the arrays have places for more
abbrev pub links_of : Inside → Links
links_of a = record { me = a.me; read = take a.members a.read; latest = take a.members a.latest }

-- each member of the group has a place in both arrays
pub record HasPlaces (a : Inside) : Type 0 where
  pub members : a.members ≤ most_members
  pub same_length : length a.latest ≡ length a.read
