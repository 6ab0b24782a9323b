use Rattle.std.specs.Prelude.{◌≡◌, ◌<◌, ◌++◌, length, map}
use Rattle.std.specs.List.{All}
use Rattle.decl_groups.specs.Groups.{plain}
use Rattle.decl_groups.specs.InOrder as computed
use Rattle.decl_groups.specs.View.{members_of, marks_of}
use Rattle.decl_groups.proofs.grouping.ordered_groups.Given as goal

-- the groups that are told and those that are left are all groups
abbrev pub invariant-loop-members : goal.invariant-loop-members
invariant-loop-members l = record {
  all : members_of l.told.items ++ plain l.members-iterator.rest.items ≡ plain l.initial.members-iterator.rest.items;
  marks : marks_of l.told.items ≡ map (computed.is_recursive (plain l.uses)) (members_of l.told.items);
  within : All (λ group. All (λ i. i < length l.uses) group.items) l.members-iterator.rest.items;
}
