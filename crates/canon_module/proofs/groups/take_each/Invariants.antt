use Rattle.std.proofs.Common.{◌≡◌, ◌++◌, map, drop}
use Rattle.canon_expr.specs.Kept.{made_view, left_after, taken_at}
use Rattle.canon_module.specs.Items.{made_by}
use Rattle.canon_module.specs.CanonValuesKept.{item_view, nothing}
use Rattle.canon_module.proofs.groups.take_each.Given as goal

-- what is taken, and what is taken later
abbrev pub invariant-loop-member : goal.invariant-loop-member
invariant-loop-member l = record {
  taken : map made_view l.taken.items
      ++ map made_by (taken_at nothing (map item_view l.items.items) (drop l.member-index l.members))
      ≡ map made_by (taken_at nothing (map item_view l.initial.items.items) l.members);
  left : left_after nothing (map item_view l.items.items) (drop l.member-index l.members)
      ≡ left_after nothing (map item_view l.initial.items.items) l.members;
}
