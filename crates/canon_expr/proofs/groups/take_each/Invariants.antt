use Rattle.std.proofs.Common.{◌≡◌, ◌++◌, map, drop}
use Rattle.canon_expr.specs.Blocks.{NoMade}
use Rattle.canon_expr.specs.Kept.{made_view, left_after, taken_at}
use Rattle.canon_expr.proofs.groups.take_each.Given as goal

-- what is taken, and what is taken later
abbrev pub invariant-loop-member : goal.invariant-loop-member
invariant-loop-member l = record {
  taken : map made_view l.taken.items ++ taken_at NoMade (map made_view l.made.items) (drop l.member-index l.members)
      ≡ taken_at NoMade (map made_view l.initial.made.items) l.members;
  left : left_after NoMade (map made_view l.made.items) (drop l.member-index l.members)
      ≡ left_after NoMade (map made_view l.initial.made.items) l.members;
}
