-- The next group is ready: `ready_at`.
use Rattle.std.proofs.Common.{◌+◌, [], ◌++◌, take, arith, refl, subst}
use Rattle.decl_groups.specs.View.{members_of, joined}
use Rattle.canon_type.specs.CanonAliasesKept.{IsExpanding, uses_in}
use Rattle.canon_type.proofs.Ordering.{ready_at, mark_at, joined_next}
use Rattle.std.proofs.lemmas.List.{take_all}
use Rattle.canon_type.proofs.expanding.Expansion.add_groups.Goals as goal

pub loop-group-preserved : goal.loop-group-preserved
loop-group-preserved c =
    let groups = c.args.groups.now in
    let k = c.loop-group.group-index in
    let g = c.group-item.result in
    record {
      count = c.in_ok-add_group.ensures.count;
      expanding = λ s is home keeps same h order marks.
          subst (IsExpanding s c.add_group.new.self.world c.add_group.new.self.made.items)
          (joined_next groups k g (omega arith) c.group-item.is)
          (c.in_ok-add_group.ensures.expanding s (joined (members_of (take k groups))) is home keeps same
          (c.loop-group.invariant.expanding s is home keeps same h order marks)
          (ready_at (uses_in s) [] groups order k g (omega arith) c.group-item.is)
          (mark_at (uses_in s) groups marks k g (omega arith) c.group-item.is));
    }

pub returns : goal.returns
returns c = λ s is home keeps same h order marks.
    subst (λ l. IsExpanding s c.loop-group.self.world c.loop-group.self.made.items (joined (members_of l)))
    (take_all c.loop-group.group-index c.args.groups.now (omega arith))
    (c.loop-group.invariant.expanding s is home keeps same h order marks)
