-- One group more: `any_next`.
use Rattle.std.proofs.Common.{◌||◌, ◌&&◌, arith, sym, ap, ◌∙◌}
use Rattle.std.proofs.lemmas.List.{take_all}
use Rattle.decl_groups.specs.InOrder.{is_in}
use Rattle.decl_groups.specs.View.{is_marked}
use Rattle.decl_groups.specs.declared.grouping.Group.{Group}
use Rattle.std.proofs.Common.{take, get_or}
use Rattle.canon_env.proofs.Filtering.{any_next, take_next}
use Rattle.canon_expr.proofs.reaching.marks_in.Goals as goal

pub loop-group-preserved : goal.loop-group-preserved
loop-group-preserved c =
    let groups = c.args.order.now.groups.items in
    let k = c.loop-group.group-index in
    let g = c.group-item.result in
    record {
      count = c.mark_group.ensures.count ∙ c.loop-group.invariant.count;
      marks = λ i lt.
          c.mark_group.ensures.marks i (omega (arith, lt, c.loop-group.invariant.count))
          ∙ ap (λ b. b || (g.is_recursive && is_in i g.members.items)) (c.loop-group.invariant.marks i lt)
          ∙ any_next (λ (h : Group). h.is_recursive && is_in i h.members.items) (take k groups) g
          ∙ ap (λ gs. is_marked gs i) (sym (take_next groups k g (omega arith)
          (c.group-item.is ∙ ap (λ l. get_or l k g) c.deref-group-items.ensures.value)));
    }

pub returns-clause-marks : goal.returns-clause-marks
returns-clause-marks c = λ i lt.
    c.loop-group.invariant.marks i lt
    ∙ ap (λ gs. is_marked gs i) (take_all c.loop-group.group-index c.args.order.now.groups.items (omega arith))
