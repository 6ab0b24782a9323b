-- One group more.
use Rattle.std.proofs.Common.{◌||◌, ◌&&◌, [], ◌∷◌, take, arith, sym, ap, ◌∙◌}
use Rattle.std.proofs.lemmas.List.{take_all}
use Rattle.std.proofs.lemmas.List.Folds.{list_any-append}
use Rattle.decl_groups.specs.InOrder.{is_in}
use Rattle.decl_groups.specs.View.{is_marked}
use Rattle.decl_groups.specs.declared.grouping.Group.{Group}
use Rattle.canon_env.proofs.Filtering.{take_next}
use Rattle.canon_type.proofs.recursion.marks_of.Goals as goal

pub loop-group-preserved : goal.loop-group-preserved
loop-group-preserved c =
    let groups = c.args.groups.now in
    let k = c.loop-group.group-index in
    let g = c.group-item.result in
    record {
      count = c.mark_group.ensures.count ∙ c.loop-group.invariant.count;
      marks = λ i lt.
          c.mark_group.ensures.marks i (omega (arith, lt, c.loop-group.invariant.count))
          ∙ ap (λ b. b || is_marked (g ∷ []) i) (c.loop-group.invariant.marks i lt)
          ∙ sym (list_any-append (λ (h : Group). h.is_recursive && is_in i h.members.items) (take k groups) (g ∷ []))
          ∙ ap (λ gs. is_marked gs i) (sym (take_next groups k g (omega arith) c.group-item.is));
    }

pub returns-clause-marks : goal.returns-clause-marks
returns-clause-marks c = λ i lt.
    c.loop-group.invariant.marks i lt
    ∙ ap (λ gs. is_marked gs i) (take_all c.loop-group.group-index c.args.groups.now (omega arith))
