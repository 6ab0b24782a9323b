use Rattle.std.proofs.Common.{◌∙◌, ap, sym, Some}
use Rattle.elm_canon.specs.View.{group_view, expr_view}
use Rattle.type_items.specs.Uses.{used}
use Rattle.infer_order.specs.Owners.{all_numbers}
use Rattle.infer_order.specs.Spots.{in_group}
use Rattle.infer_order.proofs.Standing.{function_uses, no_function, constant_uses, pattern_uses, weaken}
use Rattle.infer_order.proofs.order.push_uses.Goals as goal

pub returns-in-Some : goal.returns-in-Some
returns-in-Some c =
    weaken c.push_expr.result c.push_expr.new.found.items c.args.found.now.items
    (all_numbers c.args.owners.now (used (expr_view c.deref-in-Some.result.now)))
    (in_group (Some (group_view c.args.group.now)) c.args.function) (λ d. all_numbers c.args.owners.now d.uses)
    c.push_expr.ensures
    (λ d found. ap (all_numbers c.args.owners.now)
    (function_uses c.args.group.now c.in-Together.functions c.args.function c.in-Together.is c.deref.result.now
    c.deref.ensures.value c.in-Some.each.now
    c.in-Some.ensures.lookup.0 c.in-Some.ensures.lookup.1 d found
    ∙ sym (ap (λ e. used (expr_view e)) c.deref-in-Some.ensures)))

pub returns-in-None : goal.returns-in-None
returns-in-None c d found =
    absurd (no_function c.args.group.now c.in-Together.functions c.args.function c.in-Together.is c.deref.result.now
    c.deref.ensures.value
    c.in-None.ensures.lookup.0 d found)

pub returns-in-Constant : goal.returns-in-Constant
returns-in-Constant c =
    weaken c.push_expr-in-Constant.result c.push_expr-in-Constant.new.found.items c.args.found.now.items
    (all_numbers c.args.owners.now (used (expr_view c.deref-in-Constant.result.now)))
    (in_group (Some (group_view c.args.group.now)) c.args.function)
    (λ d. all_numbers c.args.owners.now d.uses) c.push_expr-in-Constant.ensures
    (λ d found. ap (all_numbers c.args.owners.now)
    (constant_uses c.args.group.now c.in-Constant.field-0 c.in-Constant.body c.args.function c.in-Constant.is d found
    ∙ sym (ap (λ e. used (expr_view e)) c.deref-in-Constant.ensures)))

pub returns-in-Destructure : goal.returns-in-Destructure
returns-in-Destructure c =
    weaken c.push_expr-in-Destructure.result c.push_expr-in-Destructure.new.found.items c.args.found.now.items
    (all_numbers c.args.owners.now (used (expr_view c.deref-in-Destructure.result.now)))
    (in_group (Some (group_view c.args.group.now)) c.args.function)
    (λ d. all_numbers c.args.owners.now d.uses) c.push_expr-in-Destructure.ensures
    (λ d found. ap (all_numbers c.args.owners.now)
    (pattern_uses c.args.group.now c.in-Destructure.field-0 c.in-Destructure.body c.args.function c.in-Destructure.is d
    found ∙ sym (ap (λ e. used (expr_view e)) c.deref-in-Destructure.ensures)))
