use Rattle.std.proofs.Common.{sym, ap, ◌∙◌, ◌++◌, ◌∷◌, [], Some}
use Rattle.elm_canon.specs.View.{group_view, pattern_view}
use Rattle.elm_canon.specs.Proper.{bound_by}
use Rattle.infer_order.specs.Spots.{in_group}
use Rattle.infer_order.proofs.Standing.{function_names, no_function, constant_names, pattern_names, weaken}
use Rattle.infer_order.proofs.order.push_names.Goals as goal

pub returns-in_ok-push-in-Some : goal.returns-in_ok-push-in-Some
returns-in_ok-push-in-Some c d found =
    c.in_ok-push-in-Some.ensures.items ∙ ap (λ x. c.args.names.now.items ++ x ∷ []) c.in_ok-copy_name-in-Some.ensures
    ∙ ap (λ xs. c.args.names.now.items ++ xs)
    (sym (function_names c.args.group.now c.in-Together.functions c.args.function c.in-Together.is c.deref.result.now
    c.deref.ensures.value c.in-Some.each.now
    c.in-Some.ensures.lookup.0 c.in-Some.ensures.lookup.1 d found))

pub returns-in-None : goal.returns-in-None
returns-in-None c d found =
    absurd (no_function c.args.group.now c.in-Together.functions c.args.function c.in-Together.is c.deref.result.now
    c.deref.ensures.value
    c.in-None.ensures.lookup.0 d found)

pub returns-in_ok-push-in-Constant : goal.returns-in_ok-push-in-Constant
returns-in_ok-push-in-Constant c d found =
    c.in_ok-push-in-Constant.ensures.items ∙ ap (λ x. c.args.names.now.items ++ x ∷ [])
    c.in_ok-copy_name-in-Constant.ensures
    ∙ ap (λ xs. c.args.names.now.items ++ xs)
    (sym (constant_names c.args.group.now c.in-Constant.title c.in-Constant.field-1 c.args.function c.in-Constant.is d
    found))

pub returns-in-Destructure : goal.returns-in-Destructure
returns-in-Destructure c =
    weaken c.push_bound.result c.push_bound.new.names.items c.args.names.now.items
    (bound_by (pattern_view c.in-Destructure.pattern))
    (in_group (Some (group_view c.args.group.now)) c.args.function) (λ d. d.names) c.push_bound.ensures
    (λ d found. pattern_names c.args.group.now c.in-Destructure.pattern c.in-Destructure.field-1 c.args.function
    c.in-Destructure.is d found)
