use Rattle.std.proofs.Common.{◌≡◌, length, map, sym, ap, ◌∙◌, arith}
use Rattle.std.proofs.lemmas.List.{length-map}
use Rattle.elm_canon.specs.Tree.{MoreGroup, NoGroup}
use Rattle.elm_canon.specs.View.{group_view, function_view}
use Rattle.elm_canon.proofs.Views as view
use Rattle.emit_exprs.specs.Frames.{has_constant}
use Rattle.emit_exprs.proofs.EmitFramesSteps.{no_function, some_function}
use Rattle.emit_exprs.proofs.functions.defines.Goals as goal

pub returns-in-Constant : goal.returns-in-Constant
returns-in-Constant c =
    sym (ap (λ g. has_constant (MoreGroup g NoGroup)) (ap group_view c.in-Constant.is
    ∙ view.constant c.in-Constant.field-0 c.in-Constant.field-1))

pub returns-in-Destructure : goal.returns-in-Destructure
returns-in-Destructure c =
    sym (ap (λ g. has_constant (MoreGroup g NoGroup)) (ap group_view c.in-Destructure.is
    ∙ view.destructure c.in-Destructure.field-0 c.in-Destructure.field-1))

pub returns-then-len-eq0 : goal.returns-then-len-eq0
returns-then-len-eq0 c =
    let fs = map function_view c.in-Together.functions.items in
    let many : c.len.result ≡ length fs =
    omega (arith, length-map c.in-Together.functions.items function_view, c.len.ensures) in
    no_function fs c.len.result many c.if-len-eq0.true
    ∙ sym (ap (λ g. has_constant (MoreGroup g NoGroup)) (ap group_view c.in-Together.is
    ∙ view.together c.in-Together.functions))

pub returns-else-len-eq0 : goal.returns-else-len-eq0
returns-else-len-eq0 c =
    let fs = map function_view c.in-Together.functions.items in
    let many : c.len.result ≡ length fs =
    omega (arith, length-map c.in-Together.functions.items function_view, c.len.ensures) in
    some_function fs c.len.result many c.if-len-eq0.false
    ∙ sym (ap (λ g. has_constant (MoreGroup g NoGroup)) (ap group_view c.in-Together.is
    ∙ view.together c.in-Together.functions))
