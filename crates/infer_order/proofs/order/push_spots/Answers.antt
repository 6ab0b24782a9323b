use Rattle.std.proofs.Common.{ℕ, ◌++◌, ◌∷◌, [], map, take, sym, ap, ◌∙◌, arith, append-nil}
use Rattle.std.proofs.Common.{append_assoc}
use Rattle.std.proofs.lemmas.List.{length-map}
use Rattle.elm_base.specs.declared.position.Pos.{Pos}
use Rattle.elm_canon.specs.Tree.{functions_of}
use Rattle.elm_canon.specs.View.{function_view, group_view}
use Rattle.elm_canon.proofs.Views as view
use Rattle.type_items.specs.Expressions.{group_definitions, function_definitions}
use Rattle.infer_order.specs.Order.{spots_from}
use Rattle.infer_order.specs.declared.order.Spot.{Spot}
use Rattle.infer_order.proofs.Owning.{map_next}
use Rattle.infer_order.proofs.Placing.{spots_next, taken, take_whole, take_nothing}
use Rattle.infer_order.proofs.order.push_spots.Goals as goal

abbrev at_place : ℕ → ℕ → Pos → Spot
at_place g i p = record { group = g; function = i; place = p }

pub loop-function-init : goal.loop-function-init
loop-function-init c =
    sym (append-nil c.args.spots.now.items)
    ∙ ap (λ l. c.args.spots.now.items ++ spots_from c.args.number 0
    (function_definitions (functions_of (map function_view l)))) (sym (take_nothing c.deref-each-items.result.now))

pub loop-function-preserved : goal.loop-function-preserved
loop-function-preserved c =
    let all = c.deref-each-items.result.now in
    let i = c.loop-function.function in
    let x = c.each-item.result in
    let old = c.args.spots.now.items in
    let first = map function_view (take i all) in
    let spot : Spot = record { group = c.args.number; function = i; place = x.title.place } in
    c.in_ok-push-in-Together.ensures.items
    ∙ ap (λ l. l ++ spot ∷ []) c.loop-function.invariant
    ∙ append_assoc old (spots_from c.args.number 0 (function_definitions (functions_of first))) (spot ∷ [])
    ∙ ap (λ (p : Pos). old ++ (spots_from c.args.number 0 (function_definitions (functions_of first)) ++ at_place
    c.args.number i p ∷ []))
    (sym (ap (λ v. v.0.place) (view.function x)))
    ∙ ap (λ l. old ++ l) (sym (spots_next c.args.number i first (function_view x)
    (length-map (take i all) function_view ∙ taken i all (omega arith))))
    ∙ ap (λ l. old ++ spots_from c.args.number 0 (function_definitions (functions_of l)))
    (sym (map_next function_view all i x (omega arith) c.each-item.is))

pub returns-after-loop-function : goal.returns-after-loop-function
returns-after-loop-function c =
    c.loop-function.invariant
    ∙ ap (λ l. c.args.spots.now.items ++ spots_from c.args.number 0
    (function_definitions (functions_of (map function_view l))))
    (take_whole c.deref-each-items.result.now c.loop-function.function c.loop-function-test.false ∙
    c.deref-each-items.ensures.value)
    ∙ ap (λ g. c.args.spots.now.items ++ spots_from c.args.number 0 (group_definitions g))
    (sym (ap group_view c.in-Together.is ∙ view.together c.in-Together.functions))

pub returns-in_ok-push-in-Constant : goal.returns-in_ok-push-in-Constant
returns-in_ok-push-in-Constant c =
    c.in_ok-push-in-Constant.ensures.items
    ∙ ap (λ g. c.args.spots.now.items ++ spots_from c.args.number 0 (group_definitions g))
    (sym (ap group_view c.in-Constant.is ∙ view.constant c.in-Constant.title c.in-Constant.field-1))

pub returns-in_ok-push-in-Destructure : goal.returns-in_ok-push-in-Destructure
returns-in_ok-push-in-Destructure c =
    c.in_ok-push-in-Destructure.ensures.items
    ∙ ap (λ (p : Pos). c.args.spots.now.items ++ at_place c.args.number 0 p ∷ []) c.start.ensures
    ∙ ap (λ g. c.args.spots.now.items ++ spots_from c.args.number 0 (group_definitions g))
    (sym (ap group_view c.in-Destructure.is ∙ view.destructure c.in-Destructure.pattern c.in-Destructure.field-1))
