-- One function more: `function_names_more`, `top_more`.
use Rattle.std.proofs.Common.{◌≡◌, List, [], ◌∷◌, ◌++◌, map, take, sym, ap, ◌∙◌, arith, append_assoc}
use Rattle.elm_canon.specs.Tree.{functions_of}
use Rattle.elm_canon.specs.View.{FunctionView, function_view}
use Rattle.elm_canon.proofs.Views.{function}
use Rattle.elm_canon.specs.Proper.{function_names}
use Rattle.canon_env.proofs.Filtering.{map_next}
use Rattle.link.specs.Names.{TopName, top_names}
use Rattle.link.proofs.Naming.{top_more, function_names_more}
use Rattle.link.proofs.names.push_function_names.Goals as goal

pub loop-function-preserved : goal.loop-function-preserved
loop-function-preserved c =
    let i = c.loop-function.function-index in
    let f = c.function-item.result in
    let before = map function_view (take i c.args.functions.now) in
    let names : List FunctionView → List TopName = λ fs. top_names (function_names (functions_of fs)) in
    c.in_ok-push_name.ensures ∙ ap (λ ns. ns ++ top_names (f.title.name ∷ [])) c.loop-function.invariant
    ∙ append_assoc c.args.names.now.items (names before) (top_names (f.title.name ∷ []))
    ∙ ap (λ ns. c.args.names.now.items ++ ns)
    (ap (λ x. names before ++ top_names (x ∷ [])) (ap (λ g. g.0.name) (sym (function f)))
    ∙ sym (top_more (function_names (functions_of before)) (function_names (functions_of (function_view f ∷ []))))
    ∙ ap top_names (sym (function_names_more before (function_view f ∷ [])))
    ∙ ap names (sym (map_next function_view c.args.functions.now i f (omega arith) c.function-item.is)))
