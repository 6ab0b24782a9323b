-- The first function of those that are left.
use Rattle.std.proofs.Common.{◌≡◌, ◌+◌, [], ◌∷◌, map, drop, Some, None, true, false, if◌then◌else◌, refl, sym, ap}
use Rattle.std.proofs.Common.{◌∙◌, arith}
use Rattle.elm_canon.specs.Names.{same_ref}
use Rattle.elm_canon.specs.Tree.{functions_of}
use Rattle.elm_canon.specs.View.{function_view}
use Rattle.elm_canon.proofs.Views.{function}
use Rattle.link.specs.Made.{place_in, titled}
use Rattle.link.proofs.Naming.{drop_at}
use Rattle.link.proofs.fragments_places.place_in_functions.Goals as goal

pub returns-then-same_ref : goal.returns-then-same_ref
returns-then-same_ref c =
    let i = c.loop-function.function-index in
    let fs = c.args.functions.now in
    let f = c.function-item.result in
    let r = c.args.name.now in
    ap (λ b. if b then Some f.title.place else place_in r (titled (functions_of (map function_view (drop (i + 1) fs)))))
    (sym (sym c.same_ref.ensures ∙ c.if-same_ref.true))
    ∙ ap (λ g. place_in r ((g.0.name, g.0.place) ∷ titled (functions_of (map function_view (drop (i + 1) fs))))) (sym
    (function f))
    ∙ ap (λ gs. place_in r (titled (functions_of (map function_view gs)))) (sym (drop_at fs i f (omega arith)
    c.function-item.is))
    ∙ c.loop-function.invariant

pub loop-function-preserved : goal.loop-function-preserved
loop-function-preserved c =
    let i = c.loop-function.function-index in
    let fs = c.args.functions.now in
    let f = c.function-item.result in
    let r = c.args.name.now in
    let rest = titled (functions_of (map function_view (drop (i + 1) fs))) in
    ap (λ b. if b then Some f.title.place else place_in r rest) (sym (sym c.same_ref.ensures ∙ c.if-same_ref.false))
    ∙ ap (λ g. place_in r ((g.0.name, g.0.place) ∷ rest)) (sym (function f))
    ∙ ap (λ gs. place_in r (titled (functions_of (map function_view gs)))) (sym (drop_at fs i f (omega arith)
    c.function-item.is))
    ∙ c.loop-function.invariant
