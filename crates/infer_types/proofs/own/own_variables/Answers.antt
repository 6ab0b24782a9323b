-- Names in turn: `one_more_own`.
use Rattle.std.proofs.Common.{◌≡◌, ◌++◌, [], ◌∷◌, ◌≤◌, ◌∙◌, length, map, take, sym, ap, arith}
use Rattle.std.proofs.lemmas.List.{length-map}
use Rattle.elm_type.specs.View.{kind_view}
use Rattle.infer_steps.specs.View.{code_of}
use Rattle.infer_types.specs.Own.{own_view, own_of}
use Rattle.infer_types.proofs.Kinding.{at_view, take_all}
use Rattle.infer_types.proofs.Owning.{one_more_own}
use Rattle.infer_types.proofs.own.own_variables.Goals as goal

pub loop-i-init : goal.loop-i-init
loop-i-init c = ap (map own_view) c.new-own.ensures.items

pub loop-i-preserved : goal.loop-i-preserved
loop-i-preserved c =
    (let code = code_of c.args.scope.now in
    let ks = map kind_view c.args.kinds.now in
    let many : length ks ≡ length c.args.names.now = length-map c.args.kinds.now kind_view ∙ c.requires in
    c.in_ok-add_own.ensures
    ∙ (ap (λ l. l ++ own_of code (c.index-names-i.result ∷ []) (kind_view c.index-kinds-i.result ∷ []))
    c.loop-i.invariant
    ∙ sym (one_more_own code c.args.names.now ks c.loop-i.i c.index-names-i.result (kind_view c.index-kinds-i.result)
    many c.loop-i-test.true c.index-names-i.is
    (at_view kind_view c.args.kinds.now c.loop-i.i c.index-kinds-i.result c.index-kinds-i.is))))

pub returns : goal.returns
returns c =
    (let code = code_of c.args.scope.now in
    let ks = map kind_view c.args.kinds.now in
    let many : length ks ≡ length c.args.names.now = length-map c.args.kinds.now kind_view ∙ c.requires in
    let end : length c.args.names.now ≤ c.loop-i.i = c.loop-i-test.false in
    c.loop-i.invariant
    ∙ (ap (λ ys. own_of code ys (take c.loop-i.i ks)) (take_all c.loop-i.i c.args.names.now end)
    ∙ ap (own_of code c.args.names.now) (take_all c.loop-i.i ks (omega (arith, end, many)))))
