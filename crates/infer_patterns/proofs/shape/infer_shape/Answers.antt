-- By what the union is.
use Rattle.std.proofs.Common.{◌≡◌, sym, ap, ◌∙◌, subst}
use Rattle.std.proofs.lemmas.Result.{IfOk-weaker}
use Rattle.elm_canon.specs.Unions.{TupleUnion, ListUnion, Declared, union_view}
use Rattle.infer_steps.specs.View.{here, known_view}
use Rattle.infer_patterns.specs.Shapes.{IsShaped}
use Rattle.infer_patterns.proofs.shape.infer_shape.Goals as goal

pub returns-in_ok-shape-in-Tuple-clause-shaped : goal.returns-in_ok-shape-in-Tuple-clause-shaped
returns-in_ok-shape-in-Tuple-clause-shaped c =
    let is : c.args.union.now ≡ TupleUnion c.in-Tuple.count = sym c.shape.ensures ∙ ap union_view c.in-Tuple.is in
    let shape = c.in_ok-shape-in-Tuple.shape in
    subst (λ u. IsShaped (known_view c.args.known.now) c.args.position u c.args.alternative.now (here c.args.state.now)
    (here c.tuple_shape.new.state) shape.result
    shape.parts.items)
    (sym is) (c.in_ok-shape-in-Tuple.ensures (known_view c.args.known.now) c.args.position c.args.alternative.now)

pub returns-in_ok-shape-in-List-clause-shaped : goal.returns-in_ok-shape-in-List-clause-shaped
returns-in_ok-shape-in-List-clause-shaped c =
    let is : c.args.union.now ≡ ListUnion = sym c.shape.ensures ∙ ap union_view c.in-List.is in
    let shape = c.in_ok-shape-in-List.shape in
    subst (λ u. IsShaped (known_view c.args.known.now) c.args.position u c.args.alternative.now (here c.args.state.now)
    (here c.list_constructor.new.state) shape.result
    shape.parts.items)
    (sym is) (c.in_ok-shape-in-List.ensures (known_view c.args.known.now) c.args.position)

pub returns-in-Declared-clause-shaped : goal.returns-in-Declared-clause-shaped
returns-in-Declared-clause-shaped c =
    let is : c.args.union.now ≡ Declared c.in-Declared.home c.in-Declared._name c.in-Declared._alternatives.items =
    sym c.shape.ensures ∙ ap union_view c.in-Declared.is in
    IfOk-weaker c.declared_shape.result _ _
    (λ s h. subst (λ u. IsShaped (known_view c.args.known.now) c.args.position u c.args.alternative.now
    (here c.args.state.now) (here c.declared_shape.new.state)
    s.result s.parts.items)
    (sym is) (h c.in-Declared._name c.in-Declared._alternatives.items))
    c.declared_shape.ensures.shaped
