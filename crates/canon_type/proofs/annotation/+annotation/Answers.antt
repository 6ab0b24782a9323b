-- What each form means, and its faults, by those of its parts.
use Rattle.std.proofs.Common.{◌≡◌, ◌++◌, map, take, arith, refl, sym, ap, ◌∙◌}
use Rattle.std.proofs.lemmas.Result.{IfOk-weaker, on_ok_weaker}
use Rattle.elm_tree.specs.Tree as tree
use Rattle.elm_tree.specs.View as tree_view
use Rattle.elm_tree.specs.Turns.{tokens_view}
use Rattle.elm_tree.proofs.Views as views
use Rattle.elm_canon.specs.View.{annotation_view, field_type_view}
use Rattle.elm_canon.proofs.Views.{variable_type, tuple_type}
use Rattle.canon_env.proofs.Filtering.{map_map_next}
use Rattle.canon_env.specs.Imports.{name_of}
use Rattle.canon_env.specs.Types.{type_of}
use Rattle.canon_type.proofs.Fillings.{bad_next}
use Rattle.canon_type.specs.Walking.{faults_in, field_faults, named_of}
use Rattle.canon_type.proofs.Meanings.{on_ok}
use Rattle.canon_type.proofs.Outcome.{through, done_through, when_made, added, added_of}
use Rattle.canon_type.proofs.Walks.{variable_means, variable_faults, named_means, function_means, tuple_means}
use Rattle.canon_type.proofs.Walks.{field_means, use_faults, function_faults, tuple_faults, over_means, over_faults}
use Rattle.std.specs.Prelude.{flat_map}
use Rattle.std.proofs.lemmas.List.{take_all}
use Rattle.canon_type.proofs.annotation.+annotation.Goals as goal

pub annotation-returns-in-Variable-clause-meaning : goal.annotation-returns-in-Variable-clause-meaning
annotation-returns-in-Variable-clause-meaning t c =
    let tokens = tokens_view c.args.tokens.now in
    let a = tree_view.word_view tokens c.in-Variable.a in
    IfOk-weaker c.variable.result _ _
    (λ r e w h. variable_means w a _ _ (name_of a)
    (ap (tree_view.type_view tokens) c.in-Variable.is ∙ views.variable_type tokens c.in-Variable.a)
    (ap annotation_view e ∙ variable_type (name_of a)) refl)
    c.variable.ensures

pub annotation-returns-in-Variable-clause-faults : goal.annotation-returns-in-Variable-clause-faults
annotation-returns-in-Variable-clause-faults t c =
    let tokens = tokens_view c.args.tokens.now in
    on_ok c.variable.result
    (λ w h. variable_faults w (tree_view.word_view tokens c.in-Variable.a) _ c.args.findings.now.items
    (ap (tree_view.type_view tokens) c.in-Variable.is ∙ views.variable_type tokens c.in-Variable.a))

pub annotation-returns-in_ok-arguments-in-Named-clause-meaning : goal.annotation-returns-in_ok-arguments-in-Named-clause-meaning
annotation-returns-in_ok-arguments-in-Named-clause-meaning t c =
    let tokens = tokens_view c.args.tokens.now in
    let view = tree_view.type_view tokens in
    let x = tree_view.long_view tokens c.in-Named.name in
    let us = map view c.deref.result.now in
    let whole : view c.args.written.now ≡ tree.TypeName x (tree.types_of us) =
    ap view c.in-Named.is ∙ views.named_type tokens c.in-Named.name c.in-Named.types
    ∙ ap (λ l. tree.TypeName x (tree.types_of (map view l))) (sym c.deref.ensures.value) in
    IfOk-weaker c.named.result _ _
    (λ r e w h. named_means w us (map annotation_view c.in_ok-arguments-in-Named.arguments.items)
    (c.in_ok-arguments-in-Named.ensures.types w h) (view c.args.written.now) (annotation_view r) x whole (e w h))
    c.named.ensures.meaning

pub annotation-returns-in_ok-arguments-in-Named-clause-faults : goal.annotation-returns-in_ok-arguments-in-Named-clause-faults
annotation-returns-in_ok-arguments-in-Named-clause-faults t c =
    let tokens = tokens_view c.args.tokens.now in
    let view = tree_view.type_view tokens in
    let x = tree_view.long_view tokens c.in-Named.name in
    let us = map view c.deref.result.now in
    let whole : view c.args.written.now ≡ tree.TypeName x (tree.types_of us) =
    ap view c.in-Named.is ∙ views.named_type tokens c.in-Named.name c.in-Named.types
    ∙ ap (λ l. tree.TypeName x (tree.types_of (map view l))) (sym c.deref.ensures.value) in
    on_ok_weaker c.named.result
    (λ e w h. use_faults w x us (map annotation_view c.in_ok-arguments-in-Named.arguments.items)
    (view c.args.written.now) c.args.findings.now.items c.annotations.new.findings.items c.named.new.findings.items
    whole (c.in_ok-arguments-in-Named.ensures.types w h) (c.in_ok-arguments-in-Named.ensures.faults w h) (e w h))
    c.named.ensures.faults

pub annotation-returns-in-Function-clause-meaning : goal.annotation-returns-in-Function-clause-meaning
annotation-returns-in-Function-clause-meaning t c =
    let tokens = tokens_view c.args.tokens.now in
    let view = tree_view.type_view tokens in
    let us = map view c.deref-in-Function.result.now in
    let whole : view c.args.written.now ≡ tree.FunctionType (tree.types_of us) =
    ap view c.in-Function.is ∙ views.function_type tokens c.in-Function.types
    ∙ ap (λ l. tree.FunctionType (tree.types_of (map view l))) (sym c.deref-in-Function.ensures.value) in
    through c.function.result c.annotations-in-Function.result
    (λ r v e p w h. function_means w us (map annotation_view v.items) (p w h) (view c.args.written.now)
    (annotation_view r) whole e)
    c.function.ensures c.annotations-in-Function.ensures.types

pub annotation-returns-in-Function-clause-faults : goal.annotation-returns-in-Function-clause-faults
annotation-returns-in-Function-clause-faults t c =
    let tokens = tokens_view c.args.tokens.now in
    let view = tree_view.type_view tokens in
    let us = map view c.deref-in-Function.result.now in
    let whole : view c.args.written.now ≡ tree.FunctionType (tree.types_of us) =
    ap view c.in-Function.is ∙ views.function_type tokens c.in-Function.types
    ∙ ap (λ l. tree.FunctionType (tree.types_of (map view l))) (sym c.deref-in-Function.ensures.value) in
    done_through _ c.function.result c.annotations-in-Function.result
    (λ faults w h. function_faults w us (view c.args.written.now) c.args.findings.now.items
    c.annotations-in-Function.new.findings.items whole (faults w h))
    c.function.ensures c.annotations-in-Function.ensures.faults

pub annotation-returns-in-Tuple-clause-meaning : goal.annotation-returns-in-Tuple-clause-meaning
annotation-returns-in-Tuple-clause-meaning t c =
    let tokens = tokens_view c.args.tokens.now in
    let view = tree_view.type_view tokens in
    let us = map view c.deref-in-Tuple.result.now in
    let whole : view c.args.written.now ≡ tree.TupleType (tree.types_of us) =
    ap view c.in-Tuple.is ∙ views.tuple_type tokens c.in-Tuple.types
    ∙ ap (λ l. tree.TupleType (tree.types_of (map view l))) (sym c.deref-in-Tuple.ensures.value) in
    through c.tuple_type.result c.annotations-in-Tuple.result
    (λ r v e p w h. tuple_means w us (map annotation_view v.items) (p w h) (view c.args.written.now)
    (annotation_view r) whole (ap annotation_view e ∙ tuple_type v))
    c.tuple_type.ensures c.annotations-in-Tuple.ensures.types

pub annotation-returns-in-Tuple-clause-faults : goal.annotation-returns-in-Tuple-clause-faults
annotation-returns-in-Tuple-clause-faults t c =
    let tokens = tokens_view c.args.tokens.now in
    let view = tree_view.type_view tokens in
    let us = map view c.deref-in-Tuple.result.now in
    let whole : view c.args.written.now ≡ tree.TupleType (tree.types_of us) =
    ap view c.in-Tuple.is ∙ views.tuple_type tokens c.in-Tuple.types
    ∙ ap (λ l. tree.TupleType (tree.types_of (map view l))) (sym c.deref-in-Tuple.ensures.value) in
    done_through _ c.tuple_type.result c.annotations-in-Tuple.result
    (λ faults w h. tuple_faults w us (view c.args.written.now) c.args.findings.now.items
    c.annotations-in-Tuple.new.findings.items whole (faults w h))
    c.tuple_type.ensures c.annotations-in-Tuple.ensures.faults

pub annotation-returns-in_ok-types-in-Record-clause-meaning : goal.annotation-returns-in_ok-types-in-Record-clause-meaning
annotation-returns-in_ok-types-in-Record-clause-meaning t c =
    IfOk-weaker c.record.result _ _
    (λ r e w h. over_means w (tokens_view c.args.tokens.now) c.args.written.now c.in-Record.base c.in-Record.fields
    c.deref-in-Record.result.now r c.in_ok-types-in-Record.types c.in-Record.is c.deref-in-Record.ensures.value e
    (c.in_ok-types-in-Record.ensures.types w h))
    c.record.ensures.meaning

pub annotation-returns-in_ok-types-in-Record-clause-faults : goal.annotation-returns-in_ok-types-in-Record-clause-faults
annotation-returns-in_ok-types-in-Record-clause-faults t c =
    on_ok_weaker c.record.result
    (λ e w h. over_faults w (tokens_view c.args.tokens.now) c.args.written.now c.in-Record.base c.in-Record.fields
    c.deref-in-Record.result.now c.deref-in-Record-2.result.now c.args.findings.now.items
    c.field_annotations.new.findings.items c.record.new.findings.items c.in-Record.is c.deref-in-Record.ensures.value
    c.deref-in-Record-2.ensures.value (c.in_ok-types-in-Record.ensures.faults w h) e)
    c.record.ensures.faults

pub annotations-loop-one-preserved : goal.annotations-loop-one-preserved
annotations-loop-one-preserved t c =
    let view = tree_view.type_view (tokens_view c.args.tokens.now) in
    let written = c.args.written.now in
    let i = c.loop-one.one-index in
    let one = c.one-item.result in
    record {
      types = λ w h.
          added annotation_view c.annotation-made.result c.loop-one.types.items c.add_made.new.items.items
          (map (type_of w) (map view (take i written))) (type_of w (view one)) c.in_ok-add_made.ensures
          (IfOk-weaker c.annotation-made.result _ _ (λ r e. e w h) c.annotation-made.ensures.meaning)
          (c.loop-one.invariant.types w h)
          ∙ sym (map_map_next (type_of w) view written i one (omega arith) c.one-item.is);
      faults = λ w h.
          bad_next (faults_in w) view written i one c.args.findings.now.items c.loop-one.findings.items
          c.annotation-made.new.findings.items (omega arith) c.one-item.is (c.loop-one.invariant.faults w h)
          (when_made _ c.annotation-made.result c.in_ok-add_made.ensures c.annotation-made.ensures.faults w h);
    }

pub field_annotations-loop-field-preserved : goal.field_annotations-loop-field-preserved
field_annotations-loop-field-preserved t c =
    let tokens = tokens_view c.args.tokens.now in
    let view = tree_view.field_type_view tokens in
    let written = c.args.written.now in
    let i = c.loop-field.field-index in
    let f = c.field-item.result in
    record {
      types = λ w h.
          added_of (λ u. (c.in_ok-name.name, annotation_view u)) c.annotation-made.result
          (map field_type_view c.loop-field.types.items) (map field_type_view c.add_field.new.fields.items)
          (map (named_of w) (map view (take i written))) (named_of w (view f)) c.in_ok-add_field.ensures
          (IfOk-weaker c.annotation-made.result _ _
          (λ r e. field_means w tokens f c.in_ok-name.name r c.in_ok-name.ensures (e w h)) c.annotation-made.ensures.meaning)
          (c.loop-field.invariant.types w h)
          ∙ sym (map_map_next (named_of w) view written i f (omega arith) c.field-item.is);
      faults = λ w h.
          bad_next (field_faults w) view written i f c.args.findings.now.items c.loop-field.findings.items
          c.annotation-made.new.findings.items (omega arith) c.field-item.is (c.loop-field.invariant.faults w h)
          (when_made _ c.annotation-made.result c.in_ok-add_field.ensures c.annotation-made.ensures.faults w h
          ∙ ap (λ p. c.loop-field.findings.items ++ field_faults w p) (sym (views.field_of_type tokens f)));
    }

pub annotations-returns-clause-types : goal.annotations-returns-clause-types
annotations-returns-clause-types t c = λ w h.
    c.loop-one.invariant.types w h
    ∙ ap (λ l. map (type_of w) (map (tree_view.type_view (tokens_view c.args.tokens.now)) l))
    (take_all c.loop-one.one-index c.args.written.now (omega arith))

pub annotations-returns-clause-faults : goal.annotations-returns-clause-faults
annotations-returns-clause-faults t c = λ w h.
    c.loop-one.invariant.faults w h
    ∙ ap (λ l. c.args.findings.now.items ++ flat_map (faults_in w) (map (tree_view.type_view (tokens_view c.args.tokens.now)) l))
    (take_all c.loop-one.one-index c.args.written.now (omega arith))

pub field_annotations-returns-clause-types : goal.field_annotations-returns-clause-types
field_annotations-returns-clause-types t c = λ w h.
    c.loop-field.invariant.types w h
    ∙ ap (λ l. map (named_of w) (map (tree_view.field_type_view (tokens_view c.args.tokens.now)) l))
    (take_all c.loop-field.field-index c.args.written.now (omega arith))

pub field_annotations-returns-clause-faults : goal.field_annotations-returns-clause-faults
field_annotations-returns-clause-faults t c = λ w h.
    c.loop-field.invariant.faults w h
    ∙ ap (λ l. c.args.findings.now.items
    ++ flat_map (field_faults w) (map (tree_view.field_type_view (tokens_view c.args.tokens.now)) l))
    (take_all c.loop-field.field-index c.args.written.now (omega arith))
