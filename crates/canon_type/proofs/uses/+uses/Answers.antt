-- The aliases that each form uses, by those of its parts.
use Rattle.std.proofs.Common.{◌++◌, map, None, Some, arith, sym, ap, ◌∙◌}
use Rattle.std.proofs.lemmas.Result.{on_ok_weaker}
use Rattle.elm_tree.specs.Tree as tree
use Rattle.elm_tree.specs.View.{word_view, long_view, type_view, field_type_view}
use Rattle.elm_tree.specs.Turns.{tokens_view}
use Rattle.elm_tree.proofs.Views as views
use Rattle.elm_tree.specs.declared.tree.TypeTree.TheVariants as form
use Rattle.canon_type.proofs.Fillings.{bad_next}
use Rattle.canon_type.specs.Kept.{places_in, field_places}
use Rattle.canon_type.proofs.Places.{variable_places, named_places, function_places, tuple_places, record_places}
use Rattle.canon_type.proofs.Places.{extended_places}
use Rattle.std.specs.Prelude.{flat_map}
use Rattle.std.proofs.lemmas.List.{take_all}
use Rattle.canon_type.proofs.uses.+uses.Goals as goal

pub push_uses-returns-in-Variable : goal.push_uses-returns-in-Variable
push_uses-returns-in-Variable t c = λ unions aliases h.
    let tokens = tokens_view c.args.tokens.now in
    variable_places unions aliases (type_view tokens c.args.written.now) c.args.places.now.items c.args.places.now.items
    (word_view tokens c.in-Variable.field-0)
    (ap (type_view tokens) c.in-Variable.is ∙ views.variable_type tokens c.in-Variable.field-0)

pub push_uses-returns-in_ok-push_place-in-Named : goal.push_uses-returns-in_ok-push_place-in-Named
push_uses-returns-in_ok-push_place-in-Named t c =
    let tokens = tokens_view c.args.tokens.now in
    let x = long_view tokens c.in-Named.name in
    on_ok_weaker c.push_all_uses.result
    (λ e unions aliases h. named_places unions aliases (type_view tokens c.args.written.now) c.args.places.now.items
    c.push_all_uses.new.places.items x (map (type_view tokens) c.deref.result.now) c.push_place.new.places.items
    (ap (type_view tokens) c.in-Named.is ∙ views.named_type tokens c.in-Named.name c.in-Named.types
    ∙ ap (λ l. tree.TypeName x (tree.types_of (map (type_view tokens) l))) (sym c.deref.ensures.value))
    (c.in_ok-push_place-in-Named.ensures unions aliases h) (e unions aliases h))
    c.push_all_uses.ensures

pub push_uses-returns-in-Function : goal.push_uses-returns-in-Function
push_uses-returns-in-Function t c =
    let tokens = tokens_view c.args.tokens.now in
    on_ok_weaker c.push_all_uses-in-Function.result
    (λ e unions aliases h. function_places unions aliases (type_view tokens c.args.written.now)
    c.args.places.now.items c.push_all_uses-in-Function.new.places.items
    (map (type_view tokens) c.deref-in-Function.result.now)
    (ap (type_view tokens) c.in-Function.is ∙ views.function_type tokens c.in-Function.types
    ∙ ap (λ l. tree.FunctionType (tree.types_of (map (type_view tokens) l))) (sym c.deref-in-Function.ensures.value))
    (e unions aliases h))
    c.push_all_uses-in-Function.ensures

pub push_uses-returns-in-Tuple : goal.push_uses-returns-in-Tuple
push_uses-returns-in-Tuple t c =
    let tokens = tokens_view c.args.tokens.now in
    on_ok_weaker c.push_all_uses-in-Tuple.result
    (λ e unions aliases h. tuple_places unions aliases (type_view tokens c.args.written.now)
    c.args.places.now.items c.push_all_uses-in-Tuple.new.places.items
    (map (type_view tokens) c.deref-in-Tuple.result.now)
    (ap (type_view tokens) c.in-Tuple.is ∙ views.tuple_type tokens c.in-Tuple.types
    ∙ ap (λ l. tree.TupleType (tree.types_of (map (type_view tokens) l))) (sym c.deref-in-Tuple.ensures.value))
    (e unions aliases h))
    c.push_all_uses-in-Tuple.ensures

pub push_uses-returns-in-None : goal.push_uses-returns-in-None
push_uses-returns-in-None t c =
    let tokens = tokens_view c.args.tokens.now in
    on_ok_weaker c.push_field_uses.result
    (λ e unions aliases h. record_places unions aliases (type_view tokens c.args.written.now)
    c.args.places.now.items c.push_field_uses.new.places.items
    (map (field_type_view tokens) c.deref-in-None.result.now)
    (ap (type_view tokens) (c.in-Record.is ∙ ap (λ b. form.Record b c.in-Record.fields) c.in-None.is)
    ∙ views.record_of_type tokens None c.in-Record.fields
    ∙ ap (λ l. tree.RecordType (tree.field_types_of (map (field_type_view tokens) l))) (sym c.deref-in-None.ensures.value))
    (e unions aliases h))
    c.push_field_uses.ensures

pub push_uses-returns-in-Some : goal.push_uses-returns-in-Some
push_uses-returns-in-Some t c =
    let tokens = tokens_view c.args.tokens.now in
    let a = word_view tokens c.in-Some.field-0 in
    on_ok_weaker c.push_field_uses-in-Some.result
    (λ e unions aliases h. extended_places unions aliases (type_view tokens c.args.written.now)
    c.args.places.now.items c.push_field_uses-in-Some.new.places.items a
    (map (field_type_view tokens) c.deref-in-Some.result.now)
    (ap (type_view tokens) (c.in-Record.is ∙ ap (λ b. form.Record b c.in-Record.fields) c.in-Some.is)
    ∙ views.record_of_type tokens (Some c.in-Some.field-0) c.in-Record.fields
    ∙ ap (λ l. tree.ExtendedType a (tree.field_types_of (map (field_type_view tokens) l))) (sym c.deref-in-Some.ensures.value))
    (e unions aliases h))
    c.push_field_uses-in-Some.ensures

pub push_field_uses-loop-field-preserved : goal.push_field_uses-loop-field-preserved
push_field_uses-loop-field-preserved t c = λ unions aliases h.
    let tokens = tokens_view c.args.tokens.now in
    let f = c.field-item.result in
    bad_next (field_places unions aliases) (field_type_view tokens) c.args.written.now c.loop-field.field-index f
    c.args.places.now.items c.loop-field.places.items c.push_uses.new.places.items (omega arith) c.field-item.is
    (c.loop-field.invariant unions aliases h)
    (c.in_ok-push_uses.ensures unions aliases h
    ∙ ap (λ p. c.loop-field.places.items ++ field_places unions aliases p) (sym (views.field_of_type tokens f)))

pub push_all_uses-loop-one-preserved : goal.push_all_uses-loop-one-preserved
push_all_uses-loop-one-preserved t c = λ unions aliases h.
    bad_next (places_in unions aliases) (type_view (tokens_view c.args.tokens.now)) c.args.written.now c.loop-one.one-index
    c.one-item.result c.args.places.now.items c.loop-one.places.items c.push_uses.new.places.items (omega arith)
    c.one-item.is (c.loop-one.invariant unions aliases h) (c.in_ok-push_uses.ensures unions aliases h)

pub push_all_uses-returns : goal.push_all_uses-returns
push_all_uses-returns t c = λ unions aliases h.
    c.loop-one.invariant unions aliases h
    ∙ ap (λ l. c.args.places.now.items
    ++ flat_map (places_in unions aliases) (map (type_view (tokens_view c.args.tokens.now)) l))
    (take_all c.loop-one.one-index c.args.written.now (omega arith))

pub push_field_uses-returns : goal.push_field_uses-returns
push_field_uses-returns t c = λ unions aliases h.
    c.loop-field.invariant unions aliases h
    ∙ ap (λ l. c.args.places.now.items
    ++ flat_map (field_places unions aliases) (map (field_type_view (tokens_view c.args.tokens.now)) l))
    (take_all c.loop-field.field-index c.args.written.now (omega arith))
