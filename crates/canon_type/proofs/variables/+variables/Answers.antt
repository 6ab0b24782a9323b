-- The variables of each form, by those of its parts.
use Rattle.std.proofs.Common.{◌++◌, map, None, Some, arith, sym, ap, ◌∙◌}
use Rattle.std.proofs.lemmas.Result.{on_ok_weaker}
use Rattle.elm_tree.specs.Tree as tree
use Rattle.elm_tree.specs.View.{word_view, words_view, long_view, type_view, field_type_view}
use Rattle.elm_tree.proofs.Views as views
use Rattle.elm_tree.specs.declared.tree.TypeTree.TheVariants as form
use Rattle.canon_type.proofs.Fillings.{bad_next}
use Rattle.canon_type.specs.Written.{variables_in}
use Rattle.canon_type.specs.Kept.{field_variables}
use Rattle.canon_type.proofs.Parts.{variable_more, named_more, function_more, tuple_more, record_more, extended_more}
use Rattle.std.specs.Prelude.{flat_map}
use Rattle.std.proofs.lemmas.List.{take_all}
use Rattle.canon_type.proofs.variables.+variables.Goals as goal

pub push_variables-returns-in_ok-push-in-Variable : goal.push_variables-returns-in_ok-push-in-Variable
push_variables-returns-in_ok-push-in-Variable t c = λ tokens.
    variable_more tokens c.args.words.now.items c.push.new.self.items c.in-Variable.a _
    (ap (type_view tokens) c.in-Variable.is ∙ views.variable_type tokens c.in-Variable.a)
    c.in_ok-push-in-Variable.ensures.items

pub push_variables-returns-in-Named : goal.push_variables-returns-in-Named
push_variables-returns-in-Named t c =
    on_ok_weaker c.push_all.result
    (λ e tokens. named_more (type_view tokens c.args.written.now) (map (type_view tokens) c.deref.result.now)
    (words_view tokens c.args.words.now.items) (words_view tokens c.push_all.new.words.items) (e tokens)
    (long_view tokens c.in-Named.field-0)
    (ap (type_view tokens) c.in-Named.is ∙ views.named_type tokens c.in-Named.field-0 c.in-Named.types
    ∙ ap (λ l. tree.TypeName (long_view tokens c.in-Named.field-0) (tree.types_of (map (type_view tokens) l)))
    (sym c.deref.ensures.value)))
    c.push_all.ensures

pub push_variables-returns-in-Function : goal.push_variables-returns-in-Function
push_variables-returns-in-Function t c =
    on_ok_weaker c.push_all-in-Function.result
    (λ e tokens. function_more (type_view tokens c.args.written.now)
    (map (type_view tokens) c.deref-in-Function.result.now) (words_view tokens c.args.words.now.items)
    (words_view tokens c.push_all-in-Function.new.words.items) (e tokens)
    (ap (type_view tokens) c.in-Function.is ∙ views.function_type tokens c.in-Function.types
    ∙ ap (λ l. tree.FunctionType (tree.types_of (map (type_view tokens) l))) (sym c.deref-in-Function.ensures.value)))
    c.push_all-in-Function.ensures

pub push_variables-returns-in-Tuple : goal.push_variables-returns-in-Tuple
push_variables-returns-in-Tuple t c =
    on_ok_weaker c.push_all-in-Tuple.result
    (λ e tokens. tuple_more (type_view tokens c.args.written.now)
    (map (type_view tokens) c.deref-in-Tuple.result.now) (words_view tokens c.args.words.now.items)
    (words_view tokens c.push_all-in-Tuple.new.words.items) (e tokens)
    (ap (type_view tokens) c.in-Tuple.is ∙ views.tuple_type tokens c.in-Tuple.types
    ∙ ap (λ l. tree.TupleType (tree.types_of (map (type_view tokens) l))) (sym c.deref-in-Tuple.ensures.value)))
    c.push_all-in-Tuple.ensures

pub push_variables-returns-in-None : goal.push_variables-returns-in-None
push_variables-returns-in-None t c =
    on_ok_weaker c.push_in_fields.result
    (λ e tokens. record_more (type_view tokens c.args.written.now)
    (map (field_type_view tokens) c.deref-in-None.result.now) (words_view tokens c.args.words.now.items)
    (words_view tokens c.push_in_fields.new.words.items)
    (ap (type_view tokens) (c.in-Record.is ∙ ap (λ b. form.Record b c.in-Record.fields) c.in-None.is)
    ∙ views.record_of_type tokens None c.in-Record.fields
    ∙ ap (λ l. tree.RecordType (tree.field_types_of (map (field_type_view tokens) l)))
    (sym c.deref-in-None.ensures.value)) (e tokens))
    c.push_in_fields.ensures

pub push_variables-returns-in_ok-push-in-Some : goal.push_variables-returns-in_ok-push-in-Some
push_variables-returns-in_ok-push-in-Some t c =
    on_ok_weaker c.push_in_fields-in-Some.result
    (λ e tokens. extended_more tokens (type_view tokens c.args.written.now)
    (map (field_type_view tokens) c.deref-in-Some.result.now) c.args.words.now.items c.push-in-Some.new.self.items
    (words_view tokens c.push_in_fields-in-Some.new.words.items) c.in-Some.a
    (ap (type_view tokens) (c.in-Record.is ∙ ap (λ b. form.Record b c.in-Record.fields) c.in-Some.is)
    ∙ views.record_of_type tokens (Some c.in-Some.a) c.in-Record.fields
    ∙ ap (λ l. tree.ExtendedType (word_view tokens c.in-Some.a) (tree.field_types_of (map (field_type_view tokens) l)))
    (sym c.deref-in-Some.ensures.value)) c.in_ok-push-in-Some.ensures.items (e tokens))
    c.push_in_fields-in-Some.ensures

pub push_all-loop-one-preserved : goal.push_all-loop-one-preserved
push_all-loop-one-preserved t c = λ tokens.
    bad_next variables_in (type_view tokens) c.args.written.now c.loop-one.one-index c.one-item.result
    (words_view tokens c.args.words.now.items) (words_view tokens c.loop-one.words.items)
    (words_view tokens c.push_variables.new.words.items) (omega arith) c.one-item.is (c.loop-one.invariant tokens)
    (c.in_ok-push_variables.ensures tokens)

pub push_in_fields-loop-field-preserved : goal.push_in_fields-loop-field-preserved
push_in_fields-loop-field-preserved t c = λ tokens.
    bad_next field_variables (field_type_view tokens) c.args.written.now c.loop-field.field-index c.field-item.result
    (words_view tokens c.args.words.now.items) (words_view tokens c.loop-field.words.items)
    (words_view tokens c.push_variables.new.words.items) (omega arith) c.field-item.is (c.loop-field.invariant tokens)
    (c.in_ok-push_variables.ensures tokens
    ∙ ap (λ p. words_view tokens c.loop-field.words.items ++ field_variables p)
    (sym (views.field_of_type tokens c.field-item.result)))

pub push_all-returns : goal.push_all-returns
push_all-returns t c = λ tokens.
    c.loop-one.invariant tokens
    ∙ ap (λ l. words_view tokens c.args.words.now.items ++ flat_map variables_in (map (type_view tokens) l))
    (take_all c.loop-one.one-index c.args.written.now (omega arith))

pub push_in_fields-returns : goal.push_in_fields-returns
push_in_fields-returns t c = λ tokens.
    c.loop-field.invariant tokens
    ∙ ap (λ l. words_view tokens c.args.words.now.items ++ flat_map field_variables (map (field_type_view tokens) l))
    (take_all c.loop-field.field-index c.args.written.now (omega arith))
