-- By the form of the type.
use Rattle.std.proofs.Common.{None, Some, sym, ap, ◌∙◌}
use Rattle.elm_tree.specs.View.{type_view}
use Rattle.elm_tree.specs.declared.tree.TypeTree.TheVariants as form
use Rattle.elm_tree.proofs.Views as views
use Rattle.canon_type.specs.Types.{is_record}
use Rattle.canon_type.proofs.expanding.is_record.Goals as goal

pub returns-in-Variable : goal.returns-in-Variable
returns-in-Variable c = λ tokens.
    ap is_record (sym (ap (type_view tokens) c.in-Variable.is ∙ views.variable_type tokens c.in-Variable.field-0))

pub returns-in-Named : goal.returns-in-Named
returns-in-Named c = λ tokens.
    ap is_record
    (sym (ap (type_view tokens) c.in-Named.is ∙ views.named_type tokens c.in-Named.field-0 c.in-Named.field-1))

pub returns-in-Function : goal.returns-in-Function
returns-in-Function c = λ tokens.
    ap is_record (sym (ap (type_view tokens) c.in-Function.is ∙ views.function_type tokens c.in-Function.field-0))

pub returns-in-Tuple : goal.returns-in-Tuple
returns-in-Tuple c = λ tokens.
    ap is_record (sym (ap (type_view tokens) c.in-Tuple.is ∙ views.tuple_type tokens c.in-Tuple.field-0))

pub returns-in-None : goal.returns-in-None
returns-in-None c = λ tokens.
    ap is_record
    (sym (ap (type_view tokens) (c.in-Record.is ∙ ap (λ b. form.Record b c.in-Record.field-1) c.in-None.is)
    ∙ views.record_of_type tokens None c.in-Record.field-1))

pub returns-in-Some : goal.returns-in-Some
returns-in-Some c = λ tokens.
    ap is_record
    (sym (ap (type_view tokens) (c.in-Record.is ∙ ap (λ b. form.Record b c.in-Record.field-1) c.in-Some.is)
    ∙ views.record_of_type tokens (Some c.in-Some.field-0) c.in-Record.field-1))
