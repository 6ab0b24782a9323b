-- A type to which nothing more is added: the laws of `Onto`.
use Rattle.std.proofs.Common.{sym, ap, ◌∙◌}
use Rattle.elm_canon.proofs.Views.{variable_type}
use Rattle.interface.specs.Opened.{opened_view}
use Rattle.interface.proofs.Onto.{closed_named, closed_tuple, closed_record, closed_function}
use Rattle.interface.proofs.rebuilding.close.Goals as goal

pub returns-in-Variable : goal.returns-in-Variable
returns-in-Variable c = variable_type c.in-Variable.name ∙ sym (ap opened_view c.in-Variable.is)

pub returns-in-Named : goal.returns-in-Named
returns-in-Named c = closed_named c.in-Named.module c.in-Named.name c.in-Named.types c.reversed.result c.reversed.ensures ∙ sym (ap opened_view c.in-Named.is)

pub returns-in-Tuple : goal.returns-in-Tuple
returns-in-Tuple c = closed_tuple c.in-Tuple.types c.reversed-in-Tuple.result c.reversed-in-Tuple.ensures ∙ sym (ap opened_view c.in-Tuple.is)

pub returns-in-Record : goal.returns-in-Record
returns-in-Record c = closed_record c.in-Record.base c.in-Record.fields c.reversed_fields.result c.reversed_fields.ensures ∙ sym (ap opened_view c.in-Record.is)

pub returns-in-Function : goal.returns-in-Function
returns-in-Function c = closed_function c.in-Function.function.types c.reversed-in-Function.result c.reversed-in-Function.ensures ∙ sym (ap opened_view c.in-Function.is)
