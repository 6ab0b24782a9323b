-- A function has no fields: `no_field`.
use Rattle.std.proofs.Common.{ap, ◌∙◌}
use Rattle.elm_canon.specs.View.{annotation_view}
use Rattle.interface.specs.Steps.{with_field}
use Rattle.interface.specs.Opened.{opened_view}
use Rattle.interface.specs.declared.opened.Opened.{Opened}
use Rattle.interface.proofs.Onto.{no_field}
use Rattle.interface.proofs.rebuilding.push_field.Goals as goal

pub returns-in-Function : goal.returns-in-Function
returns-in-Function c =
    ap (λ (o : Opened). with_field c.args.name (annotation_view c.args.field_type) (opened_view o)) c.in-Function.is
    ∙ no_field c.args.name (annotation_view c.args.field_type) c.in-Function.field-0.types.items c.in-Function.field-0.some
