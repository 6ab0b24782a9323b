-- A function has no parts: `no_part`.
use Rattle.std.proofs.Common.{ap, ◌∙◌}
use Rattle.elm_canon.specs.View.{annotation_view}
use Rattle.interface.specs.Steps.{with_part}
use Rattle.interface.specs.Opened.{opened_view}
use Rattle.interface.specs.declared.opened.Opened.{Opened}
use Rattle.interface.proofs.Onto.{no_part}
use Rattle.interface.proofs.rebuilding.push_part.Goals as goal

pub returns-in-Function : goal.returns-in-Function
returns-in-Function c =
    ap (λ (o : Opened). with_part (annotation_view c.args.part) (opened_view o)) c.in-Function.is
    ∙ no_part (annotation_view c.args.part) c.in-Function.field-0.types.items c.in-Function.field-0.some
