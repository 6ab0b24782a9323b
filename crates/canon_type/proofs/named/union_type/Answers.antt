-- The view of the name of a type.
use Rattle.std.proofs.Common.{ap, ◌∙◌}
use Rattle.elm_canon.specs.Tree.{NamedType}
use Rattle.elm_canon.specs.View.{types_view}
use Rattle.elm_canon.proofs.Views.{named_type}
use Rattle.canon_type.proofs.named.union_type.Goals as goal

pub returns : goal.returns
returns c =
    named_type c.in_ok-clone.field-0 c.args.name c.args.arguments
    ∙ ap (λ z. NamedType z c.args.name (types_view c.args.arguments.items)) c.in_ok-clone.ensures.cases
