-- What is shared is what it is.
use Rattle.std.proofs.Common.{sym, ap, ◌∙◌}
use Rattle.elm_canon.specs.View.{annotation_view}
use Rattle.elm_canon.proofs.Views.{shared_type}
use Rattle.canon_type.proofs.filling.shared.Goals as goal

pub returns-in-Shared : goal.returns-in-Shared
returns-in-Shared c = sym (ap annotation_view c.in-Shared.is ∙ shared_type c.in-Shared.t)
