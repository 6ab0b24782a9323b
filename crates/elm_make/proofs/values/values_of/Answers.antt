-- The values of the fold: `all_values`.
use Rattle.std.proofs.Common.{map, ap, subst, ◌∙◌}
use Rattle.std.proofs.lemmas.Result.{IfOk-weaker}
use Rattle.decl_groups.specs.Groups.{plain}
use Rattle.import_graph.specs.Fold.{Folds}
use Rattle.project_parts.specs.Modules.{Values}
use Rattle.project_parts.specs.View.{part_view}
use Rattle.elm_make.specs.Making.{Makes}
use Rattle.elm_make.proofs.Folding.{all_values}
use Rattle.elm_make.proofs.values.values_of.Goals as goal

pub returns : goal.returns
returns c =
    let ps = map part_view c.args.parts.now in
    let same = ap plain c.deref.ensures.value ∙ c.in_ok-graph.ensures in
    IfOk-weaker c.fold.result _ _
    (λ values f. all_values ps c.requires.build values.items (subst (λ g. Folds (Makes ps) g values.items) same f))
    c.fold.ensures
