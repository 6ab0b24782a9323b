-- The part's own path and text: `told_by`.
use Rattle.std.proofs.Common.{map}
use Rattle.std.specs.Prelude.{option_map}
use Rattle.module_compile.specs.ModulePhasesView.{around_view}
use Rattle.project_parts.specs.View.{part_view}
use Rattle.elm_make.proofs.Folding.{told_by}
use Rattle.elm_make.proofs.compiler.compiled.Goals as goal

pub returns : goal.returns
returns c =
    told_by (part_view c.args.part.now) (around_view c.args.imports.now) _ _ c.in_ok-made.made
    c.as_str-path.ensures.value
    c.text_of-text.ensures.same c.in_ok-made.ensures.made c.in_ok-made.ensures.home
