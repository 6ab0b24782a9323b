-- The row, by whether the part is of the core library: `row_is`.
use Rattle.std.proofs.Common.{[], ◌++◌, map, ap, ◌∙◌}
use Rattle.std.specs.Prelude.{if◌then◌else◌, flat_map}
use Rattle.std.specs.List.{filter_map}
use Rattle.import_graph.specs.ModuleWalkView.{import_view}
use Rattle.project_parts.specs.Modules.{default_names, one_name}
use Rattle.project_parts.specs.View.{number_at}
use Rattle.project_parts.proofs.Rows.{row_is}
use Rattle.project_parts.proofs.graph.row_of.Goals as goal

pub returns : goal.returns
returns c =
    let f = number_at c.args.numbers.now in
    let part = c.args.part.now in
    let names = flat_map one_name (map import_view part.module.now.imports.items) in
    c.in_ok-push_imports.ensures
    ∙ ap (λ is. c.in_ok-row.row.items ++ filter_map f (flat_map one_name (map import_view is))) c.deref.ensures.value
    ∙ ap (λ r. r ++ filter_map f names) c.in_ok-row.ensures
    ∙ ap (λ d. (if part.is_core then [] else d) ++ filter_map f names) c.requires
    ∙ row_is f part.is_core default_names names
