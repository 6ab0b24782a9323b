-- The modules that were found are compiled (`modules_build`), or the project is refused (`refused_builds`).
use Rattle.std.proofs.Common.{[], ◌∷◌, map, subst}
use Rattle.std.specs.Prelude.{IfSome}
use Rattle.import_graph.specs.Faults.{IsRefused}
use Rattle.import_graph.specs.ModuleGraphView.{graph_modules, HasEnd}
use Rattle.import_graph.specs.Heads.{HasImports}
use Rattle.import_graph.specs.ModuleWalkView.{module_view, setting}
use Rattle.project_parts.specs.Modules.{core_names}
use Rattle.project_parts.specs.Outcomes.{Builds}
use Rattle.elm_make.proofs.Building.{modules_build, refused_builds, stopped_holds}
use Rattle.elm_make.proofs.project.build_modules.Goals as goal

pub returns-in-Ok-clause-outcome : goal.returns-in-Ok-clause-outcome
returns-in-Ok-clause-outcome g c =
    let library = c.in_ok-library.library in
    modules_build c.args.entry.now c.args.project.now library.names.keys (map module_view library.modules.items)
    (graph_modules c.in-Ok.graph) c.in-Ok.graph.order.items c.in_ok-library.ensures.names
    c.in_ok-library.ensures.modules c.in-Ok.ensures.order c.in-Ok.ensures.entry (g.F.Files.tree c.args.files.now)
    c.requires.told c.in-Ok.ensures.modules c.build_graph.result c.build_graph.ensures.outcome
    c.build_graph.ensures.count

pub returns-in-Refused-clause-outcome : goal.returns-in-Refused-clause-outcome
returns-in-Refused-clause-outcome g c =
    let told = g.F.Files.tree c.args.files.now in
    let entry = c.args.entry.now in
    let project = c.args.project.now in
    let names = c.in_ok-library.library.names.keys in
    let fault = c.in-Refused.fault in
    let before = g.F.Files.faults c.args.files.now in
    let after = g.F.Files.faults c.crawl.new.files in
    let ends = subst (λ e. HasEnd e
    (λ f. IfSome told (λ tree. IsRefused HasImports (setting tree project names) entry f)) before after) c.in-Refused.is
    c.in-Err.ensures.error in
    stopped_holds told entry (λ tree. Builds (setting tree project core_names) entry) (fault ∷ [])
    c.in_ok-stopped_by-in-Refused.field-0
    (refused_builds told entry project names fault c.in_ok-library.ensures.names ends.0)
    c.in_ok-stopped_by-in-Refused.ensures
