use Rattle.std.proofs.Common.{[], map, sym, subst}
use Rattle.import_graph.specs.ModuleWalkView.{module_view}
use Rattle.project_parts.specs.Modules.{AreCoreModules}
use Rattle.project_parts.proofs.loading.Library.empty.Goals as goal

pub returns : goal.returns
returns c = record {
  modules = subst (λ ms. AreCoreModules [] [] (map module_view ms)) (sym c.new-modules.ensures.items) tt;
  names = c.new-names.ensures.empty;
}
