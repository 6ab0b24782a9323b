-- One module more: `core_more`, `names_more`.
use Rattle.std.proofs.Common.{[], ◌∷◌, ◌++◌, map, sym, ap, subst, ◌∙◌}
use Rattle.std.proofs.lemmas.List.{map-append}
use Rattle.core_modules.specs.Library as core
use Rattle.import_graph.specs.Modules.{Source}
use Rattle.import_graph.specs.ModuleWalkView.{module_view}
use Rattle.project_parts.specs.Modules.{AreCoreModules}
use Rattle.project_parts.specs.Library.{IsNext}
use Rattle.project_parts.proofs.Adding.{core_more, next_is, names_more}
use Rattle.project_parts.proofs.loading.Library.push.Goals as goal

pub returns : goal.returns
returns c = λ before is fresh.
    let given = core.module_view c.args.given in
    let m = c.in_ok-module.module in
    let old = c.args.self.now.modules.items in
    let next = subst (λ ks. IsNext ks given (module_view m)) is.names c.in_ok-module.ensures in
    let listed = sym (ap (map module_view) c.in_ok-push.ensures.items ∙ map-append module_view old (m ∷ [])) in
    record {
      modules = subst (AreCoreModules [] (before ++ given ∷ [])) listed
          (core_more [] before given (map module_view old) (module_view m) is.modules (next_is before given
          (module_view m) next));
      names = names_more before given c.args.self.now.names.keys c.in_ok-clone.field-0 c.insert.new.self.keys is.names
          (c.in_ok-clone.ensures.cases ∙ ap (λ (s : Source). s.name) c.in_ok-module.ensures.source) fresh
          c.in_ok-insert.ensures.keys;
    }
