-- The name of the first module is the entry's: `name_there`.
use Rattle.std.proofs.Common.{Option, subst}
use Rattle.std.specs.Prelude.{IfSome, map}
use Rattle.project_file.specs.View.{directories_of}
use Rattle.import_graph.specs.Entry.{IsEntryName}
use Rattle.import_graph.specs.ModuleWalkView.{source_view, module_view}
use Rattle.import_graph.specs.declared.walk.Module.{Module}
use Rattle.import_graph.proofs.Plain.{name_there}
use Rattle.import_graph.proofs.walk.reach.Goals as goal

pub returns-in_ok-walk_from-in-Some-clause-entry : goal.returns-in_ok-walk_from-in-Some-clause-entry
returns-in_ok-walk_from-in-Some-clause-entry g c =
    let first = c.in-Some.first in
    let named = subst
    (λ (o : Option Module). IfSome o (λ m.
    IsEntryName (directories_of c.args.project.now) c.args.entry.now m.name))
    c.in-Some.is c.in_ok-first.ensures.named in
    let walk = c.in_ok-walk_from-in-Some.field-0 in (
      first.name,
      named,
      name_there (map module_view walk.modules.items) (source_view first) c.in_ok-walk_from-in-Some.ensures.first,
    )
