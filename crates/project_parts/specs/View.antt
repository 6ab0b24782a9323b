-- What parts of the program and their numbers tell.
use Rattle.std.specs.Prelude.{ℕ, List, Option}
use Rattle.std.specs.Str.{bytes_eq}
use Rattle.indexmap.specs.IndexMap.{IndexMap, get}
use Rattle.import_graph.specs.ModuleWalkView.{module_view}
use Rattle.project_parts.specs.Modules.{Part}
use Rattle.project_parts.specs.declared.parts.Part as program

abbrev pub part_view : program.Part → Part
part_view p = record { is_core = p.is_core; module_ = module_view p.module.now }

-- the number of a name
abbrev pub number_at : {S : Type 0} → IndexMap (List ℕ) ℕ S → List ℕ → Option ℕ
number_at numbers x = get bytes_eq numbers x
