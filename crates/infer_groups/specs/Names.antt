-- The names of a type group, as the program has them.
use Rattle.std.specs.Prelude.{List, map}
use Rattle.type_schemes.specs.View.{frozen_view}
use Rattle.infer_groups.specs.Members as members
use Rattle.infer_groups.specs.General.{Generalised}
use Rattle.infer_groups.specs.declared.names.Named.{Named}
use Rattle.infer_groups.specs.declared.names.General.{General}

abbrev pub named_view : Named → members.Named
named_view n = (n.name, n.variable)

abbrev pub named_views : List Named → List members.Named
named_views ns = map named_view ns

abbrev pub general_view : General → Generalised
general_view g = (g.name, frozen_view g.frozen)
