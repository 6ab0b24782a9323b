-- Names with their types, as the program has them.
use Rattle.std.specs.Prelude.{List, map}
use Rattle.elm_type.specs.View.{scheme_view}
use Rattle.infer.specs.Known.{Typed}
use Rattle.infer.specs.declared.named.Named.{Named}

abbrev pub named_view : Named → Typed
named_view n = (n.name, scheme_view n.scheme)

abbrev pub named_views : List Named → List Typed
named_views ns = map named_view ns
