-- Names of modules, as keys.
use Rattle.std.specs.Prelude.{Bool, ◌&&◌}
use Rattle.elm_canon.specs.Names.{Name, same_name}

abbrev pub same_pair : Name × Name → Name × Name → Bool
same_pair a b = same_name a.0 b.0 && same_name a.1 b.1
