use Rattle.std.proofs.Common.{◌≡◌, map}
use Rattle.canon_env.specs.Imports.{import_view}
use Rattle.module_compile.specs.Parts.{interfaces_view}
use Rattle.module_compile.specs.Settings.{given_view, known_of}
use Rattle.module_compile.proofs.imports.Imports.known_defaults.Given as goal

abbrev pub invariant-loop-import : goal.invariant-loop-import
invariant-loop-import l =
    map given_view l.known.items ≡ known_of (interfaces_view l.self.interfaces) (map import_view l.yielded)
