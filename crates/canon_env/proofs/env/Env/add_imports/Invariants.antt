use Rattle.std.proofs.Common.{map, take}
use Rattle.canon_env.specs.Env.{IsEnvOf, no_rows, imported_rows, known_view}
use Rattle.canon_env.proofs.env.Env.add_imports.Given as goal

abbrev pub invariant-loop-known : goal.invariant-loop-known
invariant-loop-known l =
    IsEnvOf l.initial.self no_rows → IsEnvOf l.self (imported_rows (map known_view (take l.known-index l.imports)))
