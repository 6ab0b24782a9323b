-- Modules without faults of commands and subscriptions: each of their declarations leaves these as ports made them.
use Rattle.std.specs.Prelude.{◌≡◌, []}
use Rattle.std.specs.List.{AllByRecursion}
use Rattle.elm_canon.specs.Tree.{Module}
use Rattle.program_safety.specs.Leaving.{Leaves}
use Rattle.core_modules.specs.Faults.{port_faults}

abbrev pub ModulesLeave : Type 0
ModulesLeave = (m : Module) → port_faults m ≡ [] → AllByRecursion Leaves m.declarations
