use Rattle.std.specs.Prelude.{◌≡◌, ◌++◌, ℕ, List, map}
use Rattle.core_modules.specs.Library as core
use Rattle.project_parts.specs.Library.{IsCore}
use Rattle.project_parts.proofs.loading.core_library.Given as goal

-- the modules so far, and those that are left, are the core library
abbrev pub invariant-loop-one : goal.invariant-loop-one
invariant-loop-one l =
    (before : List (List ℕ × List ℕ)) × IsCore before l.library
    × (before ++ map core.module_view l.one-iterator.rest.items ≡ core.core_library)
