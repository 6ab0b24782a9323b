-- Builds whose modules are all good: each module was compiled after those before it.
use Rattle.std.specs.Prelude.{◌≡◌, List, [], Some}
use Rattle.std.specs.List.{zip}
use Rattle.link.specs.Link as linked
use Rattle.module_made.specs.Made.{Value}
use Rattle.project_parts.specs.Modules.{Part, Values}
use Rattle.project_parts.specs.Outcomes.{linked_parts}
use Rattle.project_parts.specs.Laws.{IsBuild}
use Rattle.project_proper.specs.Builds.{AreBuilt, AreLinked}
use Rattle.build_safety.specs.Compiled.{Compiled, resolved_of, AreCompiled}

-- the modules that were compiled, which a link takes so
pub record Builds (ps : List Part) (values : List Value) (qs : List linked.Part) : Type 0 where
  pub modules : List Compiled
  pub built : AreBuilt ps values (resolved_of modules)
  pub are_linked : AreLinked qs (resolved_of modules)
  pub compiled : AreCompiled [] modules

abbrev pub BuildsAreCompiled : Type 0
BuildsAreCompiled =
    (ps : List Part) (values : List Value) (qs : List linked.Part) → IsBuild ps → Values ps values →
    linked_parts (zip ps values) ≡ Some qs → Builds ps values qs
