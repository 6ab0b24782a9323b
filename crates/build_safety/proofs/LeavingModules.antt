-- Modules that were compiled without faults leave commands and subscriptions as ports made them: `builds_leave`.
use Rattle.std.proofs.Common.{◌≡◌, List, [], ◌∷◌, ◌++◌}
use Rattle.std.specs.List.{AllByRecursion}
use Rattle.canon_proper.proofs.Quiet.{append_none}
use Rattle.program_safety.specs.Signs.{ModulesLeave}
use Rattle.module_offers.specs.Faults.{operator_faults}
use Rattle.core_modules.specs.Faults.{port_faults}
use Rattle.build_safety.specs.Compiled.{Compiled, IsCompiled, AreCompiled}
use Rattle.build_safety.specs.KeptLinks.{ModuleLeaves, BuildsLeave}

module _ (leave : ModulesLeave) where
  -- it lacks nothing
  module_leaves : (before : List Compiled) (c : Compiled) → IsCompiled before c → ModuleLeaves c
  unfolding operator_faults
  module_leaves before c is =
      leave c.resolved.whole (append_none _ (port_faults c.resolved.whole) is.typed.is_named.whole).1

  all_leave : (before cs : List Compiled) → AreCompiled before cs → AllByRecursion ModuleLeaves cs
  all_leave before [] are = tt
  all_leave before (c ∷ cs) are = (module_leaves before c are.0, all_leave (before ++ c ∷ []) cs are.1)

  pub builds_leave : BuildsLeave
  builds_leave cs modules = all_leave [] cs modules.compiled
