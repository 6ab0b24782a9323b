use Rattle.type_safety.proofs.Sound.{steps_keep_types}
use Rattle.type_items.specs.Modules.{known_in, module_scope}
use Rattle.typed_values.proofs.Envs.{fits_known}
use Rattle.type_safety.proofs.Modules.{given_serves}
use Rattle.type_safety.specs.Modules.{before_own}
use Rattle.type_safety.proofs.Progress.{module_good}
use Rattle.type_safety.proofs.laws.module_law.Goals as goal

pub returns : goal.returns
returns c = λ w sound n m known env hidden f p plain free stands fits sol.
    module_good w (steps_keep_types w sound) n m known env hidden f p (given_serves w sound (known_in m known) (fits_known w env (before_own m m.declarations hidden) (module_scope m known) f fits)) plain free stands fits sol
