-- What a module without faults of patterns promises: each `case` and each pattern that stands alone leaves nothing out,
-- and no branch is covered by earlier ones.
use Rattle.std.specs.Prelude.{◌≡◌, List, [], ◌∷◌, None, ◌↔◌}
use Rattle.std.specs.List.{AllByRecursion}
use Rattle.elm_canon.specs.Tree.{Module}
use Rattle.pattern_check.specs.Missing.{missing, redundant}
use Rattle.pattern_check.specs.Sites.{Site, Choice, Sole, module_sites}
use Rattle.pattern_check.specs.Faults.{module_faults}

-- nothing is left out, and nothing is redundant
abbrev pub IsCovered : Site → Type 0
IsCovered (Choice here qs) = (missing qs ≡ None) × (redundant qs ≡ [])
IsCovered (Sole here q) = missing (q ∷ []) ≡ None

abbrev pub AreCovered : List Site → Type 0
AreCovered sites = AllByRecursion IsCovered sites

abbrev pub FaultlessIsCovered : Type 0
FaultlessIsCovered = (m : Module) → (module_faults m ≡ []) ↔ AreCovered (module_sites m)
