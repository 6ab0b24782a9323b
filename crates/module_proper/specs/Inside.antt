-- Declarations that are proper where everything is in scope, their own names and later ones too: of their names it says
-- only that they can be spelled.
use Rattle.std.specs.Prelude.{◌≡◌, List, [], ◌∷◌, true}
use Rattle.elm_canon.specs.Tree.{Group, Together, Constant, Destructure, Declaration, Given, Define}
use Rattle.elm_canon.specs.Spelled.{is_spelled}
use Rattle.elm_canon.specs.Proper.{Scope, Proper, ProperFunctions}
use Rattle.elm_canon.specs.Declarations.{is_proper_known}

abbrev pub IsInsideGroup : Scope → Group → Type 0
IsInsideGroup scope (Together fs) = ProperFunctions scope fs
IsInsideGroup scope (Constant title e) = (is_spelled title.name ≡ true) × Proper scope e
IsInsideGroup scope (Destructure p e) = ⊥

abbrev pub IsInside : Scope → Declaration → Type 0
IsInside scope (Given r k) = (is_spelled r ≡ true) × (is_proper_known k ≡ true)
IsInside scope (Define g) = IsInsideGroup scope g

abbrev pub AllInside : Scope → List Declaration → Type 0
AllInside scope [] = Unit {0}
AllInside scope (d ∷ ds) = IsInside scope d × AllInside scope ds
