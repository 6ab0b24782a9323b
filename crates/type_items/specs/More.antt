-- What is asked of a module where the types of more names are known.
use Rattle.std.specs.Prelude.{◌≡◌, Some}
use Rattle.elm_canon.specs.Tree.{Module}
use Rattle.elm_type.specs.Types.{Name, Scheme}
use Rattle.type_items.specs.Items.{Place}
use Rattle.type_items.specs.Scopes.{Known}
use Rattle.type_items.specs.Modules.{module_items}
use Rattle.type_items.specs.Solutions.{Values, Solves}
use Rattle.type_items.specs.Inferred.{Schemes, Inferred}

-- each type that is known is known there too
abbrev pub Grows : Known → Known → Type 0
Grows known more = (m x : Name) (s : Scheme) → known m x ≡ Some s → more m x ≡ Some s

-- A module whose items are solved uses no name whose type is not known: so it asks the same where more is known.
abbrev pub AsksTheSame : Type 0
AsksTheSame =
    (m : Module) (env more : Known) (p : Place) (v : Values) → Grows env more → Solves v (module_items m env p)
    → module_items m env p ≡ module_items m more p

-- So it has the same types.
abbrev pub TypedWithMore : Type 0
TypedWithMore =
    (m : Module) (env more : Known) (p : Place) (schemes : Schemes) → Grows env more → Inferred m env p schemes
    → Inferred m more p schemes
