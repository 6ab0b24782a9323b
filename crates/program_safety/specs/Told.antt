-- What inference tells of a module is told as the law of programs asks.
use Rattle.std.specs.Prelude.{◌≡◌, ℕ, [], true, false, Some, ◌⊎◌}
use Rattle.std.specs.List.{AllByRecursion}
use Rattle.elm_canon.specs.declared.reference.Ref.{Ref}
use Rattle.elm_canon.specs.declared.reference.Ref.TheVariants.{Top}
use Rattle.elm_type.specs.Types.{Name, Leaf, Free, Fixed, Scheme, variables}
use Rattle.type_items.specs.Scopes.{Known}
use Rattle.type_items.specs.Expressions.{definitions}
use Rattle.type_items.specs.Modules.{known_in}
use Rattle.type_items.specs.Inferred.{Schemes, Inferred}
use Rattle.typed_values.specs.Simple.{defines, AreApart}
use Rattle.type_safety.specs.Modules.{groups_in, AreTitled}
use Rattle.program_safety.specs.Parts.{Part, HasInstances, IsOf, Tells}

abbrev pub IsVariable : Leaf ℕ → Type 0
IsVariable (Free i) = Unit {0}
IsVariable (Fixed r) = ⊥

-- Of a name of the module is told the scheme that inference tells of its definition, or the one that is declared: or
-- another scheme that has no instances but those of it.
pub record IsToldAs (told : Known) (schemes : Schemes) (t : Part) (x : Name) (s : Scheme) : Type 0 where
  pub scheme : Scheme
  pub instances : HasInstances scheme s
  pub is : (defines (definitions (groups_in t.module_.declarations)) (Top t.module_.name x) ≡ true)
      × (schemes (Top t.module_.name x) ≡ Some scheme)
      ⊎ (defines (definitions (groups_in t.module_.declarations)) (Top t.module_.name x) ≡ false)
      × (known_in t.module_ told t.module_.name x ≡ Some scheme)

-- A module that inference tells of as it is told. It stands at a place of its own, and its schemes name no constants of
-- annotations.
pub record IsInferred (told : Known) (t : Part) : Type 0 where
  pub schemes : Schemes
  pub inferred : Inferred t.module_ told t.place schemes
  pub placed : t.place ≡ [] → ⊥
  pub titled : AreTitled (groups_in t.module_.declarations)
  pub apart : AreApart (definitions (groups_in t.module_.declarations))
  pub closed : (x : Name) (s : Scheme) → schemes (Top t.module_.name x) ≡ Some s
      → AllByRecursion IsVariable (variables s.type)
  pub tells : (x : Name) (s : Scheme) → told t.module_.name x ≡ Some s → IsToldAs told schemes t x s

abbrev pub InferredModulesTell : Type 0
InferredModulesTell = (told : Known) (t : Part) → IsInferred told t → (y : Ref) → IsOf t.module_.name y → Tells told t y
