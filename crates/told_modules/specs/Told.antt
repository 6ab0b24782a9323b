-- A module without faults of names, whose types were inferred where it knows those of some names of other modules. It
-- is inferred as the law of typed programs asks, where all modules tell what they do.
use Rattle.std.specs.Prelude.{◌≡◌, [], Some}
use Rattle.elm_canon.specs.Tree.{Module}
use Rattle.elm_canon.specs.declared.reference.Ref.{Ref}
use Rattle.elm_canon.specs.Proper.{Scope}
use Rattle.elm_canon.specs.Declarations.{ProperDeclarations}
use Rattle.elm_type.specs.Types.{Name, Scheme}
use Rattle.elm_type.specs.Schemes.{rename}
use Rattle.type_items.specs.Items.{Place}
use Rattle.type_items.specs.Scopes.{Known}
use Rattle.type_items.specs.Inferred.{Schemes, Inferred}
use Rattle.type_items.specs.Expressions.{definitions}
use Rattle.elm_type.specs.Order.{scheme_in_order}
use Rattle.infer_steps.specs.Ready.{IsWritten}
use Rattle.type_items.specs.More.{Grows}
use Rattle.typed_values.specs.Simple.{AreApart}
use Rattle.type_safety.specs.Modules.{groups_in, AreTitled}
use Rattle.program_safety.specs.Parts.{Part, HasInstances}
use Rattle.program_safety.specs.Told.{IsToldAs, IsInferred}

-- no name is defined twice, and no definition of the module is a pattern
abbrev pub NamesAreApart : Type 0
NamesAreApart =
    (m : Module) (scope : Scope) → ProperDeclarations scope m.declarations
    → AreTitled (groups_in m.declarations) × AreApart (definitions (groups_in m.declarations))

-- its declarations are proper in order; inference tells these schemes, which name no constants
pub record IsTyped (env : Known) (m : Module) (p : Place) (schemes : Schemes) : Type 0 where
  pub scope : Scope
  pub proper : ProperDeclarations scope m.declarations
  pub inferred : Inferred m env p schemes
  pub written : (y : Ref) (s : Scheme) → schemes y ≡ Some s → IsWritten s.kinds s

-- Where modules tell the types that it knows, and of its own names what inference tells.
abbrev pub ModulesAreInferred : Type 0
ModulesAreInferred =
    (env told : Known) (t : Part) (schemes : Schemes) → IsTyped env t.module_ t.place schemes → (t.place ≡ [] → ⊥)
    → Grows env told
    → ((x : Name) (s : Scheme) → told t.module_.name x ≡ Some s → IsToldAs told schemes t x s) → IsInferred told t

-- in these forms a scheme has no other instances
abbrev pub FormsHaveInstances : Type 0
FormsHaveInstances = (s : Scheme) → HasInstances s (rename s) × HasInstances s (scheme_in_order s)
