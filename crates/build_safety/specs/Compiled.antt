-- The modules of a build, each as it was compiled after others.
use Rattle.std.specs.Prelude.{◌≡◌, ℕ, List, [], ◌∷◌, ◌++◌, map, Some, slice_get}
use Rattle.elm_canon.specs.Names.{Name}
use Rattle.pattern_check.specs.Faults as patterns
use Rattle.interface.specs.Interface.{Interface}
use Rattle.type_items.specs.Inferred.{Schemes}
use Rattle.module_offers.specs.Offers.{main_type}
use Rattle.module_made.specs.Around.{Around, setting_of}
use Rattle.module_made.specs.Made.{IsTyped}
use Rattle.project_proper.specs.Resolved.{Resolved, AreResolved}
use Rattle.project_proper.specs.Builds.{interface_by}
use Rattle.told_modules.specs.Offers.{HaveNoFields}

-- a module, what it was compiled in, its text, and the types of its definitions
pub record Compiled : Type 0 where
  pub resolved : Resolved
  pub around : Around
  pub text : List ℕ
  pub told : Schemes

abbrev pub home_of : Compiled → Name
home_of c = c.resolved.setting.home

abbrev pub interface_of : Compiled → Interface
interface_of c = interface_by c.resolved c.told

abbrev pub resolved_of : List Compiled → List Resolved
resolved_of cs = map (λ (c : Compiled). c.resolved) cs

-- one of these modules has that name and offers this
pub record IsOffered (cs : List Compiled) (x : Name) (i : Interface) : Type 0 where
  pub place : ℕ
  pub by : Compiled
  pub at : slice_get cs place ≡ Some by
  pub home : home_of by ≡ x
  pub is : i ≡ interface_of by

-- It was compiled without a fault, and knows no more than what modules before it offer. Of the types that it has without
-- a text no constructor is known.
pub record IsCompiled (before : List Compiled) (c : Compiled) : Type 0 where
  pub setting : c.resolved.setting ≡ setting_of c.around c.resolved.written
  pub typed : IsTyped c.around c.text c.resolved.written c.resolved.whole c.told
  pub covered : patterns.module_faults c.resolved.whole ≡ []
  pub main : c.resolved.main ≡ main_type c.resolved.whole c.told
  pub offered : (x : Name) (i : Interface) → c.around.interfaces x ≡ Some i → IsOffered before x i
  pub given : HaveNoFields c.resolved.setting.given

abbrev pub AreCompiled : List Compiled → List Compiled → Type 0
AreCompiled before [] = Unit {0}
AreCompiled before (c ∷ cs) = IsCompiled before c × AreCompiled (before ++ c ∷ []) cs

-- the modules of a build
pub record AreModules (cs : List Compiled) : Type 0 where
  pub resolved : AreResolved (resolved_of cs)
  pub compiled : AreCompiled [] cs
