-- What lies on a desk; for private clauses.
use Rattle.std.specs.Prelude.{◌≡◌, ℕ, List, [], ◌∷◌, ◌++◌, Option, Some, None, option_map, true, false}
use Rattle.std.specs.List.{AllByRecursion}
use Rattle.elm_canon.specs.Names.{Name, same_name}
use Rattle.interface.specs.Interface.{Interface}
use Rattle.interface.specs.View.{interface_view}
use Rattle.module_compile.specs.declared.made.Made.TheVariants as made
use Rattle.module_made.specs.Around.{home_of as around_home}
use Rattle.module_compile.specs.ModulePhasesView.{around_view}
use Rattle.module_compile.specs.declared.offered.Offered.{Offered}
use Rattle.infer_proper.specs.Sound.{with_interface}
use Rattle.project_parts.specs.Modules.{Part, around, home_of}
use Rattle.elm_make.specs.declared.desk.Desk.{Desk}
use Rattle.elm_make.specs.ProjectCompileView.{Value}

-- with the interface of one value more, if that is good
abbrev pub with_value : Value → Option (List (Name × Interface)) → Option (List (Name × Interface))
with_value (Some (made.Good o f)) is = option_map (λ xs. xs ++ (o.value.home, interface_view o.value.interface) ∷ []) is
with_value (Some (made.Bad fs)) is = None
with_value None is = None

-- the interfaces of all, if all are good, after some
abbrev pub offers_after : Option (List (Name × Interface)) → List Value → Option (List (Name × Interface))
offers_after is [] = is
offers_after is (v ∷ vs) = offers_after (with_value v is) vs

abbrev pub offers : List Value → Option (List (Name × Interface))
offers vs = offers_after (Some []) vs

-- what it offers, if anything, is not of the module of that name
abbrev pub IsElsewhere : Name → Value → Type 0
IsElsewhere home (Some (made.Good o f)) = same_name o.value.home home ≡ false
IsElsewhere home (Some (made.Bad fs)) = Unit {0}
IsElsewhere home None = Unit {0}

-- with these interfaces, if all imports are good
abbrev pub HasLaid : Part → Desk → Option (List (Name × Interface)) → Type 0
HasLaid p d None = d.is_blocked ≡ true
HasLaid p d (Some is) = (d.is_blocked ≡ false) × (around_view d.imports ≡ around p is)

-- the values lie on the desk of the module, which is none of theirs
abbrev pub IsLaid : Part → Desk → List Value → Type 0
IsLaid p d vs = AllByRecursion (IsElsewhere (home_of p)) vs → HasLaid p d (offers vs)

-- what the module of the desk's imports does not offer itself is pushed
pub record Pushes (old : Desk) (o : Offered) (new : Desk) : Type 0 where
  pub blocked : old.is_blocked ≡ true → new.is_blocked ≡ true
  pub pushed : same_name o.home (around_home (around_view old.imports)) ≡ false → (new.is_blocked ≡ old.is_blocked)
      × (around_view new.imports ≡ record (around_view old.imports) {
        interfaces = with_interface o.home (interface_view o.interface) (around_view old.imports).interfaces;
      })
