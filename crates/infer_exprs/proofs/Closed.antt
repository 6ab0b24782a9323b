-- A type group whose definitions have no annotation is listed as one.
use Rattle.std.proofs.Common.{◌≡◌, ℕ, List, [], ◌∷◌, ◌++◌, None, refl, sym, ap, subst}
use Rattle.std.proofs.Math.Path.{fun_ext}
use Rattle.type_items.specs.Items.{Place, child}
use Rattle.type_items.specs.Scopes.{Scope}
use Rattle.type_items.specs.Definitions.{Definition, list_as, list_group}
use Rattle.infer_steps.specs.Codes.{Code, State}
use Rattle.infer_steps.specs.Leaving.{without, left}
use Rattle.infer_steps.specs.declared.scope.Entered.{Entered}
use Rattle.infer_groups.specs.Defined.{Listing, Defined, DefinitionsStop, group_places}
use Rattle.infer_groups.specs.Members.{listed_group, at_number}
use Rattle.type_constructs.specs.Failing.{Bad}
use Rattle.infer_exprs.specs.Finished.{first_annotation, GroupDefined, GroupStops}

listed_as : (g : List Definition) → first_annotation g ≡ None → (scope : Scope) (p : Place)
    → listed_group g scope p ≡ list_group g scope p
listed_as [] h scope p = refl
listed_as (d ∷ ds) h scope p = ap (λ o. list_as o d ds scope p) (sym h)

pub inferred_listing : (g : List Definition) (i : ℕ) → first_annotation g ≡ None
    → at_number i (listed_group g) ≡ (λ scope q. list_group g scope (child q i))
inferred_listing g i h = fun_ext (λ scope. fun_ext (λ q. listed_as g h scope (child q i)))

pub inferred_defined : (code after : Code) (g : List Definition) (i : ℕ) (old new : State) → first_annotation g ≡ None
    → Defined code after (λ q. group_places (child q i)) (at_number i (listed_group g)) old new
    → GroupDefined code after g i old new
inferred_defined code after g i old new h d =
    subst (λ (l : Listing). Defined code after (λ q. group_places (child q i)) l old new) (inferred_listing g i h) d

pub inferred_stops : (code : Code) (g : List Definition) (i : ℕ) (old new : State) (bad : Bad)
    → first_annotation g ≡ None
    → DefinitionsStop code (λ q. group_places (child q i)) (at_number i (listed_group g)) old new bad
    → GroupStops code g i old new bad
inferred_stops code g i old new bad h d =
    subst (λ (l : Listing). DefinitionsStop code (λ q. group_places (child q i)) l old new bad) (inferred_listing g i h)
    d

-- names leave in two parts
pub without_both : (es fs : List Entered) (code : Code) → without (es ++ fs) code ≡ without es (without fs code)
unfolding without
without_both [] fs code = refl
without_both (e ∷ es) fs code = ap (left e) (without_both es fs code)
