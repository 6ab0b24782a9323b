-- The definitions of a block, and the groups that they make.
use Rattle.std.proofs.Common.{◌≡◌, ℕ, zero, suc, List, [], ◌∷◌, Bool, true, false, refl, sym, subst}
use Rattle.std.specs.Prelude.{slice_index_or}
use Rattle.std.specs.List.{AllByRecursion, flat_map}
use Rattle.decl_groups.specs.InOrder.{ordered_groups}
use Rattle.elm_canon.specs.Tree as canon
use Rattle.elm_canon.specs.Tree.{Group, Together, Title, groups_of}
use Rattle.canon_expr.specs.Blocks.{Made, NoMade, MadeFunction, MadeConstant, MadeParts, made_of, functions_in}
use Rattle.canon_expr.specs.Blocks.{group_of, made_at, groups_in}
use Rattle.told_modules.specs.Resolved.{PatternHasFields, PatternsHaveFields, HasFields, GroupsHaveFields}
use Rattle.told_modules.specs.Resolved.{GroupHasFields, FunctionsHaveFields}
use Rattle.told_modules.proofs.Parts.{all_both}

abbrev pub MadeHasFields : Made → Type 0
MadeHasFields NoMade = Unit {0}
MadeHasFields (MadeFunction title qs e) = PatternsHaveFields qs × HasFields e
MadeHasFields (MadeConstant title e) = HasFields e
MadeHasFields (MadeParts q e) = PatternHasFields q × HasFields e

pub define_has : (b : Bool) (title : Title) (qs : canon.Patterns) (e : canon.Expr) → PatternsHaveFields qs
    → HasFields e → MadeHasFields (made_of b title qs e)
define_has true title qs e h k = (h, k)
define_has false title qs e h k = k

functions_have : (ms : List Made) → AllByRecursion MadeHasFields ms → FunctionsHaveFields (functions_in ms)
functions_have [] h = tt
functions_have (NoMade ∷ ms) h = functions_have ms h.1
functions_have (MadeConstant title e ∷ ms) h = functions_have ms h.1
functions_have (MadeParts q e ∷ ms) h = functions_have ms h.1
functions_have (MadeFunction title qs e ∷ ms) h = (h.0, functions_have ms h.1)

together : (ms : List Made) → AllByRecursion MadeHasFields ms
    → AllByRecursion GroupHasFields (Together (functions_in ms) ∷ [])
together ms h = (functions_have ms h, tt)

two_together : (m n : Made) (ms : List Made) → group_of (m ∷ n ∷ ms) ≡ Together (functions_in (m ∷ n ∷ ms)) ∷ []
two_together NoMade n ms = refl
two_together (MadeFunction title ps e) n ms = refl
two_together (MadeConstant title e) n ms = refl
two_together (MadeParts p e) n ms = refl

pub group_has : (ms : List Made) → AllByRecursion MadeHasFields ms → AllByRecursion GroupHasFields (group_of ms)
group_has [] h = together [] h
group_has (NoMade ∷ []) h = tt
group_has (MadeFunction title qs e ∷ []) h = together (MadeFunction title qs e ∷ []) h
group_has (MadeConstant title e ∷ []) h = h
group_has (MadeParts q e ∷ []) h = h
group_has (m ∷ n ∷ ms) h =
    subst (AllByRecursion GroupHasFields) (sym (two_together m n ms)) (together (m ∷ n ∷ ms) h)

made_there : (made : List Made) → AllByRecursion MadeHasFields made → (i : ℕ)
    → MadeHasFields (slice_index_or made i NoMade)
made_there [] h i = tt
made_there (m ∷ made) h zero = h.0
made_there (m ∷ made) h (suc i) = made_there made h.1 i

each_there : (made : List Made) → AllByRecursion MadeHasFields made → (places : List ℕ)
    → AllByRecursion MadeHasFields (made_at made places)
each_there made h [] = tt
each_there made h (i ∷ places) = (made_there made h i, each_there made h places)

blocks : (made : List Made) → AllByRecursion MadeHasFields made → (lists : List (List ℕ))
    → AllByRecursion GroupHasFields (flat_map (λ places. group_of (made_at made places)) lists)
blocks made h [] = tt
blocks made h (places ∷ lists) =
    all_both GroupHasFields (group_of (made_at made places))
    (flat_map (λ places. group_of (made_at made places)) lists)
    (group_has (made_at made places) (each_there made h places)) (blocks made h lists)

-- ---- a let

in_let : (gs : List Group) → AllByRecursion GroupHasFields gs → GroupsHaveFields (groups_of gs)
in_let [] h = tt
in_let (g ∷ gs) h = (h.0, in_let gs h.1)

pub let_has : (uses : List (List ℕ)) (made : List Made) → AllByRecursion MadeHasFields made
    → GroupsHaveFields (groups_in uses made)
let_has uses made h =
    in_let (flat_map (λ places. group_of (made_at made places)) (ordered_groups uses))
    (blocks made h (ordered_groups uses))
