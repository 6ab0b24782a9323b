-- Definitions of a block, and what they become.
use Rattle.std.proofs.Common.{◌≡◌, List, [], ◌∷◌, ◌++◌, Bool, true, false, refl, sym, ap, ◌∙◌}
use Rattle.std.proofs.lemmas.Bool.{false≢true}
use Rattle.elm_tree.specs.Tree.{Pos, Word}
use Rattle.elm_canon.specs.declared.reference.Ref.{Ref}
use Rattle.elm_canon.specs.Tree.{Group, Together, groups_of}
use Rattle.canon_env.specs.Naming.{World}
use Rattle.canon_env.specs.Locals.{Locals}
use Rattle.canon_env.specs.Sites.{Site}
use Rattle.canon_expr.specs.Blocks.{Made, NoMade, MadeFunction, MadeConstant, MadeParts, functions_in, group_of}
use Rattle.elm_canon.specs.Spelled.{is_spelled}
use Rattle.elm_canon.specs.Proper.{Scope, AreFresh, with_all, ProperPattern, bound_by, all_bound_by, BindsAll, Proper}
use Rattle.elm_canon.specs.Proper.{is_function, ProperGroups, ProperFunctions, function_names, group_names, after}
use Rattle.canon_proper.proofs.Scopes.{refs}
use Rattle.canon_proper.proofs.Stands.{Stands, AreQuiet}

-- it gives these names
abbrev pub ProperMade : Scope → List Ref → Made → Type 0
ProperMade scope names NoMade = names ≡ []
ProperMade scope names (MadeFunction title ps e) =
    (names ≡ title.name ∷ []) × (is_spelled title.name ≡ true) × (is_function ps e ≡ true)
    × BindsAll ps scope × Proper (with_all (all_bound_by ps) scope) e
ProperMade scope names (MadeConstant title e) =
    (names ≡ title.name ∷ []) × (is_spelled title.name ≡ true) × Proper scope e
ProperMade scope names (MadeParts p e) = (names ≡ bound_by p) × ProperPattern p × Proper scope e

abbrev pub is_functional : Made → Bool
is_functional NoMade = true
is_functional (MadeFunction title ps e) = true
is_functional (MadeConstant title e) = false
is_functional (MadeParts p e) = false

-- proper wherever the names are in scope that it uses
abbrev pub IsWell : World → Locals → List Word → List Site → Made → Type 0
IsWell w locals words sites m =
    (shown : Pos → Bool) (scope : Scope) → Stands w shown locals scope → AreFresh (refs words) [] →
    AreQuiet w shown sites → ProperMade scope (refs words) m

abbrev pub GoodFunctions : Scope → List Made → List Ref → Type 0
GoodFunctions scope ms ns = ProperFunctions scope (functions_in ms) × (function_names (functions_in ms) ≡ ns)

-- one more function of a group
pub one_function : (scope : Scope) (names : List Ref) (m : Made) (ms : List Made) (ns : List Ref) →
    ProperMade scope names m → is_functional m ≡ true → GoodFunctions scope ms ns →
    GoodFunctions scope (m ∷ ms) (names ++ ns)
one_function scope names NoMade ms ns p e r = (r.0, r.1 ∙ ap (λ rs. rs ++ ns) (sym p))
one_function scope names (MadeFunction title ps body) ms ns p e r = (
  (p.1, (p.2, (p.3, (p.4, r.0)))),
  ap (λ rs. title.name ∷ rs) r.1 ∙ ap (λ rs. rs ++ ns) (sym p.0),
)
one_function scope names (MadeConstant title body) ms ns p e r = absurd (false≢true e)
one_function scope names (MadeParts q body) ms ns p e r = absurd (false≢true e)

-- two definitions or more are functions together
pub two_together : (m n : Made) (ms : List Made) → group_of (m ∷ n ∷ ms) ≡ Together (functions_in (m ∷ n ∷ ms)) ∷ []
two_together NoMade n ms = refl
two_together (MadeFunction title ps e) n ms = refl
two_together (MadeConstant title e) n ms = refl
two_together (MadeParts p e) n ms = refl

-- ---- groups one after the other

pub groups_more : (xs ys : List Group) (scope : Scope) → ProperGroups scope (groups_of xs) →
    ProperGroups (after (groups_of xs) scope) (groups_of ys) → ProperGroups scope (groups_of (xs ++ ys))
groups_more [] ys scope p q = q
groups_more (g ∷ xs) ys scope p q = (p.0, groups_more xs ys (with_all (group_names g) scope) p.1 q)

pub after_more : (xs ys : List Group) (scope : Scope) →
    after (groups_of (xs ++ ys)) scope ≡ after (groups_of ys) (after (groups_of xs) scope)
after_more [] ys scope = refl
after_more (g ∷ xs) ys scope = after_more xs ys (with_all (group_names g) scope)
