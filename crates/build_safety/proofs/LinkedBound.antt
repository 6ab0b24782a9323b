-- Names that declarations use are bound.
use Rattle.std.proofs.Common.{◌≡◌, List, [], ◌∷◌, ◌++◌, map, Bool, true, false, ◌⊎◌, refl, sym}
use Rattle.std.proofs.Common.{⊎_elim}
use Rattle.std.specs.Prelude.{◌||◌, not, if◌then◌else◌}
use Rattle.std.specs.List.{AllByRecursion}
use Rattle.std.proofs.lemmas.Bool.{false≢true}
use Rattle.elm_canon.specs.Names.{Name, same_ref}
use Rattle.elm_canon.specs.declared.reference.Ref.{Ref}
use Rattle.elm_canon.specs.declared.reference.Ref.TheVariants.{Local, Top}
use Rattle.elm_canon.specs.Tree.{Functions, NoFunction, MoreFunction, Group, Together, Constant, Destructure}
use Rattle.elm_canon.specs.Tree.{Declaration, Given, Define}
use Rattle.elm_meaning.specs.Functions.{Primitive}
use Rattle.elm_canon.specs.Proper.{Scope, among, with_all, function_names, group_names}
use Rattle.elm_canon.specs.Declarations.{ProperDeclarations, after_declarations, declared_names, is_destructuring}
use Rattle.elm_canon.specs.Mentions.{anything, DeclarationMentions}
use Rattle.emit_laws.specs.Programs.{primitive_scope}
use Rattle.project_proper.proofs.Sublists.{names_all}
use Rattle.project_proper.proofs.Left.{in_with, after_in, after_only}
use Rattle.type_items.specs.Uses.{used_groups, used_group}
use Rattle.type_items.specs.Expressions.{definitions, group_definitions, function_definitions}
use Rattle.typed_values.specs.Simple.{Without, defines}
use Rattle.type_safety.specs.Modules.{groups_in, given_in}
use Rattle.program_safety.specs.Parts.{bound_with, none_but, primitive_names}
use Rattle.told_modules.proofs.Uses.{among_either, unused, group_in}

-- each name of a scope is bound
abbrev pub Covers : Scope → (Ref → Bool) → Type 0
Covers scope bound = (y : Ref) → among y scope ≡ true → bound y ≡ true

or_left : (b c : Bool) → b ≡ true → (b || c) ≡ true
or_left true c e = refl
or_left false c e = absurd (false≢true e)

or_right : (b c : Bool) → c ≡ true → (b || c) ≡ true
or_right true c e = refl
or_right false c e = e

-- ---- what declarations bind

functions_define : (fs : Functions) (y : Ref) → among y (function_names fs) ≡ true →
    defines (function_definitions fs) y ≡ true
functions_define NoFunction y e = absurd (false≢true e)
functions_define (MoreFunction title ps b fs) y e = by (same_ref y title.name) e (functions_define fs y)
  where
    by : (c : Bool) → (if c then true else among y (function_names fs)) ≡ true →
        (among y (function_names fs) ≡ true → defines (function_definitions fs) y ≡ true) →
        ((if c then true else false) || defines (function_definitions fs) y) ≡ true
    by true f rest = refl
    by false f rest = rest f

group_defines : (g : Group) → is_destructuring g ≡ false → (y : Ref) → among y (group_names g) ≡ true →
    defines (group_definitions g) y ≡ true
group_defines (Together fs) t y e = functions_define fs y e
group_defines (Constant title b) t y e = or_left (among y (title.name ∷ [])) false e
group_defines (Destructure q b) t y e = absurd (false≢true (sym t))

defines_first : (g : Group) (ds : List Declaration) (y : Ref) → defines (group_definitions g) y ≡ true →
    defines (definitions (groups_in (Define g ∷ ds))) y ≡ true
defines_first g ds y e = first (group_definitions g) e
  where
    first : (xs : _) → defines xs y ≡ true → defines (xs ++ definitions (groups_in ds)) y ≡ true
    first [] h = absurd (false≢true h)
    first (x ∷ xs) h = by (among y x.names) h (first xs)
      where
        by : (b : Bool) → (b || defines xs y) ≡ true →
            (defines xs y ≡ true → defines (xs ++ definitions (groups_in ds)) y ≡ true) →
            (b || defines (xs ++ definitions (groups_in ds)) y) ≡ true
        by true f rest = refl
        by false f rest = rest f

defines_later : (g : Group) (ds : List Declaration) (y : Ref) → defines (definitions (groups_in ds)) y ≡ true →
    defines (definitions (groups_in (Define g ∷ ds))) y ≡ true
defines_later g ds y e = later (group_definitions g)
  where
    later : (xs : _) → defines (xs ++ definitions (groups_in ds)) y ≡ true
    later [] = e
    later (x ∷ xs) = or_right (among y x.names) (defines (xs ++ definitions (groups_in ds)) y) (later xs)

abbrev Binds : List Declaration → Ref → Type 0
Binds ds y = (among y (given_in ds) || defines (definitions (groups_in ds)) y) ≡ true

binds_later : (d : Declaration) (ds : List Declaration) (y : Ref) → Binds ds y → Binds (d ∷ ds) y
binds_later (Given r k) ds y e = by (same_ref y r) (among y (given_in ds)) e
  where
    by : (b c : Bool) → (c || defines (definitions (groups_in ds)) y) ≡ true →
        ((if b then true else c) || defines (definitions (groups_in ds)) y) ≡ true
    by true c f = refl
    by false c f = f
binds_later (Define g) ds y e = by (among y (given_in ds)) e
  where
    by : (b : Bool) → (b || defines (definitions (groups_in ds)) y) ≡ true →
        (b || defines (definitions (groups_in (Define g ∷ ds))) y) ≡ true
    by true f = refl
    by false f = defines_later g ds y f

binds_first : (d : Declaration) (ds : List Declaration) (scope : Scope) → ProperDeclarations scope (d ∷ ds) →
    (y : Ref) → among y (declared_names d) ≡ true → Binds (d ∷ ds) y
binds_first (Given r k) ds scope p y e = by (same_ref y r) e
  where
    by : (b : Bool) → (if b then true else false) ≡ true →
        ((if b then true else among y (given_in ds)) || defines (definitions (groups_in ds)) y) ≡ true
    by true f = refl
    by false f = absurd (false≢true f)
binds_first (Define g) ds scope p y e =
    or_right (among y (given_in ds)) (defines (definitions (groups_in (Define g ∷ ds))) y)
    (defines_first g ds y (group_defines g p.0.0 y e))

all_bound : (ds : List Declaration) (scope : Scope) → ProperDeclarations scope ds → (y : Ref) →
    among y (names_all ds) ≡ true → Binds ds y
all_bound [] scope p y e = absurd (false≢true e)
all_bound (d ∷ ds) scope p y e =
    ⊎_elim (binds_first d ds scope p y)
    (λ h. binds_later d ds y (all_bound ds (with_all (declared_names d) scope) p.1 y h))
    (among_either (declared_names d) (names_all ds) y e)

-- so the scope after declarations is bound with them
pub still_covers : (ds : List Declaration) (scope : Scope) (bound : Ref → Bool) → ProperDeclarations scope ds →
    Covers scope bound → Covers (after_declarations ds scope) (bound_with ds bound)
still_covers ds scope bound p c y e =
    ⊎_elim (λ h. or_right (bound y) (among y (given_in ds) || defines (definitions (groups_in ds)) y)
    (all_bound ds scope p y h))
    (λ h. or_left (bound y) (among y (given_in ds) || defines (definitions (groups_in ds)) y) (c y h))
    (after_only ds scope y e)

-- the names of primitives are bound by them
pub primitives_cover : (ps : List (Ref × Primitive)) → Covers (primitive_scope ps) (primitive_names ps)
primitives_cover ps y e = by ps (⊎_elim (λ h. h) (λ h. absurd (false≢true h)) (in_with y (map (λ p. p.0) ps) [] e))
  where
    by : (qs : List (Ref × Primitive)) → among y (map (λ p. p.0) qs) ≡ true → primitive_names qs y ≡ true
    by [] h = absurd (false≢true h)
    by (q ∷ qs) h = go (same_ref y q.0) h (by qs)
      where
        go : (b : Bool) → (if b then true else among y (map (λ p. p.0) qs)) ≡ true →
            (among y (map (λ p. p.0) qs) ≡ true → primitive_names qs y ≡ true) → (b || primitive_names qs y) ≡ true
        go true f rest = refl
        go false f rest = rest f

-- ---- what declarations use

-- each name of a module that they use is in the scope after them
used_after : (home m n : Name) (ds : List Declaration) (scope : Scope) → ProperDeclarations scope ds →
    AllByRecursion (λ d. DeclarationMentions anything anything home d) ds →
    among (Top m n) (used_groups (groups_in ds)) ≡ true → among (Top m n) (after_declarations ds scope) ≡ true
used_after home m n [] scope p h u = absurd (false≢true u)
used_after home m n (Given r k ∷ ds) scope p h u = used_after home m n ds (r ∷ scope) p.1 h.1 u
used_after home m n (Define g ∷ ds) scope p h u =
    let next = with_all (group_names g) scope in
    ⊎_elim (λ f. after_in ds next (Top m n) (group_in m n g scope p.0.1 h.0.1 f))
    (used_after home m n ds next p.1 h.1) (among_either (used_group g) (used_groups (groups_in ds)) (Top m n) u)

pub used_bound : (home : Name) (ds : List Declaration) (scope : Scope) (bound : Ref → Bool) →
    ProperDeclarations scope ds → AllByRecursion (λ d. DeclarationMentions anything anything home d) ds →
    Covers scope bound → Without (none_but (bound_with ds bound)) (used_groups (groups_in ds))
used_bound home ds scope bound p h c = unused (none_but (bound_with ds bound)) (used_groups (groups_in ds)) each
  where
    each : (y : Ref) → among y (used_groups (groups_in ds)) ≡ true → none_but (bound_with ds bound) y ≡ true → ⊥
    each (Local x) u e = false≢true e
    each (Top m n) u e =
        not_bound (bound_with ds bound (Top m n))
        (still_covers ds scope bound p c (Top m n) (used_after home m n ds scope p h u)) e
      where
        not_bound : (b : Bool) → b ≡ true → not b ≡ true → ⊥
        not_bound true f g = false≢true g
        not_bound false f g = false≢true f
