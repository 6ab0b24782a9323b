-- What proper declarations say of the names that a module defines.
use Rattle.std.proofs.Common.{◌≡◌, ℕ, zero, suc, List, [], ◌∷◌, ◌++◌, inr, ⊎_elim, Bool, true, false, cond}
use Rattle.std.proofs.Common.{Option, Some, None, refl, sym, ap, ◌∙◌, subst}
use Rattle.std.specs.Prelude.{flat_map, slice_get}
use Rattle.std.specs.List.{AllByRecursion, Contains}
use Rattle.std.proofs.lemmas.List.Elements.{Contains-append_cases}
use Rattle.std.proofs.lemmas.Grind.{flat_map-append}
use Rattle.elm_canon.specs.Names.{same_ref}
use Rattle.elm_canon.specs.declared.reference.Ref.{Ref}
use Rattle.elm_canon.specs.Tree.{Group, Together, Constant, Destructure, Functions}
use Rattle.elm_canon.specs.Tree.{NoFunction, MoreFunction, Declaration, Given, Define, groups_of}
use Rattle.elm_canon.specs.Proper.{Scope, among, with_all, AreFresh, group_names, function_names, ProperGroup}
use Rattle.elm_canon.specs.Declarations.{ProperDeclarations, is_destructuring}
use Rattle.decl_groups.proofs.Basics.{no_member, member_cases}
use Rattle.type_items.specs.Definitions.{Definition, in_written_order, all_uses}
use Rattle.type_items.specs.Expressions.{definitions, group_definitions, function_definitions}
use Rattle.type_items.specs.Modules.{definitions_in}
use Rattle.decl_groups.specs.InOrder.{ordered_groups}
use Rattle.infer_order.specs.Order.{group_list, IsSimple, HasTitle, StandsAlone, Spots}
use Rattle.infer_order.specs.Spots.{has_titles}
use Rattle.infer.specs.Names.{EachOnce, names_of, AllTitled}
use Rattle.infer.specs.Modules.{groups_in}
use Rattle.infer.proofs.Refs.{ref_itself}
use Rattle.infer.proofs.Once.{once_both}

-- ---- scopes

-- a name that is not in a scope
abbrev IsNew : Ref → Scope → Type 0
IsNew x scope = among x scope ≡ false

-- among more names
new_before : (xs : List Ref) (scope : Scope) (x : Ref) → IsNew x (with_all xs scope) → IsNew x scope
new_before [] scope x h = h
new_before (y ∷ ys) scope x h = by (same_ref x y) (new_before ys (y ∷ scope) x h)
  where
    by : (b : Bool) → cond b true (among x scope) ≡ false → IsNew x scope
    by true e = absurd cc
    by false e = e

new_off : (xs : List Ref) (scope : Scope) (x : Ref) → IsNew x (with_all xs scope) → Contains xs x → ⊥
new_off [] scope x h c = no_member x c
new_off (y ∷ ys) scope x h c =
    ⊎_elim
    (λ e. (
    let hit : among x (y ∷ scope) ≡ true = ap (λ b. cond b true (among x scope)) (ap (same_ref x) e ∙ ref_itself x) in
    let miss : among x (y ∷ scope) ≡ false = new_before ys (y ∷ scope) x h in
    let clash : true ≡ false = sym hit ∙ miss in absurd cc))
    (λ k. new_off ys (y ∷ scope) x h k) (member_cases y x ys c)

fresh_new : (xs : List Ref) (scope : Scope) (x : Ref) → AreFresh xs scope → Contains xs x → IsNew x scope
fresh_new [] scope x h c = absurd (no_member x c)
fresh_new (y ∷ ys) scope x h c =
    ⊎_elim (λ e. subst (λ z. IsNew z scope) e h.0)
    (λ k. by (same_ref x y) (fresh_new ys (y ∷ scope) x h.1 k)) (member_cases y x ys c)
  where
    by : (b : Bool) → cond b true (among x scope) ≡ false → IsNew x scope
    by true e = absurd cc
    by false e = e

fresh_once : (xs : List Ref) (scope : Scope) → AreFresh xs scope → EachOnce xs
fresh_once [] scope h = tt
fresh_once (x ∷ xs) scope h = (
  λ c. (
      let new : among x (x ∷ scope) ≡ false = fresh_new xs (x ∷ scope) x h.1 c in
      let hit : among x (x ∷ scope) ≡ true = ap (λ b. cond b true (among x scope)) (ref_itself x) in
      let clash : true ≡ false = sym hit ∙ new in absurd cc),
  fresh_once xs (x ∷ scope) h.1,
)

-- ---- the names of a group

function_names_of : (fs : Functions) → names_of (function_definitions fs) ≡ function_names fs
function_names_of NoFunction = refl
function_names_of (MoreFunction title qs e fs) = ap (λ l. title.name ∷ l) (function_names_of fs)

group_names_of : (g : Group) → is_destructuring g ≡ false → names_of (group_definitions g) ≡ group_names g
group_names_of (Together fs) h = function_names_of fs
group_names_of (Constant title e) h = refl
group_names_of (Destructure q e) h = absurd cc

proper_fresh : (scope : Scope) (g : Group) → is_destructuring g ≡ false → ProperGroup scope g
    → AreFresh (group_names g) scope
proper_fresh scope (Together fs) h p = p.0
proper_fresh scope (Constant title e) h p = (p.1.0, tt)
proper_fresh scope (Destructure q e) h p = absurd cc

-- ---- of declarations

defined_names : List Declaration → List Ref
defined_names ds = names_of (flat_map definitions_in ds)

new_names : (ds : List Declaration) (scope : Scope) (x : Ref) → ProperDeclarations scope ds
    → Contains (names_of (flat_map definitions_in ds)) x → IsNew x scope
new_names [] scope x h c = absurd (no_member x c)
new_names (Given r k ∷ ds) scope x h c = new_before (r ∷ []) scope x (new_names ds (with_all (r ∷ []) scope) x h.1 c)
new_names (Define g ∷ ds) scope x h c =
    ⊎_elim
    (λ m. fresh_new (group_names g) scope x (proper_fresh scope g h.0.0 h.0.1)
    (subst (λ l. Contains l x) (group_names_of g h.0.0) m))
    (λ m. new_before (group_names g) scope x (new_names ds (with_all (group_names g) scope) x h.1 m))
    (Contains-append_cases (names_of (group_definitions g)) (names_of (flat_map definitions_in ds)) x
    (subst (λ l. Contains l x)
    (flat_map-append (λ (d : Definition). d.names) (group_definitions g) (flat_map definitions_in ds)) c))

pub proper_once : (ds : List Declaration) (scope : Scope) → ProperDeclarations scope ds
    → EachOnce (names_of (flat_map definitions_in ds))
proper_once [] scope h = tt
proper_once (Given r k ∷ ds) scope h = proper_once ds (with_all (r ∷ []) scope) h.1
proper_once (Define g ∷ ds) scope h =
    subst EachOnce
    (sym (flat_map-append (λ (d : Definition). d.names) (group_definitions g) (flat_map definitions_in ds)))
    (once_both (names_of (group_definitions g)) (names_of (flat_map definitions_in ds))
    (subst EachOnce (sym (group_names_of g h.0.0))
    (fresh_once (group_names g) scope (proper_fresh scope g h.0.0 h.0.1)))
    (proper_once ds (with_all (group_names g) scope) h.1)
    (λ x m n. new_off (group_names g) scope x (new_names ds (with_all (group_names g) scope) x h.1 n)
    (subst (λ l. Contains l x) (group_names_of g h.0.0) m)))

-- ---- no group is a pattern with its value

abbrev AreTitled : List Group → Type 0
AreTitled gs = AllByRecursion (λ g. is_destructuring g ≡ false) gs

titled_more : (g : Group) → is_destructuring g ≡ false → has_titles (Some g) ≡ true
titled_more (Together fs) h = refl
titled_more (Constant title e) h = refl
titled_more (Destructure q e) h = absurd cc

titled_at : (gs : List Group) → AreTitled gs → (i : ℕ) → has_titles (slice_get gs i) ≡ true
titled_at [] h i = refl
titled_at (g ∷ gs) h zero = titled_more g h.0
titled_at (g ∷ gs) h (suc i) = titled_at gs h.1 i

proper_titled : (ds : List Declaration) (scope : Scope) → ProperDeclarations scope ds
    → AreTitled (flat_map groups_in ds)
proper_titled [] scope h = tt
proper_titled (Given r k ∷ ds) scope h = proper_titled ds (with_all (r ∷ []) scope) h.1
proper_titled (Define g ∷ ds) scope h = (h.0.0, proper_titled ds (with_all (group_names g) scope) h.1)

pub all_titled : (ds : List Declaration) (scope : Scope) → ProperDeclarations scope ds
    → AllTitled (flat_map groups_in ds)
all_titled ds scope h = record { each = titled_at (flat_map groups_in ds) (proper_titled ds scope h) }

-- so each may share its type group

listed_groups : (gs : List Group) → group_list (groups_of gs) ≡ gs
listed_groups [] = refl
listed_groups (g ∷ gs) = ap (λ l. g ∷ l) (listed_groups gs)

module _ (gs : List Group) (titled : AllTitled gs) (spots : Spots) where
  has_title : (o : Option (ℕ × ℕ)) → HasTitle gs o
  has_title None = tt
  has_title (Some spot) = titled.each spot.0

  each_title : (group : List ℕ) → AllByRecursion (λ i. HasTitle gs (slice_get spots i)) group
  each_title [] = tt
  each_title (i ∷ group) = (has_title (slice_get spots i), each_title group)

  each_alone : (groups : List (List ℕ)) → AllByRecursion (StandsAlone gs spots) groups
  each_alone [] = tt
  each_alone (group ∷ groups) = (inr (each_title group), each_alone groups)

pub titled_simple : (gs : List Group) → AllTitled gs → IsSimple (groups_of gs)
titled_simple gs titled = record {
  each = λ spots e. subst
      (λ l. AllByRecursion (StandsAlone l spots)
      (ordered_groups (all_uses (in_written_order (definitions (groups_of gs)))))) (sym (listed_groups gs))
      (each_alone gs titled spots (ordered_groups (all_uses (in_written_order (definitions (groups_of gs))))));
}

-- ---- the definitions of the groups that are declared

pub all_defined : (ds : List Declaration) → definitions (groups_of (flat_map groups_in ds)) ≡ flat_map definitions_in ds
all_defined [] = refl
all_defined (Given x known ∷ ds) = all_defined ds
all_defined (Define g ∷ ds) = ap (λ l. group_definitions g ++ l) (all_defined ds)
