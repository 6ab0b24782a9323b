-- The names of proper declarations.
use Rattle.std.proofs.Common.{◌≡◌, List, [], ◌∷◌, ◌++◌, Bool, true, false, ◌⊎◌, inl, inr, refl, sym, ap, ◌∙◌, subst}
use Rattle.std.specs.Prelude.{◌||◌, if◌then◌else◌}
use Rattle.elm_canon.specs.Names.{same_ref}
use Rattle.elm_canon.specs.declared.reference.Ref.{Ref}
use Rattle.elm_canon.specs.Tree.{Group, Together, Constant, Destructure, Functions, NoFunction, MoreFunction}
use Rattle.elm_canon.specs.Tree.{Declaration, Given, Define}
use Rattle.elm_canon.specs.Proper.{Scope, among, with_all, AreFresh, function_names, group_names, ProperGroup}
use Rattle.elm_canon.specs.Declarations.{ProperDeclarations, is_destructuring}
use Rattle.type_items.specs.Definitions.{Definition}
use Rattle.type_items.specs.Expressions.{definitions, group_definitions, function_definitions}
use Rattle.typed_values.specs.Simple.{Without, defines, AreApart}
use Rattle.typed_values.proofs.Names.{yes_or_no, not_both, ref_itself, same_refs}
use Rattle.type_safety.specs.Modules.{groups_in, AreTitled}
use Rattle.told_modules.specs.Told.{NamesAreApart}

-- ---- scopes

pub in_first : (x y : Ref) (xs : Scope) → among x (y ∷ xs) ≡ true → (same_ref x y ≡ true) ⊎ (among x xs ≡ true)
in_first x y xs e = go (same_ref x y) e
  where
    go : (b : Bool) → (if b then true else among x xs) ≡ true → (b ≡ true) ⊎ (among x xs ≡ true)
    go true f = inl refl
    go false f = inr f

pub off_first : (x y : Ref) (xs : Scope) → among x (y ∷ xs) ≡ false → (same_ref x y ≡ false) × (among x xs ≡ false)
off_first x y xs e = go (same_ref x y) e
  where
    go : (b : Bool) → (if b then true else among x xs) ≡ false → (b ≡ false) × (among x xs ≡ false)
    go true f = absurd (let z : true ≡ false = f in cc)
    go false f = (refl, f)

pub first_in : (x : Ref) (xs : Scope) → among x (x ∷ xs) ≡ true
first_in x xs = ap (λ b. if b then true else among x xs) (ref_itself x)

-- not among more names
pub off_all : (xs : List Ref) (scope : Scope) (x : Ref) → among x (with_all xs scope) ≡ false
    → (among x xs ≡ false) × (among x scope ≡ false)
off_all [] scope x e = (refl, e)
off_all (y ∷ ys) scope x e =
    let r = off_all ys (y ∷ scope) x e in
    let f = off_first x y scope r.1 in
    (ap (λ b. if b then true else among x ys) f.0 ∙ r.0, f.1)

pub fresh_off : (xs : List Ref) (scope : Scope) (x : Ref) → AreFresh xs scope → among x xs ≡ true
    → among x scope ≡ false
fresh_off [] scope x h e = not_both false e refl
fresh_off (y ∷ ys) scope x h e = elim (in_first x y ys e) [
  | inl is ↦ subst (λ z. among z scope ≡ false) (sym (same_refs x y is)) h.0
  | inr later ↦ (off_first x y scope (fresh_off ys (y ∷ scope) x h.1 later)).1
]

-- ---- definitions

pub defines_either : (ds es : List Definition) (y : Ref) → defines (ds ++ es) y ≡ true
    → (defines ds y ≡ true) ⊎ (defines es y ≡ true)
defines_either [] es y e = inr e
defines_either (d ∷ ds) es y e = go (among y d.names) e (defines_either ds es y)
  where
    go : (b : Bool) → (b || defines (ds ++ es) y) ≡ true
        → (defines (ds ++ es) y ≡ true → (defines ds y ≡ true) ⊎ (defines es y ≡ true))
        → ((b || defines ds y) ≡ true) ⊎ (defines es y ≡ true)
    go true f again = inl refl
    go false f again = again f

defines_neither : (ds es : List Definition) (y : Ref) → defines ds y ≡ false → defines es y ≡ false
    → defines (ds ++ es) y ≡ false
defines_neither ds es y e f = elim (yes_or_no (defines (ds ++ es) y)) [
  | inl is ↦ elim (defines_either ds es y is) [
    | inl a ↦ not_both (defines ds y) a e
    | inr b ↦ not_both (defines es y) b f
  ]
  | inr none ↦ none
]

pub functions_named : (fs : Functions) (y : Ref) → defines (function_definitions fs) y ≡ true
    → among y (function_names fs) ≡ true
functions_named NoFunction y e = e
functions_named (MoreFunction title qs e fs) y f = go (same_ref y title.name) f (functions_named fs y)
  where
    go : (b : Bool) → ((if b then true else false) || defines (function_definitions fs) y) ≡ true
        → (defines (function_definitions fs) y ≡ true → among y (function_names fs) ≡ true)
        → (if b then true else among y (function_names fs)) ≡ true
    go true g again = refl
    go false g again = again g

pub group_named : (g : Group) (y : Ref) → is_destructuring g ≡ false → defines (group_definitions g) y ≡ true
    → among y (group_names g) ≡ true
group_named (Together fs) y h e = functions_named fs y e
group_named (Constant title e) y h f = go (same_ref y title.name) f
  where
    go : (b : Bool) → ((if b then true else false) || false) ≡ true → (if b then true else false) ≡ true
    go true g = refl
    go false g = g
group_named (Destructure q e) y h f = not_both true refl h

group_fresh : (scope : Scope) (g : Group) → is_destructuring g ≡ false → ProperGroup scope g
    → AreFresh (group_names g) scope
group_fresh scope (Together fs) h p = p.0
group_fresh scope (Constant title e) h p = (p.1.0, tt)
group_fresh scope (Destructure q e) h p = not_both true refl h

-- what declarations define is new
pub defined_new : (ds : List Declaration) (scope : Scope) (y : Ref) → ProperDeclarations scope ds
    → defines (definitions (groups_in ds)) y ≡ true → among y scope ≡ false
defined_new [] scope y p e = not_both false e refl
defined_new (Given r k ∷ ds) scope y p e = (off_first y r scope (defined_new ds (r ∷ scope) y p.1 e)).1
defined_new (Define g ∷ ds) scope y p e = elim (defines_either (group_definitions g) (definitions (groups_in ds)) y e) [
  | inl own ↦ fresh_off (group_names g) scope y (group_fresh scope g p.0.0 p.0.1) (group_named g y p.0.0 own)
  | inr later ↦ (off_all (group_names g) scope y (defined_new ds (with_all (group_names g) scope) y p.1 later)).1
]

-- ---- each name once

pub apart_both : (ds es : List Definition) → AreApart ds → AreApart es
    → ((y : Ref) → defines ds y ≡ true → defines es y ≡ false) → AreApart (ds ++ es)
apart_both [] es h k off = k
apart_both (d ∷ ds) es h k off = (
  names d.names h.0 (λ y own. off y (ap (λ b. b || defines ds y) own)),
  apart_both ds es h.1 k (λ y e. off y (second (among y d.names) (defines ds y) e)),
)
  where
    second : (a b : Bool) → b ≡ true → (a || b) ≡ true
    second true b e = refl
    second false b e = e

    names : (xs : List Ref) → Without (defines ds) xs → ((y : Ref) → among y xs ≡ true → defines es y ≡ false)
        → Without (defines (ds ++ es)) xs
    names [] w n = tt
    names (x ∷ xs) w n = (
      defines_neither ds es x w.0 (n x (first_in x xs)),
      names xs w.1 (λ y e. n y (later y x xs e)),
    )
      where
        later : (y x : Ref) (xs : List Ref) → among y xs ≡ true → among y (x ∷ xs) ≡ true
        later y x xs e = go (same_ref y x) e
          where
            go : (b : Bool) → among y xs ≡ true → (if b then true else among y xs) ≡ true
            go true f = refl
            go false f = f

pub functions_apart : (fs : Functions) (scope : Scope) → AreFresh (function_names fs) scope
    → AreApart (function_definitions fs)
functions_apart NoFunction scope h = tt
functions_apart (MoreFunction title qs e fs) scope h = (
  (
    elim (yes_or_no (defines (function_definitions fs) title.name)) [
      | inl twice ↦ not_both (among title.name (title.name ∷ scope)) (first_in title.name scope)
          (fresh_off (function_names fs) (title.name ∷ scope) title.name h.1 (functions_named fs title.name twice))
      | inr once ↦ once
    ],
    tt,
  ),
  functions_apart fs (title.name ∷ scope) h.1,
)

group_apart : (scope : Scope) (g : Group) → is_destructuring g ≡ false → ProperGroup scope g
    → AreApart (group_definitions g)
group_apart scope (Together fs) h p = functions_apart fs scope p.0
group_apart scope (Constant title e) h p = ((refl, tt), tt)
group_apart scope (Destructure q e) h p = not_both true refl h

pub declared_apart : (ds : List Declaration) (scope : Scope) → ProperDeclarations scope ds
    → AreApart (definitions (groups_in ds))
declared_apart [] scope p = tt
declared_apart (Given r k ∷ ds) scope p = declared_apart ds (r ∷ scope) p.1
declared_apart (Define g ∷ ds) scope p =
    apart_both (group_definitions g) (definitions (groups_in ds)) (group_apart scope g p.0.0 p.0.1)
    (declared_apart ds (with_all (group_names g) scope) p.1) (λ y own. (
    let inside = with_all (group_names g) scope in
    elim (yes_or_no (defines (definitions (groups_in ds)) y)) [
      | inl later ↦ not_both (among y (group_names g)) (group_named g y p.0.0 own)
          (off_all (group_names g) scope y (defined_new ds inside y p.1 later)).0
      | inr none ↦ none
    ]))

pub declared_titled : (ds : List Declaration) (scope : Scope) → ProperDeclarations scope ds → AreTitled (groups_in ds)
declared_titled [] scope p = tt
declared_titled (Given r k ∷ ds) scope p = declared_titled ds (r ∷ scope) p.1
declared_titled (Define (Together fs) ∷ ds) scope p =
    declared_titled ds (with_all (group_names (Together fs)) scope) p.1
declared_titled (Define (Constant title e) ∷ ds) scope p =
    declared_titled ds (with_all (group_names (Constant title e)) scope) p.1
declared_titled (Define (Destructure q e) ∷ ds) scope p = not_both true refl p.0.0

pub names_apart : NamesAreApart
names_apart m scope p = (declared_titled m.declarations scope p, declared_apart m.declarations scope p)
