-- What proper declarations use: no name that is bound after them.
use Rattle.std.proofs.Common.{◌≡◌, List, [], ◌∷◌, ◌++◌, Bool, true, false, ◌⊎◌, inl, inr, refl, sym, ap, subst}
use Rattle.std.specs.Prelude.{◌||◌, if◌then◌else◌}
use Rattle.std.specs.List.{AllByRecursion}
use Rattle.elm_canon.specs.Names.{Name, same_ref}
use Rattle.elm_canon.specs.declared.reference.Ref.{Ref}
use Rattle.elm_canon.specs.declared.reference.Ref.TheVariants.{Local, Top}
use Rattle.elm_canon.specs.Tree.{Pattern, Anything, Named, As, Exactly, Construct, FieldsOf, LocatedPattern, Patterns}
use Rattle.elm_canon.specs.Tree.{NoPattern, MorePattern}
use Rattle.elm_canon.specs.Tree.{Expr, Is, NameOf, Accessor, Lambda, Apply, Strict, If, Logical, Let, Case, Located}
use Rattle.elm_canon.specs.Tree.{Exprs, NoExpr, MoreExpr, Branches, NoBranch, MoreBranch, Groups, NoGroup, MoreGroup}
use Rattle.elm_canon.specs.Tree.{Group, Together, Constant, Destructure, Functions, NoFunction, MoreFunction}
use Rattle.elm_canon.specs.Tree.{Declaration, Given, Define}
use Rattle.elm_canon.specs.Proper.{Scope, among, with_all, bound_by, all_bound_by, locals, after, group_names}
use Rattle.elm_canon.specs.Proper.{function_names, Proper, AllProper, ProperBranches, ProperGroups, ProperGroup}
use Rattle.elm_canon.specs.Proper.{ProperFunctions}
use Rattle.elm_canon.specs.Declarations.{ProperDeclarations}
use Rattle.type_items.specs.Definitions.{Definition}
use Rattle.type_items.specs.Expressions.{definitions, group_definitions}
use Rattle.type_items.specs.Uses.{used, used_each, used_branches, used_groups, used_group, used_functions}
use Rattle.typed_values.specs.Simple.{Without, defines, UseEarlier}
use Rattle.typed_values.proofs.Names.{yes_or_no, not_both, same_refs}
use Rattle.type_safety.specs.Modules.{groups_in, given_in, UseGivenBefore}
use Rattle.program_safety.specs.Parts.{IsOf, AreSome}
use Rattle.elm_canon.specs.Mentions.{anything, IsLocal, Mentions, MentionEach, BranchesMention, GroupsMention}
use Rattle.elm_canon.specs.Mentions.{GroupMentions, FunctionsMention, DeclarationMentions}
use Rattle.told_modules.specs.Names.{NamedHaveNames}
use Rattle.told_modules.proofs.Names.{in_first, off_first, first_in, off_all, defines_either, defined_new, group_named}
use Rattle.told_modules.proofs.Names.{declared_titled, declared_apart}

-- ---- names among others

pub among_either : (xs ys : List Ref) (y : Ref) → among y (xs ++ ys) ≡ true → (among y xs ≡ true) ⊎ (among y ys ≡ true)
among_either [] ys y e = inr e
among_either (x ∷ xs) ys y e = go (same_ref y x) e (among_either xs ys y)
  where
    go : (b : Bool) → (if b then true else among y (xs ++ ys)) ≡ true
        → (among y (xs ++ ys) ≡ true → (among y xs ≡ true) ⊎ (among y ys ≡ true))
        → ((if b then true else among y xs) ≡ true) ⊎ (among y ys ≡ true)
    go true f again = inl refl
    go false f again = again f

neither : (xs ys : List Ref) (y : Ref) → among y xs ≡ false → among y ys ≡ false → among y (xs ++ ys) ≡ false
neither xs ys y e f = elim (yes_or_no (among y (xs ++ ys))) [
  | inl is ↦ elim (among_either xs ys y is) [ inl a ↦ not_both (among y xs) a e | inr b ↦ not_both (among y ys) b f ]
  | inr none ↦ none
]

-- what is none of these names was in the scope before them
still_in : (xs : List Ref) (scope : Scope) (y : Ref) → among y xs ≡ false → among y (with_all xs scope) ≡ true
    → among y scope ≡ true
still_in [] scope y n e = e
still_in (x ∷ xs) scope y n e =
    let f = off_first y x xs n in
    elim (in_first y x scope (still_in xs (x ∷ scope) y f.1 e)) [
      | inl is ↦ not_both (same_ref y x) is f.0
      | inr in_scope ↦ in_scope
    ]

-- ---- names of modules are none of those that are bound inside

module _ (m n : Name) where
  abbrev y : Ref
  y = Top m n

  not_local : (xs : List Ref) → AllByRecursion IsLocal xs → among y xs ≡ false
  not_local [] h = refl
  not_local (Local x ∷ xs) h = not_local xs h.1
  not_local (Top k x ∷ xs) h = absurd h.0

  none_of_locals : (xs : List Name) → among y (locals xs) ≡ false
  none_of_locals [] = refl
  none_of_locals (x ∷ xs) = none_of_locals xs

  mutual
    not_bound : (p : Pattern) → among y (bound_by p) ≡ false
    not_bound Anything = refl
    not_bound (Named x) = refl
    not_bound (As p x) = neither (bound_by p) (Local x ∷ []) y (not_bound p) refl
    not_bound (Exactly l) = refl
    not_bound (Construct u c ps) = none_bound ps
    not_bound (FieldsOf xs) = none_of_locals xs
    not_bound (LocatedPattern place p) = not_bound p

    none_bound : (ps : Patterns) → among y (all_bound_by ps) ≡ false
    none_bound NoPattern = refl
    none_bound (MorePattern p ps) = neither (bound_by p) (all_bound_by ps) y (not_bound p) (none_bound ps)

  -- after the groups of a `let`
  before_groups : (gs : Groups) (scope : Scope) → GroupsMention anything anything gs
      → among y (after gs scope) ≡ true → among y scope ≡ true
  before_groups NoGroup scope l e = e
  before_groups (MoreGroup g gs) scope l e =
      still_in (group_names g) scope y (not_local (group_names g) l.0.0)
      (before_groups gs (with_all (group_names g) scope) l.1 e)

  now_in : (x : Ref) (scope : Scope) → among y scope ≡ true → among y (x ∷ scope) ≡ true
  now_in x scope e = go (same_ref y x)
    where
      go : (b : Bool) → (if b then true else among y scope) ≡ true
      go true = refl
      go false = e

  later_in : (xs : List Ref) (scope : Scope) → among y scope ≡ true → among y (with_all xs scope) ≡ true
  later_in [] scope e = e
  later_in (x ∷ xs) scope e = later_in xs (x ∷ scope) (now_in x scope e)

  -- ---- what is used is in scope

  mutual
    used_in : (e : Expr) (scope : Scope) → Proper scope e → Mentions anything anything e → among y (used e) ≡ true
        → among y scope ≡ true
    used_in (Is l) scope p h u = not_both false u refl
    used_in (NameOf x) scope p h u = elim (in_first y x [] u) [
      | inl is ↦ subst (λ z. among z scope ≡ true) (sym (same_refs y x is)) p
      | inr none ↦ not_both false none refl
    ]
    used_in (Accessor x) scope p h u = not_both false u refl
    used_in (Lambda ps e) scope p h u =
        still_in (all_bound_by ps) scope y (none_bound ps) (used_in e (with_all (all_bound_by ps) scope) p.1.1 h.1 u)
    used_in (Apply f es) scope p h u = elim (among_either (used f) (used_each es) y u) [
      | inl a ↦ used_in f scope p.0 h.0 a
      | inr b ↦ each_in es scope p.1 h.1 b
    ]
    used_in (Strict op es) scope p h u = each_in es scope p.1 h.1 u
    used_in (If c a b) scope p h u = elim (among_either (used c ++ used a) (used b) y u) [
      | inl front ↦ elim (among_either (used c) (used a) y front) [
        | inl first ↦ used_in c scope p.0 h.0 first
        | inr second ↦ used_in a scope p.1.0 h.1.0 second
      ]
      | inr third ↦ used_in b scope p.1.1 h.1.1 third
    ]
    used_in (Logical pos op a b) scope p h u = elim (among_either (used a) (used b) y u) [
      | inl first ↦ used_in a scope p.0 h.0 first
      | inr second ↦ used_in b scope p.1 h.1 second
    ]
    used_in (Let gs e) scope p h u = elim (among_either (used_groups gs) (used e) y u) [
      | inl first ↦ groups_in_scope gs scope p.0 h.0 first
      | inr second ↦ before_groups gs scope h.0 (used_in e (after gs scope) p.1 h.1 second)
    ]
    used_in (Case e bs) scope p h u = elim (among_either (used e) (used_branches bs) y u) [
      | inl first ↦ used_in e scope p.0 h.0 first
      | inr second ↦ branches_in bs scope p.1 h.1 second
    ]
    used_in (Located pos e) scope p h u = used_in e scope p h u

    each_in : (es : Exprs) (scope : Scope) → AllProper scope es → MentionEach anything anything es
        → among y (used_each es) ≡ true
        → among y scope ≡ true
    each_in NoExpr scope p h u = not_both false u refl
    each_in (MoreExpr e es) scope p h u = elim (among_either (used e) (used_each es) y u) [
      | inl first ↦ used_in e scope p.0 h.0 first
      | inr second ↦ each_in es scope p.1 h.1 second
    ]

    branches_in : (bs : Branches) (scope : Scope) → ProperBranches scope bs → BranchesMention anything anything bs
        → among y (used_branches bs) ≡ true → among y scope ≡ true
    branches_in NoBranch scope p h u = not_both false u refl
    branches_in (MoreBranch q e bs) scope p h u = elim (among_either (used e) (used_branches bs) y u) [
      | inl first ↦ still_in (bound_by q) scope y (not_bound q) (used_in e (with_all
          (bound_by q) scope) p.1.0 h.1.0 first)
      | inr second ↦ branches_in bs scope p.1.1 h.1.1 second
    ]

    groups_in_scope : (gs : Groups) (scope : Scope) → ProperGroups scope gs → GroupsMention anything anything gs
        → among y (used_groups gs) ≡ true → among y scope ≡ true
    groups_in_scope NoGroup scope p h u = not_both false u refl
    groups_in_scope (MoreGroup g gs) scope p h u = elim (among_either (used_group g) (used_groups gs) y u) [
      | inl first ↦ still_in (group_names g) scope y (not_local (group_names g) h.0.0)
          (group_in g scope p.0 h.0.1 first)
      | inr second ↦ still_in (group_names g) scope y (not_local (group_names g) h.0.0)
          (groups_in_scope gs (with_all (group_names g) scope) p.1 h.1 second)
    ]

    -- in the scope with the group's own names
    pub group_in : (g : Group) (scope : Scope) → ProperGroup scope g → GroupMentions anything anything g
        → among y (used_group g) ≡ true
        → among y (with_all (group_names g) scope) ≡ true
    group_in (Together fs) scope p h u = functions_in fs (with_all (function_names fs) scope) p.1 h u
    group_in (Constant title e) scope p h u = now_in title.name scope (used_in e scope p.1.1 h u)
    group_in (Destructure q e) scope p h u = later_in (bound_by q) scope (used_in e scope p.1 h.1 u)

    functions_in : (fs : Functions) (scope : Scope) → ProperFunctions scope fs → FunctionsMention anything anything fs
        → among y (used_functions fs) ≡ true → among y scope ≡ true
    functions_in NoFunction scope p h u = not_both false u refl
    functions_in (MoreFunction title qs e fs) scope p h u = elim (among_either (used e) (used_functions fs) y u) [
      | inl first ↦ still_in (all_bound_by qs) scope y (none_bound qs)
          (used_in e (with_all (all_bound_by qs) scope) p.1.1.1.0 h.0.1 first)
      | inr second ↦ functions_in fs scope p.1.1.1.1 h.1 second
    ]

-- ---- declarations

-- a constructor or a port is new
given_new : (ds : List Declaration) (scope : Scope) (y : Ref) → ProperDeclarations scope ds
    → among y (given_in ds) ≡ true → among y scope ≡ false
given_new [] scope y p e = not_both false e refl
given_new (Given r k ∷ ds) scope y p e = elim (in_first y r (given_in ds) e) [
  | inl is ↦ subst (λ z. among z scope ≡ false) (sym (same_refs y r is)) p.0.1.0
  | inr later ↦ (off_first y r scope (given_new ds (r ∷ scope) y p.1 later)).1
]
given_new (Define g ∷ ds) scope y p e =
    (off_all (group_names g) scope y (given_new ds (with_all (group_names g) scope) y p.1 e)).1

-- and is not defined
given_off : (ds : List Declaration) (scope : Scope) (y : Ref) → ProperDeclarations scope ds
    → among y (given_in ds) ≡ true → defines (definitions (groups_in ds)) y ≡ true → ⊥
given_off [] scope y p e f = not_both false e refl
given_off (Given r k ∷ ds) scope y p e f = elim (in_first y r (given_in ds) e) [
  | inl is ↦ not_both (same_ref y r) is (off_first y r scope (defined_new ds (r ∷ scope) y p.1 f)).0
  | inr later ↦ given_off ds (r ∷ scope) y p.1 later f
]
given_off (Define g ∷ ds) scope y p e f =
    let inside = with_all (group_names g) scope in
    elim (defines_either (group_definitions g) (definitions (groups_in ds)) y f) [
      | inl own ↦ not_both (among y (group_names g)) (group_named g y p.0.0 own)
          (off_all (group_names g) scope y (given_new ds inside y p.1 e)).0
      | inr later ↦ given_off ds inside y p.1 e later
    ]

-- ---- some of them

group_one : (g : Group) (gs : Groups) (y : Ref) → defines (definitions (MoreGroup g gs)) y ≡ true
    → (defines (group_definitions g) y ≡ true) ⊎ (defines (definitions gs) y ≡ true)
group_one g gs y e = defines_either (group_definitions g) (definitions gs) y e

defines_left : (xs ys : List Definition) (y : Ref) → defines xs y ≡ true → defines (xs ++ ys) y ≡ true
defines_left [] ys y e = not_both false e refl
defines_left (d ∷ xs) ys y e = go (among y d.names) e (defines_left xs ys y)
  where
    go : (b : Bool) → (b || defines xs y) ≡ true → (defines xs y ≡ true → defines (xs ++ ys) y ≡ true)
        → (b || defines (xs ++ ys) y) ≡ true
    go true f again = refl
    go false f again = again f

defines_right : (xs ys : List Definition) (y : Ref) → defines ys y ≡ true → defines (xs ++ ys) y ≡ true
defines_right [] ys y e = e
defines_right (d ∷ xs) ys y e = go (among y d.names) (defines_right xs ys y e)
  where
    go : (b : Bool) → defines (xs ++ ys) y ≡ true → (b || defines (xs ++ ys) y) ≡ true
    go true f = refl
    go false f = f

one_more : (d : Declaration) (es : List Declaration) (y : Ref) → defines (definitions (groups_in es)) y ≡ true
    → defines (definitions (groups_in (d ∷ es))) y ≡ true
one_more (Given r k) es y e = e
one_more (Define g) es y e = defines_right (group_definitions g) (definitions (groups_in es)) y e

some_defined : (ds es : List Declaration) → AreSome ds es → (y : Ref) → defines (definitions (groups_in ds)) y ≡ true
    → defines (definitions (groups_in es)) y ≡ true
some_defined [] es s y e = not_both false e refl
some_defined (d ∷ ds) [] s y e = absurd s
some_defined (d ∷ ds) (e ∷ es) (inr s) y f = one_more e es y (some_defined (d ∷ ds) es s y f)
some_defined (d ∷ ds) (e ∷ es) (inl s) y f =
    go e (λ h. some_defined ds es s.1 y h) (subst (λ z. defines (definitions (groups_in (z ∷ ds))) y ≡ true) s.0 f)
  where
    go : (e : Declaration)
        → (defines (definitions (groups_in ds)) y ≡ true → defines (definitions (groups_in es)) y ≡ true)
        → defines (definitions (groups_in (e ∷ ds))) y ≡ true → defines (definitions (groups_in (e ∷ es))) y ≡ true
    go (Given r k) again h = again h
    go (Define g) again h = elim (defines_either (group_definitions g) (definitions (groups_in ds)) y h) [
      | inl own ↦ defines_left (group_definitions g) (definitions (groups_in es)) y own
      | inr later ↦ defines_right (group_definitions g) (definitions (groups_in es)) y (again later)
    ]

given_more : (d : Declaration) (es : List Declaration) (y : Ref) → among y (given_in es) ≡ true
    → among y (given_in (d ∷ es)) ≡ true
given_more (Given r k) es y e = go (same_ref y r)
  where
    go : (b : Bool) → (if b then true else among y (given_in es)) ≡ true
    go true = refl
    go false = e
given_more (Define g) es y e = e

some_given : (ds es : List Declaration) → AreSome ds es → (y : Ref) → among y (given_in ds) ≡ true
    → among y (given_in es) ≡ true
some_given [] es s y e = not_both false e refl
some_given (d ∷ ds) [] s y e = absurd s
some_given (d ∷ ds) (e ∷ es) (inr s) y f = given_more e es y (some_given (d ∷ ds) es s y f)
some_given (d ∷ ds) (e ∷ es) (inl s) y f =
    go e (λ h. some_given ds es s.1 y h) (subst (λ z. among y (given_in (z ∷ ds)) ≡ true) s.0 f)
  where
    go : (e : Declaration) → (among y (given_in ds) ≡ true → among y (given_in es) ≡ true)
        → among y (given_in (e ∷ ds)) ≡ true → among y (given_in (e ∷ es)) ≡ true
    go (Given r k) again h = elim (in_first y r (given_in ds) h) [
      | inl is ↦ ap (λ b. if b then true else among y (given_in es)) is
      | inr later ↦ given_more (Given r k) es y (again later)
    ]
    go (Define g) again h = again h

-- none of the names is hidden, where a hidden one would not be there
pub unused : (hidden : Ref → Bool) (xs : List Ref) → ((x : Ref) → among x xs ≡ true → hidden x ≡ true → ⊥)
    → Without hidden xs
unused hidden [] h = tt
unused hidden (x ∷ xs) h = (
  (elim (yes_or_no (hidden x)) [
    | inl is ↦ absurd (h x (first_in x xs) is)
    | inr none ↦ none
  ]),
  unused hidden xs (λ z e. h z (later z e)),
)
  where
    later : (z : Ref) → among z xs ≡ true → among z (x ∷ xs) ≡ true
    later z e = go (same_ref z x)
      where
        go : (b : Bool) → (if b then true else among z xs) ≡ true
        go true = refl
        go false = e

-- ---- names of the module

module _ (home : Name) where
  abbrev Own : Declaration → Type 0
  Own d = DeclarationMentions anything anything home d

  one_own : (xs : List Ref) (y : Ref) → AllByRecursion (IsOf home) xs → among y xs ≡ true → IsOf home y
  one_own [] y h e = not_both false e refl
  one_own (x ∷ xs) y h e = elim (in_first y x xs e) [
    | inl is ↦ subst (IsOf home) (sym (same_refs y x is)) h.0
    | inr later ↦ one_own xs y h.1 later
  ]

  defined_own : (ds : List Declaration) (scope : Scope) → ProperDeclarations scope ds → AllByRecursion Own ds
      → (y : Ref)
      → defines (definitions (groups_in ds)) y ≡ true → IsOf home y
  defined_own [] scope p h y e = not_both false e refl
  defined_own (Given r k ∷ ds) scope p h y e = defined_own ds (r ∷ scope) p.1 h.1 y e
  defined_own (Define g ∷ ds) scope p h y e =
      elim (defines_either (group_definitions g) (definitions (groups_in ds)) y e) [
        | inl own ↦ one_own (group_names g) y h.0.0 (group_named g y p.0.0 own)
        | inr later ↦ defined_own ds (with_all (group_names g) scope) p.1 h.1 y later
      ]

  all_given_own : (ds : List Declaration) → AllByRecursion Own ds → AllByRecursion (IsOf home) (given_in ds)
  all_given_own [] h = tt
  all_given_own (Given r k ∷ ds) h = (h.0, all_given_own ds h.1)
  all_given_own (Define g ∷ ds) h = all_given_own ds h.1

  -- ---- no name that is bound later is used

  -- a name of the module that a group uses is one of its own, or was in scope
  uses_in : (g : Group) (scope : Scope) → ProperGroup scope g → GroupMentions anything anything g → (y : Ref)
      → IsOf home y
      → among y (used_group g) ≡ true → among y (with_all (group_names g) scope) ≡ true
  uses_in g scope p l (Local x) o u = absurd o
  uses_in g scope p l (Top m x) o u = group_in m x g scope p l u

  -- a constant does not use itself
  constant_in : (e : Expr) (scope : Scope) → Proper scope e → Mentions anything anything e → (y : Ref) → IsOf home y
      → among y (used e) ≡ true → among y scope ≡ true
  constant_in e scope p l (Local x) o u = absurd o
  constant_in e scope p l (Top m x) o u = used_in m x e scope p l u

  uses_given : (ds es : List Declaration) (scope : Scope) → ProperDeclarations scope es → AllByRecursion Own es
      → AreSome ds es → UseGivenBefore ds
  uses_given [] es scope p o s = tt
  uses_given (d ∷ ds) [] scope p o s = absurd s
  uses_given (d ∷ ds) (Given r k ∷ es) scope p o (inr s) = uses_given (d ∷ ds) es (r ∷ scope) p.1 o.1 s
  uses_given (d ∷ ds) (Define g ∷ es) scope p o (inr s) =
      uses_given (d ∷ ds) es (with_all (group_names g) scope) p.1 o.1 s
  uses_given (d ∷ ds) (Given r k ∷ es) scope p o (inl s) =
      subst (λ z. UseGivenBefore (z ∷ ds)) (sym s.0) (uses_given ds es (r ∷ scope) p.1 o.1 s.1)
  uses_given (d ∷ ds) (Define g ∷ es) scope p o (inl s) =
      let inside = with_all (group_names g) scope in
      subst (λ z. UseGivenBefore (z ∷ ds)) (sym s.0) (
        unused (λ x. among x (given_in ds)) (used_group g) (λ x u later. (
            let there = some_given ds es s.1 x later in
            not_both (among x inside)
            (uses_in g scope p.0.1 o.0.1 x (one_own (given_in es) x (all_given_own es o.1) there) u)
            (given_new es inside x p.1 there))),
        uses_given ds es inside p.1 o.1 s.1,
      )

  -- what follows a group
  after_group : (g : Group) (ds es : List Declaration) (scope : Scope) → ProperDeclarations scope (Define g ∷ es)
      → AllByRecursion Own (Define g ∷ es) → AreSome ds es
      → Without (defines (definitions (groups_in ds))) (used_group g)
  after_group g ds es scope p o s =
      let inside = with_all (group_names g) scope in
      unused (defines (definitions (groups_in ds))) (used_group g) (λ x u later. (
      let there = some_defined ds es s x later in
      not_both (among x inside)
      (uses_in g scope p.0.1 o.0.1 x (defined_own es inside p.1 o.1 x there) u)
      (defined_new es inside x p.1 there)))

  group_earlier : (g : Group) (ds es : List Declaration) (scope : Scope) → ProperDeclarations scope (Define g ∷ es)
      → AllByRecursion Own (Define g ∷ es) → AreSome ds es
      → UseEarlier (groups_in ds) → UseEarlier (MoreGroup g (groups_in ds))
  group_earlier (Together fs) ds es scope p o s rest = (after_group (Together fs) ds es scope p o s, rest)
  group_earlier (Constant title e) ds es scope p o s rest = (
    unused (defines (definitions (MoreGroup (Constant title e) (groups_in ds)))) (used e) (λ x u bound. (
        let inside = with_all (group_names (Constant title e)) scope in
        elim (defines_either (group_definitions (Constant title e)) (definitions (groups_in ds)) x bound) [
          | inl own ↦ (
              let named = group_named (Constant title e) x refl own in
              let is : x ≡ title.name = elim (in_first x title.name [] named) [
                | inl same ↦ same_refs x title.name same
                | inr none ↦ not_both false none refl
              ] in
              let fresh : among x scope ≡ false = subst (λ z. among z scope ≡ false) (sym is) p.0.1.1.0 in
              not_both (among x scope)
              (constant_in e scope p.0.1.1.1 o.0.1 x (one_own (group_names (Constant title e)) x o.0.0 named) u) fresh)
          | inr later ↦ (
              let there = some_defined ds es s x later in
              not_both (among x scope)
              (constant_in e scope p.0.1.1.1 o.0.1 x (defined_own es inside p.1 o.1 x there) u)
              (off_all (group_names (Constant title e)) scope x (defined_new es inside x p.1 there)).1)
        ])),
    rest,
  )
  group_earlier (Destructure q e) ds es scope p o s rest = not_both true refl p.0.0

  uses_earlier : (ds es : List Declaration) (scope : Scope) → ProperDeclarations scope es → AllByRecursion Own es
      → AreSome ds es → UseEarlier (groups_in ds)
  uses_earlier [] es scope p o s = tt
  uses_earlier (d ∷ ds) [] scope p o s = absurd s
  uses_earlier (d ∷ ds) (Given r k ∷ es) scope p o (inr s) = uses_earlier (d ∷ ds) es (r ∷ scope) p.1 o.1 s
  uses_earlier (d ∷ ds) (Define g ∷ es) scope p o (inr s) =
      uses_earlier (d ∷ ds) es (with_all (group_names g) scope) p.1 o.1 s
  uses_earlier (d ∷ ds) (Given r k ∷ es) scope p o (inl s) =
      subst (λ z. UseEarlier (groups_in (z ∷ ds))) (sym s.0) (uses_earlier ds es (r ∷ scope) p.1 o.1 s.1)
  uses_earlier (d ∷ ds) (Define g ∷ es) scope p o (inl s) =
      subst (λ z. UseEarlier (groups_in (z ∷ ds))) (sym s.0)
      (group_earlier g ds es scope p o s.1
      (uses_earlier ds es (with_all (group_names g) scope) p.1 o.1 s.1))

  none_defined : (xs : List Ref) (all : List Declaration) (scope : Scope) → ProperDeclarations scope all
      → ((y : Ref) → among y xs ≡ true → among y (given_in all) ≡ true)
      → Without (defines (definitions (groups_in all))) xs
  none_defined xs all scope p inside =
      unused (defines (definitions (groups_in all))) xs (λ x u is. given_off all scope x p (inside x u) is)

  given_some_own : (xs : List Ref) (all : List Declaration) → AllByRecursion Own all
      → ((y : Ref) → among y xs ≡ true → among y (given_in all) ≡ true) → AllByRecursion (IsOf home) xs
  given_some_own [] all o inside = tt
  given_some_own (x ∷ xs) all o inside = (
    one_own (given_in all) x (all_given_own all o) (inside x (first_in x xs)),
    given_some_own xs all o (λ y e. inside y (later y e)),
  )
    where
      later : (z : Ref) → among z xs ≡ true → among z (x ∷ xs) ≡ true
      later z e = go (same_ref z x)
        where
          go : (b : Bool) → (if b then true else among z xs) ≡ true
          go true = refl
          go false = e

pub have_names : NamedHaveNames
have_names home ds all named some = record {
  titled = declared_titled all named.scope named.proper;
  apart = declared_apart all named.scope named.proper;
  own = defined_own home all named.scope named.proper named.mentions;
  others = none_defined home (given_in ds) all named.scope named.proper (some_given ds all some);
  given_own = given_some_own home (given_in ds) all named.mentions (some_given ds all some);
  use_before = uses_given home ds all named.scope named.proper named.mentions some;
  earlier = uses_earlier home ds all named.scope named.proper named.mentions some;
}
