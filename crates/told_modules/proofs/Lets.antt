-- The names that expressions use: they are in scope, or bound inside.
use Rattle.std.proofs.Common.{◌≡◌, List, [], ◌∷◌, ◌++◌, Bool, true, false, ◌⊎◌, inl, inr, refl, sym, ap, subst}
use Rattle.std.specs.Prelude.{◌||◌, if◌then◌else◌}
use Rattle.elm_canon.specs.Names.{same_ref}
use Rattle.elm_canon.specs.declared.reference.Ref.{Ref}
use Rattle.elm_canon.specs.Tree.{Expr, Is, NameOf, Accessor, Lambda, Apply, Strict, If, Logical, Let, Case, Located}
use Rattle.elm_canon.specs.Tree.{Exprs, NoExpr, MoreExpr, Branches, NoBranch, MoreBranch, Groups, NoGroup, MoreGroup}
use Rattle.elm_canon.specs.Tree.{Group, Together, Constant, Destructure, Functions, NoFunction, MoreFunction}
use Rattle.elm_canon.specs.Proper.{Scope, among, with_all, bound_by, all_bound_by, after, group_names, function_names}
use Rattle.elm_canon.specs.Proper.{AreFresh, Proper, AllProper, ProperBranches, ProperGroups, ProperGroup}
use Rattle.elm_canon.specs.Proper.{ProperFunctions}
use Rattle.elm_canon.specs.Apart.{let_names, inner_names, inner_each, inner_branches, inner_groups, inner_group}
use Rattle.elm_canon.specs.Apart.{inner_functions, NamesApart}
use Rattle.type_items.specs.Expressions.{definitions, group_definitions}
use Rattle.type_items.specs.Uses.{used, used_each, used_branches, used_groups, used_group, used_functions}
use Rattle.typed_values.specs.Simple.{Without, defines, AreApart, UseEarlier}
use Rattle.typed_values.proofs.Names.{yes_or_no, not_both, same_refs}
use Rattle.told_modules.proofs.Names.{in_first, off_all, fresh_off, defines_either, functions_named}
use Rattle.told_modules.proofs.Names.{apart_both, functions_apart}
use Rattle.told_modules.proofs.Uses.{among_either, unused}

-- ---- names among others

in_left : (xs ys : List Ref) (y : Ref) → among y xs ≡ true → among y (xs ++ ys) ≡ true
in_left [] ys y e = not_both false e refl
in_left (x ∷ xs) ys y e = go (same_ref y x) e (in_left xs ys y)
  where
    go : (b : Bool) → (if b then true else among y xs) ≡ true → (among y xs ≡ true → among y (xs ++ ys) ≡ true)
        → (if b then true else among y (xs ++ ys)) ≡ true
    go true f again = refl
    go false f again = again f

in_right : (xs ys : List Ref) (y : Ref) → among y ys ≡ true → among y (xs ++ ys) ≡ true
in_right [] ys y e = e
in_right (x ∷ xs) ys y e = go (same_ref y x) (in_right xs ys y e)
  where
    go : (b : Bool) → among y (xs ++ ys) ≡ true → (if b then true else among y (xs ++ ys)) ≡ true
    go true f = refl
    go false f = f

in_all : (xs : List Ref) (scope : Scope) (y : Ref) → among y (with_all xs scope) ≡ true
    → (among y xs ≡ true) ⊎ (among y scope ≡ true)
in_all [] scope y e = inr e
in_all (x ∷ xs) scope y e = elim (in_all xs (x ∷ scope) y e) [
  | inl later ↦ inl (in_right (x ∷ []) xs y later)
  | inr f ↦ elim (in_first y x scope f) [
    | inl is ↦ inl (ap (λ b. if b then true else among y xs) is)
    | inr there ↦ inr there
  ]
]

-- ---- in scope, or bound inside

module _ (y : Ref) where
  abbrev Found : Scope → List Ref → Type 0
  Found scope inner = (among y scope ≡ true) ⊎ (among y inner ≡ true)

  widens : (scope : Scope) (xs ys : List Ref) → (among y xs ≡ true → among y ys ≡ true) → Found scope xs
      → Found scope ys
  widens scope xs ys f h = elim h [ inl a ↦ inl a | inr b ↦ inr (f b) ]

  -- from the scope with bound names
  out_of : (bound : List Ref) (scope : Scope) (inner : List Ref) → Found (with_all bound scope) inner
      → Found scope (bound ++ inner)
  out_of bound scope inner h = elim h [
    | inl a ↦ elim (in_all bound scope y a) [ inl own ↦ inr (in_left bound inner y own) | inr there ↦ inl there ]
    | inr b ↦ inr (in_right bound inner y b)
  ]

  after_groups : (gs : Groups) (scope : Scope) → among y (after gs scope) ≡ true
      → (among y (let_names gs) ≡ true) ⊎ (among y scope ≡ true)
  after_groups NoGroup scope e = inr e
  after_groups (MoreGroup g gs) scope e = elim (after_groups gs (with_all (group_names g) scope) e) [
    | inl later ↦ inl (in_right (group_names g) (let_names gs) y later)
    | inr f ↦ elim (in_all (group_names g) scope y f) [
      | inl own ↦ inl (in_left (group_names g) (let_names gs) y own)
      | inr there ↦ inr there
    ]
  ]

  stays : (xs : List Ref) (scope : Scope) → among y scope ≡ true → among y (with_all xs scope) ≡ true
  stays [] scope e = e
  stays (x ∷ xs) scope e = stays xs (x ∷ scope) (in_right (x ∷ []) scope y e)

  wider : (xs : List Ref) (scope : Scope) (inner : List Ref) → Found scope inner → Found (with_all xs scope) inner
  wider xs scope inner h = elim h [ inl there ↦ inl (stays xs scope there) | inr i ↦ inr i ]

  mutual
    pub found : (e : Expr) (scope : Scope) → Proper scope e → among y (used e) ≡ true → Found scope (inner_names e)
    found (Is l) scope p u = not_both false u refl
    found (NameOf x) scope p u = elim (in_first y x [] u) [
      | inl is ↦ inl (subst (λ z. among z scope ≡ true) (sym (same_refs y x is)) p)
      | inr none ↦ not_both false none refl
    ]
    found (Accessor x) scope p u = not_both false u refl
    found (Lambda ps e) scope p u =
        out_of (all_bound_by ps) scope (inner_names e) (found e (with_all (all_bound_by ps) scope) p.1.1 u)
    found (Apply f es) scope p u = elim (among_either (used f) (used_each es) y u) [
      | inl a ↦ widens scope (inner_names f) (inner_names f ++ inner_each es)
          (in_left (inner_names f) (inner_each es) y) (found f scope p.0 a)
      | inr b ↦ widens scope (inner_each es) (inner_names f ++ inner_each es)
          (in_right (inner_names f) (inner_each es) y) (found_each es scope p.1 b)
    ]
    found (Strict op es) scope p u = found_each es scope p.1 u
    found (If c a b) scope p u =
        let all = inner_names c ++ (inner_names a ++ inner_names b) in
        elim (among_either (used c ++ used a) (used b) y u) [
          | inl front ↦ elim (among_either (used c) (used a) y front) [
            | inl first ↦ widens scope (inner_names c) all (in_left (inner_names c) (inner_names a ++ inner_names b) y)
                (found c scope p.0 first)
            | inr second ↦ widens scope (inner_names a) all (λ i. in_right (inner_names c)
                (inner_names a ++ inner_names b) y (in_left (inner_names a) (inner_names b) y i))
                (found a scope p.1.0 second)
          ]
          | inr third ↦ widens scope (inner_names b) all (λ i. in_right (inner_names c) (inner_names a ++ inner_names b)
              y (in_right (inner_names a) (inner_names b) y i)) (found b scope p.1.1 third)
        ]
    found (Logical pos op a b) scope p u = elim (among_either (used a) (used b) y u) [
      | inl first ↦ widens scope (inner_names a) (inner_names a ++ inner_names b)
          (in_left (inner_names a) (inner_names b) y) (found a scope p.0 first)
      | inr second ↦ widens scope (inner_names b) (inner_names a ++ inner_names b)
          (in_right (inner_names a) (inner_names b) y) (found b scope p.1 second)
    ]
    found (Let gs e) scope p u =
        let inside = inner_groups gs ++ inner_names e in
        let all = let_names gs ++ inside in
        elim (among_either (used_groups gs) (used e) y u) [
          | inl first ↦ widens scope (let_names gs ++ inner_groups gs) all (λ i. elim (among_either (let_names gs)
              (inner_groups gs) y i) [
                | inl name ↦ in_left (let_names gs) inside y name
                | inr inner ↦ in_right (let_names gs) inside y (in_left (inner_groups gs) (inner_names e) y inner)
              ]) (found_groups gs scope p.0 first)
          | inr second ↦ elim (found e (after gs scope) p.1 second) [
            | inl there ↦ elim (after_groups gs scope there) [
              | inl name ↦ inr (in_left (let_names gs) inside y name)
              | inr before ↦ inl before
            ]
            | inr inner ↦ inr (in_right (let_names gs) inside y (in_right (inner_groups gs) (inner_names e) y inner))
          ]
        ]
    found (Case e bs) scope p u = elim (among_either (used e) (used_branches bs) y u) [
      | inl first ↦ widens scope (inner_names e) (inner_names e ++ inner_branches bs)
          (in_left (inner_names e) (inner_branches bs) y) (found e scope p.0 first)
      | inr second ↦ widens scope (inner_branches bs) (inner_names e ++ inner_branches bs)
          (in_right (inner_names e) (inner_branches bs) y) (found_branches bs scope p.1 second)
    ]
    found (Located pos e) scope p u = found e scope p u

    found_each : (es : Exprs) (scope : Scope) → AllProper scope es → among y (used_each es) ≡ true
        → Found scope (inner_each es)
    found_each NoExpr scope p u = not_both false u refl
    found_each (MoreExpr e es) scope p u = elim (among_either (used e) (used_each es) y u) [
      | inl first ↦ widens scope (inner_names e) (inner_names e ++ inner_each es)
          (in_left (inner_names e) (inner_each es) y) (found e scope p.0 first)
      | inr second ↦ widens scope (inner_each es) (inner_names e ++ inner_each es)
          (in_right (inner_names e) (inner_each es) y) (found_each es scope p.1 second)
    ]

    found_branches : (bs : Branches) (scope : Scope) → ProperBranches scope bs → among y (used_branches bs) ≡ true
        → Found scope (inner_branches bs)
    found_branches NoBranch scope p u = not_both false u refl
    found_branches (MoreBranch q e bs) scope p u =
        let rest = inner_names e ++ inner_branches bs in
        elim (among_either (used e) (used_branches bs) y u) [
          | inl first ↦ widens scope (bound_by q ++ inner_names e) (bound_by q ++ rest) (λ i. elim (among_either
              (bound_by q) (inner_names e) y i) [
                | inl own ↦ in_left (bound_by q) rest y own
                | inr inner ↦ in_right (bound_by q) rest y (in_left (inner_names e) (inner_branches bs) y inner)
              ]) (out_of (bound_by q) scope (inner_names e) (found e (with_all (bound_by q) scope) p.1.0 first))
          | inr second ↦ widens scope (inner_branches bs) (bound_by q ++ rest) (λ i. in_right (bound_by q) rest y
              (in_right (inner_names e) (inner_branches bs) y i)) (found_branches bs scope p.1.1 second)
        ]

    -- in the scope of all groups, or bound inside one
    found_groups : (gs : Groups) (scope : Scope) → ProperGroups scope gs → among y (used_groups gs) ≡ true
        → Found scope (let_names gs ++ inner_groups gs)
    found_groups NoGroup scope p u = not_both false u refl
    found_groups (MoreGroup g gs) scope p u =
        let names = group_names g ++ let_names gs in
        let inner = inner_group g ++ inner_groups gs in
        elim (among_either (used_group g) (used_groups gs) y u) [
          | inl first ↦ elim (out_of (group_names g) scope (inner_group g) (found_group g scope p.0 first)) [
            | inl there ↦ inl there
            | inr i ↦ elim (among_either (group_names g) (inner_group g) y i) [
              | inl own ↦ inr (in_left names inner y (in_left (group_names g) (let_names gs) y own))
              | inr inside ↦ inr (in_right names inner y (in_left (inner_group g) (inner_groups gs) y inside))
            ]
          ]
          | inr second ↦ elim (out_of (group_names g) scope (let_names gs ++ inner_groups gs)
              (found_groups gs (with_all (group_names g) scope) p.1 second)) [
                | inl there ↦ inl there
                | inr i ↦ elim (among_either (group_names g) (let_names gs ++ inner_groups gs) y i) [
                  | inl own ↦ inr (in_left names inner y (in_left (group_names g) (let_names gs) y own))
                  | inr rest ↦ elim (among_either (let_names gs) (inner_groups gs) y rest) [
                    | inl later ↦ inr (in_left names inner y (in_right (group_names g) (let_names gs) y later))
                    | inr inside ↦ inr (in_right names inner y (in_right (inner_group g) (inner_groups gs) y inside))
                  ]
                ]
              ]
        ]

    -- in the scope with the group's own names, or bound inside it
    found_group : (g : Group) (scope : Scope) → ProperGroup scope g → among y (used_group g) ≡ true
        → Found (with_all (group_names g) scope) (inner_group g)
    found_group (Together fs) scope p u = found_functions fs (with_all (function_names fs) scope) p.1 u
    found_group (Constant title e) scope p u =
        wider (group_names (Constant title e)) scope (inner_names e) (found e scope p.1.1 u)
    found_group (Destructure q e) scope p u = wider (bound_by q) scope (inner_names e) (found e scope p.1 u)

    found_functions : (fs : Functions) (scope : Scope) → ProperFunctions scope fs → among y (used_functions fs) ≡ true
        → Found scope (inner_functions fs)
    found_functions NoFunction scope p u = not_both false u refl
    found_functions (MoreFunction title ps e fs) scope p u =
        let rest = inner_names e ++ inner_functions fs in
        elim (among_either (used e) (used_functions fs) y u) [
          | inl first ↦ widens scope (all_bound_by ps ++ inner_names e) (all_bound_by ps ++ rest) (λ i. elim
              (among_either (all_bound_by ps) (inner_names e) y i) [
                | inl own ↦ in_left (all_bound_by ps) rest y own
                | inr inner ↦ in_right (all_bound_by ps) rest y (in_left (inner_names e) (inner_functions fs) y inner)
              ]) (out_of (all_bound_by ps) scope (inner_names e)
              (found e (with_all (all_bound_by ps) scope) p.1.1.1.0 first))
          | inr second ↦ widens scope (inner_functions fs) (all_bound_by ps ++ rest) (λ i. in_right (all_bound_by ps)
              rest y (in_right (inner_names e) (inner_functions fs) y i)) (found_functions fs scope p.1.1.1.1 second)
        ]

-- ---- the names of groups

named : (g : Group) (y : Ref) → defines (group_definitions g) y ≡ true → among y (group_names g) ≡ true
named (Together fs) y e = functions_named fs y e
named (Constant title e) y f = only (among y (title.name ∷ [])) f
  where
    only : (b : Bool) → (b || false) ≡ true → b ≡ true
    only true g = refl
    only false g = g
named (Destructure q e) y f = only (among y (bound_by q)) f
  where
    only : (b : Bool) → (b || false) ≡ true → b ≡ true
    only true g = refl
    only false g = g

fresh_names : (scope : Scope) (g : Group) → ProperGroup scope g → AreFresh (group_names g) scope
fresh_names scope (Together fs) p = p.0
fresh_names scope (Constant title e) p = (p.1.0, tt)
fresh_names scope (Destructure q e) p = p.0.1

all_named : (gs : Groups) (y : Ref) → defines (definitions gs) y ≡ true → among y (let_names gs) ≡ true
all_named NoGroup y e = e
all_named (MoreGroup g gs) y e = elim (defines_either (group_definitions g) (definitions gs) y e) [
  | inl own ↦ in_left (group_names g) (let_names gs) y (named g y own)
  | inr later ↦ in_right (group_names g) (let_names gs) y (all_named gs y later)
]

groups_new : (gs : Groups) (scope : Scope) (y : Ref) → ProperGroups scope gs → defines (definitions gs) y ≡ true
    → among y scope ≡ false
groups_new NoGroup scope y p e = not_both false e refl
groups_new (MoreGroup g gs) scope y p e = elim (defines_either (group_definitions g) (definitions gs) y e) [
  | inl own ↦ fresh_off (group_names g) scope y (fresh_names scope g p.0) (named g y own)
  | inr later ↦ (off_all (group_names g) scope y (groups_new gs (with_all (group_names g) scope) y p.1 later)).1
]

one_apart : (scope : Scope) (g : Group) → ProperGroup scope g → AreApart (group_definitions g)
one_apart scope (Together fs) p = functions_apart fs scope p.0
one_apart scope (Constant title e) p = ((refl, tt), tt)
one_apart scope (Destructure q e) p = (unused (λ y. false) (bound_by q) (λ x u f. not_both false f refl), tt)

pub lets_apart : (gs : Groups) (scope : Scope) → ProperGroups scope gs → AreApart (definitions gs)
lets_apart NoGroup scope p = tt
lets_apart (MoreGroup g gs) scope p =
    let inside = with_all (group_names g) scope in
    apart_both (group_definitions g) (definitions gs) (one_apart scope g p.0) (lets_apart gs inside p.1)
    (λ y own. elim (yes_or_no (defines (definitions gs) y)) [
      | inl later ↦ not_both (among y (group_names g)) (named g y own) (off_all (group_names g) scope y
          (groups_new gs inside y p.1 later)).0
      | inr none ↦ none
    ])

-- ---- no definition of a `let` uses a later one

not_left : (xs ys : List Ref) (y : Ref) → among y (xs ++ ys) ≡ false → among y xs ≡ false
not_left xs ys y e = elim (yes_or_no (among y xs)) [
  | inl is ↦ not_both (among y (xs ++ ys))
      (in_left xs ys y is) e
  | inr none ↦ none
]

not_right : (xs ys : List Ref) (y : Ref) → among y (xs ++ ys) ≡ false → among y ys ≡ false
not_right xs ys y e = elim (yes_or_no (among y ys)) [
  | inl is ↦ not_both (among y (xs ++ ys))
      (in_right xs ys y is) e
  | inr none ↦ none
]

later_apart : (g : Group) (gs : Groups) → NamesApart (MoreGroup g gs) → NamesApart gs
later_apart g gs h = λ x i. not_right (inner_group g) (inner_groups gs) x (h x (in_right (group_names g)
    (let_names gs) x i))

-- what a name of a group is in scope as, where the group does not bind it inside
only_scope : (g : Group) (scope : Scope) (y : Ref) → ProperGroup scope g → among y (used_group g) ≡ true
    → among y (inner_group g) ≡ false → among y (with_all (group_names g) scope) ≡ true
only_scope g scope y p u none = elim (found_group y g scope p u) [
  | inl there ↦ there
  | inr inside ↦ not_both (among y (inner_group g)) inside none
]

none_later : (g : Group) (gs : Groups) (scope : Scope) → ProperGroups scope (MoreGroup g gs)
    → NamesApart (MoreGroup g gs) → Without (defines (definitions gs)) (used_group g)
none_later g gs scope p h =
    unused (defines (definitions gs)) (used_group g) (λ x u is. (
    let there = in_right (group_names g) (let_names gs) x (all_named gs x is) in
    not_both (among x (with_all (group_names g) scope))
    (only_scope g scope x p.0 u (not_left (inner_group g) (inner_groups gs) x (h x there)))
    (groups_new gs (with_all (group_names g) scope) x p.1 is)))

-- a definition that is no function uses none of its own names
none_own : (e : Expr) (g : Group) (gs : Groups) (scope : Scope) → Proper scope e → ProperGroups scope (MoreGroup g gs)
    → NamesApart (MoreGroup g gs) → ((y : Ref) → among y (inner_group g) ≡ false → among y (inner_names e) ≡ false)
    → Without (defines (definitions (MoreGroup g gs))) (used e)
none_own e g gs scope pe p h inside =
    unused (defines (definitions (MoreGroup g gs))) (used e) (λ x u is. (
    let name = all_named (MoreGroup g gs) x is in
    let none = inside x (not_left (inner_group g) (inner_groups gs) x (h x name)) in
    elim (found x e scope pe u) [
      | inl there ↦ not_both (among x scope) there (groups_new (MoreGroup g gs) scope x p is)
      | inr inner ↦ not_both (among x (inner_names e)) inner none
    ]))

pub lets_earlier : (gs : Groups) (scope : Scope) → ProperGroups scope gs → NamesApart gs → UseEarlier gs
lets_earlier NoGroup scope p h = tt
lets_earlier (MoreGroup (Together fs) gs) scope p h = (
  none_later (Together fs) gs scope p h,
  lets_earlier gs (with_all (function_names fs) scope) p.1 (later_apart (Together fs) gs h),
)
lets_earlier (MoreGroup (Constant title e) gs) scope p h = (
  none_own e (Constant title e) gs scope p.0.1.1 p h (λ y n. n),
  lets_earlier gs (with_all (title.name ∷ []) scope) p.1 (later_apart (Constant title e) gs h),
)
lets_earlier (MoreGroup (Destructure q e) gs) scope p h = (
  none_own e (Destructure q e) gs scope p.0.1 p h (λ y n. n),
  lets_earlier gs (with_all (bound_by q) scope) p.1 (later_apart (Destructure q e) gs h),
)
