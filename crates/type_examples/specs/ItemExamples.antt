-- Items of small programs, as they are computed.
use Rattle.std.specs.Prelude.{◌≡◌, ℕ, List, [], ◌∷◌, ◌++◌, Option, None, codes}
use Rattle.elm_canon.specs.declared.reference.Ref.TheVariants.{Local}
use Rattle.elm_type.specs.Types.{Name, Record, NoField, MoreField, Over, Closed, function, functions, tuple}
use Rattle.elm_type.specs.Types.{string_type, list_type, variable, Free, Fixed, Rigid, Scheme}
use Rattle.elm_type.specs.declared.class.Class.TheVariants.{Any, Number, Comparable, Appendable}
use Rattle.type_items.specs.Items.{Place, Wanted, at, Item, Same, InClass, Lacks, Keeps, Small}
use Rattle.type_items.specs.Scopes.{Mono, Scope}
use Rattle.type_items.specs.Operations.{computes, compares}
use Rattle.type_items.specs.Expressions.{items}
use Rattle.type_items.specs.Modules.{module_items}
use Rattle.type_examples.specs.Programs.{by_annotation, taken_apart}
use Rattle.type_examples.specs.Programs.{place, x, y, z, field_of_record, pair_twice, not_every_a, next, updated}
use Rattle.type_examples.specs.Programs.{both_classes, scoped, first_or_zero}

abbrev pub no_known : Name → Name → Option Scheme
no_known m v = None

abbrev pub no_names : Scope
no_names = record { known = no_known; names = []; constants = [] }

-- the constant of an annotation at a place
abbrev pub rigid : Place → Name → Rigid
rigid p a = record { place = p; name = a; class = Any; lacks = [] }

abbrev pub fixed : Rigid → Wanted
fixed r = variable (Fixed r)

abbrev pub rigid_a : Rigid
rigid_a = rigid (0 ∷ []) (codes "a")

-- the type at the end of a path below a place
abbrev pub below : Place → Place → Wanted
below p q = at (p ++ q)

-- the body of the one definition of a module stands at this place
abbrev pub body : Place
body = 0 ∷ 0 ∷ 1 ∷ []

-- and its parameters at these
abbrev pub parameter : ℕ → Wanted
parameter i = at (0 ∷ 0 ∷ 0 ∷ i ∷ [])

-- ---- an expression

abbrev pub FieldOfRecord : Type 0
FieldOfRecord = items field_of_record no_names (place 1 1) [] (at (9 ∷ [])) ≡
    Lacks (place 4 5) (at (0 ∷ 0 ∷ [])) z
    ∷ Same (place 4 5) (function (Record (MoreField z (at (0 ∷ 1 ∷ 0 ∷ [])) NoField) (Over (Free (0 ∷ 0 ∷ []))))
    (at (0 ∷ 1 ∷ 0 ∷ []))) (function (at (1 ∷ 0 ∷ [])) (at (9 ∷ [])))
    ∷ Same (place 4 8)
    (Record (MoreField x (at (1 ∷ 0 ∷ 0 ∷ 0 ∷ [])) (MoreField y (at (1 ∷ 0 ∷ 0 ∷ 1 ∷ [])) NoField)) Closed)
    (at (1 ∷ 0 ∷ []))
    ∷ InClass (place 4 14) (at (1 ∷ 0 ∷ 0 ∷ 0 ∷ 0 ∷ [])) Number
    ∷ Same (place 4 14) (at (1 ∷ 0 ∷ 0 ∷ 0 ∷ 0 ∷ [])) (at (1 ∷ 0 ∷ 0 ∷ 0 ∷ []))
    ∷ InClass (place 4 21) (at (1 ∷ 0 ∷ 0 ∷ 1 ∷ 0 ∷ [])) Number
    ∷ Same (place 4 21) (at (1 ∷ 0 ∷ 0 ∷ 1 ∷ 0 ∷ [])) (at (1 ∷ 0 ∷ 0 ∷ 1 ∷ []))
    ∷ []

-- ---- names that are generalised: each use of pair has the items of pair once more, at the place of the use

-- the items of pair at a place
abbrev pub of_pair : Place → List Item
of_pair p =
    Same (place 4 9) (function (below p (0 ∷ 0 ∷ 0 ∷ [])) (below p (0 ∷ 1 ∷ []))) (below p (0 ∷ []))
    ∷ Same (place 4 18) (tuple (below p (0 ∷ 1 ∷ 0 ∷ 0 ∷ []) ∷ below p (0 ∷ 1 ∷ 0 ∷ 1 ∷ []) ∷ []))
    (below p (0 ∷ 1 ∷ []))
    ∷ Same (place 4 20) (below p (0 ∷ 0 ∷ 0 ∷ [])) (below p (0 ∷ 1 ∷ 0 ∷ 0 ∷ []))
    ∷ Same (place 4 23) (below p (0 ∷ 0 ∷ 0 ∷ [])) (below p (0 ∷ 1 ∷ 0 ∷ 1 ∷ []))
    ∷ []

-- the places of pair, and of the copies for both uses
abbrev pub pair_place : Place
pair_place = body ++ 0 ∷ 0 ∷ []

abbrev pub first_use : Place
first_use = body ++ 1 ∷ 0 ∷ 0 ∷ 0 ∷ 0 ∷ []

abbrev pub second_use : Place
second_use = body ++ 1 ∷ 0 ∷ 1 ∷ 0 ∷ 0 ∷ []

abbrev pub before_pair : List Item
before_pair = Same (place 3 1) (at body) (at (0 ∷ 0 ∷ [])) ∷ of_pair pair_place

abbrev pub after_pair : List Item
after_pair =
    Same (place 4 30) (tuple (below body (1 ∷ 0 ∷ 0 ∷ []) ∷ below body (1 ∷ 0 ∷ 1 ∷ []) ∷ [])) (at body)
    ∷ of_pair first_use
    ++ Same (place 4 32) (below first_use (0 ∷ []))
    (function (below body (1 ∷ 0 ∷ 0 ∷ 1 ∷ 0 ∷ [])) (below body (1 ∷ 0 ∷ 0 ∷ [])))
    ∷ InClass (place 4 37) (below body (1 ∷ 0 ∷ 0 ∷ 1 ∷ 0 ∷ 0 ∷ [])) Number
    ∷ Same (place 4 37) (below body (1 ∷ 0 ∷ 0 ∷ 1 ∷ 0 ∷ 0 ∷ [])) (below body (1 ∷ 0 ∷ 0 ∷ 1 ∷ 0 ∷ []))
    ∷ of_pair second_use
    ++ Same (place 4 40) (below second_use (0 ∷ []))
    (function (below body (1 ∷ 0 ∷ 1 ∷ 1 ∷ 0 ∷ [])) (below body (1 ∷ 0 ∷ 1 ∷ [])))
    ∷ Same (place 4 45) string_type (below body (1 ∷ 0 ∷ 1 ∷ 1 ∷ 0 ∷ []))
    ∷ []

abbrev pub copies_items : List Item
copies_items = before_pair ++ Small (place 4 9) (below pair_place (0 ∷ [])) ∷ after_pair

abbrev pub Copies : Type 0
Copies = module_items pair_twice no_known [] ≡ copies_items ++ Small (place 3 1) (at (0 ∷ 0 ∷ [])) ∷ []

-- the items of ( a, b ) = ( 1, "x" ) at a place
abbrev pub of_parts : Place → List Item
of_parts p =
    Same (place 1 5) (tuple (below p (0 ∷ 0 ∷ 0 ∷ []) ∷ below p (0 ∷ 0 ∷ 1 ∷ []) ∷ [])) (at p)
    ∷ Same (place 1 16) (tuple (below p (1 ∷ 0 ∷ 0 ∷ []) ∷ below p (1 ∷ 0 ∷ 1 ∷ []) ∷ [])) (at p)
    ∷ InClass (place 1 18) (below p (1 ∷ 0 ∷ 0 ∷ 0 ∷ [])) Number
    ∷ Same (place 1 18) (below p (1 ∷ 0 ∷ 0 ∷ 0 ∷ [])) (below p (1 ∷ 0 ∷ 0 ∷ []))
    ∷ Same (place 1 21) string_type (below p (1 ∷ 0 ∷ 1 ∷ []))
    ∷ []

-- names that are taken apart are generalised too
abbrev pub TakenApart : Type 0
TakenApart = items taken_apart no_names (place 1 1) [] (at (9 ∷ [])) ≡
    of_parts (0 ∷ 0 ∷ 0 ∷ [])
    ++ Small (place 1 5) (at (0 ∷ 0 ∷ 0 ∷ []))
    ∷ of_parts (1 ∷ 0 ∷ 0 ∷ [])
    ++ Same (place 1 30) (at (1 ∷ 0 ∷ 0 ∷ 0 ∷ 0 ∷ 0 ∷ [])) (at (9 ∷ []))
    ∷ []

-- ---- annotations

abbrev pub Annotated : Type 0
Annotated = module_items not_every_a no_known [] ≡
    Same (place 4 1) (function (parameter 0) (at body)) (function (fixed rigid_a) (fixed rigid_a))
    ∷ InClass (place 5 5) (at (0 ∷ 0 ∷ 1 ∷ 0 ∷ [])) Number
    ∷ Same (place 5 5) (at (0 ∷ 0 ∷ 1 ∷ 0 ∷ [])) (at (0 ∷ 0 ∷ 1 ∷ []))
    ∷ Keeps (place 4 1) rigid_a []
    ∷ Small (place 4 1) (function (fixed rigid_a) (fixed rigid_a))
    ∷ []

-- the items of f x = g x at a place, where g has the type a -> a
abbrev pub of_call : Place → List Item
of_call p =
    Same (place 3 1) (function (below p (0 ∷ 0 ∷ [])) (below p (1 ∷ []))) (at p)
    ∷ Same (place 3 7) (function (below p (1 ∷ 0 ∷ 0 ∷ 0 ∷ [])) (below p (1 ∷ 0 ∷ 0 ∷ 0 ∷ [])))
    (function (below p (1 ∷ 1 ∷ 0 ∷ [])) (below p (1 ∷ [])))
    ∷ Same (place 3 9) (below p (0 ∷ 0 ∷ [])) (below p (1 ∷ 1 ∷ 0 ∷ []))
    ∷ []

abbrev pub rigid_g : Rigid
rigid_g = rigid (1 ∷ []) (codes "a")

-- f uses g at its annotation, so g is no part of its group
abbrev pub ByAnnotation : Type 0
ByAnnotation = module_items by_annotation no_known [] ≡
    of_call (0 ∷ 0 ∷ [])
    ++ Small (place 3 1) (at (0 ∷ 0 ∷ []))
    ∷ Same (place 6 1) (function (at (1 ∷ 0 ∷ 0 ∷ 0 ∷ [])) (at (1 ∷ 0 ∷ 1 ∷ [])))
    (function (fixed rigid_g) (fixed rigid_g))
    ∷ of_call (1 ∷ 0 ∷ 1 ∷ 0 ∷ 0 ∷ 0 ∷ [])
    ++ Same (place 6 7) (at (1 ∷ 0 ∷ 1 ∷ 0 ∷ 0 ∷ 0 ∷ [])) (function (at (1 ∷ 0 ∷ 1 ∷ 1 ∷ 0 ∷ [])) (at (1 ∷ 0 ∷ 1 ∷ [])))
    ∷ Same (place 6 9) (at (1 ∷ 0 ∷ 0 ∷ 0 ∷ [])) (at (1 ∷ 0 ∷ 1 ∷ 1 ∷ 0 ∷ []))
    ∷ Keeps (place 6 1) rigid_g []
    ∷ Small (place 6 1) (function (fixed rigid_g) (fixed rigid_g))
    ∷ []

abbrev pub rigid_b : Rigid
rigid_b = rigid (0 ∷ 0 ∷ 1 ∷ 0 ∷ 0 ∷ []) (codes "b")

-- the a of the inner annotation is the constant of the outer one, and a use takes a new variable for b alone
abbrev pub InScope : Type 0
InScope = module_items scoped no_known [] ≡
    Same (place 4 1) (function (parameter 0) (at body)) (function (fixed rigid_a) (fixed rigid_a))
    ∷ Same (place 7 9) (function (below body (0 ∷ 0 ∷ 0 ∷ 0 ∷ 0 ∷ [])) (below body (0 ∷ 0 ∷ 0 ∷ 1 ∷ [])))
    (function (fixed rigid_b) (fixed rigid_a))
    ∷ Same (place 8 13) (at (0 ∷ 0 ∷ 0 ∷ 0 ∷ [])) (at (0 ∷ 0 ∷ 1 ∷ 0 ∷ 0 ∷ 0 ∷ 1 ∷ []))
    ∷ Keeps (place 7 9) rigid_b (at (0 ∷ 0 ∷ 0 ∷ 0 ∷ []) ∷ fixed rigid_a ∷ [])
    ∷ Small (place 7 9) (function (fixed rigid_b) (fixed rigid_a))
    ∷ Same (place 10 5) (function (below body (1 ∷ 0 ∷ 0 ∷ 0 ∷ [])) (fixed rigid_a))
    (function (below body (1 ∷ 1 ∷ 0 ∷ [])) (at body))
    ∷ InClass (place 10 7) (at (0 ∷ 0 ∷ 1 ∷ 1 ∷ 1 ∷ 0 ∷ 0 ∷ [])) Number
    ∷ Same (place 10 7) (at (0 ∷ 0 ∷ 1 ∷ 1 ∷ 1 ∷ 0 ∷ 0 ∷ [])) (at (0 ∷ 0 ∷ 1 ∷ 1 ∷ 1 ∷ 0 ∷ []))
    ∷ Keeps (place 4 1) rigid_a []
    ∷ Small (place 4 1) (function (fixed rigid_a) (fixed rigid_a))
    ∷ []

abbrev pub rigid_number : Rigid
rigid_number = record { place = 0 ∷ []; name = codes "number"; class = Number; lacks = [] }

-- what an annotation asks of its variables comes first
abbrev pub next_items : List Item
next_items =
    InClass (place 4 1) (fixed rigid_number) Number
    ∷ Same (place 4 1) (function (parameter 0) (at body)) (function (fixed rigid_number) (fixed rigid_number))
    ∷ InClass (place 4 9) (at (0 ∷ 0 ∷ 1 ∷ 1 ∷ [])) Number
    ∷ Same (place 4 9) (functions (at (0 ∷ 0 ∷ 1 ∷ 1 ∷ []) ∷ at (0 ∷ 0 ∷ 1 ∷ 1 ∷ []) ∷ []) (at (0 ∷ 0 ∷ 1 ∷ 1 ∷ [])))
    (functions (at (0 ∷ 0 ∷ 1 ∷ 0 ∷ 0 ∷ []) ∷ at (0 ∷ 0 ∷ 1 ∷ 0 ∷ 1 ∷ []) ∷ []) (at (0 ∷ 0 ∷ 1 ∷ [])))
    ∷ Same (place 4 7) (at (0 ∷ 0 ∷ 0 ∷ 0 ∷ [])) (at (0 ∷ 0 ∷ 1 ∷ 0 ∷ 0 ∷ []))
    ∷ InClass (place 4 11) (at (0 ∷ 0 ∷ 1 ∷ 0 ∷ 1 ∷ 0 ∷ [])) Number
    ∷ Same (place 4 11) (at (0 ∷ 0 ∷ 1 ∷ 0 ∷ 1 ∷ 0 ∷ [])) (at (0 ∷ 0 ∷ 1 ∷ 0 ∷ 1 ∷ []))
    ∷ Keeps (place 4 1) rigid_number []
    ∷ []

abbrev pub Next : Type 0
Next =
    module_items next no_known []
    ≡ next_items ++ Small (place 4 1) (function (fixed rigid_number) (fixed rigid_number)) ∷ []

-- ---- records, operators and patterns

abbrev pub with_x : Wanted → Place → Wanted
with_x t row = Record (MoreField x t NoField) (Over (Free row))

abbrev pub updated_items : List Item
updated_items =
    Same (place 3 1) (function (parameter 0) (at body)) (at (0 ∷ 0 ∷ []))
    ∷ Same (place 4 7) (parameter 0) (at body)
    ∷ Lacks (place 4 5) (below body (1 ∷ [])) x
    ∷ Same (place 4 5) (with_x (below body (2 ∷ 0 ∷ [])) (body ++ 1 ∷ [])) (at body)
    ∷ InClass (place 4 19) (below body (0 ∷ 1 ∷ 1 ∷ [])) Number
    ∷ Same (place 4 19) (computes (below body (0 ∷ 1 ∷ 1 ∷ [])))
    (functions (below body (0 ∷ 1 ∷ 0 ∷ 0 ∷ []) ∷ below body (0 ∷ 1 ∷ 0 ∷ 1 ∷ []) ∷ []) (below body (2 ∷ 0 ∷ [])))
    ∷ Lacks (place 4 15) (below body (0 ∷ 1 ∷ 0 ∷ 0 ∷ 1 ∷ [])) x
    ∷ Same (place 4 15) (parameter 0)
    (with_x (below body (0 ∷ 1 ∷ 0 ∷ 0 ∷ 2 ∷ 0 ∷ [])) (body ++ 0 ∷ 1 ∷ 0 ∷ 0 ∷ 1 ∷ []))
    ∷ Same (place 4 15) (below body (0 ∷ 1 ∷ 0 ∷ 0 ∷ 2 ∷ 0 ∷ [])) (below body (0 ∷ 1 ∷ 0 ∷ 0 ∷ []))
    ∷ InClass (place 4 21) (below body (0 ∷ 1 ∷ 0 ∷ 1 ∷ 0 ∷ [])) Number
    ∷ Same (place 4 21) (below body (0 ∷ 1 ∷ 0 ∷ 1 ∷ 0 ∷ [])) (below body (0 ∷ 1 ∷ 0 ∷ 1 ∷ []))
    ∷ []

abbrev pub Updated : Type 0
Updated = module_items updated no_known [] ≡ updated_items ++ Small (place 3 1) (at (0 ∷ 0 ∷ [])) ∷ []

-- what an operator asks at its place: the place of its type variable, and of its operands
abbrev pub both_classes_items : List Item
both_classes_items =
    Same (place 3 1) (functions (parameter 0 ∷ parameter 1 ∷ []) (at body)) (at (0 ∷ 0 ∷ []))
    ∷ Same (place 4 5) (tuple (below body (0 ∷ 0 ∷ []) ∷ below body (0 ∷ 1 ∷ []) ∷ [])) (at body)
    ∷ InClass (place 4 9) (below body (0 ∷ 0 ∷ 1 ∷ [])) Comparable
    ∷ Same (place 4 9) (compares (below body (0 ∷ 0 ∷ 1 ∷ [])))
    (functions (below body (0 ∷ 0 ∷ 0 ∷ 0 ∷ []) ∷ below body (0 ∷ 0 ∷ 0 ∷ 1 ∷ []) ∷ []) (below body (0 ∷ 0 ∷ [])))
    ∷ Same (place 4 7) (parameter 0) (below body (0 ∷ 0 ∷ 0 ∷ 0 ∷ []))
    ∷ Same (place 4 11) (parameter 1) (below body (0 ∷ 0 ∷ 0 ∷ 1 ∷ []))
    ∷ InClass (place 4 16) (below body (0 ∷ 1 ∷ 1 ∷ [])) Appendable
    ∷ Same (place 4 16) (computes (below body (0 ∷ 1 ∷ 1 ∷ [])))
    (functions (below body (0 ∷ 1 ∷ 0 ∷ 0 ∷ []) ∷ below body (0 ∷ 1 ∷ 0 ∷ 1 ∷ []) ∷ []) (below body (0 ∷ 1 ∷ [])))
    ∷ Same (place 4 14) (parameter 0) (below body (0 ∷ 1 ∷ 0 ∷ 0 ∷ []))
    ∷ Same (place 4 19) (parameter 1) (below body (0 ∷ 1 ∷ 0 ∷ 1 ∷ []))
    ∷ []

abbrev pub BothClasses : Type 0
BothClasses = module_items both_classes no_known [] ≡ both_classes_items ++ Small (place 3 1) (at (0 ∷ 0 ∷ [])) ∷ []

abbrev pub with_xs : Scope
with_xs = record { known = no_known; names = (Local (codes "xs"), Mono (at (8 ∷ []))) ∷ []; constants = [] }

abbrev pub Branches : Type 0
Branches = items first_or_zero with_xs (place 1 1) [] (at (9 ∷ [])) ≡
    Same (place 1 6) (at (8 ∷ [])) (at (0 ∷ []))
    ∷ Same (place 2 5) (list_type (at (1 ∷ 0 ∷ 0 ∷ 0 ∷ 0 ∷ []))) (at (0 ∷ []))
    ∷ InClass (place 2 11) (at (1 ∷ 0 ∷ 1 ∷ 0 ∷ [])) Number
    ∷ Same (place 2 11) (at (1 ∷ 0 ∷ 1 ∷ 0 ∷ [])) (at (9 ∷ []))
    ∷ Same (place 3 5) (list_type (at (1 ∷ 1 ∷ 0 ∷ 0 ∷ 0 ∷ []))) (at (0 ∷ []))
    ∷ Same (place 3 15) (at (1 ∷ 1 ∷ 0 ∷ 0 ∷ 0 ∷ [])) (at (9 ∷ []))
    ∷ []
