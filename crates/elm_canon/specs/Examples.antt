-- Names, unions and trees, worked out.
use Rattle.std.specs.Prelude.{◌≡◌, [], ◌∷◌, true, false, pos, codes}
use Rattle.elm_canon.specs.Names.{Name, same_ref}
use Rattle.elm_canon.specs.declared.reference.Ref.TheVariants.{Local, Top}
use Rattle.elm_canon.specs.declared.unions.Tag.TheVariants.{Number, Blank}
use Rattle.elm_canon.specs.Unions.{TupleUnion, ListUnion, alternatives, nil_alternative, cons_alternative}
use Rattle.elm_canon.specs.Unions.{unit_alternative}
use Rattle.elm_canon.specs.Tree as plain
use Rattle.elm_canon.specs.Tree.{Annotation, NamedType, NoAnnotation, FunctionType, Pattern, Construct, NoPattern}
use Rattle.elm_canon.specs.Tree.{MorePattern, Expr, NameOf, Strict, Access, MoreExpr, NoExpr}
use Rattle.elm_canon.specs.View.{function_type, items_before, nil_pattern, tuple_pattern, accessed}

-- ---- names

-- local names mean the same where they are spelled the same
abbrev pub SameLocal : Type 0
SameLocal = same_ref (Local (codes "x")) (Local (codes "x")) ≡ true

-- a local name never means a thing of a module
abbrev pub OtherKind : Type 0
OtherKind = same_ref (Local (codes "map")) (Top (codes "List") (codes "map")) ≡ false

-- things of two modules differ
abbrev pub OtherModule : Type 0
OtherModule = same_ref (Top (codes "List") (codes "map")) (Top (codes "Maybe") (codes "map")) ≡ false

-- ---- unions

abbrev pub OfTuples : Type 0
OfTuples = alternatives (TupleUnion 2) ≡ record { name = codes ","; tag = Number (pos 0); arity = 2 } ∷ []

abbrev pub OfNoParts : Type 0
OfNoParts = alternatives (TupleUnion 0) ≡ record { name = codes "()"; tag = Blank; arity = 0 } ∷ []

abbrev pub OfLists : Type 0
OfLists =
    alternatives ListUnion
    ≡ record { name = codes "[]"; tag = Number (pos 0); arity = 0 }
    ∷ record { name = codes "::"; tag = Number (pos 1); arity = 2 }
    ∷ []

-- ---- trees

abbrev t : Name → Annotation
t x = NamedType (codes "Main") x NoAnnotation

-- A -> B -> C: a function of A whose result is a function of B
abbrev pub Parameters : Type 0
Parameters =
    function_type (t (codes "A") ∷ t (codes "B") ∷ t (codes "C") ∷ [])
    ≡ FunctionType (t (codes "A")) (FunctionType (t (codes "B")) (t (codes "C")))

-- one type is not a function
abbrev pub OneType : Type 0
OneType = function_type (t (codes "A") ∷ []) ≡ t (codes "A")

abbrev p : Name → Pattern
p x = plain.Named x

abbrev cons : Pattern → Pattern → Pattern
cons a b = Construct ListUnion cons_alternative (MorePattern a (MorePattern b NoPattern))

abbrev nil : Pattern
nil = Construct ListUnion nil_alternative NoPattern

-- [ a, b ] is a :: b :: []
abbrev pub ListPattern : Type 0
ListPattern = items_before nil_pattern (p (codes "a") ∷ p (codes "b") ∷ []) ≡ cons (p (codes "a")) (cons (p (codes "b")) nil)

-- a :: b :: rest
abbrev pub ChainPattern : Type 0
ChainPattern =
    items_before (p (codes "rest")) (p (codes "a") ∷ p (codes "b") ∷ [])
    ≡ cons (p (codes "a")) (cons (p (codes "b")) (p (codes "rest")))

-- () is the tuple of no parts
abbrev pub UnitPattern : Type 0
UnitPattern = tuple_pattern [] ≡ Construct (TupleUnion 0) unit_alternative NoPattern

abbrev get : Name → Expr → Expr
get x e = Strict (Access x) (MoreExpr e NoExpr)

-- r.x.y is the field y of r.x
abbrev pub Fields : Type 0
Fields =
    accessed (NameOf (Local (codes "r"))) (codes "x" ∷ codes "y" ∷ [])
    ≡ get (codes "y") (get (codes "x") (NameOf (Local (codes "r"))))
