-- Missing and redundant patterns, worked out.
use Rattle.std.specs.Prelude.{◌≡◌, ℕ, pos, [], ◌∷◌, true, false, Some, None, codes}
use Rattle.elm_canon.specs.Unions.{Union, Declared, TupleUnion, ListUnion, nil_alternative, cons_alternative}
use Rattle.elm_canon.specs.Unions.{unit_alternative, tuple_alternative}
use Rattle.elm_canon.specs.Tree.{Pattern, Anything, Exactly, Construct, As, Patterns, NoPattern, MorePattern, patterns_of}
use Rattle.elm_canon.specs.Tree as plain
use Rattle.elm_canon.specs.declared.unions.Alternative.{Alternative}
use Rattle.elm_canon.specs.declared.unions.Tag.TheVariants.{Truth as TruthTag}
use Rattle.elm_canon.specs.declared.tree.Literal.TheVariants.{Int, Text}
use Rattle.pattern_check.specs.Missing.{missing, redundant}

abbrev pub empty : Pattern
empty = Construct ListUnion nil_alternative NoPattern

abbrev pub item : Pattern → Pattern → Pattern
item p rest = Construct ListUnion cons_alternative (patterns_of (p ∷ rest ∷ []))

abbrev pub pair : Pattern → Pattern → Pattern
pair p q = Construct (TupleUnion 2) (tuple_alternative 2) (patterns_of (p ∷ q ∷ []))

abbrev pub unit : Pattern
unit = Construct (TupleUnion 0) unit_alternative NoPattern

abbrev int : ℕ → Pattern
int n = Exactly (Int (pos n))

abbrev x : Pattern
x = plain.Named (codes "x")

abbrev true_alternative : Alternative
true_alternative = record { name = codes "True"; tag = TruthTag true; arity = 0 }

abbrev false_alternative : Alternative
false_alternative = record { name = codes "False"; tag = TruthTag false; arity = 0 }

abbrev truths : Union
truths = Declared (codes "Basics") (codes "Bool") (true_alternative ∷ false_alternative ∷ [])

abbrev yes_pattern : Pattern
yes_pattern = Construct truths true_alternative NoPattern

abbrev no_pattern : Pattern
no_pattern = Construct truths false_alternative NoPattern

-- [] alone leaves out _ :: _
abbrev pub EmptyAlone : Type 0
EmptyAlone = missing (empty ∷ []) ≡ Some (item Anything Anything)

-- [] and x :: _ leave nothing out, and neither is redundant
abbrev pub AllOfList : Type 0
AllOfList = missing (empty ∷ item x Anything ∷ []) ≡ None

-- [], _, [], _: the third and the fourth are redundant
abbrev pub SameTwice : Type 0
SameTwice = redundant (empty ∷ Anything ∷ empty ∷ Anything ∷ []) ≡ 2 ∷ 3 ∷ []

-- x :: _ leaves out []
abbrev pub FirstItem : Type 0
FirstItem = missing (item x Anything ∷ []) ≡ Some empty

-- ( 0, _ ), ( _, 0 ), ( 0, 0 ), _: the third is redundant
abbrev pub Literals : Type 0
Literals =
    redundant (pair (int 0) Anything ∷ pair Anything (int 0) ∷ pair (int 0) (int 0) ∷ Anything ∷ []) ≡ 2 ∷ []

-- numbers are never all there: the literals of the rows come first, and then _
abbrev pub SomeLiterals : Type 0
SomeLiterals = missing (pair (int 1) (int 2) ∷ pair (int 3) Anything ∷ []) ≡ Some (pair (int 1) Anything)

-- ( [], _ ) and ( _, [] ) leave out ( _ :: _, _ :: _ )
abbrev pub Pairs : Type 0
Pairs =
    missing (pair empty Anything ∷ pair Anything empty ∷ [])
    ≡ Some (pair (item Anything Anything) (item Anything Anything))

abbrev pub Truth : Type 0
Truth = missing (no_pattern ∷ yes_pattern ∷ []) ≡ None

-- the first in declared order
abbrev pub TruthMissing : Type 0
TruthMissing = missing (pair no_pattern no_pattern ∷ []) ≡ Some (pair yes_pattern Anything)

abbrev pub UnitCovered : Type 0
UnitCovered = missing (unit ∷ []) ≡ None

-- a name takes everything, and so does a pattern that a name stands for as a whole where its parts do
abbrev pub Named : Type 0
Named = missing (As (pair x x) (codes "p") ∷ []) ≡ None

abbrev pub Texts : Type 0
Texts = missing (Exactly (Text (codes "a")) ∷ Exactly (Text (codes "b")) ∷ []) ≡ Some Anything

-- [] and [ _ ] leave out _ :: _ :: _
abbrev pub Deep : Type 0
Deep = missing (empty ∷ item Anything empty ∷ []) ≡ Some (item Anything (item Anything Anything))
