-- What constructs ask before their parts are walked, and the types that the parts are wanted at.
use Rattle.std.specs.Prelude.{ℕ, zero, suc, List, [], ◌∷◌, length}
use Rattle.elm_base.specs.declared.position.Pos.{Pos}
use Rattle.elm_canon.specs.Tree.{Op, TupleOf, ListOf, Build, RecordOf, Access, Update, Negate, Binary}
use Rattle.elm_type.specs.Types.{Name, functions, bool_type}
use Rattle.type_items.specs.Items.{Place, child, Wanted, at, children, Same, Lacks}
use Rattle.type_items.specs.Scopes.{Scope}
use Rattle.type_items.specs.Patterns.{open_record}
use Rattle.type_items.specs.Operations.{Plan, plan}
use Rattle.type_walks.specs.Regions.{Region, none, only, span, either}
use Rattle.type_constructs.specs.Regions.{tops}
use Rattle.type_constructs.specs.Failing.{Bad}
use Rattle.infer_steps.specs.Codes.{Code, State}
use Rattle.infer_steps.specs.Promises.{Listing}
use Rattle.infer_steps.specs.Records.{AreDistinct}
use Rattle.infer_steps.specs.Begun.{Types, Begun, BeginStops}

-- ---- operations with the values of all their parts

-- a record names each field once
abbrev pub NamesOnce : Op → Type 0
NamesOnce TupleOf = Unit {0}
NamesOnce ListOf = Unit {0}
NamesOnce (Build pos u c) = Unit {0}
NamesOnce (RecordOf xs) = AreDistinct xs
NamesOnce (Access x) = Unit {0}
NamesOnce (Update xs) = AreDistinct xs
NamesOnce Negate = Unit {0}
NamesOnce (Binary pos op) = Unit {0}

-- how many children of the first child have a variable
abbrev pub width : Op → ℕ → ℕ
width TupleOf n = n
width ListOf n = n
width (Build pos u c) n = n
width (RecordOf xs) n = length xs
width (Access x) n = n
width (Update xs) n = n
width Negate n = n
width (Binary pos op) n = 2

-- so many children of the first child, and the next two children with all that is below them
abbrev pub beside : ℕ → Place → Region
beside n q = either (tops (child q 0) 0 n) (span q 1 2)

-- where the first steps of an operation have their places; before a record that is updated nothing is asked
abbrev pub before_region : Op → ℕ → Place → Region
before_region TupleOf n q = beside (width TupleOf n) q
before_region ListOf n q = beside (width ListOf n) q
before_region (Build pos u c) n q = beside (width (Build pos u c) n) q
before_region (RecordOf xs) n q = beside (width (RecordOf xs) n) q
before_region (Access x) n q = beside (width (Access x) n) q
before_region (Update xs) n q = none
before_region Negate n q = beside (width Negate n) q
before_region (Binary pos op) n q = beside (width (Binary pos op) n) q

abbrev pub all_types : Plan → List Wanted
all_types p = p.first ∷ p.rest

-- the types that the parts are wanted at; for a record that is updated it is that of the record alone
abbrev pub types_at : Op → ℕ → Scope → Pos → Place → Wanted → List Wanted
types_at TupleOf n scope here q w = all_types (plan TupleOf n scope here q w)
types_at ListOf n scope here q w = all_types (plan ListOf n scope here q w)
types_at (Build pos u c) n scope here q w = all_types (plan (Build pos u c) n scope here q w)
types_at (RecordOf xs) n scope here q w = all_types (plan (RecordOf xs) n scope here q w)
types_at (Access x) n scope here q w = w ∷ []
types_at (Update xs) n scope here q w = w ∷ []
types_at Negate n scope here q w = all_types (plan Negate n scope here q w)
types_at (Binary pos op) n scope here q w = all_types (plan (Binary pos op) n scope here q w)

-- of no parts none
abbrev pub first_types : ℕ → Op → Scope → Pos → Place → Wanted → List Wanted
first_types zero op scope here q w = []
first_types (suc n) op scope here q w = types_at op (suc n) scope here q w

-- how many these are
abbrev pub some_count : ℕ → ℕ
some_count zero = 1
some_count (suc n) = suc n

abbrev pub own_count : Op → ℕ → ℕ
own_count TupleOf n = n
own_count ListOf n = n
own_count (Build pos u c) n = n
own_count (RecordOf xs) n = some_count (length xs)
own_count (Access x) n = 1
own_count (Update xs) n = 1
own_count Negate n = 1
own_count (Binary pos op) n = 2

abbrev pub count_of_parts : ℕ → Op → ℕ
count_of_parts zero op = 0
count_of_parts (suc n) op = own_count op (suc n)

abbrev pub first_count : Op → ℕ → ℕ
first_count op n = count_of_parts n op

-- what is asked before the parts
abbrev pub before_items : Op → ℕ → Pos → Listing
before_items op n here scope q w = (plan op n scope here q w).before

abbrev pub part_types : Op → ℕ → Pos → Types
part_types op n here scope q w = first_types n op scope here q w

-- An operation of n parts, which stands at a position, was begun; or what it asks first is bad.
abbrev pub BeginsOp : Code → Op → ℕ → Pos → ℕ → List ℕ → State → State → Type 0
BeginsOp code op n here v vs old new =
    Begun code v (before_region op n) (before_items op n here) vs (part_types op n here) old new

abbrev pub OpStops : Code → Op → ℕ → Pos → ℕ → State → State → Bad → Type 0
OpStops code op n here v old new bad =
    BeginStops code v (before_region op n) (before_items op n here) old new bad

-- numbers, or none if the count is zero
abbrev pub when_any : ℕ → List ℕ → List ℕ
when_any zero vs = []
when_any (suc n) vs = vs

-- ---- { r | x = a, y = b }: what is asked after the record, and the types of the new values

abbrev pub update_items : List Name → ℕ → Pos → Listing
update_items xs n here scope q w = (plan (Update xs) n scope here q w).between

abbrev pub update_types : List Name → ℕ → Pos → Types
update_types xs n here scope q w = (plan (Update xs) n scope here q w).rest

abbrev pub next_two : Place → Region
next_two q = span q 1 2

-- ---- a.x: what is asked first, and the types of the record and of its field

abbrev pub access_items : Name → Pos → Listing
access_items x here scope q w = Lacks here (at (child q 1)) x ∷ []

abbrev pub access_types : Name → Types
access_types x scope q w = open_record (x ∷ []) (child q 2) (at (child q 1)) ∷ at (child (child q 2) 0) ∷ []

-- ---- a function and its arguments: it is one from their types to the type that is wanted

abbrev pub apply_types : ℕ → Types
apply_types n scope q w = functions (children (child q 1) n) w ∷ children (child q 1) n

abbrev pub nothing : Listing
nothing scope q w = []

abbrev pub arguments : ℕ → Place → Region
arguments n q = tops (child q 1) 0 n

-- ---- `&&` and `||`

abbrev pub logical_items : Pos → Listing
logical_items pos scope q w =
    Same pos (functions (bool_type ∷ bool_type ∷ []) bool_type)
    (functions (at (child q 0) ∷ at (child q 1) ∷ []) w)
    ∷ []

abbrev pub logical_types : Types
logical_types scope q w = at (child q 0) ∷ at (child q 1) ∷ []

abbrev pub operands : Place → Region
operands q = tops q 0 2

-- ---- a function of so many parameters: the types of its value and of its parameters

abbrev pub function_items : ℕ → Pos → Listing
function_items n here scope q w = Same here (functions (children (child q 0) n) (at (child q 1))) w ∷ []

abbrev pub function_types : ℕ → Types
function_types n scope q w = at (child q 1) ∷ children (child q 0) n

abbrev pub parameters : ℕ → Place → Region
parameters n q = either (tops (child q 0) 0 n) (only (child q 1))
