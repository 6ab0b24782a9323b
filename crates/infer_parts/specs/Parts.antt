-- Constructs whose parts are walked one after the other: how far it is with one of them.
use Rattle.std.specs.Prelude.{◌≡◌, ℕ, zero, suc, List, [], ◌∷◌, ◌++◌, ◌+◌, length, take, get_or}
use Rattle.elm_base.specs.declared.position.Pos.{Pos}
use Rattle.elm_canon.specs.Tree.{Op, TupleOf, ListOf, Build, RecordOf, Access, Update, Negate, Binary}
use Rattle.elm_canon.specs.Tree.{Pattern, Expr, Apply, exprs_of, patterns_of, branches_of}
use Rattle.elm_type.specs.Types.{functions, int_type}
use Rattle.type_items.specs.Items.{Place, child, Wanted, children}
use Rattle.type_items.specs.Scopes.{Scope}
use Rattle.type_items.specs.Operations.{plan}
use Rattle.type_items.specs.Patterns.{pattern_items, bind_pattern}
use Rattle.type_items.specs.Expressions.{items, each_items, branch_items, function_items}
use Rattle.type_constructs.specs.Failing.{Bad}
use Rattle.type_walks.specs.Regions.{Region, none, below, span, either}
use Rattle.type_constructs.specs.Regions.{tops, deep}
use Rattle.infer_steps.specs.Codes.{Code, State}
use Rattle.infer_steps.specs.Operations.{width, beside, before_region, all_types, part_types, first_count, apply_types}
use Rattle.infer_parts.specs.Steps.{CanWalk, Lists, one, two, each, Went, Stuck, Opens}

-- the expression is listed where it stands
abbrev pub listed : Expr → Pos → Lists Wanted
listed e here scope q w = items e scope here q w

-- at a child
abbrev pub part_of : Expr → Pos → ℕ → Lists Wanted
part_of e here i scope q w = items e scope here (child q i) w

abbrev pub part_place : ℕ → Place → Region
part_place i q = below (child q i)

-- at a child of a child
abbrev pub operand_of : Expr → Pos → ℕ → ℕ → Lists Wanted
operand_of e here i j scope q w = items e scope here (child (child q i) j) w

abbrev pub operand_place : ℕ → ℕ → Place → Region
operand_place i j q = below (child (child q i) j)

-- ---- patterns, and expressions with their names

-- a branch, for values of the first type and wanted at the second
abbrev pub branch_of : Pattern → Expr → Pos → Lists (Wanted × Wanted)
branch_of p e here scope q ts =
    pattern_items p scope.known here (child q 0) ts.0
    ++ items e (bind_pattern p (child q 0) ts.0 scope) here (child q 1) ts.1

-- at a child of the second child
abbrev pub branch_at : Pattern → Expr → Pos → ℕ → Lists (Wanted × Wanted)
branch_at p e here i scope q ts = branch_of p e here scope (child (child q 1) i) ts

abbrev pub Branch : Type 0
Branch = Pattern × Expr

-- branches in turn, there
abbrev pub branches_at : List Branch → Pos → Lists (Wanted × Wanted)
branches_at bs here scope q ts = branch_items (branches_of bs) scope here (child q 1) 0 ts.0 ts.1

abbrev pub branches_region : List Branch → Place → Region
branches_region bs q = deep (child q 1) 0 (length bs)

abbrev pub BranchesWent : Code → ℕ → ℕ → Pos → List Branch → State → State → Type 0
BranchesWent code v w here bs old new =
    Went (Wanted × Wanted) code (two v w) (branches_region bs) (branches_at bs here) old new

abbrev pub BranchesStuck : Code → ℕ → ℕ → Pos → List Branch → State → State → Bad → Type 0
BranchesStuck code v w here bs old new bad =
    Stuck (Wanted × Wanted) code (two v w) (branches_region bs) (branches_at bs here) old new bad

-- a function
abbrev pub function_of : List Pattern → Expr → Pos → Lists Wanted
function_of ps e here scope q w = function_items (patterns_of ps) (items e) scope here q w

abbrev pub type_at : List Wanted → ℕ → Wanted
type_at ts i = get_or ts i int_type

-- ---- an operation with the values of all its parts

-- it reads no field
abbrev pub IsStrict : Op → Type 0
IsStrict TupleOf = Unit {0}
IsStrict ListOf = Unit {0}
IsStrict (Build pos u c) = Unit {0}
IsStrict (RecordOf xs) = Unit {0}
IsStrict (Access x) = ⊥
IsStrict (Update xs) = Unit {0}
IsStrict Negate = Unit {0}
IsStrict (Binary pos op) = Unit {0}

-- what is asked after its first part
abbrev pub between_items : Op → ℕ → Pos → Lists (List Wanted)
between_items (Update xs) n here scope q ts = (plan (Update xs) n scope here q (type_at ts 0)).between
between_items TupleOf n here scope q ts = []
between_items ListOf n here scope q ts = []
between_items (Build pos u c) n here scope q ts = []
between_items (RecordOf xs) n here scope q ts = []
between_items (Access x) n here scope q ts = []
between_items Negate n here scope q ts = []
between_items (Binary pos op) n here scope q ts = []

abbrev pub between_region : Op → Place → Region
between_region (Update xs) q = span q 1 2
between_region TupleOf q = none
between_region ListOf q = none
between_region (Build pos u c) q = none
between_region (RecordOf xs) q = none
between_region (Access x) q = none
between_region Negate q = none
between_region (Binary pos op) q = none

-- and which types its parts are wanted at then
abbrev pub later_types : Op → Scope → Place → List Wanted → List Wanted
later_types (Update xs) scope q ts = type_at ts 0 ∷ children (child q 2) (length xs)
later_types TupleOf scope q ts = ts
later_types ListOf scope q ts = ts
later_types (Build pos u c) scope q ts = ts
later_types (RecordOf xs) scope q ts = ts
later_types (Access x) scope q ts = ts
later_types Negate scope q ts = ts
later_types (Binary pos op) scope q ts = ts

-- it goes on after its first part
abbrev pub GoesOn : Code → Op → ℕ → Pos → List ℕ → List ℕ → State → State → Type 0
GoesOn code op n here vs us old new =
    Opens (List Wanted) code (each vs) (between_region op) (between_items op n here) (List Wanted) (each us)
    (later_types op) old new

abbrev pub GoesOnStuck : Code → Op → ℕ → Pos → List ℕ → State → State → Bad → Type 0
GoesOnStuck code op n here vs old new bad =
    Stuck (List Wanted) code (each vs) (between_region op) (between_items op n here) old new bad

-- after the part of that number: after the first one it goes on, and then nothing is asked
abbrev pub GoesOnAt : ℕ → Code → Op → ℕ → Pos → List ℕ → List ℕ → State → State → Type 0
GoesOnAt zero code op n here vs us old new = GoesOn code op n here vs us old new
GoesOnAt (suc i) code op n here vs us old new = (us ≡ vs) × (new ≡ old)

abbrev pub StopsOnAt : ℕ → Code → Op → ℕ → Pos → List ℕ → State → State → Bad → Type 0
StopsOnAt zero code op n here vs old new bad = GoesOnStuck code op n here vs old new bad
StopsOnAt (suc i) code op n here vs old new bad = ⊥

-- how many types are known then
abbrev pub later_count : Op → ℕ → ℕ → ℕ
later_count op (suc i) n = n
later_count (Update xs) zero n = suc (length xs)
later_count TupleOf zero n = n
later_count ListOf zero n = n
later_count (Build pos u c) zero n = n
later_count (RecordOf xs) zero n = n
later_count (Access x) zero n = n
later_count Negate zero n = n
later_count (Binary pos op) zero n = n

-- and after so many parts
abbrev pub known_count : Op → ℕ → ℕ → ℕ
known_count op n zero = first_count op n
known_count op n (suc i) = n

-- where the items so far have their places
abbrev pub op_region : Op → ℕ → List Expr → Place → Region
op_region op n [] q = before_region op n q
op_region op n (e ∷ es) q = either (beside (width op n) q) (deep (child q 0) 0 (suc (length es)))

-- the items up to so many parts
abbrev pub op_items : Op → ℕ → List Expr → Pos → Lists Wanted
op_items op n [] here scope q w = (plan op n scope here q w).before
op_items op n (e ∷ es) here scope q w =
    (plan op n scope here q w).before
    ++ (items e scope here (child (child q 0) 0) (plan op n scope here q w).first
    ++ ((plan op n scope here q w).between
    ++ each_items (exprs_of es) scope here (child q 0) 1 (take (length es) (plan op n scope here q w).rest)))

-- the types of the parts that are known then
abbrev pub op_types : Op → ℕ → List Expr → Pos → Scope → Place → Wanted → List Wanted
op_types op n [] here scope q w = part_types op n here scope q w
op_types op n (e ∷ es) here scope q w = all_types (plan op n scope here q w)

-- an operation of n parts is open after these ones: its parts have the variables vs
abbrev pub OpOpens : Code → ℕ → Op → ℕ → Pos → List Expr → List ℕ → State → State → Type 0
OpOpens code v op n here es vs old new =
    Opens Wanted code (one v) (op_region op n es) (op_items op n es here) (List Wanted) (each vs)
    (op_types op n es here) old new

-- ---- a function and its arguments

abbrev pub call_region : ℕ → List Expr → Place → Region
call_region n es q = either (tops (child q 1) 0 n) (either (below (child q 0)) (deep (child q 1) 0 (length es)))

abbrev pub call_items : Expr → ℕ → List Expr → Pos → Lists Wanted
call_items f n es here scope q w =
    items f scope here (child q 0) (functions (children (child q 1) n) w)
    ++ each_items (exprs_of es) scope here (child q 1) 0 (take (length es) (children (child q 1) n))

-- a call with n arguments is open after these ones: the function and its arguments have the variables vs
abbrev pub CallOpens : Code → ℕ → Expr → ℕ → Pos → List Expr → List ℕ → State → State → Type 0
CallOpens code v f n here es vs old new =
    Opens Wanted code (one v) (call_region n es) (call_items f n es here) (List Wanted) (each vs) (apply_types n)
    old new

-- arguments at the later variables, behind any function that was begun with as many variables
abbrev pub ArgumentsWent : Code → Pos → List Expr → List ℕ → State → State → Type 0
ArgumentsWent code here es vs old new =
    (f : Expr) (w n : ℕ) (before : State) → CanWalk code before → length vs ≡ suc n
    → CallOpens code w f n here [] vs before old → CallOpens code w f n here es vs before new

abbrev pub ArgumentsStuck : Code → Pos → List Expr → List ℕ → State → State → Bad → Type 0
ArgumentsStuck code here es vs old new bad =
    (f : Expr) (w n : ℕ) (before : State) → CanWalk code before → length vs ≡ suc n
    → CallOpens code w f n here [] vs before old → (more : List Expr) → length es + length more ≡ n
    → Stuck Wanted code (one w) below (listed (Apply f (exprs_of (es ++ more))) here) before new bad
