-- The walk of each expression, from those of its parts. Only expressions ask for sizes, so the other steps are plain
-- walks.
use Rattle.std.specs.Prelude.{◌≡◌, ℕ, ◌+◌, List, [], ◌∷◌, ◌++◌, Bool, length, replicate}
use Rattle.elm_base.specs.declared.position.Pos.{Pos}
use Rattle.elm_canon.specs.declared.unions.Alternative.{Alternative}
use Rattle.elm_canon.specs.declared.tree.Literal.TheVariants as literal
use Rattle.elm_canon.specs.declared.tree.Operator.{Operator}
use Rattle.elm_canon.specs.declared.tree.Connective.{Connective}
use Rattle.elm_canon.specs.Unions.{Union}
use Rattle.elm_canon.specs.Tree.{Pattern, Expr, Is, Accessor, Apply, Strict, If, Logical, Let, Case}
use Rattle.elm_canon.specs.Tree.{Groups, TupleOf, ListOf, Build, RecordOf, Access, Update, Negate, Binary}
use Rattle.elm_canon.specs.Tree.{exprs_of, patterns_of, branches_of}
use Rattle.elm_type.specs.Types.{Name, function, functions, tuple, bool_type}
use Rattle.elm_type.specs.Types.{list_type}
use Rattle.elm_type.specs.Rows.{closed}
use Rattle.elm_type.specs.declared.class.Class.TheVariants.{Number}
use Rattle.type_items.specs.Items.{Place, child, Wanted, at, children, Item, Same, InClass, Lacks, lack_items}
use Rattle.type_items.specs.Items.{class_items}
use Rattle.type_items.specs.Scopes.{Scope}
use Rattle.type_items.specs.Patterns.{shape, shape_items, fields_at, open_record, parameter_types, bind_patterns}
use Rattle.type_items.specs.Patterns.{bind_pattern}
use Rattle.type_items.specs.Operations.{operator_class, operator_type}
use Rattle.type_items.specs.Definitions.{list_definitions}
use Rattle.type_items.specs.Expressions.{Listing, function_items, items, each_items, branch_items}
use Rattle.type_items.specs.Expressions.{definitions}
use Rattle.type_store.specs.Store.{Store}
use Rattle.type_walks.specs.Regions.{none, only, below}
use Rattle.type_walks.specs.Links.{Links, AreLive, Tells}
use Rattle.type_walks.specs.Walks.{Around, Walk}
use Rattle.type_constructs.specs.Passing.{NoSizes}
use Rattle.type_constructs.specs.Regions.{deep}
use Rattle.type_constructs.specs.Binding.{Children, Typed, Shaped, Bound}
use Rattle.type_constructs.specs.Patterns.{Matched, MatchedEach}
use Rattle.type_constructs.specs.Stepping.{Step}

-- one item was asked
abbrev pub Asked : Around → Item → Store → Links → Store → Type 0
Asked a item s links s' = Walk a none (item ∷ []) s links s' links

-- a place of its own has a variable
abbrev pub Opened : Around → Place → Store → Links → Store → ℕ → Type 0
Opened a p s links s' v = Walk a (only p) [] s links s' ((v, at p) ∷ links)

-- an expression was walked at a place, wanted at the type w
abbrev pub Walked : Bool → Around → Expr → Scope → Pos → Place → Wanted → Store → Links → Store → Type 0
Walked real a e scope here q w s links s' = Step real a (below q) (items e scope here q w) s links s' links

-- expressions were walked at the children of a place, from the number i on, each at its type
abbrev pub WalkedEach : Bool → Around → List Expr → Scope → Pos → Place → ℕ → List Wanted → Store → Links → Store
    → Type 0
WalkedEach real a es scope here q i ts s links s' =
    Step real a (deep q i (length es)) (each_items (exprs_of es) scope here q i ts) s links s' links

-- ---- expressions without parts

-- a number has a type of its class
abbrev pub WalksNumber : Type 0
WalksNumber =
    (real : Bool) (a : Around) (n : _) (scope : Scope) (here : Pos) (q : Place) (w : Wanted) (s s1 s2 s' : Store)
    (links : Links) (v : ℕ)
    → AreLive a.depth s links → Opened a (child q 0) s links s1 v
    → Asked a (InClass here (at (child q 0)) Number) s1 ((v, at (child q 0)) ∷ links) s2
    → Asked a (Same here (at (child q 0)) w) s2 ((v, at (child q 0)) ∷ links) s'
    → Walked real a (Is (literal.Int n)) scope here q w s links s'

-- what a literal or a name is of a type alone
abbrev pub WalksType : Type 0
WalksType =
    (real : Bool) (a : Around) (t : Wanted) (here : Pos) (q : Place) (w : Wanted) (s u s' : Store) (links : Links)
    (v : ℕ)
    → AreLive a.depth s links → (made : Typed a t s links u v) → Asked a (Same here t w) u made.after s'
    → Step real a (below q) (Same here t w ∷ []) s links s' links

-- a name has a copy of its type, after what a copy asks
abbrev pub WalksCopy : Type 0
WalksCopy =
    (real : Bool) (a : Around) (list : List Item) (t : Wanted) (here : Pos) (q : Place) (w : Wanted) (s u s' : Store)
    (links : Links) (v : ℕ)
    → AreLive a.depth s links → NoSizes list → Walk a (below (child q 0)) list s links u ((v, t) ∷ links)
    → Asked a (Same here t w) u ((v, t) ∷ links) s'
    → Step real a (below q) (list ++ Same here t w ∷ []) s links s' links

-- a record without the field, and one with it
abbrev pub WalksAccessor : Type 0
WalksAccessor =
    (real : Bool) (a : Around) (x : Name) (scope : Scope) (here : Pos) (q : Place) (w : Wanted)
    (s s1 s2 s3 s4 s' : Store) (links : Links) (rest field v : ℕ)
    → AreLive a.depth s links → Opened a (child q 0) s links s1 rest
    → Asked a (Lacks here (at (child q 0)) x) s1 ((rest, at (child q 0)) ∷ links) s2
    → Opened a (child (child q 1) 0) s2 ((rest, at (child q 0)) ∷ links) s3 field
    → (made : Typed a (function (open_record (x ∷ []) (child q 1) (at (child q 0))) (at (child (child q 1) 0))) s3
    ((field, at (child (child q 1) 0)) ∷ (rest, at (child q 0)) ∷ links) s4 v)
    → Asked a
    (Same here (function (open_record (x ∷ []) (child q 1) (at (child q 0))) (at (child (child q 1) 0))) w) s4
    made.after s'
    → Walked real a (Accessor x) scope here q w s links s'

-- ---- functions

-- the parameters and the result have types, which are those of the function; then come the patterns, and the body
abbrev pub WalksFunction : Type 0
WalksFunction =
    (real : Bool) (a : Around) (ps : List Pattern) (body : Listing) (scope : Scope) (here : Pos) (q : Place)
    (v : Wanted) (s s1 s2 s3 s4 s5 s' : Store) (links : Links) (vs : List ℕ) (result made_at : ℕ) (bound : List Bound)
    → AreLive a.depth s links → length vs ≡ length ps → (opened : Children a (child q 0) s links s1 vs)
    → Opened a (child q 1) s1 opened.after s2 result
    → (made : Typed a (functions (parameter_types (patterns_of ps) (child q 0)) (at (child q 1))) s2
    ((result, at (child q 1)) ∷ opened.after) s3 made_at)
    → Asked a (Same here (functions (parameter_types (patterns_of ps) (child q 0)) (at (child q 1))) v) s3 made.after s4
    → (each : MatchedEach a ps scope.known here (child q 0) (parameter_types (patterns_of ps) (child q 0)) s4 made.after
    s5 bound)
    → Step real a (below (child q 1))
    (body (bind_patterns (patterns_of ps) (child q 0) (parameter_types (patterns_of ps) (child q 0)) scope) here
    (child q 1) (at (child q 1)))
    s5 each.after s' each.after
    → Step real a (below q) (function_items (patterns_of ps) body scope here q v) s links s' links

-- the function at a type from those of the arguments to w, and then the arguments
abbrev pub WalksApply : Type 0
WalksApply =
    (real : Bool) (a : Around) (f : Expr) (es : List Expr) (scope : Scope) (here : Pos) (q : Place) (w : Wanted)
    (s s1 s2 s3 s' : Store) (links : Links) (vs : List ℕ) (v : ℕ)
    → AreLive a.depth s links → length vs ≡ length es → (opened : Children a (child q 1) s links s1 vs)
    → (made : Typed a (functions (children (child q 1) (length es)) w) s1 opened.after s2 v)
    → Walked real a f scope here (child q 0) (functions (children (child q 1) (length es)) w) s2 made.after s3
    → WalkedEach real a es scope here (child q 1) 0 (children (child q 1) (length es)) s3 made.after s'
    → Walked real a (Apply f (exprs_of es)) scope here q w s links s'

-- ---- expressions at the children of a place, in turn

abbrev pub WalksNone : Type 0
WalksNone =
    (real : Bool) (a : Around) (scope : Scope) (here : Pos) (q : Place) (i : ℕ) (s : Store) (links : Links)
    → WalkedEach real a [] scope here q i [] s links s

-- one more
abbrev pub WalksOneMore : Type 0
WalksOneMore =
    (real : Bool) (a : Around) (es : List Expr) (e : Expr) (scope : Scope) (here : Pos) (q : Place) (i j : ℕ)
    (ts : List Wanted) (t : Wanted) (s u s' : Store) (links : Links)
    → AreLive a.depth s links → length es ≡ length ts → i + length es ≡ j
    → WalkedEach real a es scope here q i ts s links u → Walked real a e scope here (child q j) t u links s'
    → WalkedEach real a (es ++ e ∷ []) scope here q i (ts ++ t ∷ []) s links s'

-- ---- choices

abbrev pub WalksIf : Type 0
WalksIf =
    (real : Bool) (a : Around) (c x y : Expr) (scope : Scope) (here : Pos) (q : Place) (w : Wanted)
    (s s1 s2 s3 s' : Store) (links : Links) (v : ℕ)
    → AreLive a.depth s links → (made : Typed a bool_type s links s1 v)
    → Walked real a c scope here (child q 0) bool_type s1 made.after s2
    → Walked real a x scope here (child q 1) w s2 made.after s3
    → Walked real a y scope here (child q 2) w s3 made.after s'
    → Walked real a (If c x y) scope here q w s links s'

-- what the operator is, and what it is wanted at; then come its parts
abbrev pub WalksLogical : Type 0
WalksLogical =
    (real : Bool) (a : Around) (pos : Pos) (op : Connective) (x y : Expr) (scope : Scope) (here : Pos) (q : Place)
    (w : Wanted) (s s1 s2 s3 s4 s5 s6 s' : Store) (links : Links) (left right is wanted : ℕ)
    → AreLive a.depth s links → Opened a (child q 0) s links s1 left
    → Opened a (child q 1) s1 ((left, at (child q 0)) ∷ links) s2 right
    → (one : Typed a (functions (bool_type ∷ bool_type ∷ []) bool_type) s2
    ((right, at (child q 1)) ∷ (left, at (child q 0)) ∷ links) s3 is)
    → (two : Typed a (functions (at (child q 0) ∷ at (child q 1) ∷ []) w) s3 one.after s4 wanted)
    → Asked a
    (Same pos (functions (bool_type ∷ bool_type ∷ []) bool_type) (functions (at (child q 0) ∷ at (child q 1) ∷ []) w))
    s4 two.after s5
    → Walked real a x scope here (child q 0) (at (child q 0)) s5 two.after s6
    → Walked real a y scope here (child q 1) (at (child q 1)) s6 two.after s'
    → Walked real a (Logical pos op x y) scope here q w s links s'

-- branches were walked at the children of a place, for a subject of the type t
abbrev pub WalkedBranches : Bool → Around → List (Pattern × Expr) → Scope → Pos → Place → Wanted → Wanted → Store
    → Links → Store → Type 0
WalkedBranches real a bs scope here q t w s links s' =
    Step real a (deep q 0 (length bs)) (branch_items (branches_of bs) scope here q 0 t w) s links s' links

abbrev pub WalksCase : Type 0
WalksCase =
    (real : Bool) (a : Around) (e : Expr) (bs : List (Pattern × Expr)) (scope : Scope) (here : Pos) (q : Place)
    (w : Wanted) (s s1 s2 s' : Store) (links : Links) (v : ℕ)
    → AreLive a.depth s links → Opened a (child q 0) s links s1 v
    → Walked real a e scope here (child q 0) (at (child q 0)) s1 ((v, at (child q 0)) ∷ links) s2
    → WalkedBranches real a bs scope here (child q 1) (at (child q 0)) w s2 ((v, at (child q 0)) ∷ links) s'
    → Walked real a (Case e (branches_of bs)) scope here q w s links s'

abbrev pub WalksNoBranch : Type 0
WalksNoBranch =
    (real : Bool) (a : Around) (scope : Scope) (here : Pos) (q : Place) (t w : Wanted) (s : Store) (links : Links)
    → WalkedBranches real a [] scope here q t w s links s

-- one branch more: its pattern, and its body with the names of the pattern
abbrev pub WalksOneBranch : Type 0
WalksOneBranch =
    (real : Bool) (a : Around) (bs : List (Pattern × Expr)) (p : Pattern) (e : Expr) (scope : Scope) (here : Pos)
    (q : Place) (t w : Wanted) (s s1 s2 s' : Store) (links : Links) (bound : List Bound)
    → AreLive a.depth s links → WalkedBranches real a bs scope here q t w s links s1
    → (matched : Matched a p scope.known here (child (child q (length bs)) 0) t s1 links s2 bound)
    → Walked real a e (bind_pattern p (child (child q (length bs)) 0) t scope) here (child (child q (length bs)) 1) w s2
    matched.after s'
    → WalkedBranches real a (bs ++ (p, e) ∷ []) scope here q t w s links s'

-- definitions, and the body in their scope
abbrev pub WalksLet : Type 0
WalksLet =
    (real : Bool) (a : Around) (gs : Groups) (e : Expr) (scope : Scope) (here : Pos) (q : Place) (w : Wanted)
    (s u s' : Store) (links between : Links)
    → AreLive a.depth s links → Tells between links
    → Step real a (below (child q 0)) (list_definitions (definitions gs) scope (child q 0)).items s links u between
    → Walked real a e (list_definitions (definitions gs) scope (child q 0)).scope here (child q 1) w u between s'
    → Walked real a (Let gs e) scope here q w s links s'

-- ---- operations that take the values of all their parts

-- a tuple of the types of its parts
abbrev pub WalksTuple : Type 0
WalksTuple =
    (real : Bool) (a : Around) (es : List Expr) (scope : Scope) (here : Pos) (q : Place) (w : Wanted)
    (s s1 s2 s3 s' : Store) (links : Links) (vs : List ℕ) (v : ℕ)
    → AreLive a.depth s links → length vs ≡ length es → (opened : Children a (child q 0) s links s1 vs)
    → (made : Typed a (tuple (children (child q 0) (length es))) s1 opened.after s2 v)
    → Asked a (Same here (tuple (children (child q 0) (length es))) w) s2 made.after s3
    → WalkedEach real a es scope here (child q 0) 0 (children (child q 0) (length es)) s3 made.after s'
    → Walked real a (Strict TupleOf (exprs_of es)) scope here q w s links s'

-- a list of items of one type
abbrev pub WalksList : Type 0
WalksList =
    (real : Bool) (a : Around) (es : List Expr) (scope : Scope) (here : Pos) (q : Place) (w : Wanted)
    (s s1 s2 s3 s' : Store) (links : Links) (item v : ℕ)
    → AreLive a.depth s links → Opened a (child q 1) s links s1 item
    → (made : Typed a (list_type (at (child q 1))) s1 ((item, at (child q 1)) ∷ links) s2 v)
    → Asked a (Same here (list_type (at (child q 1))) w) s2 made.after s3
    → WalkedEach real a es scope here (child q 0) 0 (replicate (length es) (at (child q 1))) s3 made.after s'
    → Walked real a (Strict ListOf (exprs_of es)) scope here q w s links s'

-- a constructor is a function from its fields to what it makes, and is wanted as one from its parts to w
abbrev pub WalksBuild : Type 0
WalksBuild =
    (real : Bool) (a : Around) (pos : Pos) (u : Union) (c : Alternative) (es : List Expr) (scope : Scope) (here : Pos)
    (q : Place) (w : Wanted) (s s1 s2 s3 s4 s5 s' : Store) (links : Links) (vs parts : List ℕ) (result is wanted : ℕ)
    → AreLive a.depth s links → length vs ≡ length es → (opened : Children a (child q 0) s links s1 vs)
    → (shaped : Shaped a (below (child q 1)) (shape_items u c scope.known pos (child q 1))
    (shape u c scope.known (child q 1)) s1 opened.after s2 result parts)
    → (one : Typed a
    (functions (shape u c scope.known (child q 1)).parts (shape u c scope.known (child q 1)).result) s2 shaped.after
    s3 is)
    → (two : Typed a (functions (children (child q 0) (length es)) w) s3 one.after s4 wanted)
    → Asked a
    (Same pos (functions (shape u c scope.known (child q 1)).parts (shape u c scope.known (child q 1)).result)
    (functions (children (child q 0) (length es)) w))
    s4 two.after s5
    → WalkedEach real a es scope here (child q 0) 0 (children (child q 0) (length es)) s5 two.after s'
    → Walked real a (Strict (Build pos u c) (exprs_of es)) scope here q w s links s'

-- a record of these fields, of the types of its parts
abbrev pub WalksRecord : Type 0
WalksRecord =
    (real : Bool) (a : Around) (xs : List Name) (es : List Expr) (scope : Scope) (here : Pos) (q : Place) (w : Wanted)
    (s s1 s2 s3 s' : Store) (links : Links) (vs : List ℕ) (v : ℕ)
    → AreLive a.depth s links → length es ≡ length xs → length vs ≡ length es
    → (opened : Children a (child q 0) s links s1 vs)
    → (made : Typed a (closed (fields_at xs (child q 0))) s1 opened.after s2 v)
    → Asked a (Same here (closed (fields_at xs (child q 0))) w) s2 made.after s3
    → WalkedEach real a es scope here (child q 0) 0 (children (child q 0) (length xs)) s3 made.after s'
    → Walked real a (Strict (RecordOf xs) (exprs_of es)) scope here q w s links s'

-- of a record with the field
abbrev pub WalksAccess : Type 0
WalksAccess =
    (real : Bool) (a : Around) (x : Name) (e : Expr) (scope : Scope) (here : Pos) (q : Place) (w : Wanted)
    (s s1 s2 s3 s4 s5 s' : Store) (links : Links) (rest field v : ℕ)
    → AreLive a.depth s links → Opened a (child q 1) s links s1 rest
    → Asked a (Lacks here (at (child q 1)) x) s1 ((rest, at (child q 1)) ∷ links) s2
    → Opened a (child (child q 2) 0) s2 ((rest, at (child q 1)) ∷ links) s3 field
    → (made : Typed a (open_record (x ∷ []) (child q 2) (at (child q 1))) s3
    ((field, at (child (child q 2) 0)) ∷ (rest, at (child q 1)) ∷ links) s4 v)
    → Walked real a e scope here (child (child q 0) 0) (open_record (x ∷ []) (child q 2) (at (child q 1))) s4 made.after
    s5
    → Asked a (Same here (at (child (child q 2) 0)) w) s5 made.after s'
    → Walked real a (Strict (Access x) (exprs_of (e ∷ []))) scope here q w s links s'

-- the record first, which has the fields; then their new values
abbrev pub WalksUpdate : Type 0
WalksUpdate =
    (real : Bool) (a : Around) (xs : List Name) (e : Expr) (es : List Expr) (scope : Scope) (here : Pos) (q : Place)
    (w : Wanted) (s s1 s2 s3 s4 s5 s6 s' : Store) (links : Links) (rest v : ℕ) (vs : List ℕ)
    → AreLive a.depth s links → length es ≡ length xs → length vs ≡ length xs
    → Walked real a e scope here (child (child q 0) 0) w s links s1 → Opened a (child q 1) s1 links s2 rest
    → Walk a none (lack_items here (at (child q 1)) xs) s2 ((rest, at (child q 1)) ∷ links) s3
    ((rest, at (child q 1)) ∷ links)
    → (opened : Children a (child q 2) s3 ((rest, at (child q 1)) ∷ links) s4 vs)
    → (made : Typed a (open_record xs (child q 2) (at (child q 1))) s4 opened.after s5 v)
    → Asked a (Same here (open_record xs (child q 2) (at (child q 1))) w) s5 made.after s6
    → WalkedEach real a es scope here (child q 0) 1 (children (child q 2) (length xs)) s6 made.after s'
    → Walked real a (Strict (Update xs) (exprs_of (e ∷ es))) scope here q w s links s'

-- a number
abbrev pub WalksNegate : Type 0
WalksNegate =
    (real : Bool) (a : Around) (e : Expr) (scope : Scope) (here : Pos) (q : Place) (w : Wanted) (s u s' : Store)
    (links : Links)
    → AreLive a.depth s links → Asked a (InClass here w Number) s links u
    → Walked real a e scope here (child (child q 0) 0) w u links s'
    → Walked real a (Strict Negate (exprs_of (e ∷ []))) scope here q w s links s'

-- what the operator is, and what it is wanted at; then come its parts
abbrev pub WalksBinary : Type 0
WalksBinary =
    (real : Bool) (a : Around) (pos : Pos) (op : Operator) (x y : Expr) (scope : Scope) (here : Pos) (q : Place)
    (w : Wanted) (s s1 s2 s3 s4 s5 s6 s7 s' : Store) (links : Links) (vs : List ℕ) (v is wanted : ℕ)
    → AreLive a.depth s links → length vs ≡ 2 → (opened : Children a (child q 0) s links s1 vs)
    → Opened a (child q 1) s1 opened.after s2 v
    → Walk a none (class_items pos (at (child q 1)) (operator_class op)) s2 ((v, at (child q 1)) ∷ opened.after) s3
    ((v, at (child q 1)) ∷ opened.after)
    → (one : Typed a (operator_type op (at (child q 1))) s3 ((v, at (child q 1)) ∷ opened.after) s4 is)
    → (two : Typed a (functions (children (child q 0) 2) w) s4 one.after s5 wanted)
    → Asked a (Same pos (operator_type op (at (child q 1))) (functions (children (child q 0) 2) w)) s5 two.after s6
    → Walked real a x scope here (child (child q 0) 0) (at (child (child q 0) 0)) s6 two.after s7
    → Walked real a y scope here (child (child q 0) 1) (at (child (child q 0) 1)) s7 two.after s'
    → Walked real a (Strict (Binary pos op) (exprs_of (x ∷ y ∷ []))) scope here q w s links s'
