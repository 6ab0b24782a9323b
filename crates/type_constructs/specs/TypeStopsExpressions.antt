-- Where an expression stops, from where one of its parts does: after the parts before it, whatever comes later.
use Rattle.std.specs.Prelude.{◌≡◌, ℕ, ◌+◌, List, [], ◌∷◌, ◌++◌, true, length}
use Rattle.elm_base.specs.declared.position.Pos.{Pos}
use Rattle.elm_canon.specs.declared.tree.Literal.TheVariants as literal
use Rattle.elm_canon.specs.declared.tree.Connective.{Connective}
use Rattle.elm_canon.specs.Tree.{Pattern, Expr, Is, Accessor, Apply, If, Logical, Let, Case}
use Rattle.elm_canon.specs.Tree.{Groups}
use Rattle.elm_canon.specs.Tree.{exprs_of, patterns_of, branches_of}
use Rattle.elm_type.specs.Types.{Name, function, functions, bool_type}
use Rattle.elm_type.specs.declared.class.Class.TheVariants.{Number}
use Rattle.type_items.specs.Items.{Place, child, Wanted, at, children, Item, Same, InClass, Lacks}
use Rattle.type_items.specs.Scopes.{Scope}
use Rattle.type_items.specs.Patterns.{open_record, parameter_types, bind_patterns}
use Rattle.type_items.specs.Patterns.{bind_pattern}
use Rattle.type_items.specs.Definitions.{list_definitions}
use Rattle.type_items.specs.Expressions.{Listing, function_items, items, each_items, branch_items}
use Rattle.type_items.specs.Expressions.{definitions}
use Rattle.type_store.specs.Store.{Store}
use Rattle.type_walks.specs.Regions.{none, below}
use Rattle.type_walks.specs.Links.{Links}
use Rattle.type_walks.specs.Walks.{Around, Walk}
use Rattle.type_constructs.specs.Passing.{NoSizes}
use Rattle.type_constructs.specs.Regions.{deep}
use Rattle.type_constructs.specs.Binding.{Children, Typed, Bound}
use Rattle.type_constructs.specs.Patterns.{Matched, MatchedEach}
use Rattle.type_items.specs.Items.{nonsense}
use Rattle.type_items.specs.Patterns.{pattern_items, patterns_items}
use Rattle.type_constructs.specs.Failing.{Bad, Fails}
use Rattle.type_constructs.specs.Stepping.{Step}
use Rattle.type_constructs.specs.Expressions.{Asked, Opened, Walked, WalkedEach, WalkedBranches}

-- a number is of no type of its class
abbrev pub FailsNumberClass : Type 0
FailsNumberClass =
    (a : Around) (n : _) (scope : Scope) (here : Pos) (q : Place) (w : Wanted) (s s1 s' : Store) (links : Links)
    (v : ℕ) (bad : Bad)
    → Opened a (child q 0) s links s1 v
    → Fails a s1 ((v, at (child q 0)) ∷ links) none (InClass here (at (child q 0)) Number ∷ []) bad s'
    → Fails a s links (below q) (items (Is (literal.Int n)) scope here q w) bad s'

-- a number is not wanted
abbrev pub FailsNumber : Type 0
FailsNumber =
    (a : Around) (n : _) (scope : Scope) (here : Pos) (q : Place) (w : Wanted) (s s1 s2 s' : Store) (links : Links)
    (v : ℕ) (bad : Bad)
    → Opened a (child q 0) s links s1 v
    → Asked a (InClass here (at (child q 0)) Number) s1 ((v, at (child q 0)) ∷ links) s2
    → Fails a s2 ((v, at (child q 0)) ∷ links) none (Same here (at (child q 0)) w ∷ []) bad s'
    → Fails a s links (below q) (items (Is (literal.Int n)) scope here q w) bad s'

-- a literal or a name has another type
abbrev pub FailsType : Type 0
FailsType =
    (a : Around) (t : Wanted) (here : Pos) (q : Place) (w : Wanted) (s u s' : Store) (links : Links) (v : ℕ)
    (bad : Bad)
    → (made : Typed a t s links u v)
    → Fails a u made.after none (Same here t w ∷ []) bad s'
    → Fails a s links (below q) (Same here t w ∷ []) bad s'

-- no copy of a name has the type
abbrev pub FailsCopy : Type 0
FailsCopy =
    (a : Around) (list : List Item) (t : Wanted) (here : Pos) (q : Place) (w : Wanted) (s u s' : Store)
    (links : Links) (v : ℕ) (bad : Bad)
    → NoSizes list
    → Walk a (below (child q 0)) list s links u ((v, t) ∷ links)
    → Fails a u ((v, t) ∷ links) none (Same here t w ∷ []) bad s'
    → Fails a s links (below q) (list ++ Same here t w ∷ []) bad s'

-- the rest of the record has the field
abbrev pub FailsAccessorLack : Type 0
FailsAccessorLack =
    (a : Around) (x : Name) (scope : Scope) (here : Pos) (q : Place) (w : Wanted) (s s1 s' : Store) (links : Links)
    (rest : ℕ) (bad : Bad)
    → Opened a (child q 0) s links s1 rest
    → Fails a s1 ((rest, at (child q 0)) ∷ links) none (Lacks here (at (child q 0)) x ∷ []) bad s'
    → Fails a s links (below q) (items (Accessor x) scope here q w) bad s'

-- no accessor is wanted
abbrev pub FailsAccessor : Type 0
FailsAccessor =
    (a : Around) (x : Name) (scope : Scope) (here : Pos) (q : Place) (w : Wanted) (s s1 s2 s3 s4 s' : Store)
    (links : Links) (rest field v : ℕ) (bad : Bad)
    → Opened a (child q 0) s links s1 rest
    → Asked a (Lacks here (at (child q 0)) x) s1 ((rest, at (child q 0)) ∷ links) s2
    → Opened a (child (child q 1) 0) s2 ((rest, at (child q 0)) ∷ links) s3 field
    → (made : Typed a (function (open_record (x ∷ []) (child q 1) (at (child q 0))) (at (child (child q 1) 0))) s3
    ((field, at (child (child q 1) 0)) ∷ (rest, at (child q 0)) ∷ links) s4 v)
    → Fails a s4 made.after none
    (Same here (function (open_record (x ∷ []) (child q 1) (at (child q 0))) (at (child (child q 1) 0))) w ∷ []) bad
    s'
    → Fails a s links (below q) (items (Accessor x) scope here q w) bad s'

-- no function of so many parameters is wanted
abbrev pub FailsFunction : Type 0
FailsFunction =
    (a : Around) (ps : List Pattern) (body : Listing) (scope : Scope) (here : Pos) (q : Place) (v : Wanted)
    (s s1 s2 s3 s' : Store) (links : Links) (vs : List ℕ) (result made_at : ℕ) (bad : Bad)
    → length vs ≡ length ps
    → (opened : Children a (child q 0) s links s1 vs)
    → Opened a (child q 1) s1 opened.after s2 result
    → (made : Typed a (functions (parameter_types (patterns_of ps) (child q 0)) (at (child q 1))) s2
    ((result, at (child q 1)) ∷ opened.after) s3 made_at)
    → Fails a s3 made.after none
    (Same here (functions (parameter_types (patterns_of ps) (child q 0)) (at (child q 1))) v ∷ []) bad s'
    → Fails a s links (below q) (function_items (patterns_of ps) body scope here q v) bad s'

-- its parameters stop
abbrev pub FailsParameters : Type 0
FailsParameters =
    (a : Around) (ps : List Pattern) (body : Listing) (scope : Scope) (here : Pos) (q : Place) (v : Wanted)
    (s s1 s2 s3 s4 s' : Store) (links : Links) (vs : List ℕ) (result made_at : ℕ) (bad : Bad)
    → length vs ≡ length ps
    → (opened : Children a (child q 0) s links s1 vs)
    → Opened a (child q 1) s1 opened.after s2 result
    → (made : Typed a (functions (parameter_types (patterns_of ps) (child q 0)) (at (child q 1))) s2
    ((result, at (child q 1)) ∷ opened.after) s3 made_at)
    → Asked a (Same here (functions (parameter_types (patterns_of ps) (child q 0)) (at (child q 1))) v) s3 made.after
    s4
    → Fails a s4 made.after (deep (child q 0) 0 (length ps))
    (patterns_items (patterns_of ps) scope.known here (child q 0) 0 (parameter_types (patterns_of ps) (child q 0)))
    bad s'
    → Fails a s links (below q) (function_items (patterns_of ps) body scope here q v) bad s'

-- its body stops
abbrev pub FailsBody : Type 0
FailsBody =
    (a : Around) (ps : List Pattern) (body : Listing) (scope : Scope) (here : Pos) (q : Place) (v : Wanted)
    (s s1 s2 s3 s4 s5 s' : Store) (links : Links) (vs : List ℕ) (result made_at : ℕ) (bound : List Bound) (bad : Bad)
    → length vs ≡ length ps
    → (opened : Children a (child q 0) s links s1 vs)
    → Opened a (child q 1) s1 opened.after s2 result
    → (made : Typed a (functions (parameter_types (patterns_of ps) (child q 0)) (at (child q 1))) s2
    ((result, at (child q 1)) ∷ opened.after) s3 made_at)
    → Asked a (Same here (functions (parameter_types (patterns_of ps) (child q 0)) (at (child q 1))) v) s3 made.after
    s4
    → (each : MatchedEach a ps scope.known here (child q 0) (parameter_types (patterns_of ps) (child q 0)) s4
    made.after s5 bound)
    → Fails a s5 each.after (below (child q 1))
    (body (bind_patterns (patterns_of ps) (child q 0) (parameter_types (patterns_of ps) (child q 0)) scope) here
    (child q 1) (at (child q 1))) bad s'
    → Fails a s links (below q) (function_items (patterns_of ps) body scope here q v) bad s'

-- what is applied stops
abbrev pub FailsApplied : Type 0
FailsApplied =
    (a : Around) (f : Expr) (es : List Expr) (scope : Scope) (here : Pos) (q : Place) (w : Wanted)
    (s s1 s2 s' : Store) (links : Links) (vs : List ℕ) (v : ℕ) (bad : Bad)
    → length vs ≡ length es
    → (opened : Children a (child q 1) s links s1 vs)
    → (made : Typed a (functions (children (child q 1) (length es)) w) s1 opened.after s2 v)
    → Fails a s2 made.after (below (child q 0))
    (items f scope here (child q 0) (functions (children (child q 1) (length es)) w)) bad s'
    → Fails a s links (below q) (items (Apply f (exprs_of es)) scope here q w) bad s'

-- its arguments stop
abbrev pub FailsArguments : Type 0
FailsArguments =
    (a : Around) (f : Expr) (es : List Expr) (scope : Scope) (here : Pos) (q : Place) (w : Wanted)
    (s s1 s2 s3 s' : Store) (links : Links) (vs : List ℕ) (v : ℕ) (bad : Bad)
    → length vs ≡ length es
    → (opened : Children a (child q 1) s links s1 vs)
    → (made : Typed a (functions (children (child q 1) (length es)) w) s1 opened.after s2 v)
    → Walked true a f scope here (child q 0) (functions (children (child q 1) (length es)) w) s2 made.after s3
    → Fails a s3 made.after (deep (child q 1) 0 (length es))
    (each_items (exprs_of es) scope here (child q 1) 0 (children (child q 1) (length es))) bad s'
    → Fails a s links (below q) (items (Apply f (exprs_of es)) scope here q w) bad s'

-- the test stops
abbrev pub FailsTest : Type 0
FailsTest =
    (a : Around) (c x y : Expr) (scope : Scope) (here : Pos) (q : Place) (w : Wanted) (s s1 s' : Store)
    (links : Links) (v : ℕ) (bad : Bad)
    → (made : Typed a bool_type s links s1 v)
    → Fails a s1 made.after (below (child q 0)) (items c scope here (child q 0) bool_type) bad s'
    → Fails a s links (below q) (items (If c x y) scope here q w) bad s'

-- what is chosen first stops
abbrev pub FailsThen : Type 0
FailsThen =
    (a : Around) (c x y : Expr) (scope : Scope) (here : Pos) (q : Place) (w : Wanted) (s s1 s2 s' : Store)
    (links : Links) (v : ℕ) (bad : Bad)
    → (made : Typed a bool_type s links s1 v)
    → Walked true a c scope here (child q 0) bool_type s1 made.after s2
    → Fails a s2 made.after (below (child q 1)) (items x scope here (child q 1) w) bad s'
    → Fails a s links (below q) (items (If c x y) scope here q w) bad s'

-- what is chosen otherwise stops
abbrev pub FailsElse : Type 0
FailsElse =
    (a : Around) (c x y : Expr) (scope : Scope) (here : Pos) (q : Place) (w : Wanted) (s s1 s2 s3 s' : Store)
    (links : Links) (v : ℕ) (bad : Bad)
    → (made : Typed a bool_type s links s1 v)
    → Walked true a c scope here (child q 0) bool_type s1 made.after s2
    → Walked true a x scope here (child q 1) w s2 made.after s3
    → Fails a s3 made.after (below (child q 2)) (items y scope here (child q 2) w) bad s'
    → Fails a s links (below q) (items (If c x y) scope here q w) bad s'

-- no Bool is wanted
abbrev pub FailsLogical : Type 0
FailsLogical =
    (a : Around) (pos : Pos) (op : Connective) (x y : Expr) (scope : Scope) (here : Pos) (q : Place) (w : Wanted)
    (s s1 s2 s3 s4 s' : Store) (links : Links) (left right is wanted : ℕ) (bad : Bad)
    → Opened a (child q 0) s links s1 left
    → Opened a (child q 1) s1 ((left, at (child q 0)) ∷ links) s2 right
    → (one : Typed a (functions (bool_type ∷ bool_type ∷ []) bool_type) s2
    ((right, at (child q 1)) ∷ (left, at (child q 0)) ∷ links) s3 is)
    → (two : Typed a (functions (at (child q 0) ∷ at (child q 1) ∷ []) w) s3 one.after s4 wanted)
    → Fails a s4 two.after none
    (Same pos (functions (bool_type ∷ bool_type ∷ []) bool_type) (functions (at (child q 0) ∷ at (child q 1) ∷ []) w)
    ∷ []) bad s'
    → Fails a s links (below q) (items (Logical pos op x y) scope here q w) bad s'

-- the left part stops
abbrev pub FailsLogicalLeft : Type 0
FailsLogicalLeft =
    (a : Around) (pos : Pos) (op : Connective) (x y : Expr) (scope : Scope) (here : Pos) (q : Place) (w : Wanted)
    (s s1 s2 s3 s4 s5 s' : Store) (links : Links) (left right is wanted : ℕ) (bad : Bad)
    → Opened a (child q 0) s links s1 left
    → Opened a (child q 1) s1 ((left, at (child q 0)) ∷ links) s2 right
    → (one : Typed a (functions (bool_type ∷ bool_type ∷ []) bool_type) s2
    ((right, at (child q 1)) ∷ (left, at (child q 0)) ∷ links) s3 is)
    → (two : Typed a (functions (at (child q 0) ∷ at (child q 1) ∷ []) w) s3 one.after s4 wanted)
    → Asked a
    (Same pos (functions (bool_type ∷ bool_type ∷ []) bool_type) (functions (at (child q 0) ∷ at (child q 1) ∷ []) w))
    s4 two.after s5
    → Fails a s5 two.after (below (child q 0)) (items x scope here (child q 0) (at (child q 0))) bad s'
    → Fails a s links (below q) (items (Logical pos op x y) scope here q w) bad s'

-- the right part stops
abbrev pub FailsLogicalRight : Type 0
FailsLogicalRight =
    (a : Around) (pos : Pos) (op : Connective) (x y : Expr) (scope : Scope) (here : Pos) (q : Place) (w : Wanted)
    (s s1 s2 s3 s4 s5 s6 s' : Store) (links : Links) (left right is wanted : ℕ) (bad : Bad)
    → Opened a (child q 0) s links s1 left
    → Opened a (child q 1) s1 ((left, at (child q 0)) ∷ links) s2 right
    → (one : Typed a (functions (bool_type ∷ bool_type ∷ []) bool_type) s2
    ((right, at (child q 1)) ∷ (left, at (child q 0)) ∷ links) s3 is)
    → (two : Typed a (functions (at (child q 0) ∷ at (child q 1) ∷ []) w) s3 one.after s4 wanted)
    → Asked a
    (Same pos (functions (bool_type ∷ bool_type ∷ []) bool_type) (functions (at (child q 0) ∷ at (child q 1) ∷ []) w))
    s4 two.after s5
    → Walked true a x scope here (child q 0) (at (child q 0)) s5 two.after s6
    → Fails a s6 two.after (below (child q 1)) (items y scope here (child q 1) (at (child q 1))) bad s'
    → Fails a s links (below q) (items (Logical pos op x y) scope here q w) bad s'

-- the subject stops
abbrev pub FailsSubject : Type 0
FailsSubject =
    (a : Around) (e : Expr) (bs : List (Pattern × Expr)) (scope : Scope) (here : Pos) (q : Place) (w : Wanted)
    (s s1 s' : Store) (links : Links) (v : ℕ) (bad : Bad)
    → Opened a (child q 0) s links s1 v
    → Fails a s1 ((v, at (child q 0)) ∷ links) (below (child q 0)) (items e scope here (child q 0) (at (child q 0)))
    bad s'
    → Fails a s links (below q) (items (Case e (branches_of bs)) scope here q w) bad s'

-- the branches stop
abbrev pub FailsBranches : Type 0
FailsBranches =
    (a : Around) (e : Expr) (bs : List (Pattern × Expr)) (scope : Scope) (here : Pos) (q : Place) (w : Wanted)
    (s s1 s2 s' : Store) (links : Links) (v : ℕ) (bad : Bad)
    → Opened a (child q 0) s links s1 v
    → Walked true a e scope here (child q 0) (at (child q 0)) s1 ((v, at (child q 0)) ∷ links) s2
    → Fails a s2 ((v, at (child q 0)) ∷ links) (deep (child q 1) 0 (length bs))
    (branch_items (branches_of bs) scope here (child q 1) 0 (at (child q 0)) w) bad s'
    → Fails a s links (below q) (items (Case e (branches_of bs)) scope here q w) bad s'

-- the definitions stop
abbrev pub FailsDefinitions : Type 0
FailsDefinitions =
    (a : Around) (gs : Groups) (e : Expr) (scope : Scope) (here : Pos) (q : Place) (w : Wanted) (s s' : Store)
    (links : Links) (bad : Bad)
    → Fails a s links (below (child q 0)) (list_definitions (definitions gs) scope (child q 0)).items bad s'
    → Fails a s links (below q) (items (Let gs e) scope here q w) bad s'

-- the body stops
abbrev pub FailsLetBody : Type 0
FailsLetBody =
    (a : Around) (gs : Groups) (e : Expr) (scope : Scope) (here : Pos) (q : Place) (w : Wanted) (s u s' : Store)
    (links between : Links) (bad : Bad)
    → Step true a (below (child q 0)) (list_definitions (definitions gs) scope (child q 0)).items s links u between
    → Fails a u between (below (child q 1))
    (items e (list_definitions (definitions gs) scope (child q 0)).scope here (child q 1) w) bad s'
    → Fails a s links (below q) (items (Let gs e) scope here q w) bad s'

-- ---- parts in turn

-- the next part stops
abbrev pub FailsNextPart : Type 0
FailsNextPart =
    (a : Around) (es : List Expr) (e : Expr) (more : List Expr) (scope : Scope) (here : Pos) (q : Place) (i j : ℕ)
    (ts : List Wanted) (t : Wanted) (us : List Wanted) (s u s' : Store) (links : Links) (bad : Bad)
    → length es ≡ length ts → i + length es ≡ j → WalkedEach true a es scope here q i ts s links u
    → Fails a u links (below (child q j)) (items e scope here (child q j) t) bad s'
    → Fails a s links (deep q i (length (es ++ e ∷ more)))
    (each_items (exprs_of (es ++ e ∷ more)) scope here q i (ts ++ t ∷ us)) bad s'

-- there are more parts than types
abbrev pub FailsMoreParts : Type 0
FailsMoreParts =
    (a : Around) (es : List Expr) (e : Expr) (more : List Expr) (scope : Scope) (here : Pos) (q : Place) (i : ℕ)
    (ts : List Wanted) (s u s' : Store) (links : Links) (bad : Bad)
    → length es ≡ length ts → WalkedEach true a es scope here q i ts s links u
    → Fails a u links none (nonsense here) bad s'
    → Fails a s links (deep q i (length (es ++ e ∷ more))) (each_items (exprs_of (es ++ e ∷ more)) scope here q i ts)
    bad s'

-- there are fewer
abbrev pub FailsFewerParts : Type 0
FailsFewerParts =
    (a : Around) (es : List Expr) (scope : Scope) (here : Pos) (q : Place) (i : ℕ) (ts : List Wanted) (t : Wanted)
    (us : List Wanted) (s u s' : Store) (links : Links) (bad : Bad)
    → length es ≡ length ts → WalkedEach true a es scope here q i ts s links u
    → Fails a u links none (nonsense here) bad s'
    → Fails a s links (deep q i (length es)) (each_items (exprs_of es) scope here q i (ts ++ t ∷ us)) bad s'

-- the pattern of the next branch stops
abbrev pub FailsBranchPattern : Type 0
FailsBranchPattern =
    (a : Around) (bs : List (Pattern × Expr)) (p : Pattern) (e : Expr) (more : List (Pattern × Expr)) (scope : Scope)
    (here : Pos) (q : Place) (t w : Wanted) (s u s' : Store) (links : Links) (bad : Bad)
    → WalkedBranches true a bs scope here q t w s links u
    → Fails a u links (below (child (child q (length bs)) 0))
    (pattern_items p scope.known here (child (child q (length bs)) 0) t) bad s'
    → Fails a s links (deep q 0 (length (bs ++ (p, e) ∷ more)))
    (branch_items (branches_of (bs ++ (p, e) ∷ more)) scope here q 0 t w) bad s'

-- its body stops
abbrev pub FailsBranchBody : Type 0
FailsBranchBody =
    (a : Around) (bs : List (Pattern × Expr)) (p : Pattern) (e : Expr) (more : List (Pattern × Expr)) (scope : Scope)
    (here : Pos) (q : Place) (t w : Wanted) (s u v s' : Store) (links : Links) (bound : List Bound) (bad : Bad)
    → WalkedBranches true a bs scope here q t w s links u
    → (matched : Matched a p scope.known here (child (child q (length bs)) 0) t u links v bound)
    → Fails a v matched.after (below (child (child q (length bs)) 1))
    (items e (bind_pattern p (child (child q (length bs)) 0) t scope) here (child (child q (length bs)) 1) w) bad s'
    → Fails a s links (deep q 0 (length (bs ++ (p, e) ∷ more)))
    (branch_items (branches_of (bs ++ (p, e) ∷ more)) scope here q 0 t w) bad s'
