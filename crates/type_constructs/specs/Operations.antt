-- Where an operation stops, from where one of its parts does: after the parts before it, whatever comes later.
use Rattle.std.specs.Prelude.{◌≡◌, ℕ, List, [], ◌∷◌, true, length, replicate}
use Rattle.elm_base.specs.declared.position.Pos.{Pos}
use Rattle.elm_canon.specs.declared.unions.Alternative.{Alternative}
use Rattle.elm_canon.specs.declared.tree.Operator.{Operator}
use Rattle.elm_canon.specs.Unions.{Union}
use Rattle.elm_canon.specs.Tree.{Expr, Strict}
use Rattle.elm_canon.specs.Tree.{TupleOf, ListOf, Build, RecordOf, Access, Update, Negate, Binary}
use Rattle.elm_canon.specs.Tree.{exprs_of}
use Rattle.elm_type.specs.Types.{Name, functions, tuple}
use Rattle.elm_type.specs.Types.{list_type}
use Rattle.elm_type.specs.Rows.{closed}
use Rattle.elm_type.specs.declared.class.Class.TheVariants.{Number}
use Rattle.type_items.specs.Items.{Place, child, Wanted, at, children, Same, InClass, Lacks, lack_items}
use Rattle.type_items.specs.Items.{class_items}
use Rattle.type_items.specs.Scopes.{Scope}
use Rattle.type_items.specs.Patterns.{shape, shape_items, fields_at, open_record}
use Rattle.type_items.specs.Operations.{operator_class, operator_type}
use Rattle.type_items.specs.Expressions.{items, each_items}
use Rattle.type_store.specs.Store.{Store}
use Rattle.type_walks.specs.Regions.{none, below}
use Rattle.type_walks.specs.Links.{Links}
use Rattle.type_walks.specs.Walks.{Around, Walk}
use Rattle.type_constructs.specs.Regions.{deep}
use Rattle.type_constructs.specs.Binding.{Children, Typed, Shaped}
use Rattle.type_constructs.specs.Failing.{Bad, Fails}
use Rattle.type_constructs.specs.Expressions.{Asked, Opened, Walked}

-- no tuple of so many parts is wanted
abbrev pub FailsTuple : Type 0
FailsTuple =
    (a : Around) (es : List Expr) (scope : Scope) (here : Pos) (q : Place) (w : Wanted) (s s1 s2 s' : Store)
    (links : Links) (vs : List ℕ) (v : ℕ) (bad : Bad)
    → length vs ≡ length es
    → (opened : Children a (child q 0) s links s1 vs)
    → (made : Typed a (tuple (children (child q 0) (length es))) s1 opened.after s2 v)
    → Fails a s2 made.after none (Same here (tuple (children (child q 0) (length es))) w ∷ []) bad s'
    → Fails a s links (below q) (items (Strict TupleOf (exprs_of es)) scope here q w) bad s'

-- its parts stop
abbrev pub FailsTupleParts : Type 0
FailsTupleParts =
    (a : Around) (es : List Expr) (scope : Scope) (here : Pos) (q : Place) (w : Wanted) (s s1 s2 s3 s' : Store)
    (links : Links) (vs : List ℕ) (v : ℕ) (bad : Bad)
    → length vs ≡ length es
    → (opened : Children a (child q 0) s links s1 vs)
    → (made : Typed a (tuple (children (child q 0) (length es))) s1 opened.after s2 v)
    → Asked a (Same here (tuple (children (child q 0) (length es))) w) s2 made.after s3
    → Fails a s3 made.after (deep (child q 0) 0 (length es))
    (each_items (exprs_of es) scope here (child q 0) 0 (children (child q 0) (length es))) bad s'
    → Fails a s links (below q) (items (Strict TupleOf (exprs_of es)) scope here q w) bad s'

-- no list is wanted
abbrev pub FailsList : Type 0
FailsList =
    (a : Around) (es : List Expr) (scope : Scope) (here : Pos) (q : Place) (w : Wanted) (s s1 s2 s' : Store)
    (links : Links) (item v : ℕ) (bad : Bad)
    → Opened a (child q 1) s links s1 item
    → (made : Typed a (list_type (at (child q 1))) s1 ((item, at (child q 1)) ∷ links) s2 v)
    → Fails a s2 made.after none (Same here (list_type (at (child q 1))) w ∷ []) bad s'
    → Fails a s links (below q) (items (Strict ListOf (exprs_of es)) scope here q w) bad s'

-- its items stop
abbrev pub FailsListParts : Type 0
FailsListParts =
    (a : Around) (es : List Expr) (scope : Scope) (here : Pos) (q : Place) (w : Wanted) (s s1 s2 s3 s' : Store)
    (links : Links) (item v : ℕ) (bad : Bad)
    → Opened a (child q 1) s links s1 item
    → (made : Typed a (list_type (at (child q 1))) s1 ((item, at (child q 1)) ∷ links) s2 v)
    → Asked a (Same here (list_type (at (child q 1))) w) s2 made.after s3
    → Fails a s3 made.after (deep (child q 0) 0 (length es))
    (each_items (exprs_of es) scope here (child q 0) 0 (replicate (length es) (at (child q 1)))) bad s'
    → Fails a s links (below q) (items (Strict ListOf (exprs_of es)) scope here q w) bad s'

-- what the constructor asks fails
abbrev pub FailsBuildShape : Type 0
FailsBuildShape =
    (a : Around) (pos : Pos) (u : Union) (c : Alternative) (es : List Expr) (scope : Scope) (here : Pos) (q : Place)
    (w : Wanted) (s s1 s' : Store) (links : Links) (vs : List ℕ) (bad : Bad)
    → length vs ≡ length es
    → (opened : Children a (child q 0) s links s1 vs)
    → Fails a s1 opened.after (below (child q 1)) (shape_items u c scope.known pos (child q 1)) bad s'
    → Fails a s links (below q) (items (Strict (Build pos u c) (exprs_of es)) scope here q w) bad s'

-- what it makes is not wanted, or of other fields
abbrev pub FailsBuild : Type 0
FailsBuild =
    (a : Around) (pos : Pos) (u : Union) (c : Alternative) (es : List Expr) (scope : Scope) (here : Pos) (q : Place)
    (w : Wanted) (s s1 s2 s3 s4 s' : Store) (links : Links) (vs parts : List ℕ) (result is wanted : ℕ) (bad : Bad)
    → length vs ≡ length es
    → (opened : Children a (child q 0) s links s1 vs)
    → (shaped : Shaped a (below (child q 1)) (shape_items u c scope.known pos (child q 1))
    (shape u c scope.known (child q 1)) s1 opened.after s2 result parts)
    → (one : Typed a (functions (shape u c scope.known (child q 1)).parts (shape u c scope.known (child q 1)).result)
    s2 shaped.after s3 is)
    → (two : Typed a (functions (children (child q 0) (length es)) w) s3 one.after s4 wanted)
    → Fails a s4 two.after none
    (Same pos (functions (shape u c scope.known (child q 1)).parts (shape u c scope.known (child q 1)).result)
    (functions (children (child q 0) (length es)) w) ∷ []) bad s'
    → Fails a s links (below q) (items (Strict (Build pos u c) (exprs_of es)) scope here q w) bad s'

-- its parts stop
abbrev pub FailsBuildParts : Type 0
FailsBuildParts =
    (a : Around) (pos : Pos) (u : Union) (c : Alternative) (es : List Expr) (scope : Scope) (here : Pos) (q : Place)
    (w : Wanted) (s s1 s2 s3 s4 s5 s' : Store) (links : Links) (vs parts : List ℕ) (result is wanted : ℕ) (bad : Bad)
    → length vs ≡ length es
    → (opened : Children a (child q 0) s links s1 vs)
    → (shaped : Shaped a (below (child q 1)) (shape_items u c scope.known pos (child q 1))
    (shape u c scope.known (child q 1)) s1 opened.after s2 result parts)
    → (one : Typed a (functions (shape u c scope.known (child q 1)).parts (shape u c scope.known (child q 1)).result)
    s2 shaped.after s3 is)
    → (two : Typed a (functions (children (child q 0) (length es)) w) s3 one.after s4 wanted)
    → Asked a
    (Same pos (functions (shape u c scope.known (child q 1)).parts (shape u c scope.known (child q 1)).result)
    (functions (children (child q 0) (length es)) w)) s4 two.after s5
    → Fails a s5 two.after (deep (child q 0) 0 (length es))
    (each_items (exprs_of es) scope here (child q 0) 0 (children (child q 0) (length es))) bad s'
    → Fails a s links (below q) (items (Strict (Build pos u c) (exprs_of es)) scope here q w) bad s'

-- no record of these fields is wanted
abbrev pub FailsRecord : Type 0
FailsRecord =
    (a : Around) (xs : List Name) (es : List Expr) (scope : Scope) (here : Pos) (q : Place) (w : Wanted)
    (s s1 s2 s' : Store) (links : Links) (vs : List ℕ) (v : ℕ) (bad : Bad)
    → length es ≡ length xs
    → length vs ≡ length es
    → (opened : Children a (child q 0) s links s1 vs)
    → (made : Typed a (closed (fields_at xs (child q 0))) s1 opened.after s2 v)
    → Fails a s2 made.after none (Same here (closed (fields_at xs (child q 0))) w ∷ []) bad s'
    → Fails a s links (below q) (items (Strict (RecordOf xs) (exprs_of es)) scope here q w) bad s'

-- its parts stop
abbrev pub FailsRecordParts : Type 0
FailsRecordParts =
    (a : Around) (xs : List Name) (es : List Expr) (scope : Scope) (here : Pos) (q : Place) (w : Wanted)
    (s s1 s2 s3 s' : Store) (links : Links) (vs : List ℕ) (v : ℕ) (bad : Bad)
    → length es ≡ length xs
    → length vs ≡ length es
    → (opened : Children a (child q 0) s links s1 vs)
    → (made : Typed a (closed (fields_at xs (child q 0))) s1 opened.after s2 v)
    → Asked a (Same here (closed (fields_at xs (child q 0))) w) s2 made.after s3
    → Fails a s3 made.after (deep (child q 0) 0 (length es))
    (each_items (exprs_of es) scope here (child q 0) 0 (children (child q 0) (length xs))) bad s'
    → Fails a s links (below q) (items (Strict (RecordOf xs) (exprs_of es)) scope here q w) bad s'

-- the rest of the record has the field
abbrev pub FailsAccessLack : Type 0
FailsAccessLack =
    (a : Around) (x : Name) (e : Expr) (scope : Scope) (here : Pos) (q : Place) (w : Wanted) (s s1 s' : Store)
    (links : Links) (rest : ℕ) (bad : Bad)
    → Opened a (child q 1) s links s1 rest
    → Fails a s1 ((rest, at (child q 1)) ∷ links) none (Lacks here (at (child q 1)) x ∷ []) bad s'
    → Fails a s links (below q) (items (Strict (Access x) (exprs_of (e ∷ []))) scope here q w) bad s'

-- the record stops
abbrev pub FailsAccessed : Type 0
FailsAccessed =
    (a : Around) (x : Name) (e : Expr) (scope : Scope) (here : Pos) (q : Place) (w : Wanted)
    (s s1 s2 s3 s4 s' : Store) (links : Links) (rest field v : ℕ) (bad : Bad)
    → Opened a (child q 1) s links s1 rest
    → Asked a (Lacks here (at (child q 1)) x) s1 ((rest, at (child q 1)) ∷ links) s2
    → Opened a (child (child q 2) 0) s2 ((rest, at (child q 1)) ∷ links) s3 field
    → (made : Typed a (open_record (x ∷ []) (child q 2) (at (child q 1))) s3
    ((field, at (child (child q 2) 0)) ∷ (rest, at (child q 1)) ∷ links) s4 v)
    → Fails a s4 made.after (below (child (child q 0) 0))
    (items e scope here (child (child q 0) 0) (open_record (x ∷ []) (child q 2) (at (child q 1)))) bad s'
    → Fails a s links (below q) (items (Strict (Access x) (exprs_of (e ∷ []))) scope here q w) bad s'

-- the field has another type
abbrev pub FailsAccess : Type 0
FailsAccess =
    (a : Around) (x : Name) (e : Expr) (scope : Scope) (here : Pos) (q : Place) (w : Wanted)
    (s s1 s2 s3 s4 s5 s' : Store) (links : Links) (rest field v : ℕ) (bad : Bad)
    → Opened a (child q 1) s links s1 rest
    → Asked a (Lacks here (at (child q 1)) x) s1 ((rest, at (child q 1)) ∷ links) s2
    → Opened a (child (child q 2) 0) s2 ((rest, at (child q 1)) ∷ links) s3 field
    → (made : Typed a (open_record (x ∷ []) (child q 2) (at (child q 1))) s3
    ((field, at (child (child q 2) 0)) ∷ (rest, at (child q 1)) ∷ links) s4 v)
    → Walked true a e scope here (child (child q 0) 0) (open_record (x ∷ []) (child q 2) (at (child q 1))) s4
    made.after s5
    → Fails a s5 made.after none (Same here (at (child (child q 2) 0)) w ∷ []) bad s'
    → Fails a s links (below q) (items (Strict (Access x) (exprs_of (e ∷ []))) scope here q w) bad s'

-- the record stops
abbrev pub FailsUpdated : Type 0
FailsUpdated =
    (a : Around) (xs : List Name) (e : Expr) (es : List Expr) (scope : Scope) (here : Pos) (q : Place) (w : Wanted)
    (s s' : Store) (links : Links) (vs : List ℕ) (bad : Bad)
    → length es ≡ length xs
    → length vs ≡ length xs
    → Fails a s links (below (child (child q 0) 0)) (items e scope here (child (child q 0) 0) w) bad s'
    → Fails a s links (below q) (items (Strict (Update xs) (exprs_of (e ∷ es))) scope here q w) bad s'

-- the rest of the record has one of the fields
abbrev pub FailsUpdateLack : Type 0
FailsUpdateLack =
    (a : Around) (xs : List Name) (e : Expr) (es : List Expr) (scope : Scope) (here : Pos) (q : Place) (w : Wanted)
    (s s1 s2 s' : Store) (links : Links) (rest : ℕ) (vs : List ℕ) (bad : Bad)
    → length es ≡ length xs
    → length vs ≡ length xs
    → Walked true a e scope here (child (child q 0) 0) w s links s1
    → Opened a (child q 1) s1 links s2 rest
    → Fails a s2 ((rest, at (child q 1)) ∷ links) none (lack_items here (at (child q 1)) xs) bad s'
    → Fails a s links (below q) (items (Strict (Update xs) (exprs_of (e ∷ es))) scope here q w) bad s'

-- it is no record with the fields
abbrev pub FailsUpdate : Type 0
FailsUpdate =
    (a : Around) (xs : List Name) (e : Expr) (es : List Expr) (scope : Scope) (here : Pos) (q : Place) (w : Wanted)
    (s s1 s2 s3 s4 s5 s' : Store) (links : Links) (rest v : ℕ) (vs : List ℕ) (bad : Bad)
    → length es ≡ length xs
    → length vs ≡ length xs
    → Walked true a e scope here (child (child q 0) 0) w s links s1
    → Opened a (child q 1) s1 links s2 rest
    → Walk a none (lack_items here (at (child q 1)) xs) s2 ((rest, at (child q 1)) ∷ links) s3
    ((rest, at (child q 1)) ∷ links)
    → (opened : Children a (child q 2) s3 ((rest, at (child q 1)) ∷ links) s4 vs)
    → (made : Typed a (open_record xs (child q 2) (at (child q 1))) s4 opened.after s5 v)
    → Fails a s5 made.after none (Same here (open_record xs (child q 2) (at (child q 1))) w ∷ []) bad s'
    → Fails a s links (below q) (items (Strict (Update xs) (exprs_of (e ∷ es))) scope here q w) bad s'

-- the new values stop
abbrev pub FailsUpdateParts : Type 0
FailsUpdateParts =
    (a : Around) (xs : List Name) (e : Expr) (es : List Expr) (scope : Scope) (here : Pos) (q : Place) (w : Wanted)
    (s s1 s2 s3 s4 s5 s6 s' : Store) (links : Links) (rest v : ℕ) (vs : List ℕ) (bad : Bad)
    → length es ≡ length xs
    → length vs ≡ length xs
    → Walked true a e scope here (child (child q 0) 0) w s links s1
    → Opened a (child q 1) s1 links s2 rest
    → Walk a none (lack_items here (at (child q 1)) xs) s2 ((rest, at (child q 1)) ∷ links) s3
    ((rest, at (child q 1)) ∷ links)
    → (opened : Children a (child q 2) s3 ((rest, at (child q 1)) ∷ links) s4 vs)
    → (made : Typed a (open_record xs (child q 2) (at (child q 1))) s4 opened.after s5 v)
    → Asked a (Same here (open_record xs (child q 2) (at (child q 1))) w) s5 made.after s6
    → Fails a s6 made.after (deep (child q 0) 1 (length es))
    (each_items (exprs_of es) scope here (child q 0) 1 (children (child q 2) (length xs))) bad s'
    → Fails a s links (below q) (items (Strict (Update xs) (exprs_of (e ∷ es))) scope here q w) bad s'

-- no number is wanted
abbrev pub FailsNegate : Type 0
FailsNegate =
    (a : Around) (e : Expr) (scope : Scope) (here : Pos) (q : Place) (w : Wanted) (s s' : Store) (links : Links)
    (bad : Bad)
    → Fails a s links none (InClass here w Number ∷ []) bad s'
    → Fails a s links (below q) (items (Strict Negate (exprs_of (e ∷ []))) scope here q w) bad s'

-- the operand stops
abbrev pub FailsNegated : Type 0
FailsNegated =
    (a : Around) (e : Expr) (scope : Scope) (here : Pos) (q : Place) (w : Wanted) (s u s' : Store) (links : Links)
    (bad : Bad)
    → Asked a (InClass here w Number) s links u
    → Fails a u links (below (child (child q 0) 0)) (items e scope here (child (child q 0) 0) w) bad s'
    → Fails a s links (below q) (items (Strict Negate (exprs_of (e ∷ []))) scope here q w) bad s'

-- the operands are of no type of the class
abbrev pub FailsBinaryClass : Type 0
FailsBinaryClass =
    (a : Around) (pos : Pos) (op : Operator) (x y : Expr) (scope : Scope) (here : Pos) (q : Place) (w : Wanted)
    (s s1 s2 s' : Store) (links : Links) (vs : List ℕ) (v : ℕ) (bad : Bad)
    → length vs ≡ 2
    → (opened : Children a (child q 0) s links s1 vs)
    → Opened a (child q 1) s1 opened.after s2 v
    → Fails a s2 ((v, at (child q 1)) ∷ opened.after) none (class_items pos (at (child q 1)) (operator_class op)) bad
    s'
    → Fails a s links (below q) (items (Strict (Binary pos op) (exprs_of (x ∷ y ∷ []))) scope here q w) bad s'

-- the operator is not wanted
abbrev pub FailsBinary : Type 0
FailsBinary =
    (a : Around) (pos : Pos) (op : Operator) (x y : Expr) (scope : Scope) (here : Pos) (q : Place) (w : Wanted)
    (s s1 s2 s3 s4 s5 s' : Store) (links : Links) (vs : List ℕ) (v is wanted : ℕ) (bad : Bad)
    → length vs ≡ 2
    → (opened : Children a (child q 0) s links s1 vs)
    → Opened a (child q 1) s1 opened.after s2 v
    → Walk a none (class_items pos (at (child q 1)) (operator_class op)) s2 ((v, at (child q 1)) ∷ opened.after) s3
    ((v, at (child q 1)) ∷ opened.after)
    → (one : Typed a (operator_type op (at (child q 1))) s3 ((v, at (child q 1)) ∷ opened.after) s4 is)
    → (two : Typed a (functions (children (child q 0) 2) w) s4 one.after s5 wanted)
    → Fails a s5 two.after none
    (Same pos (operator_type op (at (child q 1))) (functions (children (child q 0) 2) w) ∷ []) bad s'
    → Fails a s links (below q) (items (Strict (Binary pos op) (exprs_of (x ∷ y ∷ []))) scope here q w) bad s'

-- the left operand stops
abbrev pub FailsBinaryLeft : Type 0
FailsBinaryLeft =
    (a : Around) (pos : Pos) (op : Operator) (x y : Expr) (scope : Scope) (here : Pos) (q : Place) (w : Wanted)
    (s s1 s2 s3 s4 s5 s6 s' : Store) (links : Links) (vs : List ℕ) (v is wanted : ℕ) (bad : Bad)
    → length vs ≡ 2
    → (opened : Children a (child q 0) s links s1 vs)
    → Opened a (child q 1) s1 opened.after s2 v
    → Walk a none (class_items pos (at (child q 1)) (operator_class op)) s2 ((v, at (child q 1)) ∷ opened.after) s3
    ((v, at (child q 1)) ∷ opened.after)
    → (one : Typed a (operator_type op (at (child q 1))) s3 ((v, at (child q 1)) ∷ opened.after) s4 is)
    → (two : Typed a (functions (children (child q 0) 2) w) s4 one.after s5 wanted)
    → Asked a (Same pos (operator_type op (at (child q 1))) (functions (children (child q 0) 2) w)) s5 two.after s6
    → Fails a s6 two.after (below (child (child q 0) 0))
    (items x scope here (child (child q 0) 0) (at (child (child q 0) 0))) bad s'
    → Fails a s links (below q) (items (Strict (Binary pos op) (exprs_of (x ∷ y ∷ []))) scope here q w) bad s'

-- the right operand stops
abbrev pub FailsBinaryRight : Type 0
FailsBinaryRight =
    (a : Around) (pos : Pos) (op : Operator) (x y : Expr) (scope : Scope) (here : Pos) (q : Place) (w : Wanted)
    (s s1 s2 s3 s4 s5 s6 s7 s' : Store) (links : Links) (vs : List ℕ) (v is wanted : ℕ) (bad : Bad)
    → length vs ≡ 2
    → (opened : Children a (child q 0) s links s1 vs)
    → Opened a (child q 1) s1 opened.after s2 v
    → Walk a none (class_items pos (at (child q 1)) (operator_class op)) s2 ((v, at (child q 1)) ∷ opened.after) s3
    ((v, at (child q 1)) ∷ opened.after)
    → (one : Typed a (operator_type op (at (child q 1))) s3 ((v, at (child q 1)) ∷ opened.after) s4 is)
    → (two : Typed a (functions (children (child q 0) 2) w) s4 one.after s5 wanted)
    → Asked a (Same pos (operator_type op (at (child q 1))) (functions (children (child q 0) 2) w)) s5 two.after s6
    → Walked true a x scope here (child (child q 0) 0) (at (child (child q 0) 0)) s6 two.after s7
    → Fails a s7 two.after (below (child (child q 0) 1))
    (items y scope here (child (child q 0) 1) (at (child (child q 0) 1))) bad s'
    → Fails a s links (below q) (items (Strict (Binary pos op) (exprs_of (x ∷ y ∷ []))) scope here q w) bad s'
