-- The walk of each pattern, from those of its parts.
use Rattle.std.specs.Prelude.{◌≡◌, ℕ, zero, suc, List, [], ◌∷◌, ◌++◌, length}
use Rattle.elm_base.specs.declared.position.Pos.{Pos}
use Rattle.elm_canon.specs.declared.unions.Alternative.{Alternative}
use Rattle.elm_canon.specs.declared.tree.Literal.{Literal}
use Rattle.elm_canon.specs.Unions.{Union, TupleUnion, ListUnion}
use Rattle.elm_canon.specs.Tree.{Pattern, Anything, Named, As, Exactly, Construct, FieldsOf, LocatedPattern}
use Rattle.elm_canon.specs.Tree.{patterns_of}
use Rattle.elm_type.specs.Types.{Name, tuple, list_type}
use Rattle.type_items.specs.Items.{Place, child, Wanted, at, children, Same, lack_items}
use Rattle.type_items.specs.Scopes.{Known}
use Rattle.type_items.specs.Patterns.{shape, shape_items, literal_type, open_record, pattern_items, patterns_items}
use Rattle.type_items.specs.Patterns.{pattern_names, patterns_names}
use Rattle.type_store.specs.Store.{Store}
use Rattle.type_walks.specs.Regions.{none, only, below}
use Rattle.type_walks.specs.Links.{Links, AreLive, Has}
use Rattle.type_walks.specs.Walks.{Around, Walk}
use Rattle.type_constructs.specs.Regions.{deep}
use Rattle.type_constructs.specs.Binding.{Children, Typed, Shaped, Bound, Binding}

-- a pattern was walked at a place, for values of the type t
abbrev pub Matched : Around → Pattern → Known → Pos → Place → Wanted → Store → Links → Store → List Bound → Type 0
Matched a p known here q t s links s' bound =
    Binding a (below q) (pattern_items p known here q t) s links s' bound (pattern_names p known q t [])

-- patterns were walked at the children of a place, from 0 on, each for values of its type
abbrev pub MatchedEach : Around → List Pattern → Known → Pos → Place → List Wanted → Store → Links → Store → List Bound
    → Type 0
MatchedEach a ps known here q ts s links s' bound =
    Binding a (deep q 0 (length ps)) (patterns_items (patterns_of ps) known here q 0 ts) s links s' bound
    (patterns_names (patterns_of ps) known q 0 ts [])

-- ---- patterns without parts

abbrev pub MatchesAnything : Type 0
MatchesAnything =
    (a : Around) (known : Known) (here : Pos) (q : Place) (t : Wanted) (s : Store) (links : Links)
    → Matched a Anything known here q t s links s []

abbrev pub MatchesName : Type 0
MatchesName =
    (a : Around) (x : Name) (known : Known) (here : Pos) (q : Place) (t : Wanted) (s : Store) (links : Links) (v : ℕ)
    → Has links v t → Matched a (Named x) known here q t s links s ((x, v) ∷ [])

-- the literal's type is made, and is the type of the values
abbrev pub MatchesLiteral : Type 0
MatchesLiteral =
    (a : Around) (l : Literal) (known : Known) (here : Pos) (q : Place) (t : Wanted) (s u s' : Store) (links : Links)
    (v : ℕ)
    → AreLive a.depth s links → (made : Typed a (literal_type l) s links u v)
    → Walk a none (Same here (literal_type l) t ∷ []) u made.after s' made.after
    → Matched a (Exactly l) known here q t s links s' []

-- names with variables, before others; the last is the first
abbrev pub bound_before : List Name → List ℕ → List Bound → List Bound
bound_before [] vs rest = rest
bound_before (x ∷ xs) [] rest = rest
bound_before (x ∷ xs) (v ∷ vs) rest = bound_before xs vs ((x, v) ∷ rest)

-- each field has a variable; the rest is a record without them
abbrev pub MatchesFields : Type 0
MatchesFields =
    (a : Around) (xs : List Name) (known : Known) (here : Pos) (q : Place) (t : Wanted) (s s1 s2 s3 s4 s' : Store)
    (links : Links) (rest : ℕ) (fields : List ℕ) (v : ℕ)
    → AreLive a.depth s links
    → Walk a (only (child q 0)) [] s links s1 ((rest, at (child q 0)) ∷ links)
    → Walk a none (lack_items here (at (child q 0)) xs) s1 ((rest, at (child q 0)) ∷ links) s2
    ((rest, at (child q 0)) ∷ links)
    → (opened : Children a (child q 1) s2 ((rest, at (child q 0)) ∷ links) s3 fields) → length fields ≡ length xs
    → (made : Typed a (open_record xs (child q 1) (at (child q 0))) s3 opened.after s4 v)
    → Walk a none (Same here (open_record xs (child q 1) (at (child q 0))) t ∷ []) s4 made.after s' made.after
    → Matched a (FieldsOf xs) known here q t s links s' (bound_before xs fields [])

-- ---- patterns with parts

abbrev pub MatchesAs : Type 0
MatchesAs =
    (a : Around) (p : Pattern) (x : Name) (known : Known) (here : Pos) (q : Place) (t : Wanted) (s s' : Store)
    (links : Links) (v : ℕ) (bound : List Bound)
    → Has links v t → Matched a p known here q t s links s' bound
    → Matched a (As p x) known here q t s links s' ((x, v) ∷ bound)

abbrev pub MatchesLocated : Type 0
MatchesLocated =
    (a : Around) (pos : Pos) (p : Pattern) (known : Known) (here : Pos) (q : Place) (t : Wanted) (s s' : Store)
    (links : Links) (bound : List Bound)
    → Matched a p known pos q t s links s' bound → Matched a (LocatedPattern pos p) known here q t s links s' bound

-- what the constructor makes is of the type; then come its parts
abbrev pub MatchesConstructor : Type 0
MatchesConstructor =
    (a : Around) (u : Union) (c : Alternative) (ps : List Pattern) (known : Known) (here : Pos) (q : Place) (t : Wanted)
    (s s1 s2 s' : Store) (links : Links) (result : ℕ) (parts : List ℕ) (bound : List Bound)
    → AreLive a.depth s links
    → (made : Shaped a (below (child q 0)) (shape_items u c known here (child q 0)) (shape u c known (child q 0)) s
    links s1 result parts)
    → Walk a none (Same here (shape u c known (child q 0)).result t ∷ []) s1 made.after s2 made.after
    → MatchedEach a ps known here (child q 1) (shape u c known (child q 0)).parts s2 made.after s' bound
    → Matched a (Construct u c (patterns_of ps)) known here q t s links s' bound

-- ---- constructors that are not declared

-- a tuple of so many parts
abbrev pub ShapesTuple : Type 0
ShapesTuple =
    (a : Around) (c : Alternative) (known : Known) (here : Pos) (q : Place) (s u s' : Store) (links : Links)
    (vs : List ℕ) (v : ℕ)
    → AreLive a.depth s links → (opened : Children a q s links u vs)
    → Typed a (tuple (children q (length vs))) u opened.after s' v
    → Shaped a (below q) (shape_items (TupleUnion (length vs)) c known here q)
    (shape (TupleUnion (length vs)) c known q) s links s' v vs

-- the parts of `[]` and `::`: the item, and the list
abbrev pub list_slots : ℕ → ℕ → ℕ → List ℕ
list_slots zero item list = []
list_slots (suc n) item list = item ∷ list ∷ []

abbrev pub ShapesList : Type 0
ShapesList =
    (a : Around) (c : Alternative) (known : Known) (here : Pos) (q : Place) (s u s' : Store) (links : Links)
    (item list : ℕ)
    → AreLive a.depth s links → Walk a (only (child q 0)) [] s links u ((item, at (child q 0)) ∷ links)
    → Typed a (list_type (at (child q 0))) u ((item, at (child q 0)) ∷ links) s' list
    → Shaped a (below q) (shape_items ListUnion c known here q) (shape ListUnion c known q) s links s' list
    (list_slots c.arity item list)

-- ---- patterns at the children of a place, in turn

abbrev pub MatchesNone : Type 0
MatchesNone =
    (a : Around) (known : Known) (here : Pos) (q : Place) (s : Store) (links : Links)
    → MatchedEach a [] known here q [] s links s []

-- one more
abbrev pub MatchesOneMore : Type 0
MatchesOneMore =
    (a : Around) (ps : List Pattern) (p : Pattern) (known : Known) (here : Pos) (q : Place) (ts : List Wanted)
    (t : Wanted) (s u s' : Store) (links : Links) (bound more : List Bound)
    → AreLive a.depth s links → length ps ≡ length ts
    → (first : MatchedEach a ps known here q ts s links u bound)
    → Matched a p known here (child q (length ps)) t u first.after s' more
    → MatchedEach a (ps ++ p ∷ []) known here q (ts ++ t ∷ []) s links s' (more ++ bound)
