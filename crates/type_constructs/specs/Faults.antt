-- Where a pattern or an expression stops, from where one of its parts does.
use Rattle.std.specs.Prelude.{◌≡◌, ℕ, List, [], ◌∷◌, ◌++◌, length}
use Rattle.elm_base.specs.declared.position.Pos.{Pos}
use Rattle.elm_canon.specs.declared.unions.Alternative.{Alternative}
use Rattle.elm_canon.specs.declared.tree.Literal.{Literal}
use Rattle.elm_canon.specs.Unions.{Union}
use Rattle.elm_canon.specs.Tree.{Pattern, Exactly, Construct, FieldsOf, patterns_of}
use Rattle.elm_type.specs.Types.{Name}
use Rattle.type_items.specs.Items.{Place, child, Wanted, at, Same, lack_items, nonsense}
use Rattle.type_items.specs.Scopes.{Known}
use Rattle.type_items.specs.Patterns.{shape, shape_items, literal_type, open_record, pattern_items, patterns_items}
use Rattle.type_store.specs.Store.{Store}
use Rattle.type_walks.specs.Regions.{none, below}
use Rattle.type_walks.specs.Links.{Links}
use Rattle.type_walks.specs.Walks.{Around, Walk}
use Rattle.type_constructs.specs.Failing.{Bad, Fails}
use Rattle.type_constructs.specs.Regions.{deep}
use Rattle.type_constructs.specs.Binding.{Children, Typed, Shaped, Bound}
use Rattle.type_constructs.specs.Patterns.{MatchedEach}
use Rattle.type_constructs.specs.Expressions.{Opened}

-- a pattern stops
abbrev pub MatchFails : Around → Pattern → Known → Pos → Place → Wanted → Store → Links → Bad → Store → Type 0
MatchFails a p known here q t s links bad s' = Fails a s links (below q) (pattern_items p known here q t) bad s'

-- patterns at the children of a place stop
abbrev pub EachMatchFails : Around → List Pattern → Known → Pos → Place → List Wanted → Store → Links → Bad → Store
    → Type 0
EachMatchFails a ps known here q ts s links bad s' =
    Fails a s links (deep q 0 (length ps)) (patterns_items (patterns_of ps) known here q 0 ts) bad s'

-- the literal's type is none of the values
abbrev pub FailsLiteral : Type 0
FailsLiteral =
    (a : Around) (l : Literal) (known : Known) (here : Pos) (q : Place) (t : Wanted) (s u s' : Store) (links : Links)
    (v : ℕ) (bad : Bad)
    → (made : Typed a (literal_type l) s links u v)
    → Fails a u made.after none (Same here (literal_type l) t ∷ []) bad s'
    → MatchFails a (Exactly l) known here q t s links bad s'

-- a type lacks one of the fields
abbrev pub FailsFieldsLack : Type 0
FailsFieldsLack =
    (a : Around) (xs : List Name) (known : Known) (here : Pos) (q : Place) (t : Wanted) (s s1 s' : Store)
    (links : Links) (rest : ℕ) (bad : Bad)
    → Opened a (child q 0) s links s1 rest
    → Fails a s1 ((rest, at (child q 0)) ∷ links) none (lack_items here (at (child q 0)) xs) bad s'
    → MatchFails a (FieldsOf xs) known here q t s links bad s'

-- the values have not the type of a record with the fields
abbrev pub FailsFields : Type 0
FailsFields =
    (a : Around) (xs : List Name) (known : Known) (here : Pos) (q : Place) (t : Wanted) (s s1 s2 s3 s4 s' : Store)
    (links : Links) (rest : ℕ) (fields : List ℕ) (v : ℕ) (bad : Bad)
    → Opened a (child q 0) s links s1 rest
    → Walk a none (lack_items here (at (child q 0)) xs) s1 ((rest, at (child q 0)) ∷ links) s2
    ((rest, at (child q 0)) ∷ links)
    → (opened : Children a (child q 1) s2 ((rest, at (child q 0)) ∷ links) s3 fields)
    → (made : Typed a (open_record xs (child q 1) (at (child q 0))) s3 opened.after s4 v)
    → Fails a s4 made.after none (Same here (open_record xs (child q 1) (at (child q 0))) t ∷ []) bad s'
    → MatchFails a (FieldsOf xs) known here q t s links bad s'

-- what the constructor asks fails
abbrev pub FailsShape : Type 0
FailsShape =
    (a : Around) (u : Union) (c : Alternative) (ps : List Pattern) (known : Known) (here : Pos) (q : Place) (t : Wanted)
    (s s' : Store) (links : Links) (bad : Bad)
    → Fails a s links (below (child q 0)) (shape_items u c known here (child q 0)) bad s'
    → MatchFails a (Construct u c (patterns_of ps)) known here q t s links bad s'

-- what it makes is none of the values
abbrev pub FailsConstructor : Type 0
FailsConstructor =
    (a : Around) (u : Union) (c : Alternative) (ps : List Pattern) (known : Known) (here : Pos) (q : Place) (t : Wanted)
    (s s1 s' : Store) (links : Links) (result : ℕ) (parts : List ℕ) (bad : Bad)
    → (made : Shaped a (below (child q 0)) (shape_items u c known here (child q 0)) (shape u c known (child q 0)) s
    links s1 result parts)
    → Fails a s1 made.after none (Same here (shape u c known (child q 0)).result t ∷ []) bad s'
    → MatchFails a (Construct u c (patterns_of ps)) known here q t s links bad s'

-- its parts stop
abbrev pub FailsParts : Type 0
FailsParts =
    (a : Around) (u : Union) (c : Alternative) (ps : List Pattern) (known : Known) (here : Pos) (q : Place) (t : Wanted)
    (s s1 s2 s' : Store) (links : Links) (result : ℕ) (parts : List ℕ) (bad : Bad)
    → (made : Shaped a (below (child q 0)) (shape_items u c known here (child q 0)) (shape u c known (child q 0)) s
    links s1 result parts)
    → Walk a none (Same here (shape u c known (child q 0)).result t ∷ []) s1 made.after s2 made.after
    → EachMatchFails a ps known here (child q 1) (shape u c known (child q 0)).parts s2 made.after bad s'
    → MatchFails a (Construct u c (patterns_of ps)) known here q t s links bad s'

-- the next one of patterns in turn stops
abbrev pub FailsNext : Type 0
FailsNext =
    (a : Around) (ps : List Pattern) (p : Pattern) (more : List Pattern) (known : Known) (here : Pos) (q : Place)
    (ts : List Wanted) (t : Wanted) (us : List Wanted) (s u s' : Store) (links : Links) (bound : List Bound) (bad : Bad)
    → length ps ≡ length ts → (first : MatchedEach a ps known here q ts s links u bound)
    → MatchFails a p known here (child q (length ps)) t u first.after bad s'
    → EachMatchFails a (ps ++ p ∷ more) known here q (ts ++ t ∷ us) s links bad s'

-- there are more patterns than types
abbrev pub FailsMore : Type 0
FailsMore =
    (a : Around) (ps : List Pattern) (p : Pattern) (more : List Pattern) (known : Known) (here : Pos) (q : Place)
    (ts : List Wanted) (s u s' : Store) (links : Links) (bound : List Bound) (bad : Bad)
    → length ps ≡ length ts → (first : MatchedEach a ps known here q ts s links u bound)
    → Fails a u first.after none (nonsense here) bad s'
    → EachMatchFails a (ps ++ p ∷ more) known here q ts s links bad s'

-- there are fewer
abbrev pub FailsFewer : Type 0
FailsFewer =
    (a : Around) (ps : List Pattern) (known : Known) (here : Pos) (q : Place) (ts : List Wanted) (t : Wanted)
    (us : List Wanted) (s u s' : Store) (links : Links) (bound : List Bound) (bad : Bad)
    → length ps ≡ length ts → (first : MatchedEach a ps known here q ts s links u bound)
    → Fails a u first.after none (nonsense here) bad s'
    → EachMatchFails a ps known here q (ts ++ t ∷ us) s links bad s'
