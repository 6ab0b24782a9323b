-- Constructors and patterns: what they ask of types, and which names a pattern binds. (Elm guide: pattern matching.)
use Rattle.std.specs.Prelude.{ℕ, zero, suc, ◌+◌, List, [], ◌∷◌, ◌++◌, map, Option, Some, None}
use Rattle.std.specs.List.{enumerate_from}
use Rattle.elm_base.specs.declared.position.Pos.{Pos}
use Rattle.elm_canon.specs.declared.reference.Ref.TheVariants.{Local}
use Rattle.elm_canon.specs.declared.unions.Alternative.{Alternative}
use Rattle.elm_canon.specs.Unions.{Union, TupleUnion, ListUnion, Declared}
use Rattle.elm_canon.specs.declared.tree.Literal.{Literal}
use Rattle.elm_canon.specs.declared.tree.Literal.TheVariants as literal
use Rattle.elm_canon.specs.Tree.{Pattern, Anything, Named, As, Exactly, Construct, FieldsOf, LocatedPattern, Patterns}
use Rattle.elm_canon.specs.Tree.{NoPattern, MorePattern}
use Rattle.elm_canon.specs.Proper.{count_of}
use Rattle.elm_type.specs.Types.{Name, Made, NoType, MoreType, tuple, int_type, char_type, string_type, list_type}
use Rattle.elm_type.specs.Types.{Scheme}
use Rattle.elm_type.specs.Rows.{sorted, extend}
use Rattle.elm_type.specs.declared.head.Head.TheVariants as head
use Rattle.type_items.specs.Items.{Place, child, Wanted, at, children, Item, Same, nonsense, lack_items}
use Rattle.type_items.specs.Scopes.{Mono, Known, Entries, Scope, instance, instance_items}

-- ---- constructors

-- the type of what a constructor makes, and the types of its fields
pub record Shape : Type 0 where
  pub result : Wanted
  pub parts : List Wanted

-- of a function's type: the types of so many parameters, and that of the result
abbrev pub parameters_of : ℕ → Wanted → List Wanted
parameters_of zero t = []
parameters_of (suc n) (Made head.Function (MoreType a (MoreType b NoType))) = a ∷ parameters_of n b
parameters_of (suc n) _ = []

abbrev pub result_of : ℕ → Wanted → Wanted
result_of zero t = t
result_of (suc n) (Made head.Function (MoreType a (MoreType b NoType))) = result_of n b
result_of (suc n) t = t

-- [] has no fields; :: has an item and the items after it
abbrev pub list_parts : ℕ → Wanted → List Wanted
list_parts zero t = []
list_parts (suc n) t = t ∷ list_type t ∷ []

abbrev pub declared_shape : Option Scheme → ℕ → Place → Shape
declared_shape None n p = record { result = int_type; parts = [] }
declared_shape (Some s) n p = record { result = result_of n (instance s p); parts = parameters_of n (instance s p) }

-- its variables are children of the place
abbrev pub shape : Union → Alternative → Known → Place → Shape
shape (TupleUnion n) c known p = record { result = tuple (children p n); parts = children p n }
shape ListUnion c known p = record { result = list_type (at (child p 0)); parts = list_parts c.arity (at (child p 0)) }
shape (Declared m x cs) c known p = declared_shape (known m c.name) c.arity p

abbrev pub declared_items : Option Scheme → Pos → Place → List Item
declared_items None pos p = nonsense pos
declared_items (Some s) pos p = instance_items s.kinds pos p

-- what a constructor asks of its variables
abbrev pub shape_items : Union → Alternative → Known → Pos → Place → List Item
shape_items (TupleUnion n) c known pos p = []
shape_items ListUnion c known pos p = []
shape_items (Declared m x cs) c known pos p = declared_items (known m c.name) pos p

-- ---- literals and records

-- of a literal in a pattern
abbrev pub literal_type : Literal → Wanted
literal_type (literal.Int n) = int_type
literal_type (literal.Char c) = char_type
literal_type (literal.Text t) = string_type

-- the type of each field is the child of its number
abbrev pub fields_at : List Name → Place → List (Name × Wanted)
fields_at xs p = map (λ x. (x.1, at (child p x.0))) (enumerate_from 0 xs)

-- a record with these fields and those of another type
abbrev pub open_record : List Name → Place → Wanted → Wanted
open_record xs p rest = extend (sorted (fields_at xs p)) rest

-- ---- patterns: what a pattern at a place asks, for values of a type

abbrev mutual
  pub pattern_items : Pattern → Known → Pos → Place → Wanted → List Item
  pattern_items Anything known here p t = []
  pattern_items (Named x) known here p t = []
  pattern_items (As q x) known here p t = pattern_items q known here p t
  pattern_items (Exactly l) known here p t = Same here (literal_type l) t ∷ []
  pattern_items (Construct u c qs) known here p t =
      let s = shape u c known (child p 0) in
      shape_items u c known here (child p 0)
      ++ (Same here s.result t ∷ patterns_items qs known here (child p 1) 0 s.parts)
  pattern_items (FieldsOf xs) known here p t =
      lack_items here (at (child p 0)) xs ++ Same here (open_record xs (child p 1) (at (child p 0))) t ∷ []
  pattern_items (LocatedPattern pos q) known here p t = pattern_items q known pos p t

  -- patterns at children, from the number i on, each for values of its type
  pub patterns_items : Patterns → Known → Pos → Place → ℕ → List Wanted → List Item
  patterns_items NoPattern known here p i [] = []
  patterns_items NoPattern known here p i (t ∷ ts) = nonsense here
  patterns_items (MorePattern q qs) known here p i [] = nonsense here
  patterns_items (MorePattern q qs) known here p i (t ∷ ts) =
      pattern_items q known here (child p i) t ++ patterns_items qs known here p (i + 1) ts

-- ---- the names that a pattern binds, with their types, before other names; the last is the first

abbrev pub field_names_before : List (Name × Wanted) → Entries → Entries
field_names_before [] rest = rest
field_names_before (f ∷ fs) rest = field_names_before fs ((Local f.0, Mono f.1) ∷ rest)

abbrev mutual
  pub pattern_names : Pattern → Known → Place → Wanted → Entries → Entries
  pattern_names Anything known p t rest = rest
  pattern_names (Named x) known p t rest = (Local x, Mono t) ∷ rest
  pattern_names (As q x) known p t rest = (Local x, Mono t) ∷ pattern_names q known p t rest
  pattern_names (Exactly l) known p t rest = rest
  pattern_names (Construct u c qs) known p t rest =
      patterns_names qs known (child p 1) 0 (shape u c known (child p 0)).parts rest
  pattern_names (FieldsOf xs) known p t rest = field_names_before (fields_at xs (child p 1)) rest
  pattern_names (LocatedPattern pos q) known p t rest = pattern_names q known p t rest

  pub patterns_names : Patterns → Known → Place → ℕ → List Wanted → Entries → Entries
  patterns_names NoPattern known p i ts rest = rest
  patterns_names (MorePattern q qs) known p i [] rest = rest
  patterns_names (MorePattern q qs) known p i (t ∷ ts) rest =
      patterns_names qs known p (i + 1) ts (pattern_names q known (child p i) t rest)

abbrev pub bind_pattern : Pattern → Place → Wanted → Scope → Scope
bind_pattern q p t scope = record scope { names = pattern_names q scope.known p t scope.names }

abbrev pub bind_patterns : Patterns → Place → List Wanted → Scope → Scope
bind_patterns qs p ts scope = record scope { names = patterns_names qs scope.known p 0 ts scope.names }

-- the types of parameters: the children of the place
abbrev pub parameter_types : Patterns → Place → List Wanted
parameter_types qs p = children p (count_of qs)

-- where a pattern begins
abbrev pub pattern_start : Pos → Pattern → Pos
pattern_start here Anything = here
pattern_start here (Named x) = here
pattern_start here (As q x) = pattern_start here q
pattern_start here (Exactly l) = here
pattern_start here (Construct u c qs) = here
pattern_start here (FieldsOf xs) = here
pattern_start here (LocatedPattern pos q) = pos
