-- Operations that take the values of all their parts: what they ask, and the types that they want of the parts. (Elm
-- guide: core language, records, tuples.)
use Rattle.std.specs.Prelude.{ℕ, List, [], ◌∷◌, ◌++◌, length, replicate}
use Rattle.elm_base.specs.declared.position.Pos.{Pos}
use Rattle.elm_canon.specs.Tree.{Op, TupleOf, ListOf, Build, RecordOf, Access, Update, Negate, Binary}
use Rattle.elm_canon.specs.declared.tree.Operator.{Operator}
use Rattle.elm_canon.specs.declared.tree.Operator.TheVariants as operator
use Rattle.elm_type.specs.Types.{functions, tuple, int_type, bool_type, list_type}
use Rattle.elm_type.specs.Rows.{closed}
use Rattle.elm_type.specs.declared.class.Class.{Class}
use Rattle.elm_type.specs.declared.class.Class.TheVariants.{Any, Number, Comparable, Appendable}
use Rattle.type_items.specs.Items.{Place, child, Wanted, at, children, Item, Same, InClass, Lacks, class_items}
use Rattle.type_items.specs.Items.{lack_items}
use Rattle.type_items.specs.Scopes.{Scope}
use Rattle.type_items.specs.Patterns.{shape, shape_items, fields_at, open_record}

-- what is asked before the first part, the type that the first part is wanted at, what is asked after it, the types of
-- the other parts, and what is asked after them
pub record Plan : Type 0 where
  pub before : List Item
  pub first : Wanted
  pub between : List Item
  pub rest : List Wanted
  pub after : List Item

-- the parts one after the other, of these types; of no parts no first one is wanted
abbrev pub in_turn : List Item → List Wanted → Plan
in_turn before [] = record { before = before; first = int_type; between = []; rest = []; after = [] }
in_turn before (t ∷ ts) = record { before = before; first = t; between = []; rest = ts; after = [] }

-- the class of an operator's type variable, and the operator's type
abbrev pub operator_class : Operator → Class
operator_class operator.Add = Number
operator_class operator.Subtract = Number
operator_class operator.Multiply = Number
operator_class operator.Divide = Any
operator_class operator.Append = Appendable
operator_class operator.Cons = Any
operator_class operator.Equal = Any
operator_class operator.Unequal = Any
operator_class operator.Less = Comparable
operator_class operator.Greater = Comparable
operator_class operator.AtMost = Comparable
operator_class operator.AtLeast = Comparable

abbrev pub computes : Wanted → Wanted
computes a = functions (a ∷ a ∷ []) a

abbrev pub compares : Wanted → Wanted
compares a = functions (a ∷ a ∷ []) bool_type

abbrev pub operator_type : Operator → Wanted → Wanted
operator_type operator.Add a = computes a
operator_type operator.Subtract a = computes a
operator_type operator.Multiply a = computes a
operator_type operator.Divide a = computes int_type
operator_type operator.Append a = computes a
operator_type operator.Cons a = functions (a ∷ list_type a ∷ []) (list_type a)
operator_type operator.Equal a = compares a
operator_type operator.Unequal a = compares a
operator_type operator.Less a = compares a
operator_type operator.Greater a = compares a
operator_type operator.AtMost a = compares a
operator_type operator.AtLeast a = compares a

-- of so many parts; the types of parts are children of child 0 of the place
abbrev pub plan : Op → ℕ → Scope → Pos → Place → Wanted → Plan
plan TupleOf n scope here p w = in_turn (Same here (tuple (children (child p 0) n)) w ∷ []) (children (child p 0) n)
plan ListOf n scope here p w = in_turn (Same here (list_type (at (child p 1))) w ∷ []) (replicate n (at (child p 1)))
plan (Build pos u c) n scope here p w =
    let s = shape u c scope.known (child p 1) in
    let ts = children (child p 0) n in
    let same = Same pos (functions s.parts s.result) (functions ts w) in
    in_turn (shape_items u c scope.known pos (child p 1) ++ same ∷ []) ts
plan (RecordOf xs) n scope here p w =
    in_turn (Same here (closed (fields_at xs (child p 0))) w ∷ []) (children (child p 0) (length xs))
plan (Access x) n scope here p w = record {
  before = Lacks here (at (child p 1)) x ∷ [];
  first = open_record (x ∷ []) (child p 2) (at (child p 1));
  between = [];
  rest = [];
  after = Same here (at (child (child p 2) 0)) w ∷ [];
}
plan (Update xs) n scope here p w = record {
  before = [];
  first = w;
  between = lack_items here (at (child p 1)) xs ++ Same here (open_record xs (child p 2) (at (child p 1))) w ∷ [];
  rest = children (child p 2) (length xs);
  after = [];
}
plan Negate n scope here p w = in_turn (InClass here w Number ∷ []) (w ∷ [])
plan (Binary pos op) n scope here p w =
    let a = at (child p 1) in
    let ts = children (child p 0) 2 in
    in_turn (class_items pos a (operator_class op) ++ Same pos (operator_type op a) (functions ts w) ∷ []) ts
