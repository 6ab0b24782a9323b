-- Unions and their constructors. (Elm guide: custom types.) Tuples and lists are unions too.
use Rattle.std.specs.Prelude.{ℕ, zero, suc, pos, List, [], ◌∷◌, codes}
use Rattle.elm_canon.specs.Names.{Name}
use Rattle.elm_canon.specs.declared.unions.Tag.TheVariants.{Number, Blank}
use Rattle.elm_canon.specs.declared.unions.Alternative.{Alternative}
use Rattle.elm_canon.specs.declared.unions.UnionShape.{UnionShape}
use Rattle.elm_canon.specs.declared.unions.UnionShape.TheVariants as shape

-- tuples of so many parts, of which () is the one of none; lists; what a module declares by a name, with its
-- constructors in declared order
pub data Union : Type 0 where
  TupleUnion : ℕ → Union
  ListUnion : Union
  Declared : Name → Name → List Alternative → Union

abbrev pub union_view : UnionShape → Union
union_view (shape.Tuple n) = TupleUnion n
union_view shape.List = ListUnion
union_view (shape.Declared home name alternatives) = Declared home name alternatives.items

abbrev pub unit_alternative : Alternative
unit_alternative = record { name = codes "()"; tag = Blank; arity = 0 }

abbrev pub tuple_alternative : ℕ → Alternative
tuple_alternative zero = unit_alternative
tuple_alternative (suc n) = record { name = codes ","; tag = Number (pos 0); arity = suc n }

abbrev pub nil_alternative : Alternative
nil_alternative = record { name = codes "[]"; tag = Number (pos 0); arity = 0 }

abbrev pub cons_alternative : Alternative
cons_alternative = record { name = codes "::"; tag = Number (pos 1); arity = 2 }

-- the constructors of a union, in declared order
abbrev pub alternatives : Union → List Alternative
alternatives (TupleUnion n) = tuple_alternative n ∷ []
alternatives ListUnion = nil_alternative ∷ cons_alternative ∷ []
alternatives (Declared home name cs) = cs
