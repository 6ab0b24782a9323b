-- What a module offers to those that import it, as plain data. (Elm guide: modules.) Aliases are expanded in all of it.
use Rattle.std.specs.Prelude.{ℕ, List, [], ◌∷◌, Bool, map, if◌then◌else◌}
use Rattle.std.specs.Ordering.{nat_cmp, is_lt}
use Rattle.std.specs.Cmp.Lexicographic.{slice_cmp}
use Rattle.std.specs.declared.alloc.Global.{Global}
use Rattle.std.specs.declared.sync.Arc.{Arc}
use Rattle.elm_type.specs.Types.{Scheme}
use Rattle.elm_type.specs.View.{scheme_view}
use Rattle.elm_canon.specs.Names.{Name}
use Rattle.elm_canon.specs.Tree.{UnionDeclaration, AliasDeclaration}
use Rattle.elm_canon.specs.View.{union_declaration_view, alias_declaration_view}
use Rattle.elm_canon.specs.declared.tree.UnionDeclaration as declared_union
use Rattle.elm_canon.specs.declared.tree.AliasDeclaration as declared_alias
use Rattle.interface.specs.declared.value.Value as offered

-- a value, ports among them: its name, how many parameters its definition writes, and its type
pub record Value : Type 0 where
  pub name : Name
  pub parameters : ℕ
  pub scheme : Scheme

-- each list in ascending order of the names, by their units; the constructors of a union in declared order
pub record Interface : Type 0 where
  pub values : List Value
  pub unions : List UnionDeclaration
  pub aliases : List AliasDeclaration

abbrev pub value_view : offered.Value → Value
value_view v = record { name = v.name; parameters = v.parameters; scheme = scheme_view v.scheme }

abbrev pub union_view : Arc declared_union.UnionDeclaration Global → UnionDeclaration
union_view u = union_declaration_view u.value

abbrev pub alias_view : Arc declared_alias.AliasDeclaration Global → AliasDeclaration
alias_view a = alias_declaration_view a.value

-- ---- in order of their names

abbrev pub comes_before : Name → Name → Bool
comes_before x y = is_lt (slice_cmp nat_cmp x y)

abbrev pub inserted : {X : Type 0} → (X → Name) → X → List X → List X
inserted name x [] = x ∷ []
inserted name x (y ∷ ys) = if comes_before (name y) (name x) then y ∷ inserted name x ys else x ∷ y ∷ ys

-- those of one name keep their order
abbrev pub in_order : {X : Type 0} → (X → Name) → List X → List X
in_order name [] = []
in_order name (x ∷ xs) = inserted name x (in_order name xs)

-- of parts in any order
abbrev pub interface_of : List Value → List UnionDeclaration → List AliasDeclaration → Interface
interface_of values unions aliases = record {
  values = in_order (λ v. v.name) values;
  unions = in_order (λ u. u.name) unions;
  aliases = in_order (λ a. a.name) aliases;
}

-- of parts of the program
abbrev pub parts_view : List offered.Value → List (Arc declared_union.UnionDeclaration Global) → List (Arc declared_alias.AliasDeclaration Global)
    → Interface
parts_view values unions aliases = record {
  values = map value_view values;
  unions = map union_view unions;
  aliases = map alias_view aliases;
}
