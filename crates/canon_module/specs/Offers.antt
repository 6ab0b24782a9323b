-- What a module shows to those that import it, of all that it has. (Elm guide: modules.)
use Rattle.std.specs.Prelude.{List, [], ◌++◌, Bool, if◌then◌else◌, Option, Some, None, map}
use Rattle.std.specs.List.{filter}
use Rattle.elm_canon.specs.Unions.{Union, TupleUnion, ListUnion, Declared}
use Rattle.elm_canon.specs.Tree.{UnionDeclaration, AliasDeclaration}
use Rattle.elm_tree.specs.Tree.{Header}
use Rattle.canon_env.specs.Imports.{Exposing, Everything, exposing_of, exposes_value, exposes_type, exposes_makers}
use Rattle.canon_env.specs.Shown.{Name, Shown}

-- a module without a header exposes everything
abbrev pub exposed_by : Option Header → Exposing
exposed_by None = Everything
exposed_by (Some h) = exposing_of h.exposes

abbrev pub without_makers : Union → Union
without_makers (TupleUnion n) = TupleUnion n
without_makers ListUnion = ListUnion
without_makers (Declared home name cs) = Declared home name []

-- an opaque union, whose constructors nobody else knows
abbrev pub opaque : UnionDeclaration → UnionDeclaration
opaque u = record { name = u.name; union = without_makers u.union; parameters = u.parameters; fields = [] }

-- a union, opaque unless its name passes the test
abbrev pub offered_by : (Name → Bool) → UnionDeclaration → UnionDeclaration
offered_by opens u = if opens u.name then u else opaque u

-- the unions whose names pass the first test, opaque unless they pass the second
abbrev pub unions_by : (Name → Bool) → (Name → Bool) → List UnionDeclaration → List UnionDeclaration
unions_by shows opens us = map (offered_by opens) (filter (λ (u : UnionDeclaration). shows u.name) us)

abbrev pub aliases_by : (Name → Bool) → List AliasDeclaration → List AliasDeclaration
aliases_by shows ds = filter (λ (a : AliasDeclaration). shows a.name) ds

-- what is exposed of the types that the module has without a text, and of all that it declares
abbrev pub shown_by : Exposing → List UnionDeclaration → Shown → Shown
shown_by e given s = record {
  values = filter (exposes_value e) s.values;
  unions = unions_by (exposes_type e) (exposes_makers e) (given ++ s.unions);
  aliases = aliases_by (exposes_type e) s.aliases;
}
