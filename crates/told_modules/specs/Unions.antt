-- The constructors of declared unions, with types for their fields; and worlds whose unions of the core library are as
-- the table of `core_facts` says.
use Rattle.std.specs.Prelude.{◌≡◌, ℕ, negsuc, List, [], ◌∷◌, map, Bool, codes}
use Rattle.std.specs.List.{zip}
use Rattle.elm_canon.specs.Names.{Name}
use Rattle.elm_canon.specs.Unions.{alternatives}
use Rattle.elm_canon.specs.declared.unions.Alternative.{Alternative}
use Rattle.elm_canon.specs.declared.unions.Tag.TheVariants.{Number, Truth}
use Rattle.elm_canon.specs.Tree.{Annotation, Annotations, NoAnnotation, MoreAnnotation, UnionDeclaration}
use Rattle.elm_type.specs.Types.{ElmType, Leaf}
use Rattle.type_items.specs.Annotations.{annotation_type, scheme_variable, number_of, own_variables}
use Rattle.type_items.specs.Modules.{function_to, union_type}
use Rattle.typed_values.specs.World.{World, Constructor, Among, IsTruth, IsMaybe, IsPorted, IsNode}
use Rattle.program_safety.specs.Programs.{IsWorker}
use Rattle.core_modules.specs.Table.{bool_union, maybe_union, dict_union, cmd_union, sub_union, program_union}

-- the types of fields in an annotation, whose variables have their numbers by first appearance
abbrev pub types_in : Annotation → Annotations → List (ElmType (Leaf ℕ))
types_in whole NoAnnotation = []
types_in whole (MoreAnnotation t ts) = annotation_type (scheme_variable [] whole) t ∷ types_in whole ts

-- a constructor, whose annotation is a function of its fields to the union
abbrev pub constructor_by : UnionDeclaration → Annotation → Alternative × Annotations → Constructor
constructor_by u whole c = record {
  alternative = c.0;
  fields = types_in whole c.1;
  arguments = map (λ a. number_of a (own_variables [] whole)) u.parameters;
}

abbrev pub constructor_of : Name → UnionDeclaration → Alternative × Annotations → Constructor
constructor_of m u c = constructor_by u (function_to c.1 (union_type m u)) c

-- the constructors of a union of the module m, in declared order
abbrev pub constructors_of : Name → UnionDeclaration → List Constructor
constructors_of m u = map (constructor_of m u) (zip (alternatives u.union) u.fields)

-- ---- the unions of the core library

-- they are as the table says
pub record HasCoreUnions (w : World) : Type 0 where
  pub bools : w.unions (codes "Basics") (codes "Bool") ≡ constructors_of (codes "Basics") bool_union
  pub maybes : w.unions (codes "Maybe") (codes "Maybe") ≡ constructors_of (codes "Maybe") maybe_union
  pub dictionaries : w.unions (codes "Dict") (codes "Dict") ≡ constructors_of (codes "Dict") dict_union
  pub commands : w.unions (codes "Platform.Cmd") (codes "Cmd") ≡ constructors_of (codes "Platform.Cmd") cmd_union
  pub subscriptions : w.unions (codes "Platform.Sub") (codes "Sub") ≡ constructors_of (codes "Platform.Sub") sub_union
  pub programs : w.unions (codes "Platform") (codes "Program") ≡ constructors_of (codes "Platform") program_union

-- what the law of programs asks of them
pub record MeetsCore (w : World) : Type 0 where
  pub truths : (b : Bool) → (c : Constructor) × IsTruth w b c
  pub no_others : (c : Constructor) → Among c (w.unions (codes "Basics") (codes "Bool"))
      → (b : Bool) × (c.alternative.tag ≡ Truth b) × (c.arguments ≡ [])
  pub maybes : IsMaybe w
  pub nodes : (c : Constructor) → Among c (w.unions (codes "Dict") (codes "Dict"))
      → c.alternative.tag ≡ Number (negsuc 0) → IsNode (codes "Dict") (codes "Dict") c
  pub commands : IsPorted w (codes "Platform.Cmd") (codes "Cmd")
  pub subscriptions : IsPorted w (codes "Platform.Sub") (codes "Sub")
  pub worker : IsWorker w

abbrev pub CoreUnionsMeet : Type 0
CoreUnionsMeet = (w : World) → HasCoreUnions w → MeetsCore w
