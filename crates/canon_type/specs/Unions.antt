-- The unions that a module declares, given what names of types mean there, and their sites. (Elm guide: custom types.)
use Rattle.std.specs.Prelude.{ℕ, pos, negsuc, Bool, List, [], suc, ◌&&◌, if◌then◌else◌, Option, Some, None, codes}
use Rattle.std.specs.Prelude.{map, flat_map, filter_map, nat_eq}
use Rattle.std.specs.List.{enumerate_from}
use Rattle.elm_tree.specs.Tree as tree
use Rattle.elm_tree.specs.Tree.{Word, TypeTrees, NoType, MoreType, ConstructorOf, Declaration}
use Rattle.elm_canon.specs.Names.{Name, same_name}
use Rattle.elm_canon.specs.Tree.{Annotations, UnionDeclaration}
use Rattle.elm_canon.specs.Unions.{Declared}
use Rattle.elm_canon.specs.declared.unions.Tag.{Tag}
use Rattle.elm_canon.specs.declared.unions.Tag.TheVariants.{Number, Truth}
use Rattle.elm_canon.specs.declared.unions.Alternative.{Alternative}
use Rattle.canon_env.specs.Imports.{name_of}
use Rattle.canon_env.specs.declared.finding.Finding.{Finding}
use Rattle.canon_env.specs.Naming.{World}
use Rattle.canon_env.specs.Sites.{Site, faults_at}
use Rattle.canon_env.specs.Types.{types_of, type_sites_in}

-- type T a b = C t u | D
pub record UnionTree : Type 0 where
  pub name : Word
  pub parameters : List Word
  pub constructors : List ConstructorOf

abbrev pub union_in : Declaration → Option UnionTree
union_in (tree.Union x ps cs) = Some (record { name = x; parameters = ps; constructors = cs })
union_in _ = None

abbrev pub unions_in : List Declaration → List UnionTree
unions_in ds = filter_map union_in ds

-- ---- constructors

abbrev pub is_type : List ℕ → List ℕ → Name → Name → Bool
is_type home name m x = same_name m home && same_name x name

-- True and False are the truth values; the two constructors of Dict have tags that no other has
abbrev pub tag_of : Name → Name → ℕ → Tag
tag_of m x i =
    if is_type (codes "Basics") (codes "Bool") m x then Truth (nat_eq i 0)
    else (if is_type (codes "Dict") (codes "Dict") m x then Number (negsuc i) else Number (pos i))

abbrev pub type_count : TypeTrees → ℕ
type_count NoType = 0
type_count (MoreType t ts) = suc (type_count ts)

-- a constructor of the union x of the module m, by its place
abbrev pub alternative_of : Name → Name → ℕ × ConstructorOf → Alternative
alternative_of m x c = record { name = name_of c.1.name; tag = tag_of m x c.0; arity = type_count c.1.fields }

abbrev pub alternatives_of : Name → Name → List ConstructorOf → List Alternative
alternatives_of m x cs = map (alternative_of m x) (enumerate_from 0 cs)

-- ---- unions

abbrev pub fields_of : World → ConstructorOf → Annotations
fields_of w c = types_of w c.fields

-- a union of the module m
abbrev pub union_of : Name → World → UnionTree → UnionDeclaration
union_of m w u = record {
  name = name_of u.name;
  union = Declared m (name_of u.name) (alternatives_of m (name_of u.name) u.constructors);
  parameters = map name_of u.parameters;
  fields = map (fields_of w) u.constructors;
}

-- its name and parameters alone
abbrev pub bare_union : Name → UnionTree → UnionDeclaration
bare_union m u = record {
  name = name_of u.name;
  union = Declared m (name_of u.name) [];
  parameters = map name_of u.parameters;
  fields = [];
}

-- ---- sites

abbrev pub constructor_sites : World → ConstructorOf → List Site
constructor_sites w c = type_sites_in w c.fields

abbrev pub union_sites : World → UnionTree → List Site
union_sites w u = flat_map (constructor_sites w) u.constructors

-- the faults in the types of a union's fields
abbrev pub constructor_faults : World → ConstructorOf → List Finding
constructor_faults w c = flat_map (faults_at w) (constructor_sites w c)

abbrev pub union_faults : World → UnionTree → List Finding
union_faults w u = flat_map (faults_at w) (union_sites w u)
