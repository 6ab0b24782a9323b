-- Modules whose declarations are proper, one module after another; and the program of what a `main` reaches in them.
use Rattle.std.specs.Prelude.{◌≡◌, ℕ, List, [], ◌∷◌, true, false, Some, map, flat_map, slice_get, codes, is_some}
use Rattle.std.specs.List.{list_any}
use Rattle.elm_canon.specs.Names.{Name, same_name}
use Rattle.elm_canon.specs.declared.reference.Ref.{Ref}
use Rattle.elm_canon.specs.declared.reference.Ref.TheVariants.{Local, Top}
use Rattle.elm_canon.specs.Tree.{Declaration}
use Rattle.elm_canon.specs.Spelled.{are_fields}
use Rattle.elm_canon.specs.Proper.{Scope, among, IsIn, AreFresh}
use Rattle.elm_canon.specs.Declarations.{ProperDeclarations, after_declarations}
use Rattle.elm_meaning.specs.Functions.{Primitive}
use Rattle.emit_laws.specs.Programs.{primitive_scope, in_ports}
use Rattle.emit_size_laws.specs.Programs.{AllSpelled}
use Rattle.emit_size_laws.specs.Small.{NamedProgram, PortsHaveFields, FlagsHaveFields}
use Rattle.link.specs.Link.{Output, Links, link}
use Rattle.link.specs.Programs.{Source, part_of, program_of, flags_by}

-- the names of the core that modules have beside their declarations
abbrev pub cores_of : List Source → List (Ref × Primitive)
cores_of sources = flat_map (λ s. s.cores) sources

abbrev pub refs_of : List (Ref × Primitive) → List Ref
refs_of cs = map (λ c. c.0) cs

-- the declarations of modules, one module after another
abbrev pub declarations_of : List Source → List Declaration
declarations_of sources = flat_map (λ s. s.tree.declarations) sources

-- the scope in which everything is declared
abbrev pub whole_scope : List Source → Scope
whole_scope sources = after_declarations (declarations_of sources) (primitive_scope (cores_of sources))

-- modules of different names
abbrev pub AreApart : List Source → Type 0
AreApart [] = Unit {0}
AreApart (s ∷ ss) = (list_any (λ t. same_name s.tree.name t.tree.name) ss ≡ false) × AreApart ss

-- the incoming ports of each module are words, each once
abbrev pub PortsAreWords : List Source → Type 0
PortsAreWords [] = Unit {0}
PortsAreWords (s ∷ ss) = (are_fields (in_ports s.tree.declarations) ≡ true) × PortsAreWords ss

-- Modules with names of their own. The names of the core are new and can be spelled; after them each declaration is
-- proper where those before it are in scope, those of earlier modules among them; none is a local name.
pub record AreProper (sources : List Source) : Type 0 where
  pub apart : AreApart sources
  pub fresh : AreFresh (refs_of (cores_of sources)) []
  pub spelled : AllSpelled (refs_of (cores_of sources))
  pub declarations : ProperDeclarations (primitive_scope (cores_of sources)) (declarations_of sources)
  pub no_locals : (x : Name) → among (Local x) (whole_scope sources) ≡ false
  pub payloads : PortsHaveFields (declarations_of sources)
  pub ports : PortsAreWords sources

-- a module of these: a `main` that has a type is declared; the records of its flags have words for fields, each once
pub record IsEntry (sources : List Source) (s : Source) : Type 0 where
  pub main : is_some s.main ≡ true → IsIn (Top s.tree.name (codes "main")) (whole_scope sources)
  pub flags : FlagsHaveFields (flags_by s.main)

-- then what the `main` of one of them reaches is a program whose names are proper, where the link has no fault
abbrev pub LinksProper : Type 0
LinksProper =
    (sources : List Source) (entry : ℕ) (s : Source) (o : Output) → AreProper sources → IsEntry sources s →
    slice_get sources entry ≡ Some s → link (map part_of sources) entry ≡ Links o →
    NamedProgram (program_of sources s)
