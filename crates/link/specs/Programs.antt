-- The program that the `main` of a module reaches, by the canonical modules; and what an output tells of it.
use Rattle.std.specs.Prelude.{◌≡◌, ℕ, List, [], ◌∷◌, ◌++◌, Option, Some, None, map, flat_map, codes}
use Rattle.elm_canon.specs.Names.{Name}
use Rattle.elm_canon.specs.declared.reference.Ref.{Ref}
use Rattle.elm_canon.specs.declared.reference.Ref.TheVariants.{Top}
use Rattle.elm_canon.specs.Tree.{Declaration, PortDeclaration, Module}
use Rattle.elm_meaning.specs.Functions.{Primitive}
use Rattle.elm_meaning.specs.Run.{Flags, AnyFlags, Program}
use Rattle.elm_type.specs.Types.{Scheme}
use Rattle.emit_program.specs.Texts.{program_texts, IsMainOf}
use Rattle.port_payload.specs.Entry.{EntryType, entry_type}
use Rattle.port_payload.specs.Entry as entry
use Rattle.link.specs.Names.{TopName, top_names}
use Rattle.link.specs.Fragments.{Piece}
use Rattle.link.specs.Made.{fragment_of, names_of, uses_of, core_piece, declared_piece}
use Rattle.link.specs.Reached.{reached}
use Rattle.link.specs.Link.{Part, Output, main_name}

-- a module, resolved, with its path, the names of the core that it has beside its declarations, and the type of its
-- `main`, if it has one
pub record Source : Type 0 where
  pub path : List ℕ
  pub cores : List (Ref × Primitive)
  pub tree : Module
  pub main : Option Scheme

abbrev pub part_of : Source → Part
part_of s = record { name = s.tree.name; path = s.path; fragment = fragment_of s.cores s.tree s.main }

-- what a module has: a name of the core, or a declaration beside the module's ports
pub data Item : Type 0 where
  Core : Ref × Primitive → Item
  Declared : List PortDeclaration → Declaration → Item

abbrev pub items_of : Source → List Item
items_of s = map Core s.cores ++ map (Declared s.tree.ports) s.tree.declarations

abbrev pub item_names : Item → List TopName
item_names (Core p) = top_names (p.0 ∷ [])
item_names (Declared ports d) = names_of d

abbrev pub item_uses : Item → List TopName
item_uses (Core p) = []
item_uses (Declared ports d) = uses_of d

-- what the `main` of the module reaches, in order
unfoldable pub reached_items : List Source → Name → List Item
reached_items sources home = reached item_names item_uses (main_name home) (flat_map items_of sources)

abbrev pub cores_in : List Item → List (Ref × Primitive)
cores_in [] = []
cores_in (Core p ∷ is) = p ∷ cores_in is
cores_in (Declared ports d ∷ is) = cores_in is

abbrev pub declarations_in : List Item → List Declaration
declarations_in [] = []
declarations_in (Core p ∷ is) = declarations_in is
declarations_in (Declared ports d ∷ is) = d ∷ declarations_in is

abbrev pub program_with : Name → Flags → List Item → Program
program_with home flags is = record {
  primitives = cores_in is;
  declarations = declarations_in is;
  main = Top home (codes "main");
  flags = flags;
}

-- the flags that a type says, if it is one of a program
abbrev pub flags_said : EntryType → Flags
flags_said (entry.IsProgram flags) = flags
flags_said (entry.HasFlags text) = AnyFlags
flags_said (entry.IsNoProgram text) = AnyFlags

abbrev pub flags_by : Option Scheme → Flags
flags_by None = AnyFlags
flags_by (Some s) = flags_said (entry_type s)

-- the program of the `main` of the entry
unfoldable pub program_of : List Source → Source → Program
program_of sources entry =
    program_with entry.tree.name (flags_by entry.main) (reached_items sources entry.tree.name)

-- ---- what an output tells

pub record Tells (o : Output) (p : Program) : Type 0 where
  pub lines : o.lines ≡ program_texts p
  pub main : IsMainOf p o.main o.flags o.ins o.outs
