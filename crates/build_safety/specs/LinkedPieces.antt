-- What the program has of each module of a build that is linked: some of its declarations, in order. What these use is
-- bound before them or by them.
use Rattle.std.specs.Prelude.{◌≡◌, ℕ, ◌+◌, List, [], ◌∷◌, length, map, flat_map, Bool}
use Rattle.elm_canon.specs.Names.{Name}
use Rattle.elm_canon.specs.declared.reference.Ref.{Ref}
use Rattle.elm_meaning.specs.Run.{Program}
use Rattle.type_items.specs.Uses.{used_groups}
use Rattle.typed_values.specs.Simple.{Without}
use Rattle.type_safety.specs.Modules.{groups_in}
use Rattle.emit_size_laws.specs.Small.{NamedProgram}
use Rattle.link.specs.Reached.{kept, is_reached}
use Rattle.link.specs.Link.{main_name}
use Rattle.link.specs.Programs.{Item, items_of, item_names, item_uses, declarations_in, program_of}
use Rattle.program_safety.specs.Parts.{AreSome, bound_with, none_but, primitive_names}
use Rattle.project_proper.specs.Resolved.{source_of}
use Rattle.build_safety.specs.Compiled.{Compiled, resolved_of, AreModules}
use Rattle.build_safety.specs.Placed.{Piece, modules_of, declarations_of}

abbrev pub items : Compiled → List Item
items c = items_of (source_of c.resolved)

-- of modules, whose items stand from the n-th place on, the declarations that pass the test by their places
abbrev pub pieces : (ℕ → Bool) → ℕ → List Compiled → List Piece
pieces test n [] = []
pieces test n (c ∷ cs) = (c, declarations_in (kept test n (items c))) ∷ pieces test (n + length (items c)) cs

-- those that the `main` of a module reaches
abbrev pub linked_pieces : List Compiled → Name → List Piece
linked_pieces cs home =
    let all = flat_map items_of (map source_of (resolved_of cs)) in
    pieces (is_reached (map item_names all) (map item_uses all) (main_name home)) 0 cs

-- some of a module's declarations, after others
pub record IsLinked (bound : Ref → Bool) (p : Piece) : Type 0 where
  pub some : AreSome p.1 p.0.resolved.whole.declarations
  pub used : Without (none_but (bound_with p.1 bound)) (used_groups (groups_in p.1))

abbrev pub AreLinked : (Ref → Bool) → List Piece → Type 0
AreLinked bound [] = Unit {0}
AreLinked bound (p ∷ ps) = IsLinked bound p × AreLinked (bound_with p.1 bound) ps

-- the program that the link makes
abbrev pub linked_program : List Compiled → Compiled → Program
linked_program cs entry = program_of (map source_of (resolved_of cs)) (source_of entry.resolved)

pub record HasPieces (cs : List Compiled) (p : Program) (ps : List Piece) : Type 0 where
  pub modules : modules_of ps ≡ cs
  pub declarations : p.declarations ≡ declarations_of ps
  pub linked : AreLinked (primitive_names p.primitives) ps

abbrev pub LinksHavePieces : Type 0
LinksHavePieces =
    (cs : List Compiled) (entry : Compiled) → AreModules cs → NamedProgram (linked_program cs entry)
    → HasPieces cs (linked_program cs entry) (linked_pieces cs entry.resolved.whole.name)
