-- Programs of the modules of a build. What a program has of each module is some of its declarations. All that names and
-- inference give of a module is left out here: what is asked is what the link gives, and the unions of the program.
use Rattle.std.specs.Prelude.{◌≡◌, ℕ, List, [], ◌∷◌, ◌++◌, map, flat_map, Bool, true, Some}
use Rattle.std.specs.List.{AllByRecursion, list_any}
use Rattle.std.specs.Str.{bytes_eq}
use Rattle.wire_value.specs.Wire.{Wire}
use Rattle.runs.specs.Trace.{IsRuled}
use Rattle.elm_canon.specs.Names.{Name}
use Rattle.elm_canon.specs.declared.reference.Ref.{Ref}
use Rattle.elm_canon.specs.Tree.{Declaration, Payload}
use Rattle.elm_meaning.specs.Run.{Program, out_ports, in_port, SourceRun}
use Rattle.elm_type.specs.Types.{int_type}
use Rattle.type_items.specs.Solutions.{Values}
use Rattle.typed_values.specs.World.{World, KnownIn, IsSound}
use Rattle.program_safety.specs.Parts.{Part, ArePrimitives, primitive_names, bound_with, IsPart}
use Rattle.program_safety.specs.Programs.{IsWorker, IsMain, IsInput}
use Rattle.told_modules.specs.Parts.{IsPlaced}
use Rattle.build_safety.specs.Compiled.{Compiled, AreModules}
use Rattle.build_safety.specs.Told.{told, part_of}

-- a module, and those of its declarations that the program has
abbrev pub Piece : Type 0
Piece = Compiled × List Declaration

abbrev pub modules_of : List Piece → List Compiled
modules_of ps = map (λ (p : Piece). p.0) ps

abbrev pub declarations_of : List Piece → List Declaration
declarations_of ps = flat_map (λ (p : Piece). p.1) ps

-- types for the variables of a module, of which nothing is asked
abbrev pub any_values : Values
any_values place = int_type

abbrev pub piece_part : Piece → Part
piece_part p = part_of p.0 any_values p.1

-- each is placed after those before it
abbrev pub ArePlaced : World → List Compiled → (Ref → Bool) → List Piece → Type 0
ArePlaced w cs bound [] = Unit {0}
ArePlaced w cs bound (p ∷ ps) = IsPlaced w (told cs) bound (piece_part p) × ArePlaced w cs (bound_with p.1 bound) ps

-- what is bound after them
abbrev pub bound_by : List Piece → (Ref → Bool) → Ref → Bool
bound_by [] bound = bound
bound_by (p ∷ ps) bound = bound_by ps (bound_with p.1 bound)

-- a program of pieces of all modules of a build, in a world that holds together
pub record IsPlacedProgram (w : World) (ps : List Piece) (p : Program) : Type 0 where
  pub modules : AreModules (modules_of ps)
  pub sound : IsSound w
  pub worker : IsWorker w
  pub known : KnownIn w (told (modules_of ps))
  pub primitives : ArePrimitives w (told (modules_of ps)) p.primitives
  pub placed : ArePlaced w (modules_of ps) (primitive_names p.primitives) ps
  pub declarations : p.declarations ≡ declarations_of ps
  pub outs : (port : Name) (t : Payload) → w.outs port ≡ Some t
      → list_any (λ other. bytes_eq port other) (out_ports p.declarations) ≡ true
  pub ins : (port : Name) (t : Payload) → in_port port p.declarations ≡ Some t → w.ins port ≡ Some t
  pub main : IsMain (told (modules_of ps)) (bound_by ps (primitive_names p.primitives)) p.main p.flags

-- ---- the laws

abbrev pub ModulesAreParts : Type 0
ModulesAreParts =
    (w : World) (bound : Ref → Bool) (before : List Compiled) (c : Compiled) (after : List Compiled) (values : Values)
    (ds : List Declaration) → AreModules (before ++ c ∷ after)
    → IsPlaced w (told (before ++ c ∷ after)) bound (part_of c values ds)
    → (solved : Values) × IsPart w (told (before ++ c ∷ after)) bound (part_of c solved ds)

abbrev pub PlacedProgramsAreNeverStuck : Type 0
PlacedProgramsAreNeverStuck =
    (w : World) (ps : List Piece) (p : Program) → IsPlacedProgram w ps p → (flags : Wire)
    (inputs : List (Name × Wire)) → AllByRecursion (IsInput p) inputs → (n : ℕ) → IsRuled (SourceRun p flags inputs n)
