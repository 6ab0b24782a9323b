-- The programs that are spoken of: what the resolution of names guarantees, and what their JavaScript needs; and that
-- they do the same.
use Rattle.std.specs.Prelude.{◌≡◌, ℕ, List, [], ◌∷◌, map, true}
use Rattle.wire_value.specs.Wire.{Wire}
use Rattle.runs.specs.Trace.{SameRun, IsClaimed}
use Rattle.elm_canon.specs.Names.{Name}
use Rattle.elm_canon.specs.declared.reference.Ref.{Ref}
use Rattle.elm_canon.specs.Tree.{InPort, Declaration, Given, Define}
use Rattle.elm_canon.specs.Spelled.{are_fields}
use Rattle.elm_canon.specs.Proper.{Scope, IsIn, AreFresh, with_all}
use Rattle.elm_canon.specs.Declarations.{ProperDeclarations, after_declarations}
use Rattle.elm_meaning.specs.Functions as functions
use Rattle.elm_meaning.specs.Functions.{Primitive}
use Rattle.elm_meaning.specs.Run.{Program, Flags, AnyFlags, FlagsOf, SourceRun}
use Rattle.js_meaning.specs.Run.{JsRun}
use Rattle.js_emit.specs.Program.{Emit}
use Rattle.emit_laws.specs.Given.{ProperPayload, ProperBodiless}
use Rattle.emit_laws.specs.Sizes.{FewInDeclarations}

-- each declaration without a body is one that the output can say
abbrev pub CanBeSaid : List Declaration → Type 0
CanBeSaid [] = Unit {0}
CanBeSaid (Given r k ∷ ds) = ProperBodiless (functions.Given k) × CanBeSaid ds
CanBeSaid (Define g ∷ ds) = CanBeSaid ds

-- the incoming ports
abbrev pub in_ports : List Declaration → List Name
in_ports [] = []
in_ports (Given r (InPort port t) ∷ ds) = port ∷ in_ports ds
in_ports (_ ∷ ds) = in_ports ds

abbrev pub ProperFlags : Flags → Type 0
ProperFlags AnyFlags = Unit {0}
ProperFlags (FlagsOf t) = ProperPayload t

abbrev pub primitive_scope : List (Ref × Primitive) → Scope
primitive_scope ps = with_all (map (λ p. p.0) ps) []

pub record ProperProgram (p : Program) : Type 0 where
  pub primitives : AreFresh (map (λ q. q.0) p.primitives) []
  pub declarations : ProperDeclarations (primitive_scope p.primitives) p.declarations
  pub sayable : CanBeSaid p.declarations
  pub few : FewInDeclarations p.declarations
  -- words, each once
  pub ports : are_fields (in_ports p.declarations) ≡ true
  pub main : IsIn p.main (after_declarations p.declarations (primitive_scope p.primitives))
  pub flags : ProperFlags p.flags

-- a program's JavaScript runs as the program does, with all flags and inputs, wherever something is claimed of the
-- program's runs: at no fuel they end with a number that is not exact, or where no rule applies
abbrev pub ProgramsAlike : Type 0
ProgramsAlike =
    (p : Program) → ProperProgram p → (flags : Wire) (inputs : List (Name × Wire))
    → ((n : ℕ) → IsClaimed (SourceRun p flags inputs n))
    → SameRun (SourceRun p flags inputs) (JsRun (Emit p) flags inputs)
