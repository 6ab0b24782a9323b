-- Typed programs, and what is said of their runs. (Elm guide: JavaScript interop, flags and ports; elm/core 1.0.5:
-- Platform.)
use Rattle.std.specs.Prelude.{◌≡◌, ℕ, pos, List, [], ◌∷◌, Bool, true, Some, codes}
use Rattle.std.specs.List.{AllByRecursion, list_any}
use Rattle.std.specs.Str.{bytes_eq}
use Rattle.wire_value.specs.Wire.{Wire}
use Rattle.runs.specs.Trace.{IsRuled}
use Rattle.elm_canon.specs.Names.{Name}
use Rattle.elm_canon.specs.declared.reference.Ref.{Ref}
use Rattle.elm_canon.specs.declared.reference.Ref.TheVariants.{Top}
use Rattle.elm_canon.specs.declared.unions.Tag.TheVariants.{Number}
use Rattle.elm_canon.specs.Tree.{Payload}
use Rattle.elm_meaning.specs.Run.{Program, Flags, AnyFlags, FlagsOf, out_ports, in_port, SourceRun}
use Rattle.elm_type.specs.Types.{ElmType, Record, Closed, NoField, MoreField, Free, Scheme, variable, function}
use Rattle.elm_type.specs.Types.{tuple, named}
use Rattle.elm_type.specs.Classes.{Ground}
use Rattle.type_items.specs.Scopes.{Known}
use Rattle.typed_values.specs.Frames.{Frame, Stands, Chosen, ground_instance}
use Rattle.typed_values.specs.Payloads.{payload_type, cmd_type, sub_type}
use Rattle.typed_values.specs.World.{World, KnownIn, Constructor, Among, IsSound}
use Rattle.program_safety.specs.Parts.{Part, ArePrimitives, primitive_names, AreParts, all_declared, bound_after}

-- ---- the record that a program is made of

-- a model, and commands
abbrev pub step_type : {X : Type 0} → ElmType X → ElmType X → ElmType X
step_type model message = tuple (model ∷ cmd_type message ∷ [])

-- init, subscriptions and update
abbrev pub worker_type : {X : Type 0} → ElmType X → ElmType X → ElmType X → ElmType X
worker_type flags model message =
    Record
    (MoreField (codes "init") (function flags (step_type model message))
    (MoreField (codes "subscriptions") (function model (sub_type message))
    (MoreField (codes "update") (function message (function model (step_type model message))) NoField))) Closed

abbrev pub program_type : {X : Type 0} → ElmType X → ElmType X → ElmType X → ElmType X
program_type flags model message = named (codes "Platform") (codes "Program") (flags ∷ model ∷ message ∷ [])

-- the one constructor of programs, which has the record
pub record IsProgramMaker (c : Constructor) : Type 0 where
  pub tag_is : c.alternative.tag ≡ Number (pos 0)
  pub flags : ℕ
  pub model : ℕ
  pub message : ℕ
  pub arguments_are : c.arguments ≡ flags ∷ model ∷ message ∷ []
  pub fields_are : c.fields
      ≡ worker_type (variable (Free flags)) (variable (Free model)) (variable (Free message)) ∷ []

pub record IsWorker (w : World) : Type 0 where
  pub maker : (c : Constructor) × Among c (w.unions (codes "Platform") (codes "Program"))
  pub each : (c : Constructor) → Among c (w.unions (codes "Platform") (codes "Program")) → IsProgramMaker c

-- ---- programs

abbrev pub flags_type : Flags → Ground
flags_type AnyFlags = tuple []
flags_type (FlagsOf t) = payload_type t

-- `main` is told to be a program, of flags that are read as the program reads them
pub record IsMain (told : Known) (bound : Ref → Bool) (main : Ref) (flags : Flags) : Type 0 where
  pub home : Name
  pub name : Name
  pub scheme : Scheme
  pub name_is : main ≡ Top home name
  pub is_bound : bound main ≡ true
  pub told_is : told home name ≡ Some scheme
  pub frame : Frame
  pub choice : ℕ → Ground
  pub stands : Stands frame
  pub chosen : Chosen scheme choice
  pub model : Ground
  pub message : Ground
  pub is : ground_instance choice frame scheme ≡ program_type (flags_type flags) model message

-- A program of typable modules whose patterns leave nothing out. What a port of the world carries crosses a port of the
-- program, and an incoming port of the program carries what the world says.
pub record IsTypedProgram (w : World) (told : Known) (ts : List Part) (p : Program) : Type 0 where
  pub sound : IsSound w
  pub worker : IsWorker w
  pub known : KnownIn w told
  pub primitives : ArePrimitives w told p.primitives
  pub parts : AreParts w told (primitive_names p.primitives) ts
  pub declarations : p.declarations ≡ all_declared ts
  pub outs : (port : Name) (t : Payload) → w.outs port ≡ Some t
      → list_any (λ other. bytes_eq port other) (out_ports p.declarations) ≡ true
  pub ins : (port : Name) (t : Payload) → in_port port p.declarations ≡ Some t → w.ins port ≡ Some t
  pub main : IsMain told (bound_after ts (primitive_names p.primitives)) p.main p.flags

-- ---- runs

-- an input is at an incoming port of the program
abbrev pub IsInput : Program → Name × Wire → Type 0
IsInput p input = (t : Payload) × (in_port input.0 p.declarations ≡ Some t)

-- With all flags and inputs and any fuel, a typed program is never Stuck.
abbrev pub TypedProgramsAreNeverStuck : Type 0
TypedProgramsAreNeverStuck =
    (w : World) (told : Known) (ts : List Part) (p : Program) → IsTypedProgram w told ts p
    → (flags : Wire) (inputs : List (Name × Wire)) → AllByRecursion (IsInput p) inputs
    → (n : ℕ) → IsRuled (SourceRun p flags inputs n)
