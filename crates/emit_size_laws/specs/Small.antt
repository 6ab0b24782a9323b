-- Outputs of fewer than 2 ^ 32 bytes, and what names alone say of their programs.
use Rattle.std.specs.Prelude.{◌≡◌, ◌<◌, ℕ, List, [], ◌∷◌, map, length, true}
use Rattle.elm_canon.specs.Tree.{OutPort, InPort, Maker, RecordMaker, Declaration, Given, Define, Payload, IntPayload}
use Rattle.elm_canon.specs.Tree.{BoolPayload, TextPayload, MaybePayload, ListPayload, TuplePayload, RecordPayload, Payloads}
use Rattle.elm_canon.specs.Tree.{NoPayload, MorePayload, PayloadFields, NoPayloadField, MorePayloadField}
use Rattle.elm_canon.specs.Spelled.{are_fields}
use Rattle.elm_canon.specs.Proper.{IsIn, AreFresh}
use Rattle.elm_canon.specs.Declarations.{ProperDeclarations, after_declarations}
use Rattle.elm_meaning.specs.Run.{Program, Flags, AnyFlags, FlagsOf}
use Rattle.js_tree.specs.Text.{JsText}
use Rattle.js_emit.specs.Program.{Emit}
use Rattle.emit_laws.specs.Given.{payload_names}
use Rattle.emit_laws.specs.Programs.{primitive_scope, in_ports, ProperProgram}
use Rattle.emit_size_laws.specs.Programs.{AllSpelled, CanBeWritten}

-- ---- names

-- the records in a type that crosses a port have words for fields, each once
abbrev mutual
  pub HasFields : Payload → Type 0
  HasFields IntPayload = Unit {0}
  HasFields BoolPayload = Unit {0}
  HasFields TextPayload = Unit {0}
  HasFields (MaybePayload t) = HasFields t
  HasFields (ListPayload t) = HasFields t
  HasFields (TuplePayload ts) = AllHaveFields ts
  HasFields (RecordPayload fs) = (are_fields (payload_names fs) ≡ true) × FieldsHaveFields fs

  pub AllHaveFields : Payloads → Type 0
  AllHaveFields NoPayload = Unit {0}
  AllHaveFields (MorePayload t ts) = HasFields t × AllHaveFields ts

  pub FieldsHaveFields : PayloadFields → Type 0
  FieldsHaveFields NoPayloadField = Unit {0}
  FieldsHaveFields (MorePayloadField k t fs) = HasFields t × FieldsHaveFields fs

abbrev pub PortsHaveFields : List Declaration → Type 0
PortsHaveFields [] = Unit {0}
PortsHaveFields (Given r (Maker a) ∷ ds) = PortsHaveFields ds
PortsHaveFields (Given r (RecordMaker ks) ∷ ds) = PortsHaveFields ds
PortsHaveFields (Given r (OutPort port t) ∷ ds) = HasFields t × PortsHaveFields ds
PortsHaveFields (Given r (InPort port t) ∷ ds) = HasFields t × PortsHaveFields ds
PortsHaveFields (Define g ∷ ds) = PortsHaveFields ds

abbrev pub FlagsHaveFields : Flags → Type 0
FlagsHaveFields AnyFlags = Unit {0}
FlagsHaveFields (FlagsOf t) = HasFields t

-- what the resolution of names says of a program; of how many parts things have it says nothing
pub record NamedProgram (p : Program) : Type 0 where
  pub primitives : AreFresh (map (λ q. q.0) p.primitives) []
  pub spelled : AllSpelled (map (λ q. q.0) p.primitives)
  pub declarations : ProperDeclarations (primitive_scope p.primitives) p.declarations
  pub payloads : PortsHaveFields p.declarations
  -- words, each once
  pub ports : are_fields (in_ports p.declarations) ≡ true
  pub main : IsIn p.main (after_declarations p.declarations (primitive_scope p.primitives))
  pub flags : FlagsHaveFields p.flags

-- ---- sizes

-- the bytes are the program's output, and fewer than 2 ^ 32
pub record IsSmallOutput (p : Program) (bytes : List ℕ) : Type 0 where
  pub text : JsText (Emit p) bytes
  pub small : length bytes < 4294967296

-- then no part of the program is huge: it does what its output does, and its output is in the subset
abbrev pub SmallIsProper : Type 0
SmallIsProper = (p : Program) (bytes : List ℕ) → NamedProgram p → IsSmallOutput p bytes → ProperProgram p × CanBeWritten p
