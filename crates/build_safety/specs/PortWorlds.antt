-- The world of a program: that of the modules of its build, with the program's ports.
use Rattle.std.specs.Prelude.{◌≡◌, ℕ, List, [], ◌∷◌, map, true, if◌then◌else◌, Option, Some, None, slice_get}
use Rattle.std.specs.List.{AllByRecursion, list_any}
use Rattle.std.specs.Str.{bytes_eq}
use Rattle.elm_canon.specs.Names.{Name, same_name}
use Rattle.elm_canon.specs.Tree.{Maker, RecordMaker, OutPort, InPort, Declaration, Given, Define, Payload}
use Rattle.elm_meaning.specs.Run.{Program, out_ports, in_port}
use Rattle.typed_values.specs.World.{World}
use Rattle.emit_size_laws.specs.Small.{NamedProgram}
use Rattle.link.specs.Link.{Output, Links, link}
use Rattle.link.specs.Programs.{part_of}
use Rattle.project_proper.specs.Resolved.{source_of}
use Rattle.build_safety.specs.Compiled.{Compiled, resolved_of, AreModules}
use Rattle.build_safety.specs.BuildWorlds.{world}
use Rattle.build_safety.specs.LinkedPieces.{linked_program}

-- what the first outgoing port of that name carries
abbrev pub outs_of : List Declaration → Name → Option Payload
outs_of [] port = None
outs_of (Given r (OutPort other t) ∷ ds) port = if same_name port other then Some t else outs_of ds port
outs_of (_ ∷ ds) port = outs_of ds port

-- and the first incoming one
abbrev pub ins_of : List Declaration → Name → Option Payload
ins_of ds port = in_port port ds

abbrev pub program_world : List Compiled → Program → World
program_world cs p = world cs (outs_of p.declarations) (ins_of p.declarations)

-- ---- the laws

-- an outgoing port of the world is one of these declarations, and an incoming one of these is one of the world
pub record HasPorts (w : World) (ds : List Declaration) : Type 0 where
  pub outs : (port : Name) (t : Payload) → w.outs port ≡ Some t
      → list_any (λ other. bytes_eq port other) (out_ports ds) ≡ true
  pub ins : (port : Name) (t : Payload) → in_port port ds ≡ Some t → w.ins port ≡ Some t

abbrev pub ProgramsHavePorts : Type 0
ProgramsHavePorts = (cs : List Compiled) (p : Program) → HasPorts (program_world cs p) p.declarations

-- a port carries what its name carries
abbrev pub Carries : (outs ins : Name → Option Payload) → Declaration → Type 0
Carries outs ins (Given r (Maker c)) = Unit {0}
Carries outs ins (Given r (RecordMaker ks)) = Unit {0}
Carries outs ins (Given r (OutPort port t)) = outs port ≡ Some t
Carries outs ins (Given r (InPort port t)) = ins port ≡ Some t
Carries outs ins (Define g) = Unit {0}

abbrev pub AllCarry : List Declaration → Type 0
AllCarry ds = AllByRecursion (Carries (outs_of ds) (ins_of ds)) ds

abbrev pub LinksCarry : Type 0
LinksCarry =
    (cs : List Compiled) (entry : Compiled) (number : ℕ) (o : Output) → AreModules cs
    → NamedProgram (linked_program cs entry) → slice_get cs number ≡ Some entry
    → link (map part_of (map source_of (resolved_of cs))) number ≡ Links o
    → AllCarry (linked_program cs entry).declarations
