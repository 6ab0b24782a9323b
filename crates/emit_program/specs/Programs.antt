-- A program by its parts, and its incoming ports.
use Rattle.std.specs.Prelude.{List, [], ◌∷◌, map, Option, Some, None}
use Rattle.elm_canon.specs.Names.{Name}
use Rattle.elm_canon.specs.Tree as plain
use Rattle.elm_canon.specs.Tree.{Payload, InPort, OutPort, Given}
use Rattle.elm_canon.specs.View.{declaration_view, payload_view}
use Rattle.elm_canon.specs.declared.reference.Ref.{Ref}
use Rattle.elm_canon.specs.declared.tree.Declaration.{Declaration}
use Rattle.elm_canon.specs.declared.tree.Payload as tree
use Rattle.elm_meaning.specs.Functions.{Primitive}
use Rattle.elm_meaning.specs.Run.{Program}
use Rattle.js_tree.specs.Tree.{Fields, NoField, MoreField}
use Rattle.js_emit.specs.Codecs.{decoder}
use Rattle.js_emit.specs.Flags.{flags_view}
use Rattle.js_emit.specs.Primitives.{primitive_view}
use Rattle.emit_program.specs.declared.declarations.CoreName.{CoreName}
use Rattle.emit_program.specs.declared.ports.InPort as ports

abbrev pub core_view : CoreName → Ref × Primitive
core_view c = (c.name, primitive_view c.primitive)

abbrev pub program_of : List CoreName → List Declaration → Ref → Option tree.Payload → Program
program_of cs ds main flags = record {
  primitives = map core_view cs;
  declarations = map declaration_view ds;
  main = main;
  flags = flags_view flags;
}

-- the incoming port that a declaration is, with what it carries
abbrev pub in_port : plain.Declaration → Option (Name × Payload)
in_port (Given r (InPort port t)) = Some (port, t)
in_port _ = None

-- the outgoing one
abbrev pub out_port : plain.Declaration → Option Name
out_port (Given r (OutPort port t)) = Some port
out_port _ = None

abbrev pub with_first : {X : Type 0} → Option X → List X → List X
with_first None xs = xs
with_first (Some x) xs = x ∷ xs

-- the incoming ports in turn
abbrev pub in_ports : List plain.Declaration → List (Name × Payload)
in_ports [] = []
in_ports (d ∷ ds) = with_first (in_port d) (in_ports ds)

-- the outgoing ones
abbrev pub out_ports : List plain.Declaration → List Name
out_ports [] = []
out_ports (d ∷ ds) = with_first (out_port d) (out_ports ds)

abbrev pub port_view : ports.InPort → Name × Payload
port_view p = (p.name.now, payload_view p.payload.now)

-- a field for each, in that order
abbrev pub decoders_of : List (Name × Payload) → Fields
decoders_of [] = NoField
decoders_of (p ∷ ps) = MoreField p.0 (decoder p.1) (decoders_of ps)
