-- Ports: what a port means by its type, and the faults of its type. (Elm guide: JavaScript interop.)
use Rattle.std.specs.Prelude.{List, [], ◌∷◌, ◌++◌, Option, Some, None, flat_map}
use Rattle.elm_base.specs.declared.fault.Code.TheVariants.{PortPayload, PortType}
use Rattle.elm_canon.specs.Names.{Name}
use Rattle.elm_canon.specs.Tree.{Payload, IntPayload, Known, OutPort, InPort, PortDeclaration}
use Rattle.elm_tree.specs.Tree.{Word, TypeTree}
use Rattle.canon_env.specs.Imports.{name_of}
use Rattle.canon_env.specs.declared.finding.Finding.{Finding}
use Rattle.canon_env.specs.Naming.{World}
use Rattle.canon_env.specs.Sites.{at_word, faults_at}
use Rattle.canon_env.specs.Types.{type_of, type_sites}
use Rattle.canon_type.specs.Ports.{PortForm, Outgoing, Incoming, NoPort, Untold, port_form}
use Rattle.port_payload.specs.Payloads.{payload_of}

-- ---- faults

abbrev pub unless_payload : Word → Option Payload → List Finding
unless_payload x None = at_word PortPayload x ∷ []
unless_payload x (Some p) = []

-- its type has one of the two forms, and what crosses it may do so
abbrev pub form_faults : Word → PortForm → List Finding
form_faults x (Outgoing t) = unless_payload x (payload_of t)
form_faults x (Incoming t) = unless_payload x (payload_of t)
form_faults x NoPort = at_word PortType x ∷ []
form_faults x Untold = []

-- those of its type, and of the form of its type
abbrev pub port_faults : World → Word → TypeTree → List Finding
port_faults w x t = flat_map (faults_at w) (type_sites w t) ++ form_faults x (port_form (type_of w t))

-- ---- meaning; a port with a fault is told as one of Int

abbrev pub payload_or_int : Option Payload → Payload
payload_or_int None = IntPayload
payload_or_int (Some p) = p

abbrev pub known_by : Name → PortForm → Known
known_by x (Outgoing t) = OutPort x (payload_or_int (payload_of t))
known_by x (Incoming t) = InPort x (payload_or_int (payload_of t))
known_by x NoPort = OutPort x IntPayload
known_by x Untold = OutPort x IntPayload

abbrev pub port_known : World → Word → TypeTree → Known
port_known w x t = known_by (name_of x) (port_form (type_of w t))

abbrev pub port_of : World → Word → TypeTree → PortDeclaration
port_of w x t = record { name = name_of x; place = x.place; port_type = type_of w t }
