-- What crosses a port, by the port's type. (Elm guide: JavaScript interop.)
use Rattle.std.specs.Prelude.{[], ◌∷◌, Bool, true, false, ◌&&◌, if◌then◌else◌, codes}
use Rattle.elm_canon.specs.Names.{Name, same_name}
use Rattle.elm_canon.specs.Tree.{Annotation, Variable, NamedType, FunctionType, TupleType, RecordType, ExtendedType}
use Rattle.elm_canon.specs.Tree.{Annotations, NoAnnotation, MoreAnnotation}
use Rattle.elm_canon.specs.View.{annotation_view}
use Rattle.canon_type.specs.declared.ports.PortForm as program

-- T -> Cmd msg, (T -> msg) -> Sub msg; neither; or not told, since some name in it has no meaning
pub data PortForm : Type 0 where
  Outgoing : Annotation → PortForm
  Incoming : Annotation → PortForm
  NoPort : PortForm
  Untold : PortForm

abbrev pub port_view : program.PortForm → PortForm
port_view (program.PortForm.Outgoing t) = Outgoing (annotation_view t.now)
port_view (program.PortForm.Incoming t) = Incoming (annotation_view t.now)
port_view program.PortForm.NoPort = NoPort
port_view program.PortForm.Untold = Untold

abbrev pub is_type : Name → Name → Name → Name → Bool
is_type home name m x = same_name m home && same_name x name

-- the empty variable stands for what has no meaning
abbrev pub unless_blank : Name → PortForm
unless_blank [] = Untold
unless_blank (c ∷ cs) = NoPort

abbrev pub is_variable : Annotation → Bool
is_variable (Variable a) = true
is_variable (NamedType m x ts) = false
is_variable (FunctionType t u) = false
is_variable (TupleType ts) = false
is_variable (RecordType fs) = false
is_variable (ExtendedType a fs) = false

abbrev pub is_the_variable : Annotation → Name → Bool
is_the_variable (Variable b) a = same_name b a
is_the_variable (NamedType m x ts) a = false
is_the_variable (FunctionType t u) a = false
is_the_variable (TupleType ts) a = false
is_the_variable (RecordType fs) a = false
is_the_variable (ExtendedType b fs) a = false

abbrev pub same_variable : Annotation → Annotation → Bool
same_variable t (Variable a) = is_the_variable t a
same_variable t (NamedType m x ts) = false
same_variable t (FunctionType u v) = false
same_variable t (TupleType ts) = false
same_variable t (RecordType fs) = false
same_variable t (ExtendedType b fs) = false

abbrev pub incoming_to : Annotation → Annotation → Annotation → PortForm
incoming_to t message other = if same_variable message other then Incoming t else NoPort

abbrev pub incoming_form : Annotation → Annotation → PortForm
incoming_form (Variable a) other = unless_blank a
incoming_form (NamedType m x ts) other = NoPort
incoming_form (FunctionType t message) other = incoming_to t message other
incoming_form (TupleType ts) other = NoPort
incoming_form (RecordType fs) other = NoPort
incoming_form (ExtendedType b fs) other = NoPort

-- a type, and the name and the argument of the type that it leads to
abbrev pub form_to : Annotation → Name → Name → Annotation → PortForm
form_to t m x message =
    if is_type (codes "Platform.Cmd") (codes "Cmd") m x then (if is_variable message then Outgoing t else NoPort)
    else (if is_type (codes "Platform.Sub") (codes "Sub") m x then incoming_form t message else NoPort)

abbrev pub named_to : Annotation → Name → Name → Annotations → PortForm
named_to t m x NoAnnotation = NoPort
named_to t m x (MoreAnnotation message NoAnnotation) = form_to t m x message
named_to t m x (MoreAnnotation message (MoreAnnotation u ts)) = NoPort

abbrev pub port_to : Annotation → Annotation → PortForm
port_to t (Variable a) = unless_blank a
port_to t (NamedType m x ts) = named_to t m x ts
port_to t (FunctionType u v) = NoPort
port_to t (TupleType ts) = NoPort
port_to t (RecordType fs) = NoPort
port_to t (ExtendedType a fs) = NoPort

abbrev pub port_form : Annotation → PortForm
port_form (Variable a) = unless_blank a
port_form (NamedType m x ts) = NoPort
port_form (FunctionType t u) = port_to t u
port_form (TupleType ts) = NoPort
port_form (RecordType fs) = NoPort
port_form (ExtendedType a fs) = NoPort
