-- The faults of the names that a module declares, and of those that its header exposes. (Elm guide: modules.)
use Rattle.std.specs.Prelude.{List, [], ◌∷◌, ◌++◌, Bool, false, Option, Some, None, map, flat_map}
use Rattle.std.specs.Prelude.{if◌then◌else◌}
use Rattle.elm_base.specs.declared.fault.Code.TheVariants.{DuplicateName, ExportUnknown, PortInPlainModule}
use Rattle.elm_canon.specs.Names.{Name}
use Rattle.elm_tree.specs.Tree.{Word, Exposed, OneValue, OneType, OpenType, OneOperator, Exposing, Everything}
use Rattle.elm_tree.specs.Tree.{Header}
use Rattle.canon_env.specs.Imports.{name_of}
use Rattle.canon_env.specs.Exposing.{is_among, exposed_word, entries_of}
use Rattle.canon_env.specs.declared.finding.Finding.{Finding}
use Rattle.canon_env.specs.Sites.{at_word, repeats}
use Rattle.canon_module.specs.Names.{Names}

-- a value, a type or a constructor is declared twice
abbrev pub duplicate_faults : Names → List Finding
duplicate_faults n =
    map (at_word DuplicateName) (repeats n.values) ++ map (at_word DuplicateName) (repeats n.types)
    ++ map (at_word DuplicateName) (repeats n.constructors)

abbrev pub is_named : Word → List Word → Bool
is_named x xs = is_among (name_of x) (map name_of xs)

-- a type may be one that the module has without a text of its own, as Int is of Basics
abbrev pub is_declared : List Name → Names → Exposed → Bool
is_declared given n (OneValue x) = is_named x n.values
is_declared given n (OneType x) = is_among (name_of x) (given ++ map name_of n.types)
is_declared given n (OpenType x) = is_named x n.unions
is_declared given n (OneOperator x) = false

abbrev pub export_fault : List Name → Names → Exposed → List Finding
export_fault given n e = if is_declared given n e then [] else at_word ExportUnknown (exposed_word e) ∷ []

-- a module without a header exposes everything, and has no ports
abbrev pub exposed_by : Option Header → Exposing
exposed_by None = Everything
exposed_by (Some h) = h.exposes

abbrev pub may_have_ports : Option Header → Bool
may_have_ports None = false
may_have_ports (Some h) = h.has_ports

abbrev pub export_faults : List Name → Names → Option Header → List Finding
export_faults given n header = flat_map (export_fault given n) (entries_of (exposed_by header))

abbrev pub port_faults : Names → Option Header → List Finding
port_faults n header = if may_have_ports header then [] else map (at_word PortInPlainModule) n.ports

-- those of a module that has these types without a text
abbrev pub name_faults : List Name → Names → Option Header → List Finding
name_faults given n header = duplicate_faults n ++ export_faults given n header ++ port_faults n header
