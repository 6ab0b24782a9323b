-- The faults of the values and ports of a module. (Elm guide: modules, core language, JavaScript interop.)
use Rattle.std.specs.Prelude.{List, [], ◌++◌, true, map, flat_map}
use Rattle.elm_tree.specs.Tree.{Word, Declaration, Value, Port, Union, Alias}
use Rattle.canon_env.specs.declared.finding.Finding.{Finding}
use Rattle.canon_env.specs.Naming.{World}
use Rattle.canon_env.specs.Locals.{no_locals}
use Rattle.canon_env.specs.Sites.{Defined, faults_at}
use Rattle.canon_expr.specs.Binding.{defined_by}
use Rattle.canon_expr.specs.Blocks.{reaching_sites}
use Rattle.canon_expr.specs.Exprs.{definition_sites}
use Rattle.canon_module.specs.Ports.{port_faults}
use Rattle.canon_module.specs.Items.{top_used}

-- what stands in one declaration. Of a type, nothing: its faults are told apart
abbrev pub declaration_faults : World → Declaration → List Finding
declaration_faults w (Value d) = flat_map (faults_at w) (definition_sites w no_locals d)
declaration_faults w (Port x t) = port_faults w x t
declaration_faults w (Union x ps cs) = []
declaration_faults w (Alias x ps t) = []

-- what is no value of its own is told like a function, which is never refused
abbrev pub told_apart : Word → Defined
told_apart x = record { is_function = true; place = x.place; name = x.text }

abbrev pub defined_top : Declaration → Defined
defined_top (Value d) = defined_by d
defined_top (Port x t) = told_apart x
defined_top (Union x ps cs) = told_apart x
defined_top (Alias x ps t) = told_apart x

-- what stands in each declaration, and then the values that reach themselves by uses
abbrev pub value_faults : World → List Declaration → List Finding
value_faults w ds =
    flat_map (declaration_faults w) ds ++ flat_map (faults_at w) (reaching_sites (top_used w ds) (map defined_top ds))
