-- The faults of the parameters of declared types. (Elm guide: custom types, type aliases.)
use Rattle.std.specs.Prelude.{List, [], ◌++◌, not, map, flat_map, filter}
use Rattle.elm_base.specs.declared.fault.Code.{Code}
use Rattle.elm_base.specs.declared.fault.Code.TheVariants.{UnboundTypeVariable, UnusedTypeVariable}
use Rattle.elm_base.specs.declared.fault.Code.TheVariants.{DuplicateTypeVariable}
use Rattle.elm_tree.specs.Tree.{Word, ConstructorOf, Declaration, Union, Alias}
use Rattle.canon_env.specs.Imports.{name_of}
use Rattle.canon_env.specs.Exposing.{is_among}
use Rattle.canon_env.specs.declared.finding.Finding.{Finding}
use Rattle.canon_env.specs.Sites.{at_word, repeats}
use Rattle.canon_type.specs.Written.{variables_in, variables_in_all}

-- a fault at each of these words whose name is none of those
abbrev pub missing : Code → List Word → List Word → List Finding
missing code words among = map (at_word code) (filter (λ a. not (is_among (name_of a) (map name_of among))) words)

-- a variable is a parameter
abbrev pub unbound : List Word → List Word → List Finding
unbound parameters variables = missing UnboundTypeVariable variables parameters

-- a parameter of an alias is a variable of its body
abbrev pub unused : List Word → List Word → List Finding
unused parameters variables = missing UnusedTypeVariable parameters variables

-- no two parameters have one name
abbrev pub twice : List Word → List Finding
twice parameters = map (at_word DuplicateTypeVariable) (repeats parameters)

abbrev pub constructor_variables : ConstructorOf → List Word
constructor_variables c = variables_in_all c.fields

-- parameters of a union need not be used
abbrev pub parameter_faults : Declaration → List Finding
parameter_faults (Union x ps cs) = twice ps ++ unbound ps (flat_map constructor_variables cs)
parameter_faults (Alias x ps t) = twice ps ++ (unbound ps (variables_in t) ++ unused ps (variables_in t))
parameter_faults _ = []
