-- What a module lacks of what the compiler takes for granted of the core library. A core module declares its unions of
-- the table, and no type that is to have no text; and what has the name of a function that no text can say has the
-- annotation of the table. Of each other module nothing is asked.
use Rattle.std.specs.Prelude.{List, [], ◌∷◌, ◌++◌, Bool, true, false, not, if◌then◌else◌, Option, Some, None}
use Rattle.std.specs.Prelude.{flat_map}
use Rattle.std.specs.List.{list_any}
use Rattle.elm_base.specs.declared.fault.Code.{Code}
use Rattle.elm_base.specs.declared.fault.Code.TheVariants.{UnknownType, DuplicateName, TypeMismatch}
use Rattle.elm_canon.specs.Names.{Name, same_name, same_ref}
use Rattle.elm_canon.specs.declared.reference.Ref.TheVariants.{Top}
use Rattle.elm_canon.specs.Tree.{Annotation, Title, Functions, NoFunction, MoreFunction, Group, Together, Constant}
use Rattle.elm_canon.specs.Tree.{Destructure, Declaration, Given, Define, Module}
use Rattle.canon_env.specs.declared.finding.Finding.{Finding}
use Rattle.core_modules.specs.Signs.{Sign, spelled, union_spelled, same_signs}
use Rattle.core_modules.specs.Table.{UnionRow, union_rows, BareRow, bare_rows, FunctionRow, function_rows}

-- A fault of the whole text. Names of the core are ASCII, so that units are bytes.
abbrev pub fault_of : Code → Name → List Finding
fault_of code x = record { code = code; place = record { row = 1; column = 1 }; detail = x } ∷ []

-- ---- unions

-- the module declares a union that is spelled so
abbrev pub declares : Module → List Sign → Bool
declares m spelling = list_any (λ u. same_signs (union_spelled u) spelling) m.unions

-- it is another module, or declares the union
abbrev pub has_union : Module → Name → List Sign → Bool
has_union m home spelling = if same_name m.name home then declares m spelling else true

abbrev pub lack_of_union : Module → Name → Name → List Sign → List Finding
lack_of_union m home x spelling = if has_union m home spelling then [] else fault_of UnknownType x

abbrev pub union_faults : Module → UnionRow → List Finding
union_faults m r = lack_of_union m r.home r.declared.name (union_spelled r.declared)

-- ---- types without a text

-- it is the module, and declares the type
abbrev pub has_type : Module → Name → Name → Bool
has_type m home x = if same_name m.name home then list_any (λ u. same_name u.name x) m.unions else false

abbrev pub type_faults : Module → Name → Name → List Finding
type_faults m home x = if has_type m home x then fault_of DuplicateName x else []

abbrev pub bare_faults : Module → BareRow → List Finding
bare_faults m r = type_faults m r.home r.name

-- ---- functions

-- its annotation is spelled so
abbrev pub is_annotated : List Sign → Option Annotation → Bool
is_annotated type None = false
is_annotated type (Some t) = same_signs (spelled t) type

-- it is the function x of the module, and has another annotation or none
abbrev pub is_mistyped : Title → Name → Name → List Sign → Bool
is_mistyped t home x type = if same_ref t.name (Top home x) then not (is_annotated type t.annotation) else false

abbrev pub function_faults : Title → Name → Name → List Sign → List Finding
function_faults t home x type = if is_mistyped t home x type then fault_of TypeMismatch x else []

abbrev pub row_faults : Title → FunctionRow → List Finding
row_faults t r = function_faults t r.home r.name (spelled r.type)

abbrev pub title_faults : Title → List Finding
title_faults t = flat_map (row_faults t) function_rows

abbrev pub function_titles : Functions → List Title
function_titles NoFunction = []
function_titles (MoreFunction title ps e fs) = title ∷ function_titles fs

abbrev pub group_titles : Group → List Title
group_titles (Together fs) = function_titles fs
group_titles (Constant title e) = title ∷ []
group_titles (Destructure p e) = []

-- what a declaration defines
abbrev pub titles_of : Declaration → List Title
titles_of (Given r k) = []
titles_of (Define g) = group_titles g

abbrev pub declared_faults : Declaration → List Finding
declared_faults d = flat_map title_faults (titles_of d)

-- ---- all

unfoldable pub core_faults : Module → List Finding
core_faults m =
    flat_map (union_faults m) union_rows ++ flat_map (bare_faults m) bare_rows ++ flat_map declared_faults m.declarations
