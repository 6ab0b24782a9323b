-- Emit: the JavaScript of a program. (Elm guide: modules, JavaScript interop.) There is a line for each name, in order.
-- Made names are numbered within one line.
use Rattle.std.specs.Prelude.{List, [], ◌∷◌, if◌then◌else◌}
use Rattle.runs.specs.Texts.{units_lt}
use Rattle.elm_canon.specs.Names as source
use Rattle.elm_canon.specs.declared.reference.Ref.{Ref}
use Rattle.elm_canon.specs.declared.reference.Ref.TheVariants.{Local, Top}
use Rattle.elm_canon.specs.Tree.{OutPort, InPort, Group, Together, Constant, Destructure, Functions, NoFunction}
use Rattle.elm_canon.specs.Tree.{MoreFunction, Declaration, Given, Define}
use Rattle.elm_meaning.specs.Functions as functions
use Rattle.elm_meaning.specs.Functions.{Primitive}
use Rattle.elm_meaning.specs.Run as run
use Rattle.js_tree.specs.Tree.{Js, JVar, Fields, NoField, MoreField, Lines, NoLine, MoreLine, Program}
use Rattle.js_emit.specs.Names.{js_name, now}
use Rattle.js_emit.specs.Codecs.{decoder, flags_decoder}
use Rattle.js_emit.specs.Operators.{bodiless_js}
use Rattle.js_emit.specs.Loops.{Outside}
use Rattle.js_emit.specs.Emit.{emit, function}

-- ---- lines, and then others

abbrev pub function_lines : Functions → Lines → Lines
function_lines NoFunction ls = ls
function_lines (MoreFunction title ps e fs) ls =
    MoreLine (js_name title.name) (now (function 0 title.name ps e (λ loop next. emit next loop e)))
    (function_lines fs ls)

abbrev pub group_lines : Group → Lines → Lines
group_lines (Together fs) ls = function_lines fs ls
group_lines (Constant title e) ls = MoreLine (js_name title.name) (now (emit 0 Outside e)) ls
group_lines (Destructure p e) ls = ls

abbrev pub declaration_lines : List Declaration → Lines
declaration_lines [] = NoLine
declaration_lines (Given r k ∷ ds) = MoreLine (js_name r) (bodiless_js (functions.Given k)) (declaration_lines ds)
declaration_lines (Define g ∷ ds) = group_lines g (declaration_lines ds)

abbrev pub primitive_lines : List (Ref × Primitive) → Lines → Lines
primitive_lines [] ls = ls
primitive_lines (p ∷ ps) ls = MoreLine (js_name p.0) (bodiless_js (functions.Core p.1)) (primitive_lines ps ls)

-- ---- ports, in the order of their names' units

abbrev pub put_decoder : source.Name → Js → Fields → Fields
put_decoder port x NoField = MoreField port x NoField
put_decoder port x (MoreField other y fs) =
    if units_lt other port then MoreField other y (put_decoder port x fs)
    else MoreField port x (MoreField other y fs)

abbrev pub in_decoders : List Declaration → Fields
in_decoders [] = NoField
in_decoders (Given r (InPort port t) ∷ ds) = put_decoder port (decoder t) (in_decoders ds)
in_decoders (_ ∷ ds) = in_decoders ds

abbrev pub put_port : source.Name → List source.Name → List source.Name
put_port port [] = port ∷ []
put_port port (other ∷ ports) =
    if units_lt other port then other ∷ put_port port ports else port ∷ other ∷ ports

abbrev pub out_names : List Declaration → List source.Name
out_names [] = []
out_names (Given r (OutPort port t) ∷ ds) = put_port port (out_names ds)
out_names (_ ∷ ds) = out_names ds

-- ---- the program

-- the module of a name; a local one has none
abbrev pub module_of : Ref → source.Name
module_of (Top m x) = m
module_of (Local x) = []

abbrev pub Emit : run.Program → Program
Emit p = record {
  lines = primitive_lines p.primitives (declaration_lines p.declarations);
  main = JVar (js_name p.main);
  name = module_of p.main;
  flags = flags_decoder p.flags;
  ins = in_decoders p.declarations;
  outs = out_names p.declarations;
}
