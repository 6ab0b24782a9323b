-- A program of which the law speaks, with two modules, a function of the core, two ports, a start and what follows on
-- inputs:
--
--     five = 5
--
--     main =
--         Program
--             { init = \_ -> ( 0, out (complement five) )
--             , update = \x m -> ( m, out x )
--             , subscriptions = \_ -> inp (\x -> x)
--             }
use Rattle.std.specs.Prelude.{pos, List, [], ◌∷◌, ◌++◌, Bool, Option, Some, None, codes}
use Rattle.std.specs.Prelude.{if◌then◌else◌}
use Rattle.std.specs.Str.{bytes_eq}
use Rattle.std.specs.Map.{lookup}
use Rattle.elm_base.specs.declared.position.Pos.{Pos}
use Rattle.elm_canon.specs.Names.{Name}
use Rattle.elm_canon.specs.declared.reference.Ref.{Ref}
use Rattle.elm_canon.specs.declared.reference.Ref.TheVariants.{Local, Top}
use Rattle.elm_canon.specs.declared.unions.Tag.TheVariants.{Number}
use Rattle.elm_canon.specs.declared.unions.Alternative.{Alternative}
use Rattle.elm_canon.specs.Unions.{Union, Declared}
use Rattle.elm_canon.specs.declared.tree.Literal.TheVariants.{Int}
use Rattle.elm_canon.specs.Tree.{Annotation, Variable, NamedType, FunctionType, NoAnnotation}
use Rattle.elm_canon.specs.Tree.{MoreAnnotation, Anything, Named, NoPattern, MorePattern}
use Rattle.elm_canon.specs.Tree.{TupleOf, Build, RecordOf, Title, Expr, Is, NameOf, Lambda, Apply, Strict, Exprs}
use Rattle.elm_canon.specs.Tree.{NoExpr}
use Rattle.elm_canon.specs.Tree.{MoreExpr, Constant, IntPayload, OutPort, InPort}
use Rattle.elm_canon.specs.Tree.{PortDeclaration, Declaration, Given, Define, Module}
use Rattle.elm_meaning.specs.Functions.{BitNot}
use Rattle.elm_meaning.specs.Run.{AnyFlags, Program}
use Rattle.elm_type.specs.Types.{Free, Scheme, variable, function, functions, tuple, any_kind, int_type}
use Rattle.elm_type.specs.Classes.{Ground}
use Rattle.elm_type.specs.declared.class.Class.TheVariants as class
use Rattle.type_items.specs.Items.{Place}
use Rattle.type_items.specs.Scopes.{Known}
use Rattle.type_items.specs.Solutions.{Values}
use Rattle.type_items.specs.Modules.{known_in}
use Rattle.typed_values.specs.Payloads.{cmd_type, sub_type}
use Rattle.typed_values.specs.World.{World, Constructor, made_type}
use Rattle.typed_values.specs.Sample.{is_at, sample_unions, sample_known}
use Rattle.program_safety.specs.Parts.{Part}
use Rattle.program_safety.specs.Primitives.{plain}
use Rattle.program_safety.specs.Told.{IsInferred}
use Rattle.program_safety.specs.Programs.{step_type, worker_type, program_type, IsTypedProgram}

abbrev pub here : Pos
here = record { row = 1; column = 1 }

abbrev pub main_name : Name
main_name = codes "Main"

abbrev pub top : Name → Ref
top x = Top main_name x

-- ---- the module Platform, as far as it goes here: `type Program flags model msg = Program { .. }`

abbrev pub program_alternative : Alternative
program_alternative = record { name = codes "Program"; tag = Number (pos 0); arity = 1 }

abbrev pub program_union : Union
program_union = Declared (codes "Platform") (codes "Program") (program_alternative ∷ [])

abbrev pub program_maker : Constructor
program_maker = record {
  alternative = program_alternative;
  fields = worker_type (variable (Free 0)) (variable (Free 1)) (variable (Free 2)) ∷ [];
  arguments = 0 ∷ 1 ∷ 2 ∷ [];
}

abbrev pub program_scheme : Scheme
program_scheme = record {
  type = functions program_maker.fields (made_type (codes "Platform") (codes "Program") program_maker);
  kinds = any_kind ∷ any_kind ∷ any_kind ∷ [];
}

-- ---- the module Help

abbrev pub help_name : Name
help_name = codes "Help"

abbrev pub five : Ref
five = Top help_name (codes "five")

abbrev pub five_title : Title
five_title = record { name = five; place = here; annotation = None }

abbrev pub help_declarations : List Declaration
help_declarations = Define (Constant five_title (Is (Int (pos 5)))) ∷ []

abbrev pub help_module : Module
help_module = record { name = help_name; unions = []; aliases = []; ports = []; declarations = help_declarations }

-- number
abbrev pub five_scheme : Scheme
five_scheme = record { type = variable (Free 0); kinds = record { class = class.Number; lacks = [] } ∷ [] }

-- ---- the module Main

abbrev int_annotation : Annotation
int_annotation = NamedType (codes "Basics") (codes "Int") NoAnnotation

abbrev of_message : Name → Name → Annotation
of_message m x = NamedType m x (MoreAnnotation (Variable (codes "msg")) NoAnnotation)

abbrev pub out_port : PortDeclaration
out_port = record {
  name = codes "out";
  place = here;
  port_type = FunctionType int_annotation (of_message (codes "Platform.Cmd") (codes "Cmd"));
}

abbrev pub in_port : PortDeclaration
in_port = record {
  name = codes "inp";
  place = here;
  port_type =
      FunctionType (FunctionType int_annotation (Variable (codes "msg")))
      (of_message (codes "Platform.Sub") (codes "Sub"));
}

abbrev local : Name → Expr
local x = NameOf (Local x)

abbrev one : Expr → Exprs
one e = MoreExpr e NoExpr

abbrev two : Expr → Expr → Exprs
two a b = MoreExpr a (one b)

abbrev call : Name → Expr → Expr
call f e = Apply (NameOf (top f)) (one e)

abbrev pub complement : Ref
complement = Top (codes "Bitwise") (codes "complement")

abbrev pub init : Expr
init =
    Lambda (MorePattern Anything NoPattern)
    (Strict TupleOf (two (Is (Int (pos 0))) (call (codes "out") (Apply (NameOf complement) (one (NameOf five))))))

abbrev pub update : Expr
update =
    Lambda (MorePattern (Named (codes "x")) (MorePattern (Named (codes "m")) NoPattern))
    (Strict TupleOf (two (local (codes "m")) (call (codes "out") (local (codes "x")))))

abbrev pub subscriptions : Expr
subscriptions =
    Lambda (MorePattern Anything NoPattern)
    (call (codes "inp") (Lambda (MorePattern (Named (codes "x")) NoPattern) (local (codes "x"))))

abbrev pub main_expression : Expr
main_expression =
    Strict (Build here program_union program_alternative)
    (one (Strict (RecordOf (codes "init" ∷ codes "update" ∷ codes "subscriptions" ∷ []))
    (MoreExpr init (two update subscriptions))))

abbrev pub main_title : Title
main_title = record { name = top (codes "main"); place = here; annotation = None }

abbrev pub main_declarations : List Declaration
main_declarations =
    Given (top (codes "out")) (OutPort (codes "out") IntPayload)
    ∷ Given (top (codes "inp")) (InPort (codes "inp") IntPayload)
    ∷ Define (Constant main_title main_expression)
    ∷ []

abbrev pub main_module : Module
main_module = record {
  name = main_name;
  unions = [];
  aliases = [];
  ports = out_port ∷ in_port ∷ [];
  declarations = main_declarations;
}

-- ---- types

abbrev pub unit_type : Ground
unit_type = tuple []

abbrev pub main_type : Ground
main_type = program_type unit_type int_type int_type

abbrev pub out_scheme : Scheme
out_scheme = record { type = function int_type (cmd_type (variable (Free 0))); kinds = any_kind ∷ [] }

abbrev pub in_scheme : Scheme
in_scheme = record {
  type = function (function int_type (variable (Free 0))) (sub_type (variable (Free 0)));
  kinds = any_kind ∷ [];
}

abbrev pub main_scheme : Scheme
main_scheme = record { type = program_type (tuple []) int_type int_type; kinds = [] }

-- what the modules tell
abbrev pub tells_main : Name → Option Scheme
tells_main x =
    if bytes_eq x (codes "main") then Some main_scheme
    else (if bytes_eq x (codes "out") then Some out_scheme
    else (if bytes_eq x (codes "inp") then Some in_scheme else None))

abbrev pub complement_scheme : Scheme
complement_scheme = plain (int_type ∷ []) int_type

abbrev pub tells_bitwise : Name → Option Scheme
tells_bitwise x = if bytes_eq x (codes "complement") then Some complement_scheme else None

abbrev pub tells_help : Name → Option Scheme
tells_help x = if bytes_eq x (codes "five") then Some five_scheme else None

abbrev pub told : Known
told =
    sample_known (λ m x.
    if bytes_eq m (codes "Platform") then (if bytes_eq x (codes "Program") then Some program_scheme else None)
    else (if bytes_eq m main_name then tells_main x
    else (if bytes_eq m help_name then tells_help x
    else (if bytes_eq m (codes "Bitwise") then tells_bitwise x else None))))

-- of the places of the module, which stands at 0, those whose type is not Int
abbrev pub q : Place
q = 0 ∷ 0 ∷ 0 ∷ 1 ∷ []

abbrev pub r : Place
r = q ++ 0 ∷ 0 ∷ []

abbrev pub others : List (Place × Ground)
others =
    (0 ∷ 0 ∷ 0 ∷ [], main_type)
    ∷ (q, main_type)
    ∷ (r, worker_type unit_type int_type int_type)
    ∷ (q ++ 1 ∷ 0 ∷ [], unit_type)
    ∷ (r ++ 0 ∷ 0 ∷ [], function unit_type (step_type int_type int_type))
    ∷ (r ++ 0 ∷ 1 ∷ [], function int_type (function int_type (step_type int_type int_type)))
    ∷ (r ++ 0 ∷ 2 ∷ [], function int_type (sub_type int_type))
    ∷ (r ++ 0 ∷ 0 ∷ 0 ∷ 0 ∷ [], unit_type)
    ∷ (r ++ 0 ∷ 0 ∷ 1 ∷ [], step_type int_type int_type)
    ∷ (r ++ 0 ∷ 0 ∷ 1 ∷ 0 ∷ 1 ∷ [], cmd_type int_type)
    ∷ (r ++ 0 ∷ 1 ∷ 1 ∷ [], step_type int_type int_type)
    ∷ (r ++ 0 ∷ 1 ∷ 1 ∷ 0 ∷ 1 ∷ [], cmd_type int_type)
    ∷ (r ++ 0 ∷ 2 ∷ 1 ∷ [], sub_type int_type)
    ∷ (r ++ 0 ∷ 2 ∷ 1 ∷ 1 ∷ 0 ∷ [], function int_type int_type)
    ∷ []

abbrev pub or_int : Option Ground → Ground
or_int None = int_type
or_int (Some t) = t

abbrev pub values : Values
values p = or_int (lookup (bytes_eq p) others)

-- ---- the program

abbrev pub no_programs : Bool → List Constructor
no_programs b = if b then program_maker ∷ [] else []

abbrev pub world : World
world = record {
  known = λ scope.
      if bytes_eq scope main_name then known_in main_module told
      else (if bytes_eq scope help_name then known_in help_module told else told);
  unions = sample_unions (λ m x. no_programs (is_at (codes "Platform") (codes "Program") m x));
  outs = λ port. if bytes_eq port (codes "out") then Some IntPayload else None;
  ins = λ port. if bytes_eq port (codes "inp") then Some IntPayload else None;
}

abbrev pub main_part : Part
main_part = record { module_ = main_module; place = 0 ∷ []; values = values; declared = main_declarations }

-- it stands at 1
abbrev pub help_part : Part
help_part = record {
  module_ = help_module;
  place = 1 ∷ [];
  values = λ p. int_type;
  declared = help_declarations;
}

abbrev pub program : Program
program = record {
  primitives = (complement, BitNot) ∷ [];
  declarations = help_declarations ++ main_declarations;
  main = top (codes "main");
  flags = AnyFlags;
}

-- the law speaks of it
abbrev pub ExampleIsTyped : Type 0
ExampleIsTyped = IsTypedProgram world told (help_part ∷ main_part ∷ []) program

-- and of Help is told what inference tells
abbrev pub ExampleIsInferred : Type 0
ExampleIsInferred = IsInferred told help_part
