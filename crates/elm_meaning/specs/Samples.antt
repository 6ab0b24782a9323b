-- Small expressions and programs, as trees, for the worked examples.
use Rattle.std.specs.Prelude.{ℕ, pos, negsuc, List, [], ◌∷◌, ◌++◌, None, codes}
use Rattle.elm_base.specs.declared.position.Pos.{Pos}
use Rattle.elm_canon.specs.Names.{Name}
use Rattle.elm_canon.specs.declared.reference.Ref.{Ref}
use Rattle.elm_canon.specs.declared.reference.Ref.TheVariants.{Local, Top}
use Rattle.elm_canon.specs.declared.unions.Tag.TheVariants.{Number}
use Rattle.elm_canon.specs.declared.unions.Alternative.{Alternative}
use Rattle.elm_canon.specs.Unions.{Union, TupleUnion, ListUnion, Declared, tuple_alternative, nil_alternative}
use Rattle.elm_canon.specs.Unions.{cons_alternative}
use Rattle.elm_canon.specs.declared.tree.Literal.TheVariants as literal
use Rattle.elm_canon.specs.declared.tree.Operator.{Operator}
use Rattle.elm_canon.specs.declared.tree.Operator.TheVariants as operator
use Rattle.elm_canon.specs.Tree.{Pattern, Anything, Named, Exactly, Construct, Patterns, NoPattern, MorePattern}
use Rattle.elm_canon.specs.Tree.{TupleOf, ListOf, Build, RecordOf, Update, Negate, Binary, Title, Expr, Is, NameOf}
use Rattle.elm_canon.specs.Tree.{Lambda, Apply, Strict, If, Case, Exprs, NoExpr, MoreExpr, branches_of}
use Rattle.elm_canon.specs.Tree.{Functions, NoFunction, MoreFunction, Together, Constant}
use Rattle.elm_canon.specs.Tree.{Maker, OutPort, InPort, IntPayload, Payload, Declaration, Given, Define, exprs_of}
use Rattle.elm_canon.specs.Tree.{patterns_of}
use Rattle.elm_meaning.specs.Functions.{Primitive, Crash, Modulo, Length}
use Rattle.elm_meaning.specs.Run.{AnyFlags, FlagsOf, Program}

-- ---- names and lists of parts

abbrev pub here : Pos
here = record { row = 1; column = 1 }

abbrev pub top : Name → Ref
top x = Top (codes "Main") x

abbrev pub titled : Ref → Title
titled r = record { name = r; place = here; annotation = None }

abbrev pub one : Expr → Exprs
one a = MoreExpr a NoExpr

abbrev pub two : Expr → Expr → Exprs
two a b = MoreExpr a (one b)

abbrev pub three : Expr → Expr → Expr → Exprs
three a b c = MoreExpr a (two b c)

-- ---- expressions

abbrev pub local : Name → Expr
local x = NameOf (Local x)

abbrev pub int : ℕ → Expr
int n = Is (literal.Int (pos n))

abbrev pub text : List ℕ → Expr
text t = Is (literal.Text t)

abbrev pub minus : Expr → Expr
minus a = Strict Negate (one a)

abbrev pub binary : Operator → Expr → Expr → Expr
binary op a b = Strict (Binary here op) (two a b)

abbrev pub unit_of : Expr
unit_of = Strict TupleOf NoExpr

abbrev pub pair_of : Expr → Expr → Expr
pair_of a b = Strict TupleOf (two a b)

abbrev pub list_of : List Expr → Expr
list_of es = Strict ListOf (exprs_of es)

-- { x = a, y = b }
abbrev pub point_of : Expr → Expr → Expr
point_of a b = Strict (RecordOf (codes "x" ∷ codes "y" ∷ [])) (two a b)

-- { r | y = a }
abbrev pub with_y : Expr → Expr → Expr
with_y r a = Strict (Update (codes "y" ∷ [])) (two r a)

abbrev pub call : Expr → List Expr → Expr
call f es = Apply f (exprs_of es)

-- ---- patterns

abbrev pub parameters : List Name → Patterns
parameters [] = NoPattern
parameters (x ∷ xs) = MorePattern (Named x) (parameters xs)

abbrev pub int_p : ℕ → Pattern
int_p n = Exactly (literal.Int (pos n))

abbrev pub pair_p : Pattern → Pattern → Pattern
pair_p p q = Construct (TupleUnion 2) (tuple_alternative 2) (patterns_of (p ∷ q ∷ []))

abbrev pub nil_p : Pattern
nil_p = Construct ListUnion nil_alternative NoPattern

abbrev pub cons_p : Pattern → Pattern → Pattern
cons_p p q = Construct ListUnion cons_alternative (patterns_of (p ∷ q ∷ []))

-- ---- definitions

abbrev pub function : Ref → List Name → Expr → Functions
function r xs e = MoreFunction (titled r) (parameters xs) e NoFunction

abbrev pub defined : Ref → List Name → Expr → Declaration
defined r xs e = Define (Together (function r xs e))

abbrev pub constant : Ref → Expr → Declaration
constant r e = Define (Constant (titled r) e)

-- ---- the core, as far as the examples go

-- the second constructor of commands and subscriptions, which is a batch of them
abbrev pub batch_alternative : Alternative
batch_alternative = record { name = codes "Batch"; tag = Number (pos 1); arity = 1 }

abbrev pub commands : Union
commands =
    Declared (codes "Platform.Cmd") (codes "Cmd")
    (record { name = codes "Send"; tag = Number (pos 0); arity = 2 } ∷ batch_alternative ∷ [])

abbrev pub batch : List Expr → Expr
batch es = Strict (Build here commands batch_alternative) (one (list_of es))

abbrev pub no_commands : Ref
no_commands = Top (codes "Platform.Cmd") (codes "none")

abbrev pub no_subscriptions : Ref
no_subscriptions = Top (codes "Platform.Sub") (codes "none")

abbrev pub worker : Ref
worker = Top (codes "Platform") (codes "worker")

abbrev pub identity : Ref
identity = Top (codes "Basics") (codes "identity")

abbrev pub negate : Ref
negate = Top (codes "Basics") (codes "negate")

abbrev pub mod_by : Ref
mod_by = Top (codes "Basics") (codes "modBy")

abbrev pub todo : Ref
todo = Top (codes "Debug") (codes "todo")

abbrev pub text_length : Ref
text_length = Top (codes "String") (codes "length")

abbrev pub list_map : Ref
list_map = Top (codes "List") (codes "map")

abbrev pub core_primitives : List (Ref × Primitive)
core_primitives = (mod_by, Modulo) ∷ (todo, Crash) ∷ (text_length, Length) ∷ []

-- case xs of [] -> [] ; x :: rest -> f x :: map f rest
abbrev pub map_body : Expr
map_body =
    Case (local (codes "xs")) (branches_of ((nil_p, list_of [])
    ∷ (
      cons_p (Named (codes "x")) (Named (codes "rest")),
      binary operator.Cons (call (local (codes "f")) (local (codes "x") ∷ []))
          (call (NameOf list_map) (local (codes "f") ∷ local (codes "rest") ∷ [])),
    )
    ∷ []))

abbrev pub core : List Declaration
core =
    Given worker (Maker (record { name = codes "Program"; tag = Number (pos 0); arity = 1 }))
    ∷ constant no_commands (batch [])
    ∷ constant no_subscriptions (batch [])
    ∷ defined identity (codes "x" ∷ []) (local (codes "x"))
    ∷ defined negate (codes "n" ∷ []) (minus (local (codes "n")))
    ∷ defined list_map (codes "f" ∷ codes "xs" ∷ []) map_body
    ∷ []

-- ---- dictionaries, whose nodes have the number -1, and -2 at their ends

abbrev pub dictionaries : Union
dictionaries = Declared (codes "Dict") (codes "Dict") []

abbrev pub node : Expr → Expr → Expr → Expr → Expr
node key value left right =
    Strict (Build here dictionaries (record { name = codes "Node"; tag = Number (negsuc 0); arity = 5 }))
    (exprs_of (int 0 ∷ key ∷ value ∷ left ∷ right ∷ []))

abbrev pub leaf : Expr
leaf = Strict (Build here dictionaries (record { name = codes "Empty"; tag = Number (negsuc 1); arity = 0 })) NoExpr

-- ---- definitions for the programs

-- build n acc = if n == 0 then acc else build (n - 1) ((\_ -> n) :: acc)
abbrev pub build : Declaration
build =
    defined (top (codes "build")) (codes "n" ∷ codes "acc" ∷ [])
    (If (binary operator.Equal (local (codes "n")) (int 0)) (local (codes "acc"))
    (call (NameOf (top (codes "build"))) (binary operator.Subtract (local (codes "n")) (int 1)
    ∷ binary operator.Cons (Lambda (patterns_of (Anything ∷ [])) (local (codes "n"))) (local (codes "acc"))
    ∷ [])))

-- List.map (\g -> g ()) (build 3 [])
abbrev pub built : Expr
built =
    call (NameOf list_map) (Lambda (parameters (codes "g" ∷ [])) (call (local (codes "g")) (unit_of ∷ []))
    ∷ call (NameOf (top (codes "build"))) (int 3 ∷ list_of [] ∷ [])
    ∷ [])

-- down n = if n == 0 then 0 else down (n - 1)
abbrev pub down : Declaration
down =
    defined (top (codes "down")) (codes "n" ∷ [])
    (If (binary operator.Equal (local (codes "n")) (int 0)) (int 0)
    (call (NameOf (top (codes "down"))) (binary operator.Subtract (local (codes "n")) (int 1) ∷ [])))

-- ---- programs

-- Platform.worker { init = a, update = b, subscriptions = c }
abbrev pub worker_of : Expr → Expr → Expr → Expr
worker_of a b c =
    call (NameOf worker)
    (Strict (RecordOf (codes "init" ∷ codes "update" ∷ codes "subscriptions" ∷ [])) (three a b c) ∷ [])

-- port out : t -> Cmd msg, definitions, and
-- main = Platform.worker
--     { init = \_ -> ( (), out e ), update = \_ m -> ( m, Cmd.none ), subscriptions = \_ -> Sub.none }
abbrev pub sends : Payload → Expr → List Declaration → Program
sends t e definitions = record {
  primitives = core_primitives;
  declarations = core ++ Given (top (codes "out")) (OutPort (codes "out") t) ∷ definitions
      ++ constant (top (codes "main")) (worker_of
      (Lambda (patterns_of (Anything ∷ [])) (pair_of unit_of (call (NameOf (top (codes "out"))) (e ∷ []))))
      (Lambda (patterns_of (Anything ∷ Named (codes "m") ∷ [])) (pair_of (local (codes "m")) (NameOf no_commands)))
      (Lambda (patterns_of (Anything ∷ [])) (NameOf no_subscriptions)))
      ∷ [];
  main = top (codes "main");
  flags = AnyFlags;
}

-- out a command for m + n
abbrev pub sum_sent : Expr
sum_sent = call (NameOf (top (codes "out"))) (binary operator.Add (local (codes "m")) (local (codes "n")) ∷ [])

-- port inp : (Int -> msg) -> Sub msg, port out : Int -> Cmd msg, and
-- main = Platform.worker
--     { init = \flags -> ( flags, Cmd.none )
--     , update = \n m -> ( m + n, out (m + n) )
--     , subscriptions = \_ -> inp identity
--     }
abbrev pub adder : Program
adder = record {
  primitives = core_primitives;
  declarations = core ++ Given (top (codes "inp")) (InPort (codes "inp") IntPayload)
      ∷ Given (top (codes "out")) (OutPort (codes "out") IntPayload)
      ∷ constant (top (codes "main")) (worker_of
      (Lambda (parameters (codes "flags" ∷ [])) (pair_of (local (codes "flags")) (NameOf no_commands)))
      (Lambda (parameters (codes "n" ∷ codes "m" ∷ []))
      (pair_of (binary operator.Add (local (codes "m")) (local (codes "n"))) sum_sent))
      (Lambda (patterns_of (Anything ∷ [])) (call (NameOf (top (codes "inp"))) (NameOf identity ∷ []))))
      ∷ [];
  main = top (codes "main");
  flags = FlagsOf IntPayload;
}
