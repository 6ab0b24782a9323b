-- What names are bound to in an environment.
use Rattle.std.specs.Prelude.{if◌then◌else◌}
use Rattle.runs.specs.Ends.{End, Val, Stuck}
use Rattle.elm_canon.specs.Names.{same_ref}
use Rattle.elm_canon.specs.declared.reference.Ref.{Ref}
use Rattle.elm_canon.specs.Tree.{Patterns, NoPattern, MorePattern, Expr, Lambda, Located}
use Rattle.elm_canon.specs.Tree.{Functions, NoFunction, MoreFunction}
use Rattle.elm_meaning.specs.Values.{Value, CloV, Env, Nil, Bind, BindGroup}

-- a definition as a function over an environment: of its parameters, or of those of the lambda that its body is
abbrev pub closure : Env → Patterns → Expr → End Value
closure env (MorePattern p ps) e = Val (CloV env (MorePattern p ps) e)
closure env NoPattern (Lambda ps e) = Val (CloV env ps e)
closure env NoPattern (Located place e) = closure env NoPattern e
closure env NoPattern _ = Stuck

-- the closure of the function of that name, over the whole environment, or else the rest
abbrev pub member : Ref → Functions → Env → End Value → End Value
member x NoFunction whole rest = rest
member x (MoreFunction title ps e fs) whole rest =
    if same_ref x title.name then closure whole ps e else member x fs whole rest

-- what a name is bound to
abbrev pub lookup : Ref → Env → End Value
lookup x Nil = Stuck
lookup x (Bind y v env) = if same_ref x y then Val v else lookup x env
lookup x (BindGroup fs env) = member x fs (BindGroup fs env) (lookup x env)
