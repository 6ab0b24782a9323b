-- The two mappings: `map` of Platform.Cmd and `map` of Platform.Sub take apart what a port made, and build it again.
-- (elm/core 1.0.5: Platform.Cmd, Platform.Sub.)
--
--     case command of                       case subscription of
--         Send port payload ->                  Listen port toMessage ->
--             Send port payload                     Listen port (\payload -> f (toMessage payload))
--
--         Batch commands -> ..                  Batch subscriptions -> ..
use Rattle.std.specs.Prelude.{◌≡◌, pos, List, false, ◌⊎◌, codes}
use Rattle.elm_base.specs.declared.position.Pos.{Pos}
use Rattle.elm_canon.specs.Names.{Name, same_name, same_ref}
use Rattle.elm_canon.specs.declared.reference.Ref.{Ref}
use Rattle.elm_canon.specs.declared.reference.Ref.TheVariants.{Local}
use Rattle.elm_canon.specs.declared.unions.Alternative.{Alternative}
use Rattle.elm_canon.specs.declared.unions.Tag.TheVariants.{Number}
use Rattle.elm_canon.specs.Unions.{Declared}
use Rattle.elm_canon.specs.Tree.{Pattern, Named, Construct, LocatedPattern, NoPattern, MorePattern, Build, Expr, NameOf}
use Rattle.elm_canon.specs.Tree.{Lambda, Apply, Strict, Located, NoExpr, MoreExpr}

-- what stands there, wherever it begins
abbrev pub bare : Expr → Expr
bare (Located place e) = bare e
bare e = e

abbrev pub bare_pattern : Pattern → Pattern
bare_pattern (LocatedPattern place q) = bare_pattern q
bare_pattern q = q

-- ---- what is carried on

-- by the names of the port and of what it carries
abbrev pub Carrying : Type 1
Carrying = Name → Name → Expr → Type 0

-- the carried value itself
abbrev pub IsSame : Carrying
IsSame port carried e = bare e ≡ NameOf (Local carried)

-- \x -> f (carried x), where f is another name
pub record IsAfter (port carried : Name) (e : Expr) : Type 0 where
  pub x : Name
  pub f : Ref
  -- the tree, part by part
  pub parameter : Pattern
  pub body : Expr
  pub function : Expr
  pub inner : Expr
  pub message : Expr
  pub argument : Expr
  pub is : bare e ≡ Lambda (MorePattern parameter NoPattern) body
  pub binds : bare_pattern parameter ≡ Named x
  pub calls : bare body ≡ Apply function (MoreExpr inner NoExpr)
  pub first : bare function ≡ NameOf f
  pub calls_first : bare inner ≡ Apply message (MoreExpr argument NoExpr)
  pub second : bare message ≡ NameOf (Local carried)
  pub third : bare argument ≡ NameOf (Local x)
  pub apart : same_name carried x ≡ false
  pub not_port : same_ref f (Local port) ≡ false
  pub not_carried : same_ref f (Local carried) ≡ false
  pub not_argument : same_ref f (Local x) ≡ false

-- ---- the branches, of which the first has the pattern q and the body e, and the second the pattern r

-- C port carried -> C port again, and D all -> .., of the union x of the module m, where ports make what is built by C
pub record Rebuilds (m x : Name) (Again : Carrying) (q : Pattern) (e : Expr) (r : Pattern) : Type 0 where
  pub constructors : List Alternative
  pub carrier : Alternative
  pub batch : Alternative
  pub carrier_is : carrier.tag ≡ Number (pos 0)
  pub batch_is : batch.tag ≡ Number (pos 1)
  -- the first branch takes the port's name and what it carries
  pub port : Name
  pub carried : Name
  pub apart : same_name port carried ≡ false
  pub port_pattern : Pattern
  pub carried_pattern : Pattern
  pub takes : bare_pattern q
      ≡ Construct (Declared m x constructors) carrier (MorePattern port_pattern (MorePattern carried_pattern NoPattern))
  pub port_bound : bare_pattern port_pattern ≡ Named port
  pub carried_bound : bare_pattern carried_pattern ≡ Named carried
  -- and builds them again
  pub place : Pos
  pub name : Expr
  pub again : Expr
  pub builds : bare e ≡ Strict (Build place (Declared m x constructors) carrier) (MoreExpr name (MoreExpr again NoExpr))
  pub name_is : bare name ≡ NameOf (Local port)
  pub again_is : Again port carried again
  -- the second branch takes a batch
  pub all : Name
  pub all_pattern : Pattern
  pub takes_all : bare_pattern r ≡ Construct (Declared m x constructors) batch (MorePattern all_pattern NoPattern)
  pub all_bound : bare_pattern all_pattern ≡ Named all

abbrev pub MapsCommands : Pattern → Expr → Pattern → Type 0
MapsCommands q e r = Rebuilds (codes "Platform.Cmd") (codes "Cmd") IsSame q e r

abbrev pub MapsSubscriptions : Pattern → Expr → Pattern → Type 0
MapsSubscriptions q e r = Rebuilds (codes "Platform.Sub") (codes "Sub") IsAfter q e r

abbrev pub IsMapping : Pattern → Expr → Pattern → Type 0
IsMapping q e r = MapsCommands q e r ⊎ MapsSubscriptions q e r
