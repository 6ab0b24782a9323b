-- The unions of commands and of subscriptions, and their constructors. What has the number 0 is made by ports alone.
-- (elm/core 1.0.5: Platform.Cmd, Platform.Sub.)
use Rattle.std.specs.Prelude.{ℕ, pos, List, [], ◌∷◌, Bool, false, ◌&&◌, ◌||◌, not, nat_eq, nat_lt, codes}
use Rattle.std.specs.Prelude.{if◌then◌else◌}
use Rattle.elm_canon.specs.Names.{Name, same_name}
use Rattle.elm_canon.specs.declared.reference.Ref.{Ref}
use Rattle.elm_canon.specs.declared.reference.Ref.TheVariants as ref
use Rattle.elm_canon.specs.Unions.{Union, TupleUnion, ListUnion, Declared}
use Rattle.elm_canon.specs.declared.unions.Alternative.{Alternative}
use Rattle.elm_canon.specs.declared.unions.Tag.TheVariants.{Number}
use Rattle.elm_meaning.specs.Seen.{same_tag}
use Rattle.core_modules.specs.declared.port_faults_sign.Sign.{Sign}
use Rattle.core_modules.specs.declared.port_faults_sign.Sign.TheVariants as sign
use Rattle.core_modules.specs.declared.port_faults_sign.Form.TheVariants.{Other}
use Rattle.core_modules.specs.declared.port_faults_sign.Port.TheVariants.{Wrong, Sends, Listens, TakesSend, TakesListen}
use Rattle.core_modules.specs.declared.port_faults_sign.Port.TheVariants.{TakesCommands, TakesSubscriptions}

-- ---- names

abbrev pub is_port_home : Name → Bool
is_port_home m = same_name m (codes "Platform.Cmd") || same_name m (codes "Platform.Sub")

-- it begins with a small letter
abbrev pub is_small : Name → Bool
is_small [] = false
is_small (u ∷ x) = nat_lt 96 u && nat_lt u 123

-- the name of a constructor of commands or subscriptions, as a function
abbrev pub is_port_maker : Name → Name → Bool
is_port_maker m x = is_port_home m && not (is_small x)

abbrev pub name_sign : Ref → Sign
name_sign (ref.Local x) = sign.Local x
name_sign (ref.Top m x) = if is_port_maker m x then sign.Port Wrong else sign.Form Other

-- ---- constructors

-- the constructor x, with that number and so many fields
abbrev pub is_maker : Name → ℕ → ℕ → Alternative → Bool
is_maker x number fields c = same_name c.name x && (same_tag c.tag (Number (pos number)) && nat_eq c.arity fields)

-- C a b | Batch a
abbrev pub are_makers : Name → List Alternative → Bool
are_makers x (c ∷ d ∷ []) = is_maker x 0 2 c && is_maker (codes "Batch") 1 1 d
are_makers x _ = false

-- what a module declares by that name
abbrev pub is_declared : Name → Name → Union → Bool
is_declared home x (TupleUnion n) = false
is_declared home x ListUnion = false
is_declared home x (Declared m y cs) = same_name m home && same_name y x

abbrev pub has_makers : Name → Union → Bool
has_makers x (TupleUnion n) = false
has_makers x ListUnion = false
has_makers x (Declared m y cs) = are_makers x cs

abbrev pub is_command : Union → Bool
is_command u = is_declared (codes "Platform.Cmd") (codes "Cmd") u

abbrev pub is_subscription : Union → Bool
is_subscription u = is_declared (codes "Platform.Sub") (codes "Sub") u

abbrev pub is_ported : Union → Bool
is_ported u = is_command u || is_subscription u

-- ---- what a pattern takes apart, and what is built

-- of a union whose constructors are C a b and Batch a: the first where it is `first`, the second where it is `second`
abbrev pub maker_sign : Name → Sign → Sign → Union → Alternative → Sign
maker_sign x first second u c =
    if has_makers x u
    then (if is_maker x 0 2 c then first else if is_maker (codes "Batch") 1 1 c then second else sign.Port Wrong)
    else sign.Port Wrong

abbrev pub taken_sign : Union → Alternative → Sign
taken_sign u c =
    if is_command u then maker_sign (codes "Send") (sign.Port TakesSend) (sign.Port TakesCommands) u c
    else if is_subscription u
    then maker_sign (codes "Listen") (sign.Port TakesListen) (sign.Port TakesSubscriptions) u c
    else sign.Form Other

abbrev pub built_sign : Union → Alternative → Sign
built_sign u c =
    if is_command u then maker_sign (codes "Send") (sign.Port Sends) (sign.Form Other) u c
    else if is_subscription u then maker_sign (codes "Listen") (sign.Port Listens) (sign.Form Other) u c
    else sign.Form Other
