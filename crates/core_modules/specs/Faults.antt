-- Declarations that take no command and no subscription of a port apart, and make none. Only `map` of Platform.Cmd and
-- of Platform.Sub does so: it builds again what it takes apart. (elm/core 1.0.5: Platform.Cmd, Platform.Sub.)
use Rattle.std.specs.Prelude.{List, [], ◌∷◌, Bool, true, false, ◌&&◌, ◌||◌, not, if◌then◌else◌, codes}
use Rattle.std.specs.List.{list_all}
use Rattle.elm_base.specs.declared.fault.Code.TheVariants.{ConstructorArity}
use Rattle.elm_canon.specs.declared.reference.Ref.{Ref}
use Rattle.elm_canon.specs.declared.reference.Ref.TheVariants.{Local, Top}
use Rattle.elm_canon.specs.Tree.{Known, Maker, RecordMaker, OutPort, InPort, Declaration, Given, Define, Module}
use Rattle.canon_env.specs.declared.finding.Finding.{Finding}
use Rattle.core_modules.specs.Facts.{fault_of}
use Rattle.core_modules.specs.Makers.{is_port_home, is_small}
use Rattle.core_modules.specs.PortFaultsSigns.{group_signs, end}
use Rattle.core_modules.specs.Same.{same_sign}
use Rattle.core_modules.specs.declared.port_faults_sign.Sign.{Sign}
use Rattle.core_modules.specs.declared.port_faults_sign.Sign.TheVariants as sign
use Rattle.core_modules.specs.declared.port_faults_sign.Form.TheVariants.{Alone, Two, Lambda, Apply}
use Rattle.core_modules.specs.declared.port_faults_sign.Port.TheVariants.{Sends, Listens, TakesSend, TakesListen}
use Rattle.core_modules.specs.declared.port_faults_sign.Port.TheVariants.{TakesCommands, TakesSubscriptions}

-- nothing of a port
abbrev pub is_free : Sign → Bool
is_free (sign.Local x) = true
is_free (sign.Named x) = true
is_free (sign.Form f) = true
is_free (sign.Port p) = false

-- map f command = case command of Send name payload -> Send name payload; Batch commands -> ..
abbrev pub command_map : List Sign
command_map =
    sign.Form Alone ∷ sign.Named (codes "f") ∷ sign.Named (codes "command") ∷ end
    ∷ sign.Form Two ∷ sign.Local (codes "command")
    ∷ sign.Port TakesSend ∷ sign.Named (codes "name") ∷ sign.Named (codes "payload") ∷ end
    ∷ sign.Port Sends ∷ sign.Local (codes "name") ∷ sign.Local (codes "payload") ∷ end
    ∷ sign.Port TakesCommands ∷ sign.Named (codes "commands") ∷ end ∷ []

-- map f subscription = case subscription of
--     Listen name toMessage -> Listen name (\payload -> f (toMessage payload)); Batch subscriptions -> ..
abbrev pub subscription_map : List Sign
subscription_map =
    sign.Form Alone ∷ sign.Named (codes "f") ∷ sign.Named (codes "subscription") ∷ end
    ∷ sign.Form Two ∷ sign.Local (codes "subscription")
    ∷ sign.Port TakesListen ∷ sign.Named (codes "name") ∷ sign.Named (codes "toMessage") ∷ end
    ∷ sign.Port Listens ∷ sign.Local (codes "name")
    ∷ sign.Form Lambda ∷ sign.Named (codes "payload")
    ∷ sign.Form Apply ∷ sign.Local (codes "f")
    ∷ sign.Form Apply ∷ sign.Local (codes "toMessage") ∷ sign.Local (codes "payload") ∷ end ∷ end ∷ end
    ∷ sign.Port TakesSubscriptions ∷ sign.Named (codes "subscriptions") ∷ end ∷ []

-- it is spelled so, and what follows has nothing of a port
abbrev pub is_map : List Sign → List Sign → Bool
is_map [] s = list_all is_free s
is_map (a ∷ as_) [] = false
is_map (a ∷ as_) (b ∷ s) = same_sign a b && is_map as_ s

abbrev pub are_kept : List Sign → Bool
are_kept s = list_all is_free s || (is_map command_map s || is_map subscription_map s)

-- ---- declarations

-- the name of a constructor of commands or subscriptions is no other's
abbrev pub is_named : Ref → Known → Bool
is_named (Local x) k = true
is_named (Top m x) (Maker c) = not (is_port_home m && is_small x)
is_named (Top m x) (RecordMaker ks) = true
is_named (Top m x) (OutPort port t) = true
is_named (Top m x) (InPort port t) = true

abbrev pub keeps : Declaration → Bool
keeps (Given r k) = is_named r k
keeps (Define g) = are_kept (group_signs g)

-- a fault of the whole text, where a declaration does not
unfoldable pub port_faults : Module → List Finding
port_faults m = if list_all keeps m.declarations then [] else fault_of ConstructorArity (codes "Platform")
