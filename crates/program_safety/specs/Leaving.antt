-- Declarations that leave commands and subscriptions as ports made them, and use no constructor of the modules
-- Platform.Cmd and Platform.Sub as a name: they build with all its fields what they build.
use Rattle.std.specs.Prelude.{◌≡◌, List, [], ◌∷◌, Bool, true, false, ◌&&◌, nat_lt}
use Rattle.std.specs.List.{AllByRecursion}
use Rattle.elm_canon.specs.Names.{Name}
use Rattle.elm_canon.specs.declared.reference.Ref.{Ref}
use Rattle.elm_canon.specs.declared.reference.Ref.TheVariants.{Local, Top}
use Rattle.elm_canon.specs.Tree.{Known, Maker, RecordMaker, OutPort, InPort, Declaration, Given, Define}
use Rattle.canon_env.specs.Uses.{group_uses}
use Rattle.program_safety.specs.Ports.{is_port_home, KeepsPorts}

-- it begins with a small letter
abbrev pub is_small : Name → Bool
is_small [] = false
is_small (u ∷ x) = nat_lt 96 u && nat_lt u 123

-- of the names of those modules, one of a value
abbrev pub IsSmallUse : Ref → Type 0
IsSmallUse (Local x) = Unit {0}
IsSmallUse (Top m x) = is_port_home m ≡ true → is_small x ≡ true

-- a constructor's name is none of a value
abbrev pub IsLargeMaker : Ref → Known → Type 0
IsLargeMaker (Local x) k = Unit {0}
IsLargeMaker (Top m x) (Maker c) = is_port_home m ≡ true → is_small x ≡ false
IsLargeMaker (Top m x) (RecordMaker ks) = Unit {0}
IsLargeMaker (Top m x) (OutPort port t) = Unit {0}
IsLargeMaker (Top m x) (InPort port t) = Unit {0}

abbrev pub Leaves : Declaration → Type 0
Leaves (Given r k) = IsLargeMaker r k
Leaves (Define g) = KeepsPorts (Define g) × AllByRecursion IsSmallUse (group_uses g)
