-- Declarations that take no command or subscription apart, and build none of a port, but as `map` of Platform.Cmd and
-- of Platform.Sub does. All are so, but for the constructors that ports build. (elm/core 1.0.5: Platform.Cmd,
-- Platform.Sub.)
use Rattle.std.specs.Prelude.{◌≡◌, pos, List, Bool, false, ◌&&◌, ◌||◌, ◌⊎◌, codes}
use Rattle.std.specs.List.{AllByRecursion}
use Rattle.std.specs.Str.{bytes_eq}
use Rattle.elm_canon.specs.Names.{Name}
use Rattle.elm_canon.specs.Unions.{Union, TupleUnion, ListUnion, Declared}
use Rattle.elm_canon.specs.Unions.{tuple_alternative, nil_alternative, cons_alternative}
use Rattle.elm_canon.specs.declared.reference.Ref.{Ref}
use Rattle.elm_canon.specs.declared.reference.Ref.TheVariants.{Local, Top}
use Rattle.elm_canon.specs.Tree.{Known, Maker, RecordMaker, OutPort, InPort, Declaration, Given, Define}
use Rattle.elm_canon.specs.declared.unions.Alternative.{Alternative}
use Rattle.elm_canon.specs.declared.unions.Tag.TheVariants.{Number}
use Rattle.elm_meaning.specs.Seen.{same_tag}
use Rattle.elm_canon.specs.Mentions.{DeclarationsMention}
use Rattle.elm_canon.specs.Maps.{IsMapping}
use Rattle.elm_canon.specs.Obeys.{GroupObeys, DeclarationObeys}
use Rattle.typed_values.specs.World.{World, Declares, Makes, Holds, is_ported, is_port_tag}
use Rattle.typed_values.specs.Simple.{MapsPorts}
use Rattle.program_safety.specs.Parts.{AreSome}

-- a constructor of no command or subscription, as patterns take them apart
abbrev pub IsUnported : Union → Alternative → Type 0
IsUnported (TupleUnion n) c = Unit {0}
IsUnported ListUnion c = Unit {0}
IsUnported (Declared m x cs) c = is_ported m x ≡ false

-- or one that no port makes
abbrev pub IsUnsent : Union → Alternative → Type 0
IsUnsent (TupleUnion n) c = Unit {0}
IsUnsent ListUnion c = Unit {0}
IsUnsent (Declared m x cs) c = is_port_tag m x c.tag ≡ false

-- the modules of commands and of subscriptions
abbrev pub is_port_home : Name → Bool
is_port_home m = bytes_eq m (codes "Platform.Cmd") || bytes_eq m (codes "Platform.Sub")

-- a constructor that no port makes: in these modules the one with the number 0 is made by ports
abbrev pub IsUnsentMaker : Ref → Known → Type 0
IsUnsentMaker (Local x) k = Unit {0}
IsUnsentMaker (Top m x) (Maker c) = (is_port_home m && same_tag c.tag (Number (pos 0))) ≡ false
IsUnsentMaker (Top m x) (RecordMaker ks) = Unit {0}
IsUnsentMaker (Top m x) (OutPort port t) = Unit {0}
IsUnsentMaker (Top m x) (InPort port t) = Unit {0}

abbrev pub KeepsPorts : Declaration → Type 0
KeepsPorts (Given r k) = IsUnsentMaker r k
KeepsPorts (Define g) = GroupObeys IsUnported IsUnsent IsMapping g

-- ---- constructors of the program's unions

abbrev pub IsOfWorld : World → Union → Alternative → Type 0
IsOfWorld w (TupleUnion n) c = c ≡ tuple_alternative n
IsOfWorld w ListUnion c = (c ≡ nil_alternative) ⊎ (c ≡ cons_alternative)
IsOfWorld w (Declared m x cs) c = Holds w m x cs c

-- ---- the law

abbrev pub PortsAreKept : Type 0
PortsAreKept =
    (w : World) (home : Name) (ds all : List Declaration)
    → DeclarationsMention (IsOfWorld w) (IsOfWorld w) home all → AreSome ds all → AllByRecursion KeepsPorts ds
    → AllByRecursion (DeclarationObeys (Declares w) (Makes w) (MapsPorts w)) ds
