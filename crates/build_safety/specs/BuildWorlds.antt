-- The world of a program of the modules of a build: what they tell each other, their unions, and the ports of the
-- program.
use Rattle.std.specs.Prelude.{◌≡◌, List, [], ◌∷◌, ◌++◌, map, if◌then◌else◌, Option, Some}
use Rattle.std.specs.List.{zip}
use Rattle.elm_canon.specs.Names.{Name, same_name}
use Rattle.elm_canon.specs.Unions.{alternatives}
use Rattle.elm_canon.specs.Tree.{UnionDeclaration, Payload}
use Rattle.elm_type.specs.Types.{Scheme, functions}
use Rattle.type_items.specs.Scopes.{Known}
use Rattle.type_items.specs.Modules.{known_in}
use Rattle.typed_values.specs.World.{World, Constructor, Among, KnownIn, made_type}
use Rattle.told_modules.specs.Schemes.{constructor_of}
use Rattle.build_safety.specs.Compiled.{Compiled, home_of, AreModules}
use Rattle.build_safety.specs.Told.{told}

-- what a module knows, by its name; by another name what all tell
abbrev pub known_at : List Compiled → Known → Name → Known
known_at [] all n = all
known_at (c ∷ cs) all n = if same_name n (home_of c) then known_in c.resolved.whole all else known_at cs all n

-- the constructors of a union that a module declares
abbrev pub constructors : Name → UnionDeclaration → List Constructor
constructors m u = map (constructor_of m u) (zip (alternatives u.union) u.fields)

abbrev pub constructors_in : Name → List UnionDeclaration → Name → List Constructor
constructors_in m [] x = []
constructors_in m (u ∷ us) x = if same_name u.name x then constructors m u else constructors_in m us x

abbrev pub unions_at : List Compiled → Name → Name → List Constructor
unions_at [] m x = []
unions_at (c ∷ cs) m x =
    if same_name m (home_of c) then constructors_in m c.resolved.whole.unions x else unions_at cs m x

-- with these ports
abbrev pub world : List Compiled → (Name → Option Payload) → (Name → Option Payload) → World
world cs outs ins =
    record { known = known_at cs (told cs); unions = unions_at cs; outs = outs; ins = ins }

-- ---- the laws

pub record IsKnown (cs : List Compiled) (outs ins : Name → Option Payload) : Type 0 where
  pub all : KnownIn (world cs outs ins) (told cs)
  pub each : (before : List Compiled) (c : Compiled) (after : List Compiled) → before ++ c ∷ after ≡ cs
      → KnownIn (world cs outs ins) (known_in c.resolved.whole (told cs))

abbrev pub ModulesAreKnown : Type 0
ModulesAreKnown = (cs : List Compiled) (outs ins : Name → Option Payload) → AreModules cs → IsKnown cs outs ins

abbrev pub MakersAreKnown : Type 0
MakersAreKnown =
    (cs : List Compiled) (outs ins : Name → Option Payload) → AreModules cs → (m x : Name) (known : Known)
    → KnownIn (world cs outs ins) known → (k : Constructor) → Among k (unions_at cs m x)
    → (s : Scheme) × (known m k.alternative.name ≡ Some s) × (s.type ≡ functions k.fields (made_type m x k))
