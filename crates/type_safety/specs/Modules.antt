-- The declarations of a module, in turn: what has no body, and groups of definitions.
use Rattle.std.specs.Prelude.{◌≡◌, ℕ, length, List, [], ◌∷◌, Bool, true, false, ◌||◌, Some, ◌⊎◌}
use Rattle.std.specs.List.{zip}
use Rattle.elm_canon.specs.Names.{Name}
use Rattle.elm_canon.specs.declared.reference.Ref.{Ref}
use Rattle.elm_canon.specs.declared.reference.Ref.TheVariants.{Top}
use Rattle.elm_canon.specs.Tree.{Groups, NoGroup, MoreGroup, Together, Constant, Destructure, Known}
use Rattle.elm_canon.specs.Tree.{Maker, RecordMaker, OutPort, InPort, Payload}
use Rattle.elm_canon.specs.Tree.{Declaration, Given, Define}
use Rattle.elm_canon.specs.Tree.{Module}
use Rattle.elm_canon.specs.Proper.{among}
use Rattle.elm_canon.specs.Spelled.{are_fields}
use Rattle.elm_meaning.specs.Values.{Env}
use Rattle.elm_meaning.specs.Eval.{call_at}
use Rattle.elm_meaning.specs.Run.{declare_with}
use Rattle.elm_type.specs.Types.{ElmType, Leaf, Scheme, function, functions}
use Rattle.elm_type.specs.Rows.{closed}
use Rattle.type_items.specs.Items.{Place}
use Rattle.type_items.specs.Scopes as scopes
use Rattle.type_items.specs.Scopes.{Scope}
use Rattle.type_items.specs.Uses.{used_groups, used_group}
use Rattle.type_items.specs.Definitions.{list_definitions}
use Rattle.type_items.specs.Expressions.{definitions}
use Rattle.type_items.specs.Modules.{known_in, module_scope, module_definitions, module_items}
use Rattle.type_items.specs.Solutions.{Solves}
use Rattle.typed_values.specs.Frames.{Frame, Stands}
use Rattle.typed_values.specs.Payloads.{payload_type, HasEachOnce, cmd_type, sub_type}
use Rattle.typed_values.specs.World.{World, Constructor, Among, is_port_tag, IsSound}
use Rattle.typed_values.specs.Simple.{Without, defines, AreApart, UseEarlier, SimpleGroups}
use Rattle.typed_values.specs.Typed.{EndsWell, Fits}

-- ---- what has no body

-- a constructor of a union
pub record IsConstructor (w : World) (x : Ref) (k : Known) : Type 0 where
  pub home : Name
  pub name : Name
  pub constructor_ : Constructor
  pub among : Among constructor_ (w.unions home name)
  pub name_is : x ≡ Top home constructor_.alternative.name
  pub own : is_port_tag home name constructor_.alternative.tag ≡ false
  pub is : k ≡ Maker constructor_.alternative

-- the constructor of a record, which takes its fields in written order
pub record IsRecordMaker (known : scopes.Known) (x : Ref) (k : Known) : Type 0 where
  pub home : Name
  pub name : Name
  pub fields : List Name
  pub types : List (ElmType (Leaf ℕ))
  pub scheme : Scheme
  pub name_is : x ≡ Top home name
  pub is : k ≡ RecordMaker fields
  pub known_is : known home name ≡ Some scheme
  pub scheme_is : scheme.type ≡ functions types (closed (zip fields types))
  pub proper : are_fields fields ≡ true
  pub counted : length types ≡ length fields

-- a port, of which the type of its payload is known
abbrev pub IsOut : World → Known → Scheme → Type 0
IsOut w k scheme =
    (port : Name) × (t : Payload) × (message : ElmType (Leaf ℕ)) × (k ≡ OutPort port t) × (w.outs port ≡ Some t)
    × HasEachOnce t × (scheme.type ≡ function (payload_type t) (cmd_type message))

abbrev pub IsIn : World → Known → Scheme → Type 0
IsIn w k scheme =
    (port : Name) × (t : Payload) × (message : ElmType (Leaf ℕ)) × (k ≡ InPort port t) × (w.ins port ≡ Some t)
    × (scheme.type ≡ function (function (payload_type t) message) (sub_type message))

pub record IsPort (w : World) (known : scopes.Known) (x : Ref) (k : Known) : Type 0 where
  pub home : Name
  pub name : Name
  pub scheme : Scheme
  pub name_is : x ≡ Top home name
  pub known_is : known home name ≡ Some scheme
  pub is : IsOut w k scheme ⊎ IsIn w k scheme

-- ---- declarations

abbrev pub groups_in : List Declaration → Groups
groups_in [] = NoGroup
groups_in (Given x k ∷ ds) = groups_in ds
groups_in (Define g ∷ ds) = MoreGroup g (groups_in ds)

abbrev pub given_in : List Declaration → List Ref
given_in [] = []
given_in (Given x k ∷ ds) = x ∷ given_in ds
given_in (Define g ∷ ds) = given_in ds

-- what has no body is a constructor or a port
abbrev pub IsTyped : World → scopes.Known → Ref → Known → Type 0
IsTyped w known x k = IsConstructor w x k ⊎ (IsRecordMaker known x k ⊎ IsPort w known x k)

abbrev pub AreTyped : World → scopes.Known → List Declaration → Type 0
AreTyped w known [] = Unit {0}
AreTyped w known (Given x k ∷ ds) = IsTyped w known x k × AreTyped w known ds
AreTyped w known (Define g ∷ ds) = AreTyped w known ds

-- no definition uses a constructor or a port that stands after it
abbrev pub UseGivenBefore : List Declaration → Type 0
UseGivenBefore [] = Unit {0}
UseGivenBefore (Given x k ∷ ds) = UseGivenBefore ds
UseGivenBefore (Define g ∷ ds) = Without (λ x. among x (given_in ds)) (used_group g) × UseGivenBefore ds

-- at the top level nothing is destructured
abbrev pub AreTitled : Groups → Type 0
AreTitled NoGroup = Unit {0}
AreTitled (MoreGroup (Together fs) gs) = AreTitled gs
AreTitled (MoreGroup (Constant title e) gs) = AreTitled gs
AreTitled (MoreGroup (Destructure q e) gs) = ⊥

-- a module, as the resolution of names and the check of patterns leave it
pub record IsPlain (w : World) (known : scopes.Known) (m : Module) : Type 0 where
  pub given : AreTyped w known m.declarations
  pub before : UseGivenBefore m.declarations
  pub earlier : UseEarlier (groups_in m.declarations)
  pub apart : AreApart (definitions (groups_in m.declarations))
  pub others : Without (defines (definitions (groups_in m.declarations))) (given_in m.declarations)
  pub simple : SimpleGroups w (groups_in m.declarations)

-- the scope after a module that stands at a place
abbrev pub scope_after : Module → scopes.Known → Place → Scope
scope_after m known p = (list_definitions (module_definitions m) (module_scope m known) p).scope

-- what is hidden before declarations of a module are bound: its own names too
abbrev pub before_own : Module → List Declaration → (Ref → Bool) → Ref → Bool
before_own m ds hidden y = defines (module_definitions m) y || (among y (given_in ds) || hidden y)

-- with any fuel the declarations of a module are not Stuck, and what they bind fits the scope after the module
abbrev pub ModulesKeepTypes : Type 0
ModulesKeepTypes =
    (w : World) → IsSound w → (n : ℕ) (m : Module) (known : scopes.Known) (env : Env) (hidden : Ref → Bool) (f : Frame)
    (p : Place) → IsPlain w (known_in m known) m → Without hidden (used_groups (groups_in m.declarations)) → Stands f
    → Fits w env (before_own m m.declarations hidden) (module_scope m known) f
    → Solves f.values (module_items m known p)
    → EndsWell (λ inner. Fits w inner hidden (scope_after m known p) f) (declare_with (call_at n) m.declarations env)
