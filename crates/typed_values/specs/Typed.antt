-- Which values have which ground types, by recursion on the value (a number has each type of the class `number`); and
-- when what is bound in an environment serves the names of a scope.
use Rattle.std.specs.Prelude.{◌≡◌, ℕ, List, [], ◌∷◌, map, Bool, true, false, ◌||◌, Some, ◌⊎◌}
use Rattle.elm_base.specs.declared.position.Pos.{Pos}
use Rattle.runs.specs.Ends.{End, Val, Crashed, OutOfFuel, Unsafe, Stuck}
use Rattle.elm_canon.specs.Names.{same_ref}
use Rattle.elm_canon.specs.declared.reference.Ref.{Ref}
use Rattle.elm_canon.specs.Tree.{Patterns, Expr, Functions, NoFunction, MoreFunction}
use Rattle.elm_canon.specs.Proper.{has_parameter, is_function}
use Rattle.elm_meaning.specs.Values.{Value, IntV, TextV, TagV, RecordV, CloV, KnownV, WireV, Values, NoValue, MoreValue}
use Rattle.elm_meaning.specs.Values.{FieldValues, NoFieldV, MoreFieldV, Env, Nil, Bind, BindGroup}
use Rattle.elm_type.specs.Types.{Fields, Record, NoField, MoreField, Closed, Rigid, functions, char_type}
use Rattle.elm_type.specs.Types.{string_type}
use Rattle.elm_type.specs.Classes.{Ground, meets}
use Rattle.elm_type.specs.declared.class.Class.TheVariants.{Number}
use Rattle.type_items.specs.Items.{Place, Wanted, Item}
use Rattle.type_items.specs.Scopes.{Entry, Scope, entry_of}
use Rattle.type_items.specs.Patterns.{patterns_items, patterns_names}
use Rattle.type_items.specs.Uses.{used}
use Rattle.type_items.specs.Expressions.{items, function_items}
use Rattle.type_items.specs.Solutions.{Solves}
use Rattle.typed_values.specs.Frames.{Frame, of, Stands, Agree, Serves}
use Rattle.typed_values.specs.World.{KnownIn, World, MadeBy, OfPort, IsSent, Knows}
use Rattle.typed_values.specs.Simple.{Without, Checked}

-- the end is not Stuck, and its value is such
abbrev pub EndsWell : {X : Type 0} → (X → Type 0) → End X → Type 0
EndsWell P (Val x) = P x
EndsWell P (Crashed t) = Unit {0}
EndsWell P OutOfFuel = Unit {0}
EndsWell P Unsafe = Unit {0}
EndsWell P Stuck = ⊥

abbrev pub or_named : Ref → (Ref → Bool) → Ref → Bool
or_named x hidden y = same_ref y x || hidden y

-- the scope with the names of patterns that stand at children of a place, from the number i on
abbrev pub bind_from : Patterns → Place → ℕ → List Wanted → Scope → Scope
bind_from qs p i ts scope = record scope { names = patterns_names qs scope.known p i ts scope.names }

-- ---- groups of functions

-- The stages of a group: at each place the scope of its definitions, and its items. What holds at a stage holds in
-- every frame that solves its items and agrees with the base.
pub record Stages : Type 0 where
  pub scopes : ℕ → Place → Scope
  pub listed : ℕ → Place → List Item
  -- what is hidden in the functions of a stage
  pub hidden : ℕ → Ref → Bool
  pub around : Scope
  pub base : Frame

pub record AtStage (s : Stages) (k : ℕ) (q : Place) (f : Frame) : Type 0 where
  pub stands : Stands f
  pub agree : Agree s.around s.base f
  pub solves : Solves f.values (s.listed k q)

-- the function was checked, and uses no name that is hidden
pub record IsChecked (w : World) (hidden : Ref → Bool) (qs : Patterns) (e : Expr) : Type 0 where
  pub checked : Checked w qs e
  pub free : Without hidden (used e)

-- at some stage the items of the function are solved with that type
pub record Lists (w : World) (s : Stages) (qs : Patterns) (e : Expr) (g : Ground) : Type 0 where
  pub stage : ℕ
  pub at_place : Place
  pub frame : Frame
  pub at_stage : AtStage s stage at_place frame
  pub here : Pos
  pub place : Place
  pub type : Wanted
  pub solves : Solves frame.values (function_items qs (items e) (s.scopes stage at_place) here place type)
  pub is : of frame type ≡ g
  pub is_checked : IsChecked w (s.hidden stage) qs e

-- each member is a function, and serves the entry of its name where this is not hidden
abbrev pub Members : World → Stages → Functions → (Ref → Bool) → Scope → Frame → Type 0
Members w s NoFunction hidden scope f = Unit {0}
Members w s (MoreFunction title qs e fs) hidden scope f =
    (hidden title.name ≡ false → (is_function qs e ≡ true)
    × ((entry : Entry) → entry_of scope title.name ≡ Some entry → Serves (Lists w s qs e) entry scope f))
    × Members w s fs (or_named title.name hidden) scope f

-- what is hidden by the members, and before them
abbrev pub hides : Functions → (Ref → Bool) → Ref → Bool
hides NoFunction hidden = hidden
hides (MoreFunction title qs e fs) hidden = hides fs (or_named title.name hidden)

-- ---- functions and groups, by what it is for an environment to fit a scope

abbrev pub Fitting : Type 1
Fitting = (Ref → Bool) → Scope → Frame → Type 0

-- in a scope that the environment fits, the items of the parameters and of the body are solved
pub record Closure (w : World) (Fit : Fitting) (qs : Patterns) (e : Expr) (g : Ground) : Type 0 where
  pub hidden : Ref → Bool
  pub scope : Scope
  pub frame : Frame
  pub here : Pos
  pub patterns_at : Place
  pub first : ℕ
  pub parameters : List Wanted
  pub body_at : Place
  pub result : Wanted
  pub stands : Stands frame
  pub fits : Fit hidden scope frame
  pub patterns : Solves frame.values (patterns_items qs scope.known here patterns_at first parameters)
  pub body : Solves frame.values (items e (bind_from qs patterns_at first parameters scope) here body_at result)
  pub is : functions (map (of frame) parameters) (of frame result) ≡ g
  pub some : has_parameter qs ≡ true
  pub is_checked : IsChecked w hidden qs e

-- the members serve their entries, here and at each stage, and so does what the group hides
pub record GroupFits (w : World) (Fit : Fitting) (fs : Functions) (hidden : Ref → Bool) (scope : Scope) (f : Frame)
    : Type 0 where
  pub stages : Stages
  pub members : Members w stages fs hidden scope f
  pub rest : Fit (hides fs hidden) scope f
  pub closing : (k : ℕ) (q : Place) (g : Frame) → AtStage stages k q g
      → Members w stages fs (stages.hidden k) (stages.scopes k q) g
      × Fit (hides fs (stages.hidden k)) (stages.scopes k q) g

-- ---- values and environments

abbrev mutual
  pub Has : World → Value → Ground → Type 0
  Has w (IntV n) g = meets Number g ≡ true
  Has w (TextV us) g = (string_type ≡ g) ⊎ (char_type ≡ g)
  Has w (TagV tag vs) g =
      (parts : List Ground) × (MadeBy w tag vs parts g ⊎ OfPort w tag vs parts g) × HasEach w vs parts
  Has w (RecordV fs) g = (ts : Fields Rigid) × (Record ts Closed ≡ g) × HaveFields w fs ts
  Has w (CloV env qs e) g = Closure w (λ hidden scope f. Fits w env hidden scope f) qs e g
  Has w (KnownV k vs) g = (parts : List Ground) × Knows w k parts g × HasEach w vs parts
  Has w (WireV wire) g = IsSent w wire g

  pub HasEach : World → Values → List Ground → Type 0
  HasEach w NoValue [] = Unit {0}
  HasEach w NoValue (t ∷ ts) = ⊥
  HasEach w (MoreValue v vs) [] = ⊥
  HasEach w (MoreValue v vs) (t ∷ ts) = Has w v t × HasEach w vs ts

  pub HaveFields : World → FieldValues → Fields Rigid → Type 0
  HaveFields w NoFieldV NoField = Unit {0}
  HaveFields w NoFieldV (MoreField k t ts) = ⊥
  HaveFields w (MoreFieldV k v fs) NoField = ⊥
  HaveFields w (MoreFieldV k v fs) (MoreField j t ts) = (k ≡ j) × Has w v t × HaveFields w fs ts

  -- Each name that is bound, and not hidden by one that is bound further in, serves its entry in the scope; and each
  -- name in the scope is bound. What is hidden from the start is not used.
  pub Fits : World → Env → (Ref → Bool) → Scope → Frame → Type 0
  Fits w Nil hidden scope f =
      KnownIn w scope.known × ((x : Ref) (entry : Entry) → entry_of scope x ≡ Some entry → hidden x ≡ true)
  Fits w (Bind x v env) hidden scope f =
      (hidden x ≡ false → (entry : Entry) → entry_of scope x ≡ Some entry → Serves (λ g. Has w v g) entry scope f)
      × Fits w env (or_named x hidden) scope f
  Fits w (BindGroup fs env) hidden scope f =
      GroupFits w (λ others inner g. Fits w env others inner g) fs hidden scope f
