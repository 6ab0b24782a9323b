-- Frames: ground types for the variables of a module, and for its constants. In the run of a definition with an
-- annotation its constants stand for the types of the use.
use Rattle.std.specs.Prelude.{◌≡◌, ℕ, true}
use Rattle.std.specs.List.{AllByRecursion}
use Rattle.elm_type.specs.Types.{Rigid, Leaf, Free, Fixed, Kind, Scheme, kind_at}
use Rattle.elm_type.specs.Classes.{Ground, meets}
use Rattle.elm_type.specs.Rows.{substitute}
use Rattle.elm_type.specs.Ground.{value, lacks_all, fits}
use Rattle.type_items.specs.Items.{Place, Wanted}
use Rattle.type_items.specs.Scopes.{Entry, Mono, Instance, General, Scope, one_types}
use Rattle.type_items.specs.Solutions.{Values, Solves}

pub record Frame : Type 0 where
  pub values : Values
  -- what the constants stand for
  pub stands : Rigid → Ground

-- the ground type of a type
abbrev pub of : Frame → Wanted → Ground
of f t = substitute f.stands (value f.values t)

abbrev pub kind_of : Rigid → Kind
kind_of r = record { class = r.class; lacks = r.lacks }

-- Constants stand for types of their classes, which lack their fields. A constant may stand for itself: of such a type
-- there are no values but numbers, if its class has them.
pub record Stands (f : Frame) : Type 0 where
  pub classes : (r : Rigid) → meets r.class (f.stands r) ≡ true
  pub rests : (r : Rigid) → lacks_all r.lacks (f.stands r) ≡ true

-- two frames give the same to the types of the names that have one type, and to the annotations' variables around
pub record Agree (scope : Scope) (f g : Frame) : Type 0 where
  pub types : AllByRecursion (λ t. of g t ≡ of f t) (one_types scope.names)
  pub constants : AllByRecursion (λ c. g.stands c.1 ≡ f.stands c.1) scope.constants

-- an instance of a scheme in a frame, by ground types for its variables
abbrev pub instance_leaf : (ℕ → Ground) → Frame → Leaf ℕ → Ground
instance_leaf choice f (Free i) = choice i
instance_leaf choice f (Fixed r) = f.stands r

abbrev pub ground_instance : (ℕ → Ground) → Frame → Scheme → Ground
ground_instance choice f s = substitute (instance_leaf choice f) s.type

-- the types are of the scheme's kinds
pub record Chosen (s : Scheme) (choice : ℕ → Ground) : Type 0 where
  pub kinds : (i : ℕ) → fits (kind_at s.kinds i) (choice i) ≡ true

-- What has such types serves a name with this entry: it has the one type; or each instance; or, wherever the items of
-- its group are solved, the type that the name has there.
abbrev pub Serves : (Ground → Type 0) → Entry → Scope → Frame → Type 0
Serves Has (Mono t) scope f = Has (of f t)
Serves Has (Instance s) scope f =
    (g : Frame) (choice : ℕ → Ground) → Stands g → Agree scope f g → Chosen s choice → Has (ground_instance choice g s)
Serves Has (General list type) scope f =
    (q : Place) (g : Frame) → Stands g → Agree scope f g → Solves g.values (list q) → Has (of g (type q))
