-- Steps of inference over a part of a tree, at every place and for every scope that the code's scope stands for. What
-- is wanted of the part is of any kind, as one type or several, and links say it of variables.
use Rattle.std.specs.Prelude.{◌≡◌, ℕ, List, Bool, true, false}
use Rattle.std.specs.List.{AllZip, Contains}
use Rattle.elm_type.specs.Types.{Rigid}
use Rattle.type_items.specs.Items.{Place, Wanted, Item}
use Rattle.type_items.specs.Scopes.{Scope}
use Rattle.type_store.specs.Store.{Store}
use Rattle.type_store.specs.Solutions.{constants_of}
use Rattle.type_walks.specs.Regions.{Region, below}
use Rattle.type_walks.specs.Links.{Links, Has, Tells}
use Rattle.type_walks.specs.Walks.{Around}
use Rattle.type_constructs.specs.Failing.{Bad, Fails}
use Rattle.type_constructs.specs.Stepping.{Step}
use Rattle.infer_steps.specs.Codes.{Code, State}
use Rattle.infer_steps.specs.Means.{Setting}
use Rattle.infer_steps.specs.Ready.{IsReady, Follows}

-- Inference can go on here: the code's scope can be used, and no constant in the store is of a place below.
pub record CanWalk (code : Code) (s : State) : Type 0 where
  pub ready : IsReady code s.depth s.store
  pub clear : (r : Rigid) → Contains (constants_of s.store) r → below s.place r.place ≡ false

-- what lists items where this is wanted
abbrev pub Lists : Type 0 → Type 0
Lists W = Scope → Place → W → List Item

-- links say of variables what is wanted
abbrev pub Saying : Type 0 → Type 1
Saying W = Links → W → Type 0

-- one type, of this variable
abbrev pub one : ℕ → Saying Wanted
one v links t = Has links v t

-- two types
abbrev pub two : ℕ → ℕ → Saying (Wanted × Wanted)
two v w links ts = Has links v ts.0 × Has links w ts.1

-- several
abbrev pub each : List ℕ → Saying (List Wanted)
each vs links ts = AllZip (Has links) vs ts

-- several, and one more
abbrev pub each_and : List ℕ → ℕ → Saying (List Wanted × Wanted)
each_and vs w links ts = AllZip (Has links) vs ts.0 × Has links w ts.1

-- The part was walked, in a region of places that the place gives. At the state's own place its sizes were small.
pub record Went (W : Type 0) (code : Code) (says : Saying W) (R : Place → Region) (list : Lists W) (old new : State)
    : Type 0 where
  pub follows : Follows old new
  pub step : (real : Bool) (a : Around) (links : Links) (scope : Scope) (q : Place) (w : W)
      → (real ≡ true → q ≡ old.place) → Setting a links code scope old → says links w
      → Step real a (R q) (list scope q w) old.store links new.store links

-- at the state's own place its items stop at a bad one
pub record Stuck (W : Type 0) (code : Code) (says : Saying W) (R : Place → Region) (list : Lists W) (old new : State)
    (bad : Bad)
    : Type 0 where
  pub fails : (a : Around) (links : Links) (scope : Scope) (q : Place) (w : W) → q ≡ old.place
      → Setting a links code scope old → says links w
      → Fails a old.store links (R q) (list scope q w) bad new.store

-- a step after which more is known: links say of variables what comes to be wanted
pub record Gives (real : Bool) (a : Around) (R : Region) (items : List Item) (s : Store) (links : Links) (s' : Store)
    (X : Type 0) (says : Saying X) (x : X)
    : Type 0 where
  pub after : Links
  pub step : Step real a R items s links s' after
  pub tells : Tells after links
  pub known : says after x

-- the first part of a construct was walked; what is wanted of the parts to come has variables
pub record Opens (W : Type 0) (code : Code) (says : Saying W) (R : Place → Region) (list : Lists W) (X : Type 0)
    (more : Saying X) (type : Scope → Place → W → X) (old new : State)
    : Type 0 where
  pub follows : Follows old new
  pub gives : (real : Bool) (a : Around) (links : Links) (scope : Scope) (q : Place) (w : W)
      → (real ≡ true → q ≡ old.place) → Setting a links code scope old → says links w
      → Gives real a (R q) (list scope q w) old.store links new.store X more (type scope q w)
