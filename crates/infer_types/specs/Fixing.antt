-- The type of an annotation all of whose variables are those of annotations around.
use Rattle.std.specs.Prelude.{◌≡◌, ℕ, List, ◌++◌, map, Some}
use Rattle.elm_base.specs.declared.position.Pos.{Pos}
use Rattle.elm_canon.specs.Tree.{Annotation}
use Rattle.elm_type.specs.Types.{Name, ElmType, variable, Leaf, Free, Kind}
use Rattle.type_items.specs.Items.{Place, Wanted, Item}
use Rattle.type_items.specs.Scopes.{Constants}
use Rattle.type_items.specs.Annotations.{variables_of, kind_of, annotation_type, number_of, fixed_variable, fixed_type}
use Rattle.type_items.specs.Annotations.{annotation_items}
use Rattle.type_store.specs.Store.{Store}
use Rattle.type_walks.specs.Regions.{Region, none}
use Rattle.type_walks.specs.Links.{Links, Live, AreLive, Has, Tells}
use Rattle.type_walks.specs.Walks.{Around, Walk}
use Rattle.type_constructs.specs.Failing.{Bad, Fails}
use Rattle.infer_steps.specs.Codes.{Code, State}
use Rattle.infer_steps.specs.Ready.{Follows}
use Rattle.infer_types.specs.Once.{FieldsOnce}
use Rattle.infer_types.specs.Asking.{MeansConstants}

-- ---- an annotation as it is kept: its variables in order of appearance, their kinds, and the type over their numbers

abbrev pub numbered : List Name → Name → ElmType (Leaf ℕ)
numbered order a = variable (Free (number_of a order))

pub record IsAnnotation (t : Annotation) (xs : List Name) (ks : List Kind) (u : ElmType (Leaf ℕ)) : Type 0 where
  pub names : xs ≡ variables_of t
  pub kinds : ks ≡ map (kind_of t) (variables_of t)
  pub type : u ≡ annotation_type (numbered (variables_of t)) t
  pub once : FieldsOnce t

pub record Annotated (xs : List Name) (ks : List Kind) (u : ElmType (Leaf ℕ)) : Type 0 where
  pub annotation : Annotation
  pub is : IsAnnotation annotation xs ks u

-- ---- its type over constants

-- an annotation around has the variable
abbrev pub HasConstant : Code → Name → Type 0
HasConstant code x = (v : ℕ) × (code.constants x ≡ Some v)

-- after these items a type has a variable
pub record TypedAfter (a : Around) (items : List Item) (t : Wanted) (s : Store) (links : Links) (s' : Store) (v : ℕ)
    : Type 0 where
  pub after : Links
  pub walk : Walk a none items s links s' after
  pub tells : Tells after links
  pub has : Has after v t

-- what the annotation asks was asked, and the variable v was made for its type
pub record Fixes (code : Code) (pos : Pos) (t : Annotation) (old new : State) (v : ℕ) : Type 0 where
  pub follows : Follows old new
  pub live : Live new.depth new.store v
  pub typed : (a : Around) (links : Links) (around : Constants) (q : Place) → a.depth ≡ old.depth
      → AreLive a.depth old.store links → MeansConstants code links around
      → TypedAfter a (annotation_items pos t (fixed_variable around q)) (fixed_type around q t) old.store links
      new.store
      v

-- what it asks fails
pub record NotFixed (code : Code) (pos : Pos) (t : Annotation) (old new : State) (bad : Bad) : Type 0 where
  pub fails : (a : Around) (links : Links) (around : Constants) (q : Place) (Q : Region) (rest : List Item)
      → a.depth ≡ old.depth → AreLive a.depth old.store links → MeansConstants code links around
      → Fails a old.store links Q (annotation_items pos t (fixed_variable around q) ++ rest) bad new.store
