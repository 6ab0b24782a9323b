-- What a step of inference makes, whatever places and types the items have.
use Rattle.std.specs.Prelude.{◌≡◌, ℕ, List, [], ◌∷◌, Option}
use Rattle.std.specs.List.{AllByRecursion, AllZip}
use Rattle.elm_type.specs.Types.{Made, types_of, functions, list_type}
use Rattle.elm_type.specs.Rows.{extend}
use Rattle.elm_type.specs.declared.head.Head.{Head}
use Rattle.type_items.specs.Items.{Place, Wanted, at}
use Rattle.type_store.specs.Store.{FieldSlot}
use Rattle.type_walks.specs.Regions.{only}
use Rattle.type_walks.specs.Links.{Links, Live, AreLive, Has}
use Rattle.type_walks.specs.Walks.{Around, Walk}
use Rattle.type_walks.specs.TypeStepsLaws.{typed_fields, rest_type, RestHas}
use Rattle.type_constructs.specs.Binding.{Children, Typed}
use Rattle.infer_steps.specs.Codes.{State}
use Rattle.infer_steps.specs.Ready.{Follows}

-- a variable was made of which nothing is known: it serves for any place
pub record IsOpened (old new : State) (v : ℕ) : Type 0 where
  pub follows : Follows old new
  pub live : Live new.depth new.store v
  pub walk : (a : Around) (links : Links) (p : Place) → a.depth ≡ old.depth → AreLive a.depth old.store links
      → Walk a (only p) [] old.store links new.store ((v, at p) ∷ links)

-- several were made: they serve for the children of any place
pub record AreOpened (old new : State) (vs : List ℕ) : Type 0 where
  pub follows : Follows old new
  pub live : AllByRecursion (Live new.depth new.store) vs
  pub children : (a : Around) (links : Links) (p : Place) → a.depth ≡ old.depth → AreLive a.depth old.store links
      → Children a p old.store links new.store vs

-- a variable was made for a type that links say
pub record IsMade (old new : State) (v : ℕ) (Is : Links → Wanted → Type 0) : Type 0 where
  pub follows : Follows old new
  pub live : Live new.depth new.store v
  pub typed : (a : Around) (links : Links) (t : Wanted) → a.depth ≡ old.depth → AreLive a.depth old.store links
      → Is links t → Typed a t old.store links new.store v

-- ---- which type it is

-- this one
abbrev pub Just : Wanted → Links → Wanted → Type 0
Just u links t = t ≡ u

-- of a head, with variables for the parts
pub record OfHead (h : Head) (ws : List ℕ) (links : Links) (t : Wanted) : Type 0 where
  pub parts : List Wanted
  pub has : AllZip (Has links) ws parts
  pub is : t ≡ Made h (types_of parts)

-- a list, with a variable for the items
pub record OfList (w : ℕ) (links : Links) (t : Wanted) : Type 0 where
  pub item : Wanted
  pub has : Has links w item
  pub is : t ≡ list_type item

-- a function, with variables for the parameters and the result
pub record OfFunctions (vs : List ℕ) (w : ℕ) (links : Links) (t : Wanted) : Type 0 where
  pub parameters : List Wanted
  pub result : Wanted
  pub has : AllZip (Has links) vs parameters
  pub result_has : Has links w result
  pub is : t ≡ functions parameters result

-- a record, with variables for the types of its fields and for what it has beside them
pub record OfRow (fs : List FieldSlot) (end : Option ℕ) (links : Links) (t : Wanted) : Type 0 where
  pub types : List Wanted
  pub rest : Option Wanted
  pub has : AllZip (λ f t. Has links f.1 t) fs types
  pub rest_has : RestHas links end rest
  pub is : t ≡ extend (typed_fields fs types) (rest_type rest)
