-- What annotations ask of variables of the store, whatever types these have.
use Rattle.std.specs.Prelude.{◌≡◌, ℕ, List, [], ◌∷◌, ◌++◌, Some}
use Rattle.std.specs.List.{AllZip}
use Rattle.std.specs.Map.{lookup}
use Rattle.std.specs.Str.{bytes_eq}
use Rattle.elm_base.specs.declared.position.Pos.{Pos}
use Rattle.elm_type.specs.Types.{Name, Kind}
use Rattle.type_items.specs.Items.{Wanted, Item, kind_items}
use Rattle.type_items.specs.Scopes.{Constants}
use Rattle.type_items.specs.Definitions.{constant_items}
use Rattle.type_walks.specs.Regions.{Region, none}
use Rattle.type_walks.specs.Links.{Links, AreLive, Has}
use Rattle.type_walks.specs.Walks.{Around, Walk}
use Rattle.type_constructs.specs.Failing.{Bad, Fails}
use Rattle.type_walks.specs.TypeStepsLaws.{Lacking}
use Rattle.infer_steps.specs.Codes.{Code, State}
use Rattle.infer_steps.specs.Ready.{Follows}
use Rattle.infer_steps.specs.Means.{MeansConstant}

-- ---- of one variable

-- a variable is of a kind
pub record AsksKind (old new : State) (pos : Pos) (v : ℕ) (k : Kind) : Type 0 where
  pub follows : Follows old new
  pub lacking : Lacking new.store v k.lacks
  pub walk : (a : Around) (links : Links) (t : Wanted) → a.depth ≡ old.depth → AreLive a.depth old.store links
      → Has links v t → Walk a none (kind_items pos t k) old.store links new.store links

pub record RefusesKind (old new : State) (pos : Pos) (v : ℕ) (k : Kind) (bad : Bad) : Type 0 where
  pub fails : (a : Around) (links : Links) (Q : Region) (t : Wanted) (rest : List Item) → a.depth ≡ old.depth
      → AreLive a.depth old.store links → Has links v t
      → Fails a old.store links Q (kind_items pos t k ++ rest) bad new.store

-- ---- of the variables of annotations around

-- the variables of the store that stand for constants
abbrev pub MeansConstants : Code → Links → Constants → Type 0
MeansConstants code links around =
    (x : Name) → MeansConstant links (code.constants x) (lookup (bytes_eq x) around)

-- what one name asks, if it is a variable of an annotation around
pub record AsksName (code : Code) (old new : State) (pos : Pos) (x : Name) (k : Kind) : Type 0 where
  pub follows : Follows old new
  pub lacking : (v : ℕ) → code.constants x ≡ Some v → Lacking new.store v k.lacks
  pub walk : (a : Around) (links : Links) (around : Constants) → a.depth ≡ old.depth → AreLive a.depth old.store links
      → MeansConstants code links around
      → Walk a none (constant_items pos (lookup (bytes_eq x) around) k) old.store links new.store links

pub record RefusesName (code : Code) (old new : State) (pos : Pos) (x : Name) (k : Kind) (bad : Bad) : Type 0 where
  pub fails : (a : Around) (links : Links) (around : Constants) (Q : Region) (rest : List Item) → a.depth ≡ old.depth
      → AreLive a.depth old.store links → MeansConstants code links around
      → Fails a old.store links Q (constant_items pos (lookup (bytes_eq x) around) k ++ rest) bad new.store

-- those of these names that are variables of annotations around are of these kinds
abbrev pub items_of : Pos → Constants → List Name → List Kind → List Item
items_of pos around [] ks = []
items_of pos around (x ∷ xs) [] = []
items_of pos around (x ∷ xs) (k ∷ ks) =
    constant_items pos (lookup (bytes_eq x) around) k ++ items_of pos around xs ks

pub record AsksAround (code : Code) (old new : State) (pos : Pos) (xs : List Name) (ks : List Kind) : Type 0 where
  pub follows : Follows old new
  pub lacking : AllZip (λ x k. (v : ℕ) → code.constants x ≡ Some v → Lacking new.store v k.lacks) xs ks
  pub walk : (a : Around) (links : Links) (around : Constants) → a.depth ≡ old.depth → AreLive a.depth old.store links
      → MeansConstants code links around → Walk a none (items_of pos around xs ks) old.store links new.store links

pub record RefusesAround (code : Code) (old new : State) (pos : Pos) (xs : List Name) (ks : List Kind) (bad : Bad)
    : Type 0 where
  pub fails : (a : Around) (links : Links) (around : Constants) (Q : Region) (rest : List Item) → a.depth ≡ old.depth
      → AreLive a.depth old.store links → MeansConstants code links around
      → Fails a old.store links Q (items_of pos around xs ks ++ rest) bad new.store
