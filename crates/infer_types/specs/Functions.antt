-- Types of functions, taken apart into the types of so many parameters and that of the result.
use Rattle.std.specs.Prelude.{◌≡◌, ℕ, zero, suc, List, [], ◌∷◌, map, length, Bool, false, nat_eq, Option, Some, None}
use Rattle.std.specs.List.{AllByRecursion, AllZip}
use Rattle.elm_type.specs.Types.{ElmType, Made, NoType, MoreType, Leaf}
use Rattle.elm_type.specs.Spelling.{spell}
use Rattle.elm_type.specs.declared.head.Head.TheVariants as head
use Rattle.elm_type.specs.declared.node.Node.{Node}
use Rattle.elm_type.specs.declared.node.Node.TheVariants as node
use Rattle.type_items.specs.Items.{Wanted}
use Rattle.type_store.specs.Store.{Store}
use Rattle.type_walks.specs.Regions.{none}
use Rattle.type_walks.specs.Links.{Links, Live, AreLive, Has, Tells}
use Rattle.type_walks.specs.Walks.{Around, Walk}
use Rattle.infer_steps.specs.Codes.{State}
use Rattle.infer_steps.specs.Ready.{Follows}
use Rattle.infer_types.specs.Writing.{written}

-- fewer, where the type has fewer arrows
abbrev pub parameters_in : ℕ → ElmType (Leaf ℕ) → List (ElmType (Leaf ℕ))
parameters_in zero t = []
parameters_in (suc n) (Made head.Function (MoreType a (MoreType b NoType))) = a ∷ parameters_in n b
parameters_in (suc n) _ = []

abbrev pub result_in : ℕ → ElmType (Leaf ℕ) → ElmType (Leaf ℕ)
result_in zero t = t
result_in (suc n) (Made head.Function (MoreType a (MoreType b NoType))) = result_in n b
result_in (suc n) t = t

-- how many nodes the type of the first parameter has
abbrev pub first_length : ElmType (Leaf ℕ) → Option ℕ
first_length (Made head.Function (MoreType a (MoreType b NoType))) = Some (length (spell a))
first_length _ = None

-- ---- in a list of nodes

-- how many parts follow a node
abbrev pub following : Node → ℕ
following (node.Made h n) = n
following (node.Record n) = n
following (node.Open x n) = n
following (node.Field k) = 1

-- a node of a type of functions
abbrev pub is_arrow : Node → Bool
is_arrow (node.Made head.Function n) = nat_eq n 2
is_arrow _ = false

abbrev pub begins_arrow : List Node → Bool
begins_arrow [] = false
begins_arrow (n ∷ ns) = is_arrow n

-- ---- variables

-- variables were made for types
pub record TypedEach (a : Around) (ts : List Wanted) (s : Store) (links : Links) (s' : Store) (vs : List ℕ)
    : Type 0 where
  pub after : Links
  pub walk : Walk a none [] s links s' after
  pub tells : Tells after links
  pub has : AllZip (Has after) vs ts

pub record PartsWritten (leaves : List ℕ) (ts : List (ElmType (Leaf ℕ))) (old new : State) (vs : List ℕ)
    : Type 0 where
  pub follows : Follows old new
  pub live : AllByRecursion (Live new.depth new.store) vs
  pub typed : (a : Around) (links : Links) (types : List Wanted) → a.depth ≡ old.depth → AreLive a.depth old.store links
      → AllZip (Has links) leaves types → TypedEach a (map (written types) ts) old.store links new.store vs

-- variables were made for the result and the parameters
abbrev pub FunctionWritten : List ℕ → ℕ → ElmType (Leaf ℕ) → State → State → ℕ → List ℕ → Type 0
FunctionWritten leaves n t old new v vs = PartsWritten leaves (result_in n t ∷ parameters_in n t) old new (v ∷ vs)
