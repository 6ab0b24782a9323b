-- A type that is written, as variables of a store: its own variables stand for types, by their numbers.
use Rattle.std.specs.Prelude.{◌≡◌, ℕ, ◌<◌, List, [], ◌∷◌, map, take, drop, length, unwrap_or, slice_get, slice_index}
use Rattle.std.specs.Prelude.{true}
use Rattle.std.specs.List.{AllByRecursion, AllZip}
use Rattle.elm_type.specs.Types.{Name, ElmType, int_type, variable, variables, Leaf, Free, Fixed, Kind}
use Rattle.elm_type.specs.Rows.{substitute}
use Rattle.elm_type.specs.Spelling.{Read, read_node, read}
use Rattle.elm_type.specs.declared.node.Leaf.{Leaf as StoredLeaf}
use Rattle.elm_type.specs.declared.node.Leaf.TheVariants as leaf
use Rattle.elm_type.specs.declared.node.Node.{Node}
use Rattle.elm_type.specs.declared.node.Node.TheVariants as node
use Rattle.type_items.specs.Items.{Wanted}
use Rattle.type_items.specs.Principal.{is_formed}
use Rattle.type_store.specs.Store.{FieldSlot, Store}
use Rattle.type_store.specs.Shape.{Ascending}
use Rattle.type_walks.specs.Regions.{none}
use Rattle.type_walks.specs.Links.{Links, Live, AreLive, Has, Tells}
use Rattle.type_walks.specs.Walks.{Around, Walk}
use Rattle.type_walks.specs.TypeStepsLaws.{Lacking}
use Rattle.type_constructs.specs.Binding.{Typed}
use Rattle.infer_steps.specs.Codes.{State}
use Rattle.infer_steps.specs.Ready.{IsBelow, Follows}
use Rattle.infer_types.specs.Stacks.{slots}

-- the type with these for its variables
abbrev pub leaf_type : List Wanted → Leaf ℕ → Wanted
leaf_type types (Free i) = unwrap_or (slice_get types i) int_type
leaf_type types (Fixed r) = variable (Fixed r)

abbrev pub written : List Wanted → ElmType (Leaf ℕ) → Wanted
written types t = substitute (leaf_type types) t

-- It has no constants, and a variable of the store for each of its own. What its records end in is known to lack their
-- fields.
pub record CanWrite (s : Store) (leaves : List ℕ) (t : ElmType (Leaf ℕ)) : Type 0 where
  pub kinds : List Kind
  pub below : AllByRecursion (IsBelow (length kinds)) (variables t)
  pub formed : is_formed kinds t ≡ true
  pub lacks : AllZip (λ v k. Lacking s v k.lacks) leaves kinds

-- a variable was made for it, whatever types its variables stand for
pub record Writes (leaves : List ℕ) (t : ElmType (Leaf ℕ)) (old new : State) (v : ℕ) : Type 0 where
  pub follows : Follows old new
  pub live : Live new.depth new.store v
  pub typed : (a : Around) (links : Links) (types : List Wanted) → a.depth ≡ old.depth → AreLive a.depth old.store links
      → AllZip (Has links) leaves types → Typed a (written types t) old.store links new.store v

-- ---- node by node, from the last one on

-- the names of the fields that wait
abbrev pub first_named : Name → List Name → List Name
first_named k [] = []
first_named k (x ∷ xs) = k ∷ xs

abbrev pub node_names : Node → List Name → List Name
node_names (node.Made h n) xs = [] ∷ drop n xs
node_names (node.Record n) xs = [] ∷ drop n xs
node_names (node.Open x n) xs = [] ∷ drop n xs
node_names (node.Field k) xs = first_named k xs

-- the node can be written over what waits
abbrev pub LeafFits : Store → List ℕ → StoredLeaf → List Name → Type 0
LeafFits s leaves (leaf.Free i) xs =
    (i < length leaves) × Ascending xs × Lacking s (slice_index leaves i) xs
LeafFits s leaves (leaf.Fixed r) xs = ⊥

abbrev pub NodeFits : Store → List ℕ → Node → List Name → Type 0
NodeFits s leaves (node.Made h n) xs = Unit {0}
NodeFits s leaves (node.Record n) xs = Ascending (take n xs)
NodeFits s leaves (node.Open x n) xs = LeafFits s leaves x (take n xs)
NodeFits s leaves (node.Field k) xs = Unit {0}

-- a variable waits for a type that was read, under its name
abbrev pub Waits : List Wanted → Links → FieldSlot → Name × ElmType (Leaf ℕ) → Type 0
Waits types links f r = (f.0 ≡ r.0) × Has links f.1 (written types r.1)

pub record AllWait (a : Around) (types : List Wanted) (s : Store) (links : Links) (s' : Store) (stack : List FieldSlot)
    (rs : Read) : Type 0 where
  pub after : Links
  pub walk : Walk a none [] s links s' after
  pub tells : Tells after links
  pub each : AllZip (Waits types after) stack rs

-- the node was written over what waited
pub record NodeWritten (leaves : List ℕ) (n : Node) (before : List FieldSlot) (old : State) (after : List FieldSlot)
    (new : State) : Type 0 where
  pub follows : Follows old new
  pub live : AllByRecursion (Live new.depth new.store) (slots after)
  pub names : map (λ f. f.0) after ≡ node_names n (map (λ f. f.0) before)
  pub typed : (a : Around) (links : Links) (types : List Wanted) (rs : Read) → a.depth ≡ old.depth
      → AreLive a.depth old.store links → AllZip (Has links) leaves types → AllZip (Waits types links) before rs
      → AllWait a types old.store links new.store after (read_node n rs)

-- all these nodes were written
pub record NodesWritten (leaves : List ℕ) (ns : List Node) (old : State) (stack : List FieldSlot) (new : State)
    : Type 0 where
  pub follows : Follows old new
  pub live : AllByRecursion (Live new.depth new.store) (slots stack)
  pub names : map (λ f. f.0) stack ≡ map (λ r. r.0) (read ns)
  pub typed : (a : Around) (links : Links) (types : List Wanted) → a.depth ≡ old.depth → AreLive a.depth old.store links
      → AllZip (Has links) leaves types → AllWait a types old.store links new.store stack (read ns)
