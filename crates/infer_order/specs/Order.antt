-- Definitions in written order, and their type groups, by numbers.
use Rattle.std.specs.Prelude.{◌≡◌, ℕ, ◌+◌, ◌<◌, ◌≤◌, ◌^◌, List, ◌∷◌, [], ◌++◌, ◌⊎◌, length, map, Option, Some}
use Rattle.std.specs.Prelude.{None}
use Rattle.std.specs.Prelude.{is_some, slice_get, true}
use Rattle.std.specs.List.{All, AllByRecursion, AllZip}
use Rattle.std.specs.Borrow.{Bor}
use Rattle.elm_base.specs.declared.position.Pos.{Pos}
use Rattle.decl_groups.specs.Groups.{plain}
use Rattle.decl_groups.specs.InOrder.{ordered_groups}
use Rattle.elm_canon.specs.declared.reference.Ref.{Ref}
use Rattle.elm_canon.specs.Tree as tree
use Rattle.elm_canon.specs.Tree.{Group, Groups, NoGroup, MoreGroup, groups_of}
use Rattle.elm_canon.specs.View.{title_view}
use Rattle.elm_canon.specs.declared.tree.Title.{Title}
use Rattle.type_items.specs.Items.{Place, Wanted, Item}
use Rattle.type_items.specs.Scopes.{Scope}
use Rattle.type_items.specs.Definitions as plain
use Rattle.type_items.specs.Definitions.{in_written_order, all_uses}
use Rattle.type_items.specs.Expressions.{titled, definitions, group_definitions}
use Rattle.infer_order.specs.Spots.{at_spot, has_titles}
use Rattle.infer_order.specs.declared.order.Definition.{Definition}
use Rattle.infer_order.specs.declared.order.Order.{Order}
use Rattle.infer_order.specs.declared.order.Spot.{Spot}

-- the definitions of groups, in written order
abbrev pub ordered : List Group → List plain.Definition
ordered gs = in_written_order (definitions (groups_of gs))

-- a definition with this title
pub record IsTitled (title : tree.Title) (d : plain.Definition) : Type 0 where
  pub uses : List Ref
  pub list : Scope → Place → Wanted → List Item
  pub is : d ≡ titled title uses list

-- a pattern with its value has no title
abbrev pub TitleIs : Option (Bor Title) → plain.Definition → Type 0
TitleIs None d = d.annotation ≡ None
TitleIs (Some title) d = IsTitled (title_view title.now) d

-- what the program says of a definition: where it stands, where it is written, and its title
pub record IsDefinition (gs : List Group) (x : Definition) (d : plain.Definition) : Type 0 where
  pub at : at_spot gs x.group x.function ≡ Some d
  pub place : x.place ≡ d.place
  pub title : TitleIs x.title d
  pub kind : is_some x.title ≡ has_titles (slice_get gs x.group)

abbrev pub AreDefinitions : List Group → List Definition → List plain.Definition → Type 0
AreDefinitions gs xs ds = AllZip (IsDefinition gs) xs ds

-- the definitions of groups in written order, and the numbers of those of each type group, in order of use
pub record IsOrder (gs : List Group) (order : Order) : Type 0 where
  pub definitions : AreDefinitions gs order.definitions.items (ordered gs)
  pub groups : plain order.groups.items ≡ ordered_groups (all_uses (ordered gs))
  pub inside : AllByRecursion (All (λ i. i < length order.definitions.items)) (plain order.groups.items)
  pub few : length order.groups.items < 2 ^ 32

-- ---- patterns with their values

abbrev pub Spots : Type 0
Spots = List (ℕ × ℕ)

abbrev pub group_list : Groups → List Group
group_list NoGroup = []
group_list (MoreGroup g gs) = g ∷ group_list gs

abbrev pub HasTitle : List Group → Option (ℕ × ℕ) → Type 0
HasTitle gs None = Unit {0}
HasTitle gs (Some spot) = has_titles (slice_get gs spot.0) ≡ true

-- a type group of one definition, or of such as have a title
abbrev pub StandsAlone : List Group → Spots → List ℕ → Type 0
StandsAlone gs spots group = (length group ≤ 1) ⊎ AllByRecursion (λ i. HasTitle gs (slice_get spots i)) group

-- A pattern with its value shares its type group with no other definition, wherever the definitions stand.
pub record IsSimple (gs : Groups) : Type 0 where
  pub each : (spots : Spots) → map (λ s. at_spot (group_list gs) s.0 s.1) spots
      ≡ map (λ d. Some d) (in_written_order (definitions gs))
      → AllByRecursion (StandsAlone (group_list gs) spots)
      (ordered_groups (all_uses (in_written_order (definitions gs))))

-- ---- where the definitions of groups stand

abbrev pub spots_from : ℕ → ℕ → List plain.Definition → List Spot
spots_from g i [] = []
spots_from g i (d ∷ ds) = record { group = g; function = i; place = d.place } ∷ spots_from g (i + 1) ds

abbrev pub all_spots : ℕ → List Group → List Spot
all_spots i [] = []
all_spots i (g ∷ gs) = spots_from i 0 (group_definitions g) ++ all_spots (i + 1) gs

-- what stands there, and where it is written
abbrev pub in_place : List Group → Spot → Option plain.Definition × Pos
in_place gs s = (at_spot gs s.group s.function, s.place)

abbrev pub StandsAt : List Group → Spot → plain.Definition → Type 0
StandsAt gs s d = in_place gs s ≡ (Some d, d.place)
