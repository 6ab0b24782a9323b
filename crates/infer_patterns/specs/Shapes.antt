-- Constructors: the variables of what one makes and of its fields, whatever place it has.
use Rattle.std.specs.Prelude.{◌≡◌, ℕ, List}
use Rattle.std.specs.List.{AllByRecursion}
use Rattle.elm_base.specs.declared.position.Pos.{Pos}
use Rattle.elm_canon.specs.declared.unions.Alternative.{Alternative}
use Rattle.elm_canon.specs.Unions.{Union}
use Rattle.type_items.specs.Items.{Place}
use Rattle.type_items.specs.Scopes.{Known}
use Rattle.type_items.specs.Patterns.{shape, shape_items}
use Rattle.type_walks.specs.Regions.{below}
use Rattle.type_walks.specs.Links.{Links, Live, AreLive}
use Rattle.type_walks.specs.Walks.{Around}
use Rattle.type_constructs.specs.Failing.{Bad, Fails}
use Rattle.type_constructs.specs.Binding.{Shaped}
use Rattle.infer_steps.specs.Codes.{State}
use Rattle.infer_steps.specs.Ready.{Follows}

-- what the constructor asks was asked; what it makes has the variable `result`, and its fields have the variables
-- `parts`, in turn
pub record IsShaped (known : Known) (pos : Pos) (u : Union) (c : Alternative) (old new : State) (result : ℕ)
    (parts : List ℕ) : Type 0 where
  pub follows : Follows old new
  pub result_live : Live new.depth new.store result
  pub parts_live : AllByRecursion (Live new.depth new.store) parts
  pub shaped : (a : Around) (links : Links) (p : Place) → a.depth ≡ old.depth → AreLive a.depth old.store links
      → Shaped a (below p) (shape_items u c known pos p) (shape u c known p) old.store links new.store result parts

-- what the constructor asks is bad
pub record NoShape (known : Known) (pos : Pos) (u : Union) (c : Alternative) (old new : State) (bad : Bad)
    : Type 0 where
  pub fails : (a : Around) (links : Links) (p : Place) → a.depth ≡ old.depth → AreLive a.depth old.store links
      → Fails a old.store links (below p) (shape_items u c known pos p) bad new.store
