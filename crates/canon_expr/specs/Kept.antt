-- What the program keeps of the definitions of a block.
use Rattle.std.specs.Prelude.{◌≡◌, ℕ, List, [], ◌∷◌, ◌<◌, Option, Some, None, length, slice_index_or, slice_set}
use Rattle.indexmap.specs.IndexMap.{get}
use Rattle.elm_tree.specs.Tree.{Pos, Word}
use Rattle.elm_canon.specs.Tree as canon
use Rattle.elm_canon.specs.View.{FunctionView, expr_view, pattern_view, patterns_view, title_view, group_view}
use Rattle.elm_canon.specs.declared.tree.Group.{Group}
use Rattle.decl_groups.specs.InOrder.{ordered_groups, uses_itself}
use Rattle.decl_groups.specs.View.{members_of, is_marked, StandOnce, joined}
use Rattle.canon_expr.specs.Binding.{binder_of, same_place}
use Rattle.canon_expr.specs.Blocks.{Made, NoMade, MadeFunction, MadeConstant, MadeParts}
use Rattle.canon_expr.specs.declared.made.Made as program
use Rattle.canon_expr.specs.declared.binders.Binders.{Binders}
use Rattle.canon_expr.specs.declared.order.Order.{Order}

abbrev pub made_view : program.Made → Made
made_view program.Made.Nothing = NoMade
made_view (program.Made.Function title ps e) = MadeFunction (title_view title) (patterns_view ps.items) (expr_view e.value)
made_view (program.Made.Constant title e) = MadeConstant (title_view title) (expr_view e.value)
made_view (program.Made.Parts p e) = MadeParts (pattern_view p) (expr_view e.value)

-- what the map from places to definitions says
abbrev pub Binds : Binders → List (List Word) → Type 0
Binds binders each = (place : Pos) → get same_place binders.places place ≡ binder_of each place

-- the order of the definitions that use each other so
pub record IsOrderOf (order : Order) (uses : List (List ℕ)) : Type 0 where
  pub members : members_of order.groups.items ≡ ordered_groups uses
  pub itself : (i : ℕ) → i < length uses → is_marked order.groups.items i ≡ uses_itself uses i
  pub once : StandOnce (joined (members_of order.groups.items))

-- the group of one definition, if it makes one
abbrev pub one_view : Option Group → List canon.Group
one_view None = []
one_view (Some g) = group_view g ∷ []

-- ---- what is taken out of a list, one after the other

-- what is left where one is taken, with `none` in its place
abbrev pub left_at : {X : Type 0} → X → List X → ℕ → List X
left_at none xs i = slice_set xs i none

abbrev pub left_after : {X : Type 0} → X → List X → List ℕ → List X
left_after none xs [] = xs
left_after none xs (i ∷ is) = left_after none (left_at none xs i) is

abbrev pub taken_at : {X : Type 0} → X → List X → List ℕ → List X
taken_at none xs [] = []
taken_at none xs (i ∷ is) = slice_index_or xs i none ∷ taken_at none (left_at none xs i) is

abbrev pub taken_each : {X : Type 0} → X → List X → List (List ℕ) → List (List X)
taken_each none xs [] = []
taken_each none xs (is ∷ rest) = taken_at none xs is ∷ taken_each none (left_after none xs is) rest

-- ---- functions

-- the functions among definitions
abbrev pub functions_among : List Made → List FunctionView
functions_among [] = []
functions_among (MadeFunction title ps e ∷ ms) = (title, ps, e) ∷ functions_among ms
functions_among (_ ∷ ms) = functions_among ms
