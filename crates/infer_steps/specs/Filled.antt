-- Variables, or one for Int where there is none.
use Rattle.std.specs.Prelude.{◌≡◌, ℕ, List, [], ◌∷◌}
use Rattle.std.specs.List.{AllByRecursion, AllZip}
use Rattle.elm_type.specs.Types.{int_type}
use Rattle.type_items.specs.Items.{Wanted}
use Rattle.type_walks.specs.Regions.{none}
use Rattle.type_walks.specs.Links.{Links, Live, AreLive, Has}
use Rattle.type_walks.specs.Walks.{Around}
use Rattle.infer_steps.specs.Codes.{State}
use Rattle.infer_steps.specs.Ready.{Follows}
use Rattle.infer_steps.specs.Begun.{Gives}

abbrev pub some_types : List Wanted → List Wanted
some_types [] = int_type ∷ []
some_types (t ∷ ts) = t ∷ ts

pub record Fills (old new : State) (vs ws : List ℕ) : Type 0 where
  pub follows : Follows old new
  pub live : AllByRecursion (Live old.depth old.store) vs → AllByRecursion (Live new.depth new.store) ws
  pub gives : (a : Around) (links : Links) (ts : List Wanted) → a.depth ≡ old.depth → AreLive a.depth old.store links
      → AllZip (Has links) vs ts → Gives a none [] old.store links new.store ws (some_types ts)
