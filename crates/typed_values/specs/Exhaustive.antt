-- Patterns of a type.
use Rattle.std.specs.Prelude.{◌≡◌}
use Rattle.elm_base.specs.declared.position.Pos.{Pos}
use Rattle.elm_canon.specs.Tree.{Pattern}
use Rattle.elm_type.specs.Classes.{Ground}
use Rattle.type_items.specs.Items.{Place, Wanted}
use Rattle.type_items.specs.Scopes.{Known}
use Rattle.type_items.specs.Patterns.{pattern_items}
use Rattle.type_items.specs.Solutions.{Solves}
use Rattle.typed_values.specs.Frames.{Frame, of, Stands}
use Rattle.typed_values.specs.World.{KnownIn, World}
use Rattle.typed_values.specs.Simple.{IsPattern}

-- at some place the items of the pattern are solved for values of the type
pub record IsPatternOf (w : World) (g : Ground) (q : Pattern) : Type 0 where
  pub is_pattern : IsPattern w q
  pub here : Pos
  pub place : Place
  pub wanted : Wanted
  pub frame : Frame
  pub stands : Stands frame
  pub known : Known
  pub is_known : KnownIn w known
  pub solves : Solves frame.values (pattern_items q known here place wanted)
  pub is : of frame wanted ≡ g
