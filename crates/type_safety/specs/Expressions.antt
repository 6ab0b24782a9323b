-- Typed expressions end well.
use Rattle.std.specs.Prelude.{ℕ, Bool}
use Rattle.elm_base.specs.declared.position.Pos.{Pos}
use Rattle.elm_canon.specs.declared.reference.Ref.{Ref}
use Rattle.elm_canon.specs.Tree.{Expr}
use Rattle.elm_meaning.specs.Values.{Env}
use Rattle.elm_meaning.specs.Eval.{Eval}
use Rattle.type_items.specs.Items.{Place, Wanted}
use Rattle.type_items.specs.Scopes.{Scope}
use Rattle.type_items.specs.Uses.{used}
use Rattle.type_items.specs.Expressions.{items}
use Rattle.type_items.specs.Solutions.{Solves}
use Rattle.typed_values.specs.Frames.{Frame, of, Stands}
use Rattle.typed_values.specs.World.{World, IsSound}
use Rattle.typed_values.specs.Simple.{Without, Simple}
use Rattle.typed_values.specs.Typed.{Fits}
use Rattle.typed_values.specs.Steps.{EndsAs}

-- with any fuel an expression whose items are solved is not Stuck, and its value has the type that is wanted
abbrev pub ExpressionsKeepTypes : Type 0
ExpressionsKeepTypes =
    (w : World) → IsSound w → (n : ℕ) (e : Expr) (env : Env) (hidden : Ref → Bool) (scope : Scope) (f : Frame)
    (here : Pos) (p : Place) (t : Wanted) → Simple w e → Stands f → Without hidden (used e)
    → Fits w env hidden scope f → Solves f.values (items e scope here p t) → EndsAs w (of f t) (Eval env e n)
