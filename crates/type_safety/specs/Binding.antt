-- What a group of functions binds.
use Rattle.std.specs.Prelude.{◌≡◌, Bool, true}
use Rattle.elm_canon.specs.declared.reference.Ref.{Ref}
use Rattle.elm_canon.specs.Tree.{Functions, NoFunction, MoreFunction}
use Rattle.elm_canon.specs.Proper.{is_function}
use Rattle.elm_meaning.specs.Values.{Env, BindGroup}
use Rattle.type_items.specs.Scopes.{Scope}
use Rattle.type_items.specs.Definitions.{with_group}
use Rattle.type_items.specs.Expressions.{function_definitions}
use Rattle.typed_values.specs.Frames.{Frame}
use Rattle.typed_values.specs.World.{World}
use Rattle.typed_values.specs.Typed.{IsChecked, Fits}

abbrev pub AllChecked : World → (Ref → Bool) → Functions → Type 0
AllChecked w hidden NoFunction = Unit {0}
AllChecked w hidden (MoreFunction title qs e fs) =
    (is_function qs e ≡ true) × IsChecked w hidden qs e × AllChecked w hidden fs

-- Functions without annotations that may use each other fit the scope with their names, at the types that the items of
-- their group leave them.
abbrev pub GroupFitsScope : Type 0
GroupFitsScope =
    (w : World) (fs : Functions) (env : Env) (hidden : Ref → Bool) (scope : Scope) (f : Frame) → AllChecked w hidden fs
    → Fits w env hidden scope f → Fits w (BindGroup fs env) hidden (with_group (function_definitions fs) scope) f
