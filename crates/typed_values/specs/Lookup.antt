-- What names are bound to in an environment that fits a scope.
use Rattle.std.specs.Prelude.{◌≡◌, Bool, false, Some}
use Rattle.elm_canon.specs.declared.reference.Ref.{Ref}
use Rattle.elm_meaning.specs.Values.{Env}
use Rattle.elm_meaning.specs.Envs.{lookup}
use Rattle.type_items.specs.Scopes.{Entry, Scope, entry_of}
use Rattle.typed_values.specs.Frames.{Frame, Serves}
use Rattle.typed_values.specs.World.{World}
use Rattle.typed_values.specs.Typed.{EndsWell, Has, Fits}

abbrev pub FoundServes : Type 0
FoundServes =
    (w : World) (env : Env) (hidden : Ref → Bool) (scope : Scope) (x : Ref) (entry : Entry)
    (f : Frame) → Fits w env hidden scope f → hidden x ≡ false → entry_of scope x ≡ Some entry
    → EndsWell (λ v. Serves (λ g. Has w v g) entry scope f) (lookup x env)
