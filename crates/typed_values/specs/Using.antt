-- What a use of a name evaluates to.
use Rattle.std.specs.Prelude.{◌≡◌, Bool, false}
use Rattle.elm_base.specs.declared.position.Pos.{Pos}
use Rattle.elm_canon.specs.declared.reference.Ref.{Ref}
use Rattle.elm_meaning.specs.Values.{Env}
use Rattle.elm_meaning.specs.Envs.{lookup}
use Rattle.type_items.specs.Items.{Place, Wanted}
use Rattle.type_items.specs.Scopes.{Scope, entry_of, use_items}
use Rattle.type_items.specs.Solutions.{Solves}
use Rattle.typed_values.specs.Frames.{Frame, of, Stands}
use Rattle.typed_values.specs.World.{World}
use Rattle.typed_values.specs.Typed.{EndsWell, Has, Fits}

-- where its items are solved, it has the type that is wanted
abbrev pub UsesEndWell : Type 0
UsesEndWell =
    (w : World) (env : Env) (hidden : Ref → Bool) (scope : Scope) (f : Frame) (x : Ref)
    (pos : Pos) (p : Place) (t : Wanted) → Fits w env hidden scope f → Stands f → hidden x ≡ false
    → Solves f.values (use_items (entry_of scope x) pos p t)
    → EndsWell (λ v. Has w v (of f t)) (lookup x env)
