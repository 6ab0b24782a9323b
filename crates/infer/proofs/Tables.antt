-- Types by names: one more.
use Rattle.std.proofs.Common.{◌≡◌, Bool, Option, Some, None, cond, refl, ap, ◌∙◌, true, false}
use Rattle.std.specs.Prelude.{option_map, ◌&&◌}
use Rattle.std.specs.Borrow.{Bor}
use Rattle.indexmap.specs.IndexMap.{get}
use Rattle.elm_canon.specs.Names.{Name, same_name, same_ref}
use Rattle.elm_canon.specs.declared.reference.Ref.{Ref}
use Rattle.elm_canon.specs.declared.reference.Ref.TheVariants.{Local, Top}
use Rattle.elm_type.specs.View.{scheme_view}
use Rattle.elm_type.specs.declared.scheme.Scheme.{Scheme}
use Rattle.infer_steps.specs.Keys.{same_pair}
use Rattle.infer_steps.proofs.Scoping.{same_back}
use Rattle.infer.specs.Types.{schemes_of}
use Rattle.infer.specs.declared.types.Types.{Types}

pair_back : (a b c d : Name) → (same_name a b && same_name c d) ≡ (same_name b a && same_name d c)
pair_back a b c d = ap (λ z. z && same_name c d) (same_back a b) ∙ ap (λ z. same_name b a && z) (same_back c d)

chosen : {X Y : Type 0} (f : X → Y) (b : Bool) (x : X) (p : Option X)
    → option_map f (cond b (Some x) p) ≡ cond b (Some (f x)) (option_map f p)
chosen f true x p = refl
chosen f false x p = refl

pub local_set : (old new : Types) (x : Name) (s : Scheme)
    → ((n : Name) → get same_name new.locals n ≡ cond (same_name x n) (Some s) (get same_name old.locals n))
    → new.tops ≡ old.tops
    → (y : Ref) → schemes_of new y ≡ cond (same_ref y (Local x)) (Some (scheme_view s)) (schemes_of old y)
unfolding schemes_of
local_set old new x s put tops (Local y) =
    ap (option_map scheme_view) (put y)
    ∙ (chosen scheme_view (same_name x y) s (get same_name old.locals y)
    ∙ ap (λ b. cond b (Some (scheme_view s)) (option_map scheme_view (get same_name old.locals y))) (same_back x y))
local_set old new x s put tops (Top m y) = ap (λ t. option_map scheme_view (get same_pair t (m, y))) tops

pub top_set : (old new : Types) (m x : Name) (s : Scheme)
    → ((n : Name × Name) → get same_pair new.tops n ≡ cond (same_pair (m, x) n) (Some s) (get same_pair old.tops n))
    → new.locals ≡ old.locals
    → (y : Ref) → schemes_of new y ≡ cond (same_ref y (Top m x)) (Some (scheme_view s)) (schemes_of old y)
unfolding schemes_of
top_set old new m x s put locals (Local y) = ap (λ t. option_map scheme_view (get same_name t y)) locals
top_set old new m x s put locals (Top n y) =
    ap (option_map scheme_view) (put (n, y))
    ∙ (chosen scheme_view (same_pair (m, x) (n, y)) s (get same_pair old.tops (n, y))
    ∙ ap (λ b. cond b (Some (scheme_view s)) (option_map scheme_view (get same_pair old.tops (n, y))))
    (pair_back m n x y))

pub found_is : (r : Option (Bor Scheme))
    → option_map (λ x. scheme_view x.now) r ≡ option_map scheme_view (option_map (λ x. x.now) r)
found_is None = refl
found_is (Some x) = refl
