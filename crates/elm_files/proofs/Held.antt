-- The tree of a map from texts to files.
use Rattle.std.proofs.Common.{◌≡◌, ◌∙◌, ℕ, String, Bool, true, false, List, Option, option_map, refl, ap, if◌then◌else◌}
use Rattle.std.proofs.Common.{nat_cmp}
use mathlib.Core.Path.{fun_ext}
use Rattle.std.specs.Str.{bytes_eq}
use Rattle.std.specs.String.{string_bytes, string_cmp}
use Rattle.std.specs.Cmp.Lexicographic.{slice_cmp}
use Rattle.std.specs.BTreeMap.{BTreeMap, UpdatesBy, get_by_text}
use Rattle.std.proofs.lemmas.Map.Text.{btree_map_updates_text}
use Rattle.elm_files.specs.Tree.{put}

choose : {X : Type 0} (f : X → List ℕ) (b : Bool) (x y : Option X) → option_map f (if b then x else y) ≡ (if b then option_map f x else option_map f y)
choose f true x y = refl
choose f false x y = refl

-- a change of the map at one path is the same change of its tree
pub held_put : {Y X : Type 0} (f : X → List ℕ) (path : List ℕ) (old new : BTreeMap (String Y) X) (w : Option X)
    → UpdatesBy string_cmp (λ k. slice_cmp nat_cmp path (string_bytes k)) old new w
    → (λ q. option_map f (get_by_text new q)) ≡ put (λ q. option_map f (get_by_text old q)) path (option_map f w)
held_put f path old new w updates = fun_ext (λ q.
    ap (option_map f) (btree_map_updates_text path old new w updates q)
    ∙ choose f (bytes_eq path q) w (get_by_text old q))
