-- Annotations that stand inside no others.
use Rattle.std.proofs.Common.{◌≡◌, List, [], ◌∷◌, map, refl, sym, ap, ◌∙◌, subst}
use Rattle.std.specs.Prelude.{filter, is_none}
use Rattle.std.specs.Map.{lookup}
use Rattle.std.specs.Str.{bytes_eq}
use Rattle.elm_type.specs.Types.{Name, variable, Free}
use Rattle.type_items.specs.Scopes.{Constants}
use Rattle.type_items.specs.Annotations.{variables_of, kind_of, number_of, annotation_type, own_variables}
use Rattle.type_items.specs.Annotations.{annotation_scheme}
use Rattle.infer_steps.specs.Means.{IsDeclared}
use Rattle.infer_types.proofs.Instancing.{scheme_declared}
use Rattle.infer_types.specs.Top.{kept, KeptIsScheme, KeptIsWritten, KeptIsDeclared}
use Rattle.infer_types.proofs.Constants.{below, formed}

abbrev no_constants : Constants
no_constants = []

all_own : (xs : List Name) → filter (λ (a : Name). is_none (lookup (bytes_eq a) no_constants)) xs ≡ xs
all_own [] = refl
all_own (x ∷ xs) = ap (λ ys. x ∷ ys) (all_own xs)

pub kept_is_scheme : KeptIsScheme
kept_is_scheme t xs ks u is =
    let own : own_variables [] t ≡ variables_of t = all_own (variables_of t) in
    let type : u ≡ (annotation_scheme t).type = is.type ∙ ap
    (λ ys. annotation_type (λ a. variable (Free (number_of a ys))) t) (sym own) in
    let kinds : ks ≡ (annotation_scheme t).kinds = is.kinds ∙ ap (map (kind_of t)) (sym own) in
    ap (λ ls. kept ls u) kinds ∙ ap (kept (annotation_scheme t).kinds) type

pub kept_is_written : KeptIsWritten
kept_is_written t xs ks u is = record { below = below t xs ks u is; formed = formed t xs ks u is }

pub kept_is_declared : KeptIsDeclared
kept_is_declared links t xs ks u is =
    subst (IsDeclared links (record { scheme = kept ks u; outer = [] })) (kept_is_scheme t xs ks u is)
    (scheme_declared links (kept ks u))
