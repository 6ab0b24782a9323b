-- Functions that stand alone in their groups, by how many there are: `one_alone`, `not_alone`. The declarations beside
-- those that no text can say: `keeps_others`. What one declaration is: `one_found`.
use Rattle.std.proofs.Common.{◌≡◌, List, [], ◌∷◌, Option, Some, None, map, length, get_or, refl, sym, ap, ◌∙◌, arith}
use Rattle.std.proofs.Common.{cond, not, is_some}
use Rattle.std.specs.Prelude.{option_to_list}
use Rattle.std.specs.List.{filter, filter_map, cons_option}
use Rattle.elm_canon.specs.Tree as plain
use Rattle.elm_canon.specs.Tree.{functions_of}
use Rattle.elm_canon.specs.View.{declaration_view, function_view}
use Rattle.elm_canon.specs.declared.reference.Ref.{Ref}
use Rattle.elm_canon.specs.declared.tree.Declaration.{Declaration}
use Rattle.elm_canon.specs.declared.tree.Function.{Function}
use Rattle.elm_canon.proofs.Views.{function}
use Rattle.elm_meaning.specs.Functions.{Primitive}
use Rattle.link.specs.Cores.{alone, core_of, kept_by, others}

pub one_alone : (fs : List Function) (f : Function) → length fs ≡ 1 → f ≡ get_or fs 0 f →
    alone (functions_of (map function_view fs)) ≡ Some f.title.name
one_alone [] f l e = absurd (omega (arith, l))
one_alone (g ∷ []) f l e = ap (λ v. Some v.0.name) (function g) ∙ ap (λ (h : Function). Some h.title.name) (sym e)
one_alone (g ∷ h ∷ fs) f l e = absurd (omega (arith, l))

pub not_alone : (fs : List Function) → (length fs ≡ 1 → ⊥) → alone (functions_of (map function_view fs)) ≡ None
not_alone [] n = refl
not_alone (g ∷ []) n = absurd (n refl)
not_alone (g ∷ h ∷ fs) n = refl

kept_or_not : (p : Option (Ref × Primitive)) (d : Declaration) (ds : List Declaration) (rest : List plain.Declaration) →
    map declaration_view ds ≡ rest →
    map declaration_view (cond (not (is_some p)) (d ∷ ds) ds) ≡ kept_by p (declaration_view d) rest
kept_or_not None d ds rest e = ap (λ z. declaration_view d ∷ z) e
kept_or_not (Some p) d ds rest e = e

pub keeps_others : (ds : List Declaration) →
    map declaration_view (filter (λ d. not (is_some (core_of (declaration_view d)))) ds)
    ≡ others (map declaration_view ds)
keeps_others [] = refl
keeps_others (d ∷ ds) =
    kept_or_not (core_of (declaration_view d)) d (filter (λ e. not (is_some (core_of (declaration_view e)))) ds)
    (others (map declaration_view ds)) (keeps_others ds)

found_or_not : (p : Option (Ref × Primitive)) → option_to_list p ≡ cons_option p []
found_or_not None = refl
found_or_not (Some p) = refl

pub one_found : (d : plain.Declaration) → option_to_list (core_of d) ≡ filter_map core_of (d ∷ [])
one_found d = found_or_not (core_of d)
