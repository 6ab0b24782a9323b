-- The titles of functions: `titles`.
use Rattle.std.proofs.Common.{◌≡◌, List, [], ◌∷◌, map, refl, sym, ap, ◌∙◌}
use Rattle.elm_canon.specs.Tree.{functions_of}
use Rattle.elm_canon.specs.View.{function_view, title_view}
use Rattle.elm_canon.specs.declared.tree.Function.{Function}
use Rattle.elm_canon.proofs.Views.{function}
use Rattle.core_modules.specs.Facts.{function_titles}

pub titles : (fs : List Function) → map (λ (f : Function). title_view f.title) fs
    ≡ function_titles (functions_of (map function_view fs))
titles [] = refl
titles (f ∷ fs) =
    ap (λ ts. title_view f.title ∷ ts) (titles fs)
    ∙ sym (ap (λ v. function_titles (functions_of (v ∷ map function_view fs))) (function f))
