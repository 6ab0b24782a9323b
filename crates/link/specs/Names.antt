-- Names of modules: the module, and the name in it.
use Rattle.std.specs.Prelude.{List, [], ◌∷◌, ◌++◌, Bool, ◌&&◌, if◌then◌else◌}
use Rattle.std.specs.List.{list_any}
use Rattle.elm_canon.specs.Names.{Name, same_name}
use Rattle.elm_canon.specs.declared.reference.Ref.{Ref}
use Rattle.elm_canon.specs.declared.reference.Ref.TheVariants.{Local, Top}

abbrev pub TopName : Type 0
TopName = Name × Name

abbrev pub same_top : TopName → TopName → Bool
same_top a b = same_name a.0 b.0 && same_name a.1 b.1

abbrev pub is_among : TopName → List TopName → Bool
is_among x ys = list_any (λ y. same_top x y) ys

-- those of modules
abbrev pub top_names : List Ref → List TopName
top_names [] = []
top_names (Local x ∷ rs) = top_names rs
top_names (Top m x ∷ rs) = (m, x) ∷ top_names rs

-- after some that were noted, each once
abbrev pub noted : List TopName → List TopName → List TopName
noted before [] = before
noted before (x ∷ xs) = noted (if is_among x before then before else before ++ x ∷ []) xs

-- each once, by its first place
abbrev pub each_once : List TopName → List TopName
each_once xs = noted [] xs
