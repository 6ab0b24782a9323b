-- What a box holds, if there is one, as a list.
use Rattle.std.specs.Prelude.{List, [], ◌∷◌, Option, Some, None, Box}
use Rattle.std.specs.Global.{Global}
use Rattle.elm_canon.specs.declared.tree.Expr.{Expr}

abbrev pub in_box : Option (Box Expr Global) → List Expr
in_box None = []
in_box (Some b) = b.value ∷ []
