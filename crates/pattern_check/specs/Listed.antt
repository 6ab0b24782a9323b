-- The parts of patterns of the program.
use Rattle.std.specs.Prelude.{List, [], ◌∷◌, ◌++◌, Some}
use Rattle.elm_canon.specs.Unions.{ListUnion, cons_alternative}
use Rattle.elm_canon.specs.View.{pattern_view}
use Rattle.elm_canon.specs.declared.tree.Pattern.{Pattern}
use Rattle.pattern_check.specs.Shapes.{Constructor, shape_of}
use Rattle.pattern_check.specs.Flat.{Part, flat_one}

abbrev pub pattern_parts : Pattern → List Part
pattern_parts p = flat_one (shape_of (pattern_view p))

-- of patterns side by side
abbrev pub all_parts : List Pattern → List Part
all_parts [] = []
all_parts (p ∷ ps) = pattern_parts p ++ all_parts ps

-- of items before a rest
abbrev pub item_parts : List Pattern → List Part
item_parts [] = []
item_parts (p ∷ ps) = Some (Constructor ListUnion cons_alternative) ∷ pattern_parts p ++ item_parts ps
