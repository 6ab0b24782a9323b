-- Rows with what is left of a column in its place.
use Rattle.std.specs.Prelude.{ℕ, suc, List, ◌++◌, take, drop}
use Rattle.elm_canon.specs.Tree.{Pattern}

abbrev pub placed : ℕ → List Pattern → List Pattern → List Pattern
placed column ps qs = take column ps ++ (qs ++ drop (suc column) ps)
