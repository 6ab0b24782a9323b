-- What is asked of a tree, of what is done with an expression one after the other.
use Rattle.std.specs.Prelude.{suc, List, length}
use Rattle.std.specs.List.{AllByRecursion}
use Rattle.elm_canon.specs.Tree.{exprs_of}
use Rattle.elm_canon.specs.View.{LinkView, Given, Composed, After, Before, Decided}
use Rattle.infer_parts.specs.Formed.{FormedOp, Formed, AllFormed}

abbrev pub FormedLink : LinkView → Type 0
FormedLink (Given f es) = Formed f × AllFormed (exprs_of es)
FormedLink (Composed f a) = Formed f × Formed a
FormedLink (After op es) = FormedOp op (suc (length es)) × AllFormed (exprs_of es)
FormedLink (Before op a) = FormedOp op 2 × Formed a
FormedLink (Decided pos c a) = Formed a

abbrev pub FormedLinks : List LinkView → Type 0
FormedLinks ls = AllByRecursion FormedLink ls
