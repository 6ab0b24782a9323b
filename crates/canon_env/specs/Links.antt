-- The names that stand before and after an expression with which something is done.
use Rattle.std.specs.Prelude.{List, [], ◌∷◌, ◌++◌}
use Rattle.elm_canon.specs.declared.reference.Ref.{Ref}
use Rattle.elm_canon.specs.Tree.{exprs_of}
use Rattle.elm_canon.specs.View as link
use Rattle.elm_canon.specs.View.{LinkView}
use Rattle.canon_env.specs.Uses.{expr_uses, exprs_uses}

abbrev pub before : LinkView → List Ref
before (link.Given f es) = expr_uses f ++ exprs_uses (exprs_of es)
before (link.Composed f a) = expr_uses f
before (link.After o es) = exprs_uses (exprs_of es)
before (link.Before o a) = []
before (link.Decided place c a) = expr_uses a

abbrev pub after : LinkView → List Ref
after (link.Given f es) = []
after (link.Composed f a) = expr_uses a
after (link.After o es) = []
after (link.Before o a) = expr_uses a
after (link.Decided place c a) = []

-- the last is around all others
abbrev pub before_all : List LinkView → List Ref
before_all [] = []
before_all (l ∷ ls) = before_all ls ++ before l
