-- What is done with an expression, and with the last of some parts.
use Rattle.std.proofs.Common.{◌≡◌, ◌<◌, List, [], ◌∷◌, ◌++◌, map, length, refl, arith}
use Rattle.elm_canon.specs.Tree.{Expr, Apply, exprs_of}
use Rattle.elm_canon.specs.View.{linked, done, link_view, expr_view}
use Rattle.elm_canon.specs.declared.tree.Expr as program
use Rattle.elm_canon.specs.declared.tree.Link.{Link}
use Rattle.canon_expr.specs.Callees as spec

pub many_more : (e : Expr) (ls more : List Link) →
    linked e (map link_view (ls ++ more)) ≡ linked (linked e (map link_view ls)) (map link_view more)
many_more e [] more = refl
many_more e (k ∷ ls) more = many_more (done (link_view k) e) ls more

-- a function with an argument is a call
pub given_more : (f : Expr) (es : List Expr) (e : Expr) → Apply f (exprs_of (es ++ e ∷ [])) ≡ spec.given f (es ++ e ∷ [])
given_more f [] e = refl
given_more f (d ∷ es) e = refl

pub given_some : (f : Expr) (es : List program.Expr) → 0 < length es →
    Apply f (exprs_of (map expr_view es)) ≡ spec.given f (map expr_view es)
given_some f [] h = absurd (omega (arith, h))
given_some f (e ∷ es) h = refl
