-- What is read of a tree is what is read of its form.
use Rattle.std.proofs.Common.{◌≡◌, sym, ap, ◌∙◌}
use Rattle.elm_canon.specs.Tree as plain
use Rattle.elm_canon.specs.View.{LinkView, expr_view, link_view}
use Rattle.elm_canon.specs.declared.tree.Expr.{Expr}
use Rattle.elm_canon.specs.declared.tree.Link.{Link}

pub seen : {X : Type 0} {e r : Expr} {v : plain.Expr} (f : plain.Expr → X) → e ≡ r → expr_view r ≡ v →
    f v ≡ f (expr_view e)
seen f is law = sym (ap f (ap expr_view is ∙ law))

pub link_seen : {X : Type 0} {l r : Link} {v : LinkView} (f : LinkView → X) → l ≡ r → link_view r ≡ v →
    f v ≡ f (link_view l)
link_seen f is law = sym (ap f (ap link_view is ∙ law))
