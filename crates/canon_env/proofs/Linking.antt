-- The names of an expression with which things are done: those before it, its own, and those after it.
use Rattle.std.proofs.Common.{◌≡◌, ℕ, ◌+◌, ◌-◌, ◌<◌, ◌≤◌, List, [], ◌∷◌, ◌++◌, length, get_or, drop, map, flat_map}
use Rattle.std.proofs.Common.{refl, sym, ap, ◌∙◌, append_assoc, append-nil, arith}
use Rattle.std.proofs.lemmas.List.{at_drop_more}
use Rattle.elm_canon.specs.declared.reference.Ref.{Ref}
use Rattle.elm_canon.specs.declared.tree.Link.{Link}
use Rattle.elm_canon.specs.Tree.{Expr, exprs_of}
use Rattle.elm_canon.specs.View.{LinkView, done, linked, link_view}
use Rattle.elm_canon.specs.View as link
use Rattle.canon_env.specs.Uses.{expr_uses, exprs_uses}
use Rattle.canon_env.specs.Links.{before, before_all, after}
use Rattle.canon_env.proofs.CanonUsesAdding.{exprs_next}

pub done_uses : (l : LinkView) (e : Expr) → expr_uses (done l e) ≡ before l ++ expr_uses e ++ after l
done_uses (link.Given f es) e =
    ap (λ us. expr_uses f ++ us) (sym (exprs_next es e))
    ∙ sym (append_assoc (expr_uses f) (exprs_uses (exprs_of es)) (expr_uses e))
    ∙ sym (append-nil (expr_uses f ++ exprs_uses (exprs_of es) ++ expr_uses e))
done_uses (link.Composed f a) e =
    ap (λ us. expr_uses f ++ (expr_uses e ++ us)) (append-nil (expr_uses a))
    ∙ sym (append_assoc (expr_uses f) (expr_uses e) (expr_uses a))
done_uses (link.After o es) e =
    sym (exprs_next es e) ∙ sym (append-nil (exprs_uses (exprs_of es) ++ expr_uses e))
done_uses (link.Before o a) e = ap (λ us. expr_uses e ++ us) (append-nil (expr_uses a))
done_uses (link.Decided place c a) e = sym (append-nil (expr_uses a ++ expr_uses e))

pub linked_uses : (e : Expr) (ls : List LinkView) →
    expr_uses (linked e ls) ≡ before_all ls ++ expr_uses e ++ flat_map after ls
linked_uses e [] = sym (append-nil (expr_uses e))
linked_uses e (l ∷ ls) =
    let own = expr_uses e in
    let first = before_all ls in
    let last = flat_map after ls in
    linked_uses (done l e) ls
    ∙ ap (λ us. first ++ us ++ last) (done_uses l e)
    ∙ ap (λ us. us ++ last) (sym (append_assoc first (before l ++ own) (after l)))
    ∙ ap (λ us. us ++ after l ++ last) (sym (append_assoc first (before l) own))
    ∙ append_assoc (first ++ before l ++ own) (after l) last

-- an item, and what follows it
pub drop_at : {X : Type 0} (xs : List X) (i : ℕ) (x : X) → i < length xs → x ≡ get_or xs i x →
    drop i xs ≡ x ∷ drop (i + 1) xs
drop_at xs i x h is =
    at_drop_more (λ zs. zs) xs i x h ∙ ap (λ z. z ∷ drop (i + 1) xs) (sym is)

-- one thing more, from the last to the first
pub one_before : (ls : List Link) (n : ℕ) (l : Link) → 0 < n → n ≤ length ls → l ≡ get_or ls (n - 1) l →
    before_all (map link_view (drop n ls)) ++ before (link_view l)
    ≡ before_all (map link_view (drop (n - 1) ls))
one_before ls n l some le is =
    let one : n - 1 + 1 ≡ n = omega (arith, some) in
    ap (λ k. before_all (map link_view (drop k ls)) ++ before (link_view l)) (sym one)
    ∙ sym (ap (λ ks. before_all (map link_view ks)) (drop_at ls (n - 1) l (omega (arith, some, le)) is))
