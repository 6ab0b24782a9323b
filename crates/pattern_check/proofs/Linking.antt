-- The faults in an expression with which things are done: those before it, its own, and those after it.
use Rattle.std.proofs.Common.{◌≡◌, List, [], ◌∷◌, ◌++◌, map, flat_map, reverse, refl, sym, ap, ◌∙◌, append_assoc, append-nil}
use Rattle.std.proofs.lemmas.Grind.{flat_map-append, reverse_onto}
use Rattle.elm_base.specs.declared.position.Pos.{Pos}
use Rattle.elm_canon.specs.declared.tree.Link.{Link}
use Rattle.elm_canon.specs.Tree.{Expr, exprs_of}
use Rattle.elm_canon.specs.View.{LinkView, done, linked, link_view}
use Rattle.elm_canon.specs.View as link
use Rattle.pattern_check.specs.Sites.{expr_sites, exprs_sites}
use Rattle.pattern_check.specs.Faults.{faults}
use Rattle.pattern_check.specs.Links.{before, before_all, after}
use Rattle.pattern_check.proofs.Adding.{exprs_next, two}

pub done_faults : (here : Pos) (l : LinkView) (e : Expr) →
    faults (expr_sites here (done l e)) ≡ before here l ++ faults (expr_sites here e) ++ after here l
done_faults here (link.Given f es) e =
    let own = faults (expr_sites here e) in
    two (expr_sites here f) (exprs_sites here (exprs_of (es ++ e ∷ [])))
    ∙ ap (λ us. faults (expr_sites here f) ++ us) (sym (exprs_next here es e))
    ∙ sym (append_assoc (faults (expr_sites here f)) (faults (exprs_sites here (exprs_of es))) own)
    ∙ sym (append-nil (faults (expr_sites here f) ++ faults (exprs_sites here (exprs_of es)) ++ own))
done_faults here (link.Composed f a) e =
    two (expr_sites here f) (expr_sites here e ++ (expr_sites here a ++ []))
    ∙ ap (λ us. faults (expr_sites here f) ++ us) (two (expr_sites here e) (expr_sites here a ++ [])
    ∙ ap (λ us. faults (expr_sites here e) ++ faults us) (append-nil (expr_sites here a)))
    ∙ sym (append_assoc (faults (expr_sites here f)) (faults (expr_sites here e)) (faults (expr_sites here a)))
done_faults here (link.After o es) e =
    sym (exprs_next here es e) ∙ sym (append-nil (faults (exprs_sites here (exprs_of es)) ++ faults (expr_sites here e)))
done_faults here (link.Before o a) e =
    two (expr_sites here e) (expr_sites here a ++ []) ∙ ap (λ us. faults (expr_sites here e) ++ faults us) (append-nil (expr_sites here a))
done_faults here (link.Decided place c a) e =
    two (expr_sites here a) (expr_sites here e) ∙ sym (append-nil (faults (expr_sites here a) ++ faults (expr_sites here e)))

pub linked_faults : (here : Pos) (e : Expr) (ls : List LinkView) →
    faults (expr_sites here (linked e ls)) ≡ before_all here ls ++ faults (expr_sites here e) ++ flat_map (after here) ls
linked_faults here e [] = sym (append-nil (faults (expr_sites here e)))
linked_faults here e (l ∷ ls) =
    let own = faults (expr_sites here e) in
    let first = before_all here ls in
    let last = flat_map (after here) ls in
    linked_faults here (done l e) ls
    ∙ ap (λ us. first ++ us ++ last) (done_faults here l e)
    ∙ ap (λ us. us ++ last) (sym (append_assoc first (before here l ++ own) (after here l)))
    ∙ ap (λ us. us ++ after here l ++ last) (sym (append_assoc first (before here l) own))
    ∙ append_assoc (first ++ before here l ++ own) (after here l) last

-- from the last to the first
pub turned : (here : Pos) (ls : List Link) →
    flat_map (λ l. before here (link_view l)) (reverse ls) ≡ before_all here (map link_view ls)
turned here [] = refl
turned here (l ∷ ls) =
    ap (flat_map (λ k. before here (link_view k))) (reverse_onto ls l [])
    ∙ flat_map-append (λ k. before here (link_view k)) (reverse ls) (l ∷ [])
    ∙ ap (λ us. us ++ (before here (link_view l) ++ [])) (turned here ls)
    ∙ ap (λ us. before_all here (map link_view ls) ++ us) (append-nil (before here (link_view l)))
