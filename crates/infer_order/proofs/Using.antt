-- One expression, branch, group or function more.
use Rattle.std.proofs.Common.{◌≡◌, List, [], ◌∷◌, ◌++◌, map, flat_map, reverse, refl, sym, ap, ◌∙◌, append_assoc}
use Rattle.std.proofs.Common.{append-nil}
use Rattle.std.proofs.lemmas.Grind.{flat_map-append, reverse_onto}
use Rattle.elm_canon.specs.Names.{Name}
use Rattle.elm_canon.specs.declared.reference.Ref.{Ref}
use Rattle.elm_canon.specs.declared.tree.Link.{Link}
use Rattle.elm_canon.specs.Tree.{Expr, Group, exprs_of, branches_of, groups_of, functions_of, Strict, Access, MoreExpr}
use Rattle.elm_canon.specs.Tree.{NoExpr}
use Rattle.elm_canon.specs.View.{accessed, BranchView, FunctionView, LinkView, done, linked, link_view}
use Rattle.elm_canon.specs.View as link
use Rattle.type_items.specs.Uses.{used, used_each, used_branches, used_groups, used_group, used_functions}
use Rattle.infer_order.specs.Owners.{numbers_of, all_numbers}
use Rattle.infer_order.specs.Links.{before, before_all, after}
use Rattle.infer_order.specs.declared.owners.Owners.{Owners}

pub two : (o : Owners) (a b : List Ref) → all_numbers o (a ++ b) ≡ all_numbers o a ++ all_numbers o b
two o a b = flat_map-append (numbers_of o) a b

pub three : (o : Owners) (a b c : List Ref)
    → all_numbers o (a ++ b ++ c) ≡ all_numbers o a ++ all_numbers o b ++ all_numbers o c
three o a b c = two o (a ++ b) c ∙ ap (λ l. l ++ all_numbers o c) (two o a b)

pub one : (o : Owners) (x : Ref) → all_numbers o (x ∷ []) ≡ numbers_of o x
one o x = append-nil (numbers_of o x)

pub access_used : (e : Expr) (xs : List Name) → used (accessed e xs) ≡ used e
access_used e [] = refl
access_used e (x ∷ xs) = access_used (Strict (Access x) (MoreExpr e NoExpr)) xs ∙ append-nil (used e)

-- ---- one more at the end

exprs_more : (es : List Expr) (e : Expr) → used_each (exprs_of (es ++ e ∷ [])) ≡ used_each (exprs_of es) ++ used e
exprs_more [] e = append-nil (used e)
exprs_more (d ∷ es) e =
    ap (λ l. used d ++ l) (exprs_more es e) ∙ sym (append_assoc (used d) (used_each (exprs_of es)) (used e))

pub exprs_next : (o : Owners) (es : List Expr) (e : Expr)
    → all_numbers o (used_each (exprs_of es)) ++ all_numbers o (used e) ≡ all_numbers o
    (used_each (exprs_of (es ++ e ∷ [])))
exprs_next o es e = sym (ap (all_numbers o) (exprs_more es e) ∙ two o (used_each (exprs_of es)) (used e))

branches_more : (bs : List BranchView) (b : BranchView)
    → used_branches (branches_of (bs ++ b ∷ [])) ≡ used_branches (branches_of bs) ++ used b.1
branches_more [] b = append-nil (used b.1)
branches_more (a ∷ bs) b =
    ap (λ l. used a.1 ++ l) (branches_more bs b) ∙ sym
    (append_assoc (used a.1) (used_branches (branches_of bs)) (used b.1))

pub branches_next : (o : Owners) (bs : List BranchView) (b : BranchView)
    → all_numbers o (used_branches (branches_of bs)) ++ all_numbers o (used b.1) ≡ all_numbers o
    (used_branches (branches_of (bs ++ b ∷ [])))
branches_next o bs b = sym (ap (all_numbers o) (branches_more bs b) ∙ two o (used_branches (branches_of bs)) (used b.1))

groups_more : (gs : List Group) (g : Group)
    → used_groups (groups_of (gs ++ g ∷ [])) ≡ used_groups (groups_of gs) ++ used_group g
groups_more [] g = append-nil (used_group g)
groups_more (a ∷ gs) g =
    ap (λ l. used_group a ++ l) (groups_more gs g) ∙ sym
    (append_assoc (used_group a) (used_groups (groups_of gs)) (used_group g))

pub groups_next : (o : Owners) (gs : List Group) (g : Group)
    → all_numbers o (used_groups (groups_of gs)) ++ all_numbers o (used_group g) ≡ all_numbers o
    (used_groups (groups_of (gs ++ g ∷ [])))
groups_next o gs g = sym (ap (all_numbers o) (groups_more gs g) ∙ two o (used_groups (groups_of gs)) (used_group g))

functions_more : (fs : List FunctionView) (f : FunctionView)
    → used_functions (functions_of (fs ++ f ∷ [])) ≡ used_functions (functions_of fs) ++ used f.2
functions_more [] f = append-nil (used f.2)
functions_more (a ∷ fs) f =
    ap (λ l. used a.2 ++ l) (functions_more fs f) ∙ sym
    (append_assoc (used a.2) (used_functions (functions_of fs)) (used f.2))

pub functions_next : (o : Owners) (fs : List FunctionView) (f : FunctionView)
    → all_numbers o (used_functions (functions_of fs)) ++ all_numbers o (used f.2) ≡ all_numbers o
    (used_functions (functions_of (fs ++ f ∷ [])))
functions_next o fs f =
    sym (ap (all_numbers o) (functions_more fs f) ∙ two o (used_functions (functions_of fs)) (used f.2))

pub links_next : (o : Owners) (ls : List LinkView) (l : LinkView)
    → all_numbers o (flat_map after ls) ++ all_numbers o (after l) ≡ all_numbers o (flat_map after (ls ++ l ∷ []))
links_next o ls l =
    sym (ap (all_numbers o) (flat_map-append after ls (l ∷ []) ∙ ap (λ x. flat_map after ls ++ x)
    (append-nil (after l)))
    ∙ two o (flat_map after ls) (after l))

-- ---- an expression with which things are done

done_used : (l : LinkView) (e : Expr) → used (done l e) ≡ before l ++ used e ++ after l
done_used (link.Given f es) e =
    ap (λ us. used f ++ us) (exprs_more es e) ∙ sym (append_assoc (used f) (used_each (exprs_of es)) (used e))
    ∙ sym (append-nil (used f ++ used_each (exprs_of es) ++ used e))
done_used (link.Composed f a) e =
    ap (λ us. used f ++ (used e ++ us)) (append-nil (used a)) ∙ sym (append_assoc (used f) (used e) (used a))
done_used (link.After o es) e = exprs_more es e ∙ sym (append-nil (used_each (exprs_of es) ++ used e))
done_used (link.Before o a) e = ap (λ us. used e ++ us) (append-nil (used a))
done_used (link.Decided place c a) e = sym (append-nil (used a ++ used e))

pub linked_used : (e : Expr) (ls : List LinkView) → used (linked e ls) ≡ before_all ls ++ used e ++ flat_map after ls
linked_used e [] = sym (append-nil (used e))
linked_used e (l ∷ ls) =
    let own = used e in
    let first = before_all ls in
    let last = flat_map after ls in
    linked_used (done l e) ls
    ∙ ap (λ us. first ++ us ++ last) (done_used l e)
    ∙ ap (λ us. us ++ last) (sym (append_assoc first (before l ++ own) (after l)))
    ∙ ap (λ us. us ++ after l ++ last) (sym (append_assoc first (before l) own))
    ∙ append_assoc (first ++ before l ++ own) (after l) last

-- from the last to the first
pub turned : (o : Owners) (ls : List Link) → flat_map (λ l. all_numbers o (before (link_view l)))
    (reverse ls) ≡ all_numbers o (before_all (map link_view ls))
turned o [] = refl
turned o (l ∷ ls) =
    ap (flat_map (λ k. all_numbers o (before (link_view k)))) (reverse_onto ls l [])
    ∙ flat_map-append (λ k. all_numbers o (before (link_view k))) (reverse ls) (l ∷ [])
    ∙ ap (λ us. us ++ (all_numbers o (before (link_view l)) ++ [])) (turned o ls)
    ∙ ap (λ us. all_numbers o (before_all (map link_view ls)) ++ us) (append-nil (all_numbers o (before (link_view l))))
    ∙ sym (two o (before_all (map link_view ls)) (before (link_view l)))

-- a list that was added to, and more
pub also : {X : Type 0} (old new us vs ws : List X) → new ≡ old ++ us → us ++ vs ≡ ws → new ++ vs ≡ old ++ ws
also old new us vs ws e h = ap (λ l. l ++ vs) e ∙ append_assoc old us vs ∙ ap (λ l. old ++ l) h
