-- One expression, branch, group or function more, and the fields of a value.
use Rattle.std.proofs.Common.{◌≡◌, List, [], ◌∷◌, ◌++◌, map, refl, sym, ap, ◌∙◌, append_assoc, append-nil}
use Rattle.std.proofs.lemmas.Grind.{flat_map-append}
use Rattle.std.proofs.lemmas.List.{map-append}
use Rattle.elm_base.specs.declared.position.Pos.{Pos}
use Rattle.elm_canon.specs.Names.{Name}
use Rattle.elm_canon.specs.Tree.{Expr, Group, Declaration, Pattern, exprs_of, branches_of, groups_of}
use Rattle.elm_canon.specs.Tree.{functions_of, patterns_of, Strict, Access, MoreExpr, NoExpr, Given, Define}
use Rattle.elm_canon.specs.View.{accessed, BranchView, FunctionView, pattern_view}
use Rattle.elm_canon.specs.declared.tree.Pattern as tree
use Rattle.canon_env.specs.declared.finding.Finding.{Finding}
use Rattle.pattern_check.specs.Sites.{Site, Sole, branch_patterns, sole_sites, expr_sites, exprs_sites, branches_sites, groups_sites}
use Rattle.pattern_check.specs.Sites.{group_sites, functions_sites, declarations_sites, start}
use Rattle.pattern_check.specs.Faults.{faults, faults_at}

-- those of two lists
pub two : (a b : List Site) → faults (a ++ b) ≡ faults a ++ faults b
two a b = flat_map-append faults_at a b

pub three : (a b c : List Site) → faults (a ++ b ++ c) ≡ faults a ++ faults b ++ faults c
three a b c = two (a ++ b) c ∙ ap (λ l. l ++ faults c) (two a b)

pub access_sites : (here : Pos) (e : Expr) (xs : List Name) → expr_sites here (accessed e xs) ≡ expr_sites here e
access_sites here e [] = refl
access_sites here e (x ∷ xs) =
    access_sites here (Strict (Access x) (MoreExpr e NoExpr)) xs ∙ append-nil (expr_sites here e)

-- ---- one more at the end

exprs_more : (here : Pos) (es : List Expr) (e : Expr) →
    exprs_sites here (exprs_of (es ++ e ∷ [])) ≡ exprs_sites here (exprs_of es) ++ expr_sites here e
exprs_more here [] e = append-nil (expr_sites here e)
exprs_more here (d ∷ es) e =
    ap (λ l. expr_sites here d ++ l) (exprs_more here es e)
    ∙ sym (append_assoc (expr_sites here d) (exprs_sites here (exprs_of es)) (expr_sites here e))

pub exprs_next : (here : Pos) (es : List Expr) (e : Expr) →
    faults (exprs_sites here (exprs_of es)) ++ faults (expr_sites here e) ≡ faults (exprs_sites here (exprs_of (es ++ e ∷ [])))
exprs_next here es e = sym (ap faults (exprs_more here es e) ∙ two (exprs_sites here (exprs_of es)) (expr_sites here e))

branches_more : (here : Pos) (bs : List BranchView) (b : BranchView) →
    branches_sites here (branches_of (bs ++ b ∷ [])) ≡ branches_sites here (branches_of bs) ++ expr_sites here b.1
branches_more here [] b = append-nil (expr_sites here b.1)
branches_more here (a ∷ bs) b =
    ap (λ l. expr_sites here a.1 ++ l) (branches_more here bs b)
    ∙ sym (append_assoc (expr_sites here a.1) (branches_sites here (branches_of bs)) (expr_sites here b.1))

pub branches_next : (here : Pos) (bs : List BranchView) (b : BranchView) →
    faults (branches_sites here (branches_of bs)) ++ faults (expr_sites here b.1) ≡ faults (branches_sites here (branches_of (bs ++ b ∷ [])))
branches_next here bs b =
    sym (ap faults (branches_more here bs b) ∙ two (branches_sites here (branches_of bs)) (expr_sites here b.1))

groups_more : (here : Pos) (gs : List Group) (g : Group) →
    groups_sites here (groups_of (gs ++ g ∷ [])) ≡ groups_sites here (groups_of gs) ++ group_sites here g
groups_more here [] g = append-nil (group_sites here g)
groups_more here (a ∷ gs) g =
    ap (λ l. group_sites here a ++ l) (groups_more here gs g)
    ∙ sym (append_assoc (group_sites here a) (groups_sites here (groups_of gs)) (group_sites here g))

pub groups_next : (here : Pos) (gs : List Group) (g : Group) →
    faults (groups_sites here (groups_of gs)) ++ faults (group_sites here g) ≡ faults (groups_sites here (groups_of (gs ++ g ∷ [])))
groups_next here gs g =
    sym (ap faults (groups_more here gs g) ∙ two (groups_sites here (groups_of gs)) (group_sites here g))

functions_more : (fs : List FunctionView) (f : FunctionView) →
    functions_sites (functions_of (fs ++ f ∷ [])) ≡ functions_sites (functions_of fs) ++ (sole_sites f.0.place f.1 ++ expr_sites f.0.place f.2)
functions_more [] f = append-nil (sole_sites f.0.place f.1 ++ expr_sites f.0.place f.2)
functions_more (a ∷ fs) f =
    ap (λ l. (sole_sites a.0.place a.1 ++ expr_sites a.0.place a.2) ++ l) (functions_more fs f)
    ∙ sym (append_assoc (sole_sites a.0.place a.1 ++ expr_sites a.0.place a.2) (functions_sites (functions_of fs)) (sole_sites f.0.place f.1 ++ expr_sites f.0.place f.2))

pub functions_next : (fs : List FunctionView) (f : FunctionView) →
    faults (functions_sites (functions_of fs)) ++ faults (sole_sites f.0.place f.1) ++ faults (expr_sites f.0.place f.2)
    ≡ faults (functions_sites (functions_of (fs ++ f ∷ [])))
functions_next fs f =
    let s = sole_sites f.0.place f.1 in
    let e = expr_sites f.0.place f.2 in
    append_assoc (faults (functions_sites (functions_of fs))) (faults s) (faults e)
    ∙ ap (λ l. faults (functions_sites (functions_of fs)) ++ l) (sym (two s e))
    ∙ sym (ap faults (functions_more fs f) ∙ two (functions_sites (functions_of fs)) (s ++ e))

soles_more : (here : Pos) (qs : List Pattern) (q : Pattern) →
    sole_sites here (patterns_of (qs ++ q ∷ [])) ≡ sole_sites here (patterns_of qs) ++ Sole here q ∷ []
soles_more here [] q = refl
soles_more here (p ∷ qs) q = ap (λ l. Sole here p ∷ l) (soles_more here qs q)

pub soles_next : (here : Pos) (qs : List Pattern) (q : Pattern) →
    faults (sole_sites here (patterns_of qs)) ++ faults_at (Sole here q) ≡ faults (sole_sites here (patterns_of (qs ++ q ∷ [])))
soles_next here qs q =
    sym (ap faults (soles_more here qs q) ∙ two (sole_sites here (patterns_of qs)) (Sole here q ∷ [])
    ∙ ap (λ l. faults (sole_sites here (patterns_of qs)) ++ l) (append-nil (faults_at (Sole here q))))

given_more : (ds : List Declaration) (d : Declaration) →
    declarations_sites (ds ++ d ∷ []) ≡ declarations_sites ds ++ declarations_sites (d ∷ [])
given_more [] d = refl
given_more (Given x k ∷ ds) d = given_more ds d
given_more (Define g ∷ ds) d =
    ap (λ l. group_sites start g ++ l) (given_more ds d)
    ∙ sym (append_assoc (group_sites start g) (declarations_sites ds) (declarations_sites (d ∷ [])))

pub declarations_next : (ds : List Declaration) (d : Declaration) →
    faults (declarations_sites ds) ++ faults (declarations_sites (d ∷ [])) ≡ faults (declarations_sites (ds ++ d ∷ []))
declarations_next ds d = sym (ap faults (given_more ds d) ∙ two (declarations_sites ds) (declarations_sites (d ∷ [])))

-- the patterns of branches
pub patterns_next : (bs : List BranchView) (b : BranchView) →
    branch_patterns (branches_of (bs ++ b ∷ [])) ≡ branch_patterns (branches_of bs) ++ b.0 ∷ []
patterns_next [] b = refl
patterns_next (a ∷ bs) b = ap (λ l. a.0 ∷ l) (patterns_next bs b)

pub taken : {R : Type 0} (now : R → tree.Pattern) (old new : List R) (r : R) (ps : List Pattern) → new ≡ old ++ r ∷ [] →
    map pattern_view (map now old) ≡ ps → map pattern_view (map now new) ≡ ps ++ pattern_view (now r) ∷ []
taken now old new r ps e h =
    ap (λ z. map pattern_view (map now z)) e ∙ ap (map pattern_view) (map-append now old (r ∷ []))
    ∙ map-append pattern_view (map now old) (now r ∷ []) ∙ ap (λ z. z ++ pattern_view (now r) ∷ []) h

-- a list that was added to, and more
pub also : (old new : List Finding) (us vs ws : List Finding) → new ≡ old ++ us → us ++ vs ≡ ws → new ++ vs ≡ old ++ ws
also old new us vs ws e h =
    ap (λ l. l ++ vs) e ∙ append_assoc old us vs ∙ ap (λ l. old ++ l) h
