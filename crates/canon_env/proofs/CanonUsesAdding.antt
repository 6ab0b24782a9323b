-- One expression, branch, group or function more, and the fields of a value.
use Rattle.std.proofs.Common.{◌≡◌, Bool, List, [], ◌∷◌, ◌++◌, refl, sym, ap, ◌∙◌, append_assoc, append-nil}
use Rattle.elm_canon.specs.Names.{Name}
use Rattle.elm_canon.specs.Tree.{Expr, Group, exprs_of, branches_of, groups_of, functions_of}
use Rattle.elm_canon.specs.Tree.{Strict, Access, MoreExpr, NoExpr}
use Rattle.elm_canon.specs.View.{accessed, BranchView, FunctionView}
use Rattle.canon_env.specs.Uses.{expr_uses, exprs_uses, branches_uses, groups_uses, group_uses, functions_uses}
use Rattle.canon_env.specs.Adds.{Adds}

pub access_uses : (e : Expr) (xs : List Name) → expr_uses (accessed e xs) ≡ expr_uses e
access_uses e [] = refl
access_uses e (x ∷ xs) =
    access_uses (Strict (Access x) (MoreExpr e NoExpr)) xs ∙ append-nil (expr_uses e)

pub exprs_next : (es : List Expr) (e : Expr) → exprs_uses (exprs_of es) ++ expr_uses e ≡ exprs_uses (exprs_of (es ++ e ∷ []))
exprs_next [] e = sym (append-nil (expr_uses e))
exprs_next (d ∷ es) e =
    append_assoc (expr_uses d) (exprs_uses (exprs_of es)) (expr_uses e) ∙ ap (λ us. expr_uses d ++ us) (exprs_next es e)

pub branches_next : (bs : List BranchView) (b : BranchView) →
    branches_uses (branches_of bs) ++ expr_uses b.1 ≡ branches_uses (branches_of (bs ++ b ∷ []))
branches_next [] b = sym (append-nil (expr_uses b.1))
branches_next (a ∷ bs) b =
    append_assoc (expr_uses a.1) (branches_uses (branches_of bs)) (expr_uses b.1)
    ∙ ap (λ us. expr_uses a.1 ++ us) (branches_next bs b)

pub groups_next : (gs : List Group) (g : Group) →
    groups_uses (groups_of gs) ++ group_uses g ≡ groups_uses (groups_of (gs ++ g ∷ []))
groups_next [] g = sym (append-nil (group_uses g))
groups_next (a ∷ gs) g =
    append_assoc (group_uses a) (groups_uses (groups_of gs)) (group_uses g) ∙ ap (λ us. group_uses a ++ us) (groups_next gs g)

pub functions_next : (fs : List FunctionView) (f : FunctionView) →
    functions_uses (functions_of fs) ++ expr_uses f.2 ≡ functions_uses (functions_of (fs ++ f ∷ []))
functions_next [] f = sym (append-nil (expr_uses f.2))
functions_next (a ∷ fs) f =
    append_assoc (expr_uses a.2) (functions_uses (functions_of fs)) (expr_uses f.2)
    ∙ ap (λ us. expr_uses a.2 ++ us) (functions_next fs f)

-- nothing was added, and one thing after another
pub nothing : {X : Type 0} → (b : Bool) (old : List X) → Adds b b old old []
nothing b old = λ e. (e, sym (append-nil old))

pub also : {X : Type 0} {a b c : Bool} {mid new : List X} (old us vs : List X) → Adds a b old mid us →
    Adds b c mid new vs → Adds a c old new (us ++ vs)
also old us vs f g = λ e.
    let q = g e in
    let p = f q.0 in
    (p.0, q.1 ∙ ap (λ l. l ++ vs) p.1 ∙ append_assoc old us vs)

-- the names that were added are these
pub alike : {X : Type 0} {a b : Bool} {new us vs : List X} (old : List X) → us ≡ vs → Adds a b old new us →
    Adds a b old new vs
alike old e f = λ h. let p = f h in (p.0, p.1 ∙ ap (λ l. old ++ l) e)
