-- One pattern, expression, branch, group or function more, and the fields of a value.
use Rattle.std.proofs.Common.{◌≡◌, List, [], ◌∷◌, ◌++◌, refl, sym, ap, ◌∙◌, append_assoc, append-nil, flat_map}
use Rattle.elm_canon.specs.Names.{Name}
use Rattle.elm_canon.specs.Tree.{Expr, Group, exprs_of, branches_of, groups_of, functions_of, patterns_of}
use Rattle.elm_canon.specs.Tree.{Strict, Access, MoreExpr, NoExpr, Pattern}
use Rattle.elm_canon.specs.View.{accessed, BranchView, FunctionView, items_before, cons_pattern}
use Rattle.core_modules.specs.declared.port_faults_sign.Sign.{Sign}
use Rattle.core_modules.specs.PortFaultsSigns.{signs, exprs_signs, branches_signs, groups_signs, group_signs, functions_signs}
use Rattle.core_modules.specs.PortFaultsSigns.{pattern_signs, patterns_signs, other, end}

-- for each field the same sign
pub others_turned : (xs : List Name) (s : List Sign) →
    flat_map (λ (x : Name). other ∷ []) xs ++ other ∷ s ≡ other ∷ (flat_map (λ (x : Name). other ∷ []) xs ++ s)
others_turned [] s = refl
others_turned (x ∷ xs) s = ap (λ us. other ∷ us) (others_turned xs s)

pub access_signs : (e : Expr) (xs : List Name) →
    flat_map (λ (x : Name). other ∷ []) xs ++ signs e ≡ signs (accessed e xs)
access_signs e [] = refl
access_signs e (x ∷ xs) =
    sym (others_turned xs (signs e))
    ∙ ap (λ us. flat_map (λ (y : Name). other ∷ []) xs ++ other ∷ us)
    (sym (append-nil (signs e ++ []) ∙ append-nil (signs e)))
    ∙ access_signs (Strict (Access x) (MoreExpr e NoExpr)) xs

pub exprs_next : (es : List Expr) (e : Expr) →
    exprs_signs (exprs_of es) ++ signs e ≡ exprs_signs (exprs_of (es ++ e ∷ []))
exprs_next [] e = sym (append-nil (signs e))
exprs_next (d ∷ es) e =
    append_assoc (signs d) (exprs_signs (exprs_of es)) (signs e) ∙ ap (λ us. signs d ++ us) (exprs_next es e)

pub branches_next : (bs : List BranchView) (b : BranchView) →
    branches_signs (branches_of bs) ++ (pattern_signs b.0 ++ signs b.1) ≡ branches_signs (branches_of (bs ++ b ∷ []))
branches_next [] b = sym (append-nil (pattern_signs b.0 ++ signs b.1))
branches_next (a ∷ bs) b =
    append_assoc (pattern_signs a.0 ++ signs a.1) (branches_signs (branches_of bs)) (pattern_signs b.0 ++ signs b.1)
    ∙ ap (λ us. pattern_signs a.0 ++ signs a.1 ++ us) (branches_next bs b)

pub groups_next : (gs : List Group) (g : Group) →
    groups_signs (groups_of gs) ++ group_signs g ≡ groups_signs (groups_of (gs ++ g ∷ []))
groups_next [] g = sym (append-nil (group_signs g))
groups_next (a ∷ gs) g =
    append_assoc (group_signs a) (groups_signs (groups_of gs)) (group_signs g)
    ∙ ap (λ us. group_signs a ++ us) (groups_next gs g)

abbrev pub function_signs : FunctionView → List Sign
function_signs f = patterns_signs f.1 ++ end ∷ signs f.2

pub functions_next : (fs : List FunctionView) (f : FunctionView) →
    functions_signs (functions_of fs) ++ function_signs f ≡ functions_signs (functions_of (fs ++ f ∷ []))
functions_next [] f = sym (append-nil (function_signs f))
functions_next (a ∷ fs) f =
    append_assoc (function_signs a) (functions_signs (functions_of fs)) (function_signs f)
    ∙ ap (λ us. function_signs a ++ us) (functions_next fs f)

-- ---- patterns

pub patterns_next : (ps : List Pattern) (p : Pattern) →
    patterns_signs (patterns_of ps) ++ pattern_signs p ≡ patterns_signs (patterns_of (ps ++ p ∷ []))
patterns_next [] p = sym (append-nil (pattern_signs p))
patterns_next (q ∷ ps) p =
    append_assoc (pattern_signs q) (patterns_signs (patterns_of ps)) (pattern_signs p)
    ∙ ap (λ us. pattern_signs q ++ us) (patterns_next ps p)

-- an item, and what is left of the list
pub cons_signs : (p rest : Pattern) →
    (other ∷ pattern_signs p) ++ pattern_signs rest ≡ pattern_signs (cons_pattern p rest)
cons_signs p rest =
    ap (λ us. (other ∷ pattern_signs p) ++ us) (sym (append-nil (pattern_signs rest)))
    ∙ sym (append-nil ((other ∷ pattern_signs p) ++ (pattern_signs rest ++ [])))

pub items_signs : (ps : List Pattern) (rest : Pattern) →
    flat_map (λ p. other ∷ pattern_signs p) ps ++ pattern_signs rest ≡ pattern_signs (items_before rest ps)
items_signs [] rest = refl
items_signs (p ∷ ps) rest =
    append_assoc (other ∷ pattern_signs p) (flat_map (λ q. other ∷ pattern_signs q) ps) (pattern_signs rest)
    ∙ ap (λ us. (other ∷ pattern_signs p) ++ us) (items_signs ps rest)
    ∙ cons_signs p (items_before rest ps)
