-- Expressions in which each `let` has names of its own, and which bind no local name in scope.
use Rattle.std.proofs.Common.{◌≡◌, List, [], ◌∷◌, ◌++◌, sym, subst}
use Rattle.std.specs.List.{AllByRecursion}
use Rattle.elm_canon.specs.Tree as canon
use Rattle.elm_canon.specs.Tree.{Expr, Strict, Access, exprs_of}
use Rattle.elm_tree.specs.Tree.{Word}
use Rattle.canon_env.specs.Imports.{name_of}
use Rattle.canon_env.specs.Locals.{Locals, with_names}
use Rattle.canon_expr.specs.Exprs.{accessed, one}
use Rattle.elm_canon.specs.Apart.{inner_names, inner_each, inner_branches, LetsApart, AllLetsApart, BranchesApart}
use Rattle.module_proper.proofs.Binding.{NoneOf, nothing_of, both_none, outer_none}

pub record Clear (locals : Locals) (e : Expr) : Type 0 where
  pub apart : LetsApart e
  pub none : NoneOf locals (inner_names e)

abbrev pub ClearEach : Locals → List Expr → Type 0
ClearEach locals es = AllByRecursion (Clear locals) es

pub record AllClear (locals : Locals) (es : canon.Exprs) : Type 0 where
  pub apart : AllLetsApart es
  pub none : NoneOf locals (inner_each es)

pub record BranchesClear (locals : Locals) (bs : canon.Branches) : Type 0 where
  pub apart : BranchesApart bs
  pub none : NoneOf locals (inner_branches bs)

-- it binds nothing inside
pub clear : (locals : Locals) (e : Expr) → LetsApart e → inner_names e ≡ [] → Clear locals e
clear locals e apart none_ = record { apart = apart; none = subst (NoneOf locals) (sym none_) (nothing_of locals) }

pub all_clear : (locals : Locals) (es : List Expr) → ClearEach locals es → AllClear locals (exprs_of es)
all_clear locals [] h = record { apart = tt; none = nothing_of locals }
all_clear locals (e ∷ es) h =
    let r = all_clear locals es h.1 in
    record {
      apart = (h.0.apart, r.apart);
      none = both_none locals (inner_names e) (inner_each (exprs_of es)) h.0.none r.none;
    }

pub more_clear : (locals : Locals) (es fs : List Expr) → ClearEach locals es → ClearEach locals fs
    → ClearEach locals (es ++ fs)
more_clear locals [] fs h k = k
more_clear locals (e ∷ es) fs h k = (h.0, more_clear locals es fs h.1 k)

pub outer_clear : (ws : List Word) (locals : Locals) (e : Expr) → Clear (with_names ws locals) e → Clear locals e
outer_clear ws locals e h = record { apart = h.apart; none = outer_none ws locals (inner_names e) h.none }

-- the fields of a value
pub accessed_clear : (locals : Locals) (e : Expr) (xs : List Word) → Clear locals e → Clear locals (accessed e xs)
accessed_clear locals e [] h = h
accessed_clear locals e (x ∷ xs) h =
    accessed_clear locals (Strict (Access (name_of x)) (one e)) xs
    (record {
      apart = (h.apart, tt);
      none = both_none locals (inner_names e) [] h.none (nothing_of locals);
    })
