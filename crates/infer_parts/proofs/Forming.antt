-- What is asked of a tree holds of its parts, and of what the resolution of names gives.
use Rattle.std.proofs.Common.{◌≡◌, ℕ, zero, suc, ◌<◌, List, [], ◌∷◌, ◌++◌, length, get_or}
use Rattle.std.proofs.Common.{subst, arith}
use Rattle.std.specs.List.{AllByRecursion}
use Rattle.std.proofs.lemmas.List.{length_push}
use Rattle.elm_canon.specs.Tree.{Pattern, Op, TupleOf, ListOf, Build, RecordOf, Access, Update, Negate, Binary, Title}
use Rattle.elm_canon.specs.Tree.{Patterns}
use Rattle.elm_canon.specs.Tree.{Expr, Is, NameOf, Accessor, Lambda, Apply, Strict, If, Logical, Let, Case, Located}
use Rattle.elm_canon.specs.Tree.{Exprs, NoExpr, MoreExpr, Branches, NoBranch, MoreBranch, Groups, NoGroup, MoreGroup}
use Rattle.elm_canon.specs.Tree.{Group, Together, Constant, Destructure, Functions, NoFunction, MoreFunction}
use Rattle.elm_canon.specs.Tree.{exprs_of, branches_of, groups_of, functions_of}
use Rattle.elm_canon.specs.View.{LinkView, Given, Composed, After, Before, Decided, done, linked, accessed}
use Rattle.elm_type.specs.Types.{Name}
use Rattle.elm_canon.specs.Proper.{count_exprs, Scope, ProperOp, Proper, AllProper, ProperBranches, ProperGroups}
use Rattle.elm_canon.specs.Proper.{ProperGroup, ProperFunctions}
use Rattle.type_constructs.proofs.Walking.{count_each}
use Rattle.infer_patterns.specs.Once.{FieldsOnce, EachFieldsOnce}
use Rattle.infer_patterns.proofs.Once.{fields_distinct, proper_once, all_proper_once}
use Rattle.infer_order.specs.Order.{IsSimple}
use Rattle.infer_parts.specs.Formed.{FormedOp, TitleOnce, Formed, AllFormed, FormedBranches, FormedGroups}
use Rattle.infer_parts.specs.Formed.{FormedGroup, FormedFunctions}
use Rattle.infer_parts.specs.Linked.{FormedLink, FormedLinks}

-- ---- one of several

pub all_at : {A : Type 0} (P : A → Type 0) (xs : List A) (i : ℕ) (d : A) → i < length xs → AllByRecursion P xs
    → P (get_or xs i d)
all_at P [] i d l h = absurd (omega (arith, l))
all_at P (x ∷ xs) zero d l h = h.0
all_at P (x ∷ xs) (suc i) d l h = all_at P xs i d (omega (arith, l)) h.1

pub formed_each : (es : List Expr) → AllFormed (exprs_of es) → AllByRecursion Formed es
formed_each [] h = tt
formed_each (e ∷ es) h = (h.0, formed_each es h.1)

pub formed_at : (es : List Expr) (i : ℕ) (d : Expr) → i < length es → AllFormed (exprs_of es) → Formed (get_or es i d)
formed_at es i d l h = all_at Formed es i d l (formed_each es h)

pub formed_front : (es fs : List Expr) → AllFormed (exprs_of (es ++ fs))
    → AllFormed (exprs_of es) × AllFormed (exprs_of fs)
formed_front [] fs h = (tt, h)
formed_front (e ∷ es) fs h = let r = formed_front es fs h.1 in ((h.0, r.0), r.1)

abbrev pub FormedBranch : Pattern × Expr → Type 0
FormedBranch b = FieldsOnce b.0 × Formed b.1

pub branches_formed : (bs : List (Pattern × Expr)) → FormedBranches (branches_of bs) → AllByRecursion FormedBranch bs
branches_formed [] h = tt
branches_formed (b ∷ bs) h = ((h.0, h.1.0), branches_formed bs h.1.1)

pub branch_formed_at : (bs : List (Pattern × Expr)) (i : ℕ) (d : Pattern × Expr) → i < length bs
    → FormedBranches (branches_of bs) → FormedBranch (get_or bs i d)
branch_formed_at bs i d l h = all_at FormedBranch bs i d l (branches_formed bs h)

pub groups_formed : (gs : List Group) → FormedGroups (groups_of gs) → AllByRecursion FormedGroup gs
groups_formed [] h = tt
groups_formed (g ∷ gs) h = (h.0, groups_formed gs h.1)

pub group_formed_at : (gs : List Group) (i : ℕ) (d : Group) → i < length gs → FormedGroups (groups_of gs)
    → FormedGroup (get_or gs i d)
group_formed_at gs i d l h = all_at FormedGroup gs i d l (groups_formed gs h)

abbrev pub FormedFunction : Title × Patterns × Expr → Type 0
FormedFunction f = TitleOnce f.0 × (EachFieldsOnce f.1 × Formed f.2)

pub functions_formed : (fs : List (Title × Patterns × Expr)) → FormedFunctions (functions_of fs)
    → AllByRecursion FormedFunction fs
functions_formed [] h = tt
functions_formed (f ∷ fs) h = ((h.0, (h.1.0, h.1.1.0)), functions_formed fs h.1.1.1)

pub function_formed_at : (fs : List (Title × Patterns × Expr)) (i : ℕ) (d : Title × Patterns × Expr) → i < length fs
    → FormedFunctions (functions_of fs)
    → FormedFunction (get_or fs i d)
function_formed_at fs i d l h = all_at FormedFunction fs i d l (functions_formed fs h)

-- ---- what is done with an expression one after the other

done_formed : (l : LinkView) (e : Expr) → Formed (done l e) → Formed e × FormedLink l
done_formed (Given f es) e h = let r = formed_front es (e ∷ []) h.1 in (r.1.0, (h.0, r.0))
done_formed (Composed f a) e h = (h.1.0, (h.0, h.1.1.0))
done_formed (After op es) e h =
    let r = formed_front es (e ∷ []) h.1 in
    let n : count_exprs (exprs_of (es ++ e ∷ [])) ≡ suc (length es) = let c = count_each (es ++ e ∷ []) in let l =
    length_push es e in omega (arith, c, l) in
    (r.1.0, (subst (FormedOp op) n h.0, r.0))
done_formed (Before op a) e h = (h.1.0, (h.0, h.1.1.0))
done_formed (Decided pos c a) e h = (h.1, h.0)

pub linked_formed : (e : Expr) (ls : List LinkView) → Formed (linked e ls) → Formed e × FormedLinks ls
linked_formed e [] h = (h, tt)
linked_formed e (l ∷ ls) h =
    let r = linked_formed (done l e) ls h in
    let d = done_formed l e r.0 in
    (d.0, (d.1, r.1))

pub link_formed_at : (ls : List LinkView) (i : ℕ) (d : LinkView) → i < length ls → FormedLinks ls
    → FormedLink (get_or ls i d)
link_formed_at ls i d l h = all_at FormedLink ls i d l h

pub accessed_formed : (e : Expr) (xs : List Name) → Formed (accessed e xs) → Formed e
accessed_formed e [] h = h
accessed_formed e (x ∷ xs) h = (accessed_formed (Strict (Access x) (MoreExpr e NoExpr)) xs h).1.0

-- ---- what the resolution of names gives

pub proper_op : (op : Op) (n : ℕ) → ProperOp op n → FormedOp op n
proper_op TupleOf n h = (tt, tt)
proper_op ListOf n h = (tt, tt)
proper_op (Build pos u c) n h = (tt, tt)
proper_op (RecordOf xs) n h = (fields_distinct xs h.0, h.1)
proper_op (Access x) n h = (tt, h.1)
proper_op (Update xs) n h = (fields_distinct xs h.0, h.1)
proper_op Negate n h = (tt, h)
proper_op (Binary pos op) n h = (tt, h)

-- the definitions of each `let` are simple, and so are their annotations
abbrev mutual
  pub SimpleLets : Expr → Type 0
  SimpleLets (Is l) = Unit {0}
  SimpleLets (NameOf x) = Unit {0}
  SimpleLets (Accessor x) = Unit {0}
  SimpleLets (Lambda qs e) = SimpleLets e
  SimpleLets (Apply f es) = SimpleLets f × AllSimpleLets es
  SimpleLets (Strict op es) = AllSimpleLets es
  SimpleLets (If c a b) = SimpleLets c × (SimpleLets a × SimpleLets b)
  SimpleLets (Logical pos op a b) = SimpleLets a × SimpleLets b
  SimpleLets (Let gs e) = IsSimple gs × (SimpleGroups gs × SimpleLets e)
  SimpleLets (Case e bs) = SimpleLets e × SimpleBranches bs
  SimpleLets (Located pos e) = SimpleLets e

  pub AllSimpleLets : Exprs → Type 0
  AllSimpleLets NoExpr = Unit {0}
  AllSimpleLets (MoreExpr e es) = SimpleLets e × AllSimpleLets es

  pub SimpleBranches : Branches → Type 0
  SimpleBranches NoBranch = Unit {0}
  SimpleBranches (MoreBranch q e bs) = SimpleLets e × SimpleBranches bs

  pub SimpleGroups : Groups → Type 0
  SimpleGroups NoGroup = Unit {0}
  SimpleGroups (MoreGroup g gs) = SimpleGroup g × SimpleGroups gs

  pub SimpleGroup : Group → Type 0
  SimpleGroup (Together fs) = SimpleFunctions fs
  SimpleGroup (Constant title e) = TitleOnce title × SimpleLets e
  SimpleGroup (Destructure q e) = SimpleLets e

  pub SimpleFunctions : Functions → Type 0
  SimpleFunctions NoFunction = Unit {0}
  SimpleFunctions (MoreFunction title qs e fs) = TitleOnce title × (SimpleLets e × SimpleFunctions fs)

mutual
  pub proper_formed : (scope : Scope) (e : Expr) → Proper scope e → SimpleLets e → Formed e
  proper_formed scope (Is l) h s = tt
  proper_formed scope (NameOf x) h s = tt
  proper_formed scope (Accessor x) h s = tt
  proper_formed scope (Lambda qs e) h s = (all_proper_once qs h.1.0.0, proper_formed _ e h.1.1 s)
  proper_formed scope (Apply f es) h s = (proper_formed scope f h.0 s.0, all_proper_formed scope es h.1 s.1)
  proper_formed scope (Strict op es) h s = (proper_op op (count_exprs es) h.0, all_proper_formed scope es h.1 s)
  proper_formed scope (If c a b) h s =
      (proper_formed scope c h.0 s.0, (proper_formed scope a h.1.0 s.1.0, proper_formed scope b h.1.1 s.1.1))
  proper_formed scope (Logical pos op a b) h s = (proper_formed scope a h.0 s.0, proper_formed scope b h.1 s.1)
  proper_formed scope (Let gs e) h s = (s.0, (proper_groups scope gs h.0 s.1.0, proper_formed _ e h.1 s.1.1))
  proper_formed scope (Case e bs) h s = (proper_formed scope e h.0 s.0, proper_branches scope bs h.1 s.1)
  proper_formed scope (Located pos e) h s = proper_formed scope e h s

  pub all_proper_formed : (scope : Scope) (es : Exprs) → AllProper scope es → AllSimpleLets es → AllFormed es
  all_proper_formed scope NoExpr h s = tt
  all_proper_formed scope (MoreExpr e es) h s = (proper_formed scope e h.0 s.0, all_proper_formed scope es h.1 s.1)

  pub proper_branches : (scope : Scope) (bs : Branches) → ProperBranches scope bs → SimpleBranches bs
      → FormedBranches bs
  proper_branches scope NoBranch h s = tt
  proper_branches scope (MoreBranch q e bs) h s =
      (proper_once q h.0.0, (proper_formed _ e h.1.0 s.0, proper_branches scope bs h.1.1 s.1))

  pub proper_groups : (scope : Scope) (gs : Groups) → ProperGroups scope gs → SimpleGroups gs → FormedGroups gs
  proper_groups scope NoGroup h s = tt
  proper_groups scope (MoreGroup g gs) h s = (proper_group scope g h.0 s.0, proper_groups _ gs h.1 s.1)

  pub proper_group : (scope : Scope) (g : Group) → ProperGroup scope g → SimpleGroup g → FormedGroup g
  proper_group scope (Together fs) h s = proper_functions _ fs h.1 s
  proper_group scope (Constant title e) h s = (s.0, proper_formed scope e h.1.1 s.1)
  proper_group scope (Destructure q e) h s = (proper_once q h.0.0, proper_formed scope e h.1 s)

  pub proper_functions : (scope : Scope) (fs : Functions) → ProperFunctions scope fs → SimpleFunctions fs
      → FormedFunctions fs
  proper_functions scope NoFunction h s = tt
  proper_functions scope (MoreFunction title qs e fs) h s = (
    s.0,
    (
      all_proper_once qs h.1.1.0.0,
      (
        proper_formed _ e h.1.1.1.0 s.1.0,
        proper_functions scope fs h.1.1.1.1
            s.1.1,
      ),
    ),
  )
