-- Proper: what the resolution of names guarantees of a canonical tree, and what its JavaScript needs. Each name is bound
-- where it is used; no local name repeats one that is in scope; names can be spelled, literals are exact; a constructor
-- is one of its union, with all its fields in a pattern; functions are functions.
use Rattle.std.specs.Prelude.{◌≡◌, ℕ, suc, List, [], ◌∷◌, ◌++◌, length, map, Bool, true, false, if◌then◌else◌}
use Rattle.elm_canon.specs.Names.{Name, same_ref}
use Rattle.elm_canon.specs.declared.reference.Ref.{Ref}
use Rattle.elm_canon.specs.declared.reference.Ref.TheVariants.{Local}
use Rattle.elm_canon.specs.Tree.{Pattern, Anything, Named, As, Exactly, Construct, FieldsOf, LocatedPattern, Patterns}
use Rattle.elm_canon.specs.Tree.{NoPattern, MorePattern, Op, TupleOf, ListOf, Build, RecordOf, Access, Update, Negate}
use Rattle.elm_canon.specs.Tree.{Binary, Expr, Is, NameOf, Accessor, Lambda, Apply, Strict, If, Logical, Let, Case}
use Rattle.elm_canon.specs.Tree.{Located}
use Rattle.elm_canon.specs.Tree.{Exprs, NoExpr, MoreExpr, Branches, NoBranch, MoreBranch, Groups, NoGroup, MoreGroup}
use Rattle.elm_canon.specs.Tree.{Group, Together, Constant, Destructure, Functions, NoFunction, MoreFunction}
use Rattle.elm_canon.specs.Spelled.{is_word, is_spelled, is_exact_literal, are_fields}
use Rattle.elm_canon.specs.Constructors.{is_constructor}

-- ---- patterns

abbrev pub count_of : Patterns → ℕ
count_of NoPattern = 0
count_of (MorePattern p ps) = suc (count_of ps)

abbrev mutual
  pub ProperPattern : Pattern → Type 0
  ProperPattern Anything = Unit {0}
  ProperPattern (Named x) = is_word x ≡ true
  ProperPattern (As p x) = ProperPattern p × (is_word x ≡ true)
  ProperPattern (Exactly l) = is_exact_literal l ≡ true
  ProperPattern (Construct u a ps) = (is_constructor u a ≡ true) × ((count_of ps ≡ a.arity) × ProperPatterns ps)
  ProperPattern (FieldsOf xs) = are_fields xs ≡ true
  ProperPattern (LocatedPattern place p) = ProperPattern p

  pub ProperPatterns : Patterns → Type 0
  ProperPatterns NoPattern = Unit {0}
  ProperPatterns (MorePattern p ps) = ProperPattern p × ProperPatterns ps

abbrev pub locals : List Name → List Ref
locals xs = map (λ x. Local x) xs

-- what a pattern binds, from left to right
abbrev mutual
  pub bound_by : Pattern → List Ref
  bound_by Anything = []
  bound_by (Named x) = Local x ∷ []
  bound_by (As p x) = bound_by p ++ Local x ∷ []
  bound_by (Exactly l) = []
  bound_by (Construct u a ps) = all_bound_by ps
  bound_by (FieldsOf xs) = locals xs
  bound_by (LocatedPattern place p) = bound_by p

  pub all_bound_by : Patterns → List Ref
  all_bound_by NoPattern = []
  all_bound_by (MorePattern p ps) = bound_by p ++ all_bound_by ps

-- ---- scopes

abbrev pub Scope : Type 0
Scope = List Ref

abbrev pub among : Ref → Scope → Bool
among x [] = false
among x (y ∷ ys) = if same_ref x y then true else among x ys

abbrev pub IsIn : Ref → Scope → Type 0
IsIn x scope = among x scope ≡ true

-- the scope with more names, the last one first
abbrev pub with_all : List Ref → Scope → Scope
with_all [] scope = scope
with_all (x ∷ xs) scope = with_all xs (x ∷ scope)

-- each is new
abbrev pub AreFresh : List Ref → Scope → Type 0
AreFresh [] scope = Unit {0}
AreFresh (x ∷ xs) scope = (among x scope ≡ false) × AreFresh xs (x ∷ scope)

-- patterns that bind new names
abbrev pub Binds : Pattern → Scope → Type 0
Binds p scope = ProperPattern p × AreFresh (bound_by p) scope

abbrev pub BindsAll : Patterns → Scope → Type 0
BindsAll ps scope = ProperPatterns ps × AreFresh (all_bound_by ps) scope

-- ---- expressions

abbrev pub count_exprs : Exprs → ℕ
count_exprs NoExpr = 0
count_exprs (MoreExpr e es) = suc (count_exprs es)

-- of so many parts
abbrev pub ProperOp : Op → ℕ → Type 0
ProperOp TupleOf n = Unit {0}
ProperOp ListOf n = Unit {0}
ProperOp (RecordOf ks) n = (are_fields ks ≡ true) × (n ≡ length ks)
ProperOp (Build place u a) n = (is_constructor u a ≡ true) × (n ≡ a.arity)
ProperOp (Access k) n = (is_word k ≡ true) × (n ≡ 1)
ProperOp (Update ks) n = (are_fields ks ≡ true) × (n ≡ suc (length ks))
ProperOp Negate n = n ≡ 1
ProperOp (Binary place op) n = n ≡ 2

abbrev pub function_names : Functions → List Ref
function_names NoFunction = []
function_names (MoreFunction title ps e fs) = title.name ∷ function_names fs

abbrev pub group_names : Group → List Ref
group_names (Together fs) = function_names fs
group_names (Constant title e) = title.name ∷ []
group_names (Destructure p e) = bound_by p

-- the scope after groups
abbrev pub after : Groups → Scope → Scope
after NoGroup scope = scope
after (MoreGroup g gs) scope = after gs (with_all (group_names g) scope)

abbrev pub has_parameter : Patterns → Bool
has_parameter NoPattern = false
has_parameter (MorePattern p ps) = true

-- it has a parameter, or is a lambda
abbrev pub is_function : Patterns → Expr → Bool
is_function (MorePattern p ps) e = true
is_function NoPattern (Lambda ps e) = true
is_function NoPattern (Located place e) = is_function NoPattern e
is_function NoPattern e = false

abbrev mutual
  pub Proper : Scope → Expr → Type 0
  Proper scope (Is l) = is_exact_literal l ≡ true
  Proper scope (NameOf r) = IsIn r scope
  Proper scope (Accessor k) = is_word k ≡ true
  Proper scope (Lambda ps e) =
      (has_parameter ps ≡ true) × (BindsAll ps scope × Proper (with_all (all_bound_by ps) scope) e)
  Proper scope (Apply f es) = Proper scope f × AllProper scope es
  Proper scope (Strict op es) = ProperOp op (count_exprs es) × AllProper scope es
  Proper scope (If c a b) = Proper scope c × (Proper scope a × Proper scope b)
  Proper scope (Logical place op a b) = Proper scope a × Proper scope b
  Proper scope (Let gs e) = ProperGroups scope gs × Proper (after gs scope) e
  Proper scope (Case e bs) = Proper scope e × ProperBranches scope bs
  Proper scope (Located place e) = Proper scope e

  pub AllProper : Scope → Exprs → Type 0
  AllProper scope NoExpr = Unit {0}
  AllProper scope (MoreExpr e es) = Proper scope e × AllProper scope es

  pub ProperBranches : Scope → Branches → Type 0
  ProperBranches scope NoBranch = Unit {0}
  ProperBranches scope (MoreBranch p e bs) =
      Binds p scope × (Proper (with_all (bound_by p) scope) e × ProperBranches scope bs)

  -- each group in the scope of those before it
  pub ProperGroups : Scope → Groups → Type 0
  ProperGroups scope NoGroup = Unit {0}
  ProperGroups scope (MoreGroup g gs) = ProperGroup scope g × ProperGroups (with_all (group_names g) scope) gs

  pub ProperGroup : Scope → Group → Type 0
  ProperGroup scope (Together fs) =
      AreFresh (function_names fs) scope × ProperFunctions (with_all (function_names fs) scope) fs
  ProperGroup scope (Constant title e) =
      (is_spelled title.name ≡ true) × ((among title.name scope ≡ false) × Proper scope e)
  ProperGroup scope (Destructure p e) = Binds p scope × Proper scope e

  pub ProperFunctions : Scope → Functions → Type 0
  ProperFunctions scope NoFunction = Unit {0}
  ProperFunctions scope (MoreFunction title ps e fs) =
      (is_spelled title.name ≡ true) × ((is_function ps e ≡ true)
      × (BindsAll ps scope × (Proper (with_all (all_bound_by ps) scope) e × ProperFunctions scope fs)))
