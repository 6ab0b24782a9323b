-- What has no sign of a port takes no command and no subscription apart, makes none of a port, and uses no constructor
-- of theirs as a name.
use Rattle.std.proofs.Common.{◌≡◌, pos, negsuc, List, [], ◌∷◌, ◌++◌, Bool, true, false, inl, refl, sym, ap, ◌∙◌}
use Rattle.std.proofs.Common.{codes}
use Rattle.std.proofs.lemmas.Bool.{and_parts, eqb-true, false≢true}
use Rattle.std.proofs.lemmas.List.Folds.{list_all-append}
use Rattle.std.specs.Prelude.{◌&&◌, ◌||◌, not, nat_eq, if◌then◌else◌}
use Rattle.std.specs.List.{list_all, AllByRecursion}
use Rattle.elm_canon.specs.Names.{Name, same_name}
use Rattle.elm_canon.specs.declared.reference.Ref.{Ref}
use Rattle.elm_canon.specs.declared.reference.Ref.TheVariants.{Local, Top}
use Rattle.elm_canon.specs.Unions.{Union, TupleUnion, ListUnion, Declared}
use Rattle.elm_canon.specs.declared.unions.Alternative.{Alternative}
use Rattle.elm_canon.specs.declared.unions.Tag.{Tag}
use Rattle.elm_canon.specs.declared.unions.Tag.TheVariants.{Number, Truth, Blank}
use Rattle.elm_canon.specs.Tree.{Pattern, Anything, Named, As, Exactly, Construct, FieldsOf, LocatedPattern, Patterns}
use Rattle.elm_canon.specs.Tree.{NoPattern, MorePattern, Op, TupleOf, ListOf, Build, RecordOf, Access, Update, Negate}
use Rattle.elm_canon.specs.Tree.{Binary, Expr, Is, NameOf, Accessor, Lambda, Apply, Strict, If, Logical, Let, Case}
use Rattle.elm_canon.specs.Tree.{Located, Exprs, NoExpr, MoreExpr, Branches, NoBranch, MoreBranch, Groups, NoGroup}
use Rattle.elm_canon.specs.Tree.{MoreGroup, Group, Together, Constant, Destructure, Functions, NoFunction, MoreFunction}
use Rattle.elm_meaning.specs.Seen.{same_tag}
use Rattle.elm_canon.specs.Mentions.{PatternTakes, PatternsTake, OpBuilds}
use Rattle.canon_env.specs.Uses.{ref_uses, expr_uses, exprs_uses, branches_uses, groups_uses, group_uses}
use Rattle.canon_env.specs.Uses.{functions_uses}
use Rattle.elm_canon.specs.Maps.{IsMapping}
use Rattle.elm_canon.specs.Obeys.{Obeys, ObeyEach, BranchesObey, GroupsObey, GroupObeys, FunctionsObey}
use Rattle.program_safety.specs.Ports.{is_port_home, IsUnported, IsUnsent}
use Rattle.program_safety.specs.Leaving.{is_small, IsSmallUse}
use Rattle.core_modules.specs.Makers.{name_sign, is_maker, has_makers, is_command, is_subscription, maker_sign}
use Rattle.core_modules.specs.Makers.{taken_sign, built_sign}
use Rattle.core_modules.specs.PortFaultsSigns.{other, end, ends, pattern_signs, patterns_signs, op_sign, op_ends, lambda_sign}
use Rattle.core_modules.specs.PortFaultsSigns.{case_sign, together_sign, signs, exprs_signs, branches_signs, groups_signs}
use Rattle.core_modules.specs.PortFaultsSigns.{group_signs, functions_signs}
use Rattle.core_modules.specs.Faults.{is_free}
use Rattle.core_modules.specs.declared.port_faults_sign.Sign.{Sign}
use Rattle.core_modules.specs.declared.port_faults_sign.Sign.TheVariants as sign
use Rattle.core_modules.specs.declared.port_faults_sign.Port.{Port}
use Rattle.core_modules.specs.declared.port_faults_sign.Port.TheVariants.{Wrong, Sends, Listens, TakesSend, TakesListen}
use Rattle.core_modules.specs.declared.port_faults_sign.Port.TheVariants.{TakesCommands, TakesSubscriptions}

-- ---- lists

parts : (xs ys : List Sign) → list_all is_free (xs ++ ys) ≡ true →
    (list_all is_free xs ≡ true) × (list_all is_free ys ≡ true)
parts xs ys e =
    and_parts (list_all is_free xs) (list_all is_free ys) (sym (list_all-append is_free xs ys) ∙ e)

pub free_first : (xs ys : List Sign) → list_all is_free (xs ++ ys) ≡ true → list_all is_free xs ≡ true
free_first xs ys e = (parts xs ys e).0

pub free_rest : (xs ys : List Sign) → list_all is_free (xs ++ ys) ≡ true → list_all is_free ys ≡ true
free_rest xs ys e = (parts xs ys e).1

-- after the first sign
free_tail : (x : Sign) (xs : List Sign) → list_all is_free (x ∷ xs) ≡ true → list_all is_free xs ≡ true
free_tail x xs e = (and_parts (is_free x) (list_all is_free xs) e).1

free_head : (x : Sign) (xs : List Sign) → list_all is_free (x ∷ xs) ≡ true → is_free x ≡ true
free_head x xs e = (and_parts (is_free x) (list_all is_free xs) e).0

pub uses_both : (xs ys : List Ref) → AllByRecursion IsSmallUse xs → AllByRecursion IsSmallUse ys →
    AllByRecursion IsSmallUse (xs ++ ys)
uses_both [] ys a b = b
uses_both (x ∷ xs) ys a b = (a.0, uses_both xs ys a.1 b)

-- ---- constructors

-- a constructor of commands or subscriptions that is taken apart has a sign of a port
no_maker : (x : Name) (p q : Port) (u : Union) (c : Alternative) →
    is_free (maker_sign x (sign.Port p) (sign.Port q) u c) ≡ false
no_maker x p q u c = by (has_makers x u) (is_maker x 0 2 c) (is_maker (codes "Batch") 1 1 c)
  where
    by : (a b d : Bool) →
        is_free (if a then (if b then sign.Port p else if d then sign.Port q else sign.Port Wrong) else sign.Port Wrong)
        ≡ false
    by true true d = refl
    by true false true = refl
    by true false false = refl
    by false b d = refl

-- what is chosen by two tests has nothing of a port
neither : (a b : Bool) (s t : Sign) → is_free s ≡ false → is_free t ≡ false →
    is_free (if a then s else if b then t else other) ≡ true → (a || b) ≡ false
neither true b s t f g e = absurd (false≢true (sym f ∙ e))
neither false true s t f g e = absurd (false≢true (sym g ∙ e))
neither false false s t f g e = refl

taken : (u : Union) (c : Alternative) → is_free (taken_sign u c) ≡ true → IsUnported u c
taken (TupleUnion n) c e = tt
taken ListUnion c e = tt
taken (Declared m x cs) c e =
    neither (is_command u) (is_subscription u)
    (maker_sign (codes "Send") (sign.Port TakesSend) (sign.Port TakesCommands) u c)
    (maker_sign (codes "Listen") (sign.Port TakesListen) (sign.Port TakesSubscriptions) u c)
    (no_maker (codes "Send") TakesSend TakesCommands u c)
    (no_maker (codes "Listen") TakesListen TakesSubscriptions u c) e
  where
    u : Union
    u = Declared m x cs

-- what has the number 1 does not have 0
other_tag : (t : Tag) → same_tag t (Number (pos 1)) ≡ true → same_tag t (Number (pos 0)) ≡ false
other_tag (Number (pos n)) e = ap (λ k. nat_eq k 0) (eqb-true n 1 e)
other_tag (Number (negsuc n)) e = refl
other_tag (Truth b) e = refl
other_tag Blank e = refl

-- where a constructor of commands or subscriptions is built and has no sign of a port, no port makes it
batch : (x : Name) (p : Port) (u : Union) (c : Alternative) →
    is_free (maker_sign x (sign.Port p) other u c) ≡ true → same_tag c.tag (Number (pos 0)) ≡ false
batch x p u c e = by (has_makers x u) (is_maker x 0 2 c) (is_maker (codes "Batch") 1 1 c) refl e
  where
    of_batch : is_maker (codes "Batch") 1 1 c ≡ true → same_tag c.tag (Number (pos 0)) ≡ false
    of_batch h =
        let g = and_parts (same_name c.name (codes "Batch")) (same_tag c.tag (Number (pos 1)) && nat_eq c.arity 1) h in
        other_tag c.tag (and_parts (same_tag c.tag (Number (pos 1))) (nat_eq c.arity 1) g.1).0

    by : (a b d : Bool) → is_maker (codes "Batch") 1 1 c ≡ d →
        is_free (if a then (if b then sign.Port p else if d then other else sign.Port Wrong) else sign.Port Wrong)
        ≡ true →
        same_tag c.tag (Number (pos 0)) ≡ false
    by true true d h f = absurd (false≢true f)
    by true false true h f = of_batch h
    by true false false h f = absurd (false≢true f)
    by false b d h f = absurd (false≢true f)

unsent : (a b z : Bool) (s t : Sign) → (is_free s ≡ true → z ≡ false) → (is_free t ≡ true → z ≡ false) →
    is_free (if a then s else if b then t else other) ≡ true → ((a || b) && z) ≡ false
unsent true b z s t f g e = f e
unsent false true z s t f g e = g e
unsent false false z s t f g e = refl

built : (u : Union) (c : Alternative) → is_free (built_sign u c) ≡ true → IsUnsent u c
built (TupleUnion n) c e = tt
built ListUnion c e = tt
built (Declared m x cs) c e =
    unsent (is_command u) (is_subscription u) (same_tag c.tag (Number (pos 0)))
    (maker_sign (codes "Send") (sign.Port Sends) other u c) (maker_sign (codes "Listen") (sign.Port Listens) other u c)
    (batch (codes "Send") Sends u c) (batch (codes "Listen") Listens u c) e
  where
    u : Union
    u = Declared m x cs

done : (o : Op) → is_free (op_sign o) ≡ true → OpBuilds IsUnsent o
done TupleOf e = tt
done ListOf e = tt
done (Build place u c) e = built u c e
done (RecordOf xs) e = tt
done (Access x) e = tt
done (Update xs) e = tt
done Negate e = tt
done (Binary place o) e = tt

-- ---- names

used : (r : Ref) → is_free (name_sign r) ≡ true → AllByRecursion IsSmallUse (ref_uses r)
used (Local x) e = tt
used (Top m x) e = (by (is_port_home m) (is_small x) e, tt)
  where
    by : (a b : Bool) → is_free (if a && not b then sign.Port Wrong else other) ≡ true → a ≡ true → b ≡ true
    by a true e h = refl
    by true false e h = absurd (false≢true e)
    by false false e h = h

-- ---- patterns

mutual
  pub free_pattern : (q : Pattern) → list_all is_free (pattern_signs q) ≡ true → PatternTakes IsUnported q
  free_pattern Anything f = tt
  free_pattern (Named x) f = tt
  free_pattern (As q x) f = free_pattern q f
  free_pattern (Exactly l) f = tt
  free_pattern (Construct u c qs) f =
      let g = free_first (taken_sign u c ∷ patterns_signs qs) (ends u) f in (
        taken u c (free_head (taken_sign u c) (patterns_signs qs) g),
        free_patterns qs (free_tail (taken_sign u c) (patterns_signs qs) g),
      )
  free_pattern (FieldsOf xs) f = tt
  free_pattern (LocatedPattern place q) f = free_pattern q f

  pub free_patterns : (qs : Patterns) → list_all is_free (patterns_signs qs) ≡ true → PatternsTake IsUnported qs
  free_patterns NoPattern f = tt
  free_patterns (MorePattern q qs) f =
      let g = parts (pattern_signs q) (patterns_signs qs) f in (free_pattern q g.0, free_patterns qs g.1)

-- ---- expressions

mutual
  pub free_expr : (e : Expr) → list_all is_free (signs e) ≡ true →
      Obeys IsUnported IsUnsent IsMapping e × AllByRecursion IsSmallUse (expr_uses e)
  free_expr (Is l) f = (tt, tt)
  free_expr (NameOf r) f = (tt, used r (free_head (name_sign r) [] f))
  free_expr (Accessor x) f = (tt, tt)
  free_expr (Lambda qs e) f =
      let g = parts (lambda_sign qs ∷ patterns_signs qs) (signs e) f in
      let h = free_expr e g.1 in
      ((free_patterns qs (free_tail (lambda_sign qs) (patterns_signs qs) g.0), h.0), h.1)
  free_expr (Apply d es) f =
      let g = parts (signs d) (exprs_signs es) (free_first (signs d ++ exprs_signs es) (end ∷ []) f) in
      let h = free_expr d g.0 in
      let i = free_exprs es g.1 in
      ((h.0, i.0), uses_both (expr_uses d) (exprs_uses es) h.1 i.1)
  free_expr (Strict o es) f =
      let g = free_first (op_sign o ∷ exprs_signs es) (op_ends o) f in
      let h = free_exprs es (free_tail (op_sign o) (exprs_signs es) g) in
      ((done o (free_head (op_sign o) (exprs_signs es) g), h.0), h.1)
  free_expr (If c a b) f =
      let g = parts (signs c ++ signs a) (signs b) f in
      let h = parts (signs c) (signs a) g.0 in
      let i = free_expr c h.0 in
      let j = free_expr a h.1 in
      let k = free_expr b g.1 in (
        (i.0, (j.0, k.0)),
        uses_both (expr_uses c ++ expr_uses a) (expr_uses b) (uses_both (expr_uses c) (expr_uses a) i.1 j.1) k.1,
      )
  free_expr (Logical place c a b) f =
      let g = parts (signs a) (signs b) f in
      let h = free_expr a g.0 in
      let i = free_expr b g.1 in
      ((h.0, i.0), uses_both (expr_uses a) (expr_uses b) h.1 i.1)
  free_expr (Let gs e) f =
      let g = parts (groups_signs gs) (signs e) f in
      let h = free_groups gs g.0 in
      let i = free_expr e g.1 in
      ((h.0, i.0), uses_both (groups_uses gs) (expr_uses e) h.1 i.1)
  free_expr (Case e bs) f =
      let g = parts (case_sign bs ∷ signs e) (branches_signs bs) f in
      let h = free_expr e (free_tail (case_sign bs) (signs e) g.0) in
      let i = free_branches bs g.1 in
      ((h.0, inl i.0), uses_both (expr_uses e) (branches_uses bs) h.1 i.1)
  free_expr (Located place e) f = free_expr e f

  pub free_exprs : (es : Exprs) → list_all is_free (exprs_signs es) ≡ true →
      ObeyEach IsUnported IsUnsent IsMapping es × AllByRecursion IsSmallUse (exprs_uses es)
  free_exprs NoExpr f = (tt, tt)
  free_exprs (MoreExpr e es) f =
      let g = parts (signs e) (exprs_signs es) f in
      let h = free_expr e g.0 in
      let i = free_exprs es g.1 in
      ((h.0, i.0), uses_both (expr_uses e) (exprs_uses es) h.1 i.1)

  pub free_branches : (bs : Branches) → list_all is_free (branches_signs bs) ≡ true →
      BranchesObey IsUnported IsUnsent IsMapping bs × AllByRecursion IsSmallUse (branches_uses bs)
  free_branches NoBranch f = (tt, tt)
  free_branches (MoreBranch q e bs) f =
      let g = parts (pattern_signs q ++ signs e) (branches_signs bs) f in
      let h = parts (pattern_signs q) (signs e) g.0 in
      let i = free_expr e h.1 in
      let j = free_branches bs g.1 in
      ((free_pattern q h.0, (i.0, j.0)), uses_both (expr_uses e) (branches_uses bs) i.1 j.1)

  pub free_groups : (gs : Groups) → list_all is_free (groups_signs gs) ≡ true →
      GroupsObey IsUnported IsUnsent IsMapping gs × AllByRecursion IsSmallUse (groups_uses gs)
  free_groups NoGroup f = (tt, tt)
  free_groups (MoreGroup d gs) f =
      let g = parts (group_signs d) (groups_signs gs) f in
      let h = free_group d g.0 in
      let i = free_groups gs g.1 in
      ((h.0, i.0), uses_both (group_uses d) (groups_uses gs) h.1 i.1)

  pub free_group : (d : Group) → list_all is_free (group_signs d) ≡ true →
      GroupObeys IsUnported IsUnsent IsMapping d × AllByRecursion IsSmallUse (group_uses d)
  free_group (Together fs) f = free_functions fs (free_tail (together_sign fs) (functions_signs fs) f)
  free_group (Constant t e) f = free_expr e f
  free_group (Destructure q e) f =
      let g = parts (pattern_signs q) (signs e) f in
      let h = free_expr e g.1 in
      ((free_pattern q g.0, h.0), h.1)

  pub free_functions : (fs : Functions) → list_all is_free (functions_signs fs) ≡ true →
      FunctionsObey IsUnported IsUnsent IsMapping fs × AllByRecursion IsSmallUse (functions_uses fs)
  free_functions NoFunction f = (tt, tt)
  free_functions (MoreFunction t qs e fs) f =
      let g = parts (patterns_signs qs ++ end ∷ signs e) (functions_signs fs) f in
      let h = parts (patterns_signs qs) (end ∷ signs e) g.0 in
      let i = free_expr e h.1 in
      let j = free_functions fs g.1 in
      (((free_patterns qs h.0, i.0), j.0), uses_both (expr_uses e) (functions_uses fs) i.1 j.1)
