-- Expressions without faults bind no local name in scope, and each `let` in them has names of its own.
use Rattle.std.proofs.Common.{◌≡◌, [], ◌∷◌, ◌++◌, Bool, true, false, refl, sym, subst, inl, inr}
use Rattle.std.specs.Prelude.{Option, None}
use Rattle.std.specs.List.{AllByRecursion, flat_map}
use Rattle.elm_tree.specs.Tree as tree
use Rattle.elm_tree.specs.Tree.{Word}
use Rattle.elm_canon.specs.Tree as canon
use Rattle.elm_canon.specs.Tree.{Annotation, Title, exprs_of}
use Rattle.elm_canon.specs.declared.reference.Ref.{Ref}
use Rattle.elm_canon.specs.declared.reference.Ref.TheVariants.{Local}
use Rattle.canon_env.specs.Imports.{name_of}
use Rattle.canon_env.specs.Naming.{World, maker_found}
use Rattle.canon_env.specs.Locals.{Locals, with_names}
use Rattle.canon_env.specs.Sites.{FieldsTogether, faults_at, value_meaning}
use Rattle.canon_env.specs.Patterns.{words_of, words_of_all, list_sites, pattern_sites, match_sites, match_sites_all}
use Rattle.canon_env.specs.Patterns.{binding_sites, pattern_of, patterns_of}
use Rattle.canon_expr.specs.Binding.{is_function, bound_in, bound_by, bound_by_each, defined_in, uses_among}
use Rattle.canon_expr.specs.Blocks.{made_of, title_of, joined_sites, reaching_sites}
use Rattle.canon_expr.specs.Exprs.{expr_sites, exprs_sites, part_sites, chain_sites, branch_sites, definitions_sites}
use Rattle.canon_expr.specs.Exprs.{definition_sites, callee, meant, meant_each, meant_parts, callees, meant_branches}
use Rattle.canon_expr.specs.Exprs.{made_in, made_by, annotation_of, part_words, long_word, base_value}
use Rattle.elm_canon.specs.Proper as proper
use Rattle.elm_canon.specs.Proper.{IsIn, all_bound_by}
use Rattle.canon_proper.proofs.Scopes.{refs, refs-append}
use Rattle.canon_proper.proofs.Quiet.{AreSound, sound_sites, sound_split}
use Rattle.elm_canon.specs.Apart.{inner_names, inner_branches, LetsApart}
use Rattle.elm_canon.proofs.Among.{first, first_or_later, in_left, in_right}
use Rattle.module_proper.proofs.Binding.{NoneOf, nothing_of, both_none, fewer_none, pattern_bound, patterns_bound}
use Rattle.module_proper.proofs.Binding.{words_none, outer_none}
use Rattle.module_proper.proofs.Clear.{Clear, ClearEach, BranchesClear, clear, all_clear, more_clear, outer_clear}
use Rattle.module_proper.proofs.Clear.{accessed_clear}
use Rattle.module_proper.proofs.CanonLetsCalls.{ClearCallee, AreOthers, finished_clear, value_clear, maker_clear, function_clear}
use Rattle.module_proper.proofs.CanonLetsCalls.{chain_clear}
use Rattle.module_proper.proofs.CanonLetsBlocks.{ClearMade, NamedIn, let_clear}

-- ---- what definitions become

only : (R : Ref → Type 0) (y x : Ref) → R y → IsIn x (y ∷ []) → R x
only R y x h i = elim (first_or_later x y [] i) [
  | inl is ↦ subst R (sym is) h
  | inr k ↦ absurd cc
]

pub define_named : (R : Ref → Type 0) (b : Bool) (title : Title) (ps : canon.Patterns) (e : canon.Expr) → R title.name
    → NamedIn R (made_of b title ps e)
define_named R true title ps e h = λ x i. only R title.name x h i
define_named R false title ps e h = λ x i. only R title.name x h i

pub define_clear : (locals : Locals) (b : Bool) (title : Title) (ps : canon.Patterns) (e : canon.Expr)
    → NoneOf locals (all_bound_by ps) → Clear locals e → ClearMade locals (made_of b title ps e)
define_clear locals true title ps e h k = (h, k)
define_clear locals false title ps e h k = k

module _ (w : World) (locals : Locals) (R : Ref → Type 0) where
  definition_named : (d : tree.Definition) (before : Option Annotation)
      → ((x : Ref) → IsIn x (refs (bound_by d)) → R x) → NamedIn R (made_by w locals before d)
  definition_named (tree.Annotate y t) before f = λ x i. absurd cc
  definition_named (tree.Define y ps e) before f =
      define_named R (is_function ps e) (title_of (Local (name_of y)) y.place before) (patterns_of w ps)
      (meant w (with_names (words_of_all ps) locals) e) (f (Local (name_of y)) (first (Local (name_of y)) []))
  definition_named (tree.Destructure p e) before f = λ x i. f x (pattern_bound x w p i)

  definitions_named : (ds : tree.Definitions) (before : Option Annotation)
      → ((x : Ref) → IsIn x (refs (bound_in ds)) → R x) → AllByRecursion (NamedIn R) (made_in w locals before ds)
  definitions_named tree.NoDefinition before f = tt
  definitions_named (tree.MoreDefinition d ds) before f = (
    definition_named d before (λ x i. f x (subst (IsIn x) (sym (refs-append (bound_by d) (bound_in ds)))
        (in_left x (refs (bound_by d)) (refs (bound_in ds)) i))),
    definitions_named ds (annotation_of w d) (λ x i. f x (subst (IsIn x) (sym (refs-append (bound_by d) (bound_in ds)))
        (in_right x (refs (bound_by d)) (refs (bound_in ds)) i))),
  )

-- ---- expressions

module _ (w : World) where
  -- the patterns of one list
  pub list_none : (locals : Locals) (ps : tree.Patterns) → AreSound w (list_sites locals ps)
      → NoneOf locals (all_bound_by (patterns_of w ps))
  list_none locals ps q =
      fewer_none locals (all_bound_by (patterns_of w ps)) (refs (words_of_all ps)) (λ x i. patterns_bound x w ps i)
      (words_none w locals (words_of_all ps)
      (sound_split w (match_sites_all ps) (binding_sites locals (words_of_all ps)) q).1)

  one_none : (locals : Locals) (p : tree.Pattern) → AreSound w (pattern_sites locals p)
      → NoneOf locals (proper.bound_by (pattern_of w p))
  one_none locals p q =
      fewer_none locals (proper.bound_by (pattern_of w p)) (refs (words_of p)) (λ x i. pattern_bound x w p i)
      (words_none w locals (words_of p) (sound_split w (match_sites p) (binding_sites locals (words_of p)) q).1)

  mutual
    pub callee_clear : (e : tree.Expr) (locals : Locals) → AreSound w (expr_sites w locals e)
        → ClearCallee locals (callee w locals e)
    callee_clear (tree.Is p l) locals q = (clear locals _ tt refl, tt)
    callee_clear (tree.Name x) locals q = (value_clear locals x (value_meaning w locals x), tt)
    callee_clear (tree.Constructor x) locals q = (maker_clear locals x (maker_found w x), tt)
    callee_clear (tree.OperatorName op) locals q = (function_clear locals op, tt)
    callee_clear (tree.Accessor x) locals q = (clear locals _ tt refl, tt)
    callee_clear (tree.Lambda p ps e) locals q =
        let inner = with_names (words_of_all ps) locals in
        let r = sound_split w (list_sites locals ps) (expr_sites w inner e) q in
        let body = finished_clear inner (callee w inner e) (callee_clear e inner r.1) in (
          record {
            apart = body.apart;
            none =
                both_none locals (all_bound_by (patterns_of w ps)) (inner_names (meant w inner e))
                (list_none locals ps r.0)
                (outer_none (words_of_all ps) locals (inner_names (meant w inner e)) body.none);
          },
          tt,
        )
    callee_clear (tree.Apply f es) locals q =
        let r = sound_split w (expr_sites w locals f) (exprs_sites w locals es) q in
        let h = callee_clear f locals r.0 in
        (h.0, more_clear locals (callee w locals f).arguments (meant_each w locals es) h.1 (each_clear es locals r.1))
    callee_clear (tree.Chain e ps) locals q =
        let r = sound_split w (expr_sites w locals e) (chain_sites w locals ps) q in
        chain_clear locals (callee w locals e) (callees w locals ps) (callee_clear e locals r.0)
        (operands_clear ps locals r.1)
    callee_clear (tree.Negate p e) locals q =
        let x = finished_clear locals (callee w locals e) (callee_clear e locals q) in
        let r = all_clear locals (meant w locals e ∷ []) (x, tt) in
        (record { apart = r.apart; none = r.none }, tt)
    callee_clear (tree.If c a b) locals q =
        let r = sound_split w (expr_sites w locals c ++ expr_sites w locals a) (expr_sites w locals b) q in
        let t = sound_split w (expr_sites w locals c) (expr_sites w locals a) r.0 in
        let x = finished_clear locals (callee w locals c) (callee_clear c locals t.0) in
        let y = finished_clear locals (callee w locals a) (callee_clear a locals t.1) in
        let z = finished_clear locals (callee w locals b) (callee_clear b locals r.1) in (
          record {
            apart = (x.apart, (y.apart, z.apart));
            none =
                both_none locals (inner_names (meant w locals c))
                (inner_names (meant w locals a) ++ inner_names (meant w locals b)) x.none
                (both_none locals (inner_names (meant w locals a)) (inner_names (meant w locals b)) y.none z.none);
          },
          tt,
        )
    callee_clear (tree.Case p e bs) locals q =
        let r = sound_split w (expr_sites w locals e) (branch_sites w locals bs) q in
        let x = finished_clear locals (callee w locals e) (callee_clear e locals r.0) in
        let y = branches_clear bs locals r.1 in (
          record {
            apart = (x.apart, y.apart);
            none =
                both_none locals (inner_names (meant w locals e)) (inner_branches (meant_branches w locals bs)) x.none
                y.none;
          },
          tt,
        )
    callee_clear (tree.Let ds e) locals q =
        let inner = with_names (bound_in ds) locals in
        let each = definitions_sites w inner ds in
        let names = binding_sites locals (bound_in ds) in
        let reaching = reaching_sites (uses_among w (bound_by_each ds) each) (defined_in ds) in
        let r = sound_split w (names ++ joined_sites each ++ reaching) (expr_sites w inner e) q in
        let t = sound_split w (names ++ joined_sites each) reaching r.0 in
        let u = sound_split w names (joined_sites each) t.0 in (
          let_clear (made_in w inner None ds) locals (bound_in ds) (uses_among w (bound_by_each ds) each)
              (words_none w locals (bound_in ds) u.0)
              (definitions_named w inner (λ x. IsIn x (refs (bound_in ds))) ds None (λ x i. i))
              (definitions_clear ds None inner u.1) (meant w inner e)
              (finished_clear inner (callee w inner e) (callee_clear e inner r.1)),
          tt,
        )
    callee_clear (tree.ListOf p es) locals q =
        let r = all_clear locals (meant_each w locals es) (each_clear es locals q) in
        (record { apart = r.apart; none = r.none }, tt)
    callee_clear (tree.TupleOf p es) locals q =
        let r = all_clear locals (meant_each w locals es) (each_clear es locals q) in
        (record { apart = r.apart; none = r.none }, tt)
    callee_clear (tree.RecordOf p fs) locals q =
        let s = sound_split w (part_sites w locals fs) (FieldsTogether (part_words fs) ∷ []) q in
        let r = all_clear locals (meant_parts w locals fs) (parts_clear fs locals s.0) in
        (record { apart = r.apart; none = r.none }, tt)
    callee_clear (tree.Update p x fs) locals q =
        let s = sound_split w (part_sites w locals fs) (FieldsTogether (part_words fs) ∷ []) q.1 in
        let base = value_clear locals (long_word x) (value_meaning w locals (long_word x)) in
        let r = all_clear locals (base_value w locals x ∷ meant_parts w locals fs) (base, parts_clear fs locals s.0) in
        (record { apart = r.apart; none = r.none }, tt)
    callee_clear (tree.Access p e xs) locals q =
        let x = finished_clear locals (callee w locals e) (callee_clear e locals q) in
        let r = accessed_clear locals (meant w locals e) xs x in
        (record { apart = r.apart; none = r.none }, tt)

    each_clear : (es : tree.Exprs) (locals : Locals) → AreSound w (exprs_sites w locals es)
        → ClearEach locals (meant_each w locals es)
    each_clear tree.NoExpr locals q = tt
    each_clear (tree.MoreExpr e es) locals q =
        let r = sound_split w (expr_sites w locals e) (exprs_sites w locals es) q in
        (finished_clear locals (callee w locals e) (callee_clear e locals r.0), each_clear es locals r.1)

    parts_clear : (fs : tree.Parts) (locals : Locals) → AreSound w (part_sites w locals fs)
        → ClearEach locals (meant_parts w locals fs)
    parts_clear tree.NoPart locals q = tt
    parts_clear (tree.MorePart x e fs) locals q =
        let r = sound_split w (expr_sites w locals e) (part_sites w locals fs) q in
        (finished_clear locals (callee w locals e) (callee_clear e locals r.0), parts_clear fs locals r.1)

    operands_clear : (ps : tree.Parts) (locals : Locals) → AreSound w (chain_sites w locals ps)
        → AreOthers locals (callees w locals ps)
    operands_clear tree.NoPart locals q = tt
    operands_clear (tree.MorePart op e ps) locals q =
        let r = sound_split w (expr_sites w locals e) (chain_sites w locals ps) q.1 in
        (callee_clear e locals r.0, operands_clear ps locals r.1)

    branches_clear : (bs : tree.Branches) (locals : Locals) → AreSound w (branch_sites w locals bs)
        → BranchesClear locals (meant_branches w locals bs)
    branches_clear tree.NoBranch locals q = record { apart = tt; none = nothing_of locals }
    branches_clear (tree.MoreBranch p e bs) locals q =
        let inner = with_names (words_of p) locals in
        let r = sound_split w (pattern_sites locals p ++ expr_sites w inner e) (branch_sites w locals bs) q in
        let t = sound_split w (pattern_sites locals p) (expr_sites w inner e) r.0 in
        let body = finished_clear inner (callee w inner e) (callee_clear e inner t.1) in
        let rest = branches_clear bs locals r.1 in
        record {
          apart = (body.apart, rest.apart);
          none =
              both_none locals (proper.bound_by (pattern_of w p))
              (inner_names (meant w inner e) ++ inner_branches (meant_branches w locals bs)) (one_none locals p t.0)
              (both_none locals (inner_names (meant w inner e)) (inner_branches (meant_branches w locals bs))
              (outer_none (words_of p) locals (inner_names (meant w inner e)) body.none) rest.none);
        }

    definitions_clear : (ds : tree.Definitions) (before : Option Annotation) (locals : Locals)
        → AreSound w (joined_sites (definitions_sites w locals ds))
        → AllByRecursion (ClearMade locals) (made_in w locals before ds)
    definitions_clear tree.NoDefinition before locals q = tt
    definitions_clear (tree.MoreDefinition d ds) before locals q =
        let r = sound_split w (definition_sites w locals d) (joined_sites (definitions_sites w locals ds)) q in
        (definition_clear d before locals r.0, definitions_clear ds (annotation_of w d) locals r.1)

    definition_clear : (d : tree.Definition) (before : Option Annotation) (locals : Locals)
        → AreSound w (definition_sites w locals d) → ClearMade locals (made_by w locals before d)
    definition_clear (tree.Annotate x t) before locals q = tt
    definition_clear (tree.Define x ps e) before locals q =
        let inner = with_names (words_of_all ps) locals in
        let r = sound_split w (list_sites locals ps) (expr_sites w inner e) q in
        define_clear locals (is_function ps e) (title_of (Local (name_of x)) x.place before) (patterns_of w ps)
        (meant w inner e) (list_none locals ps r.0)
        (outer_clear (words_of_all ps) locals (meant w inner e)
        (finished_clear inner (callee w inner e) (callee_clear e inner r.1)))
    definition_clear (tree.Destructure p e) before locals q =
        let r = sound_split w (match_sites p) (expr_sites w locals e) q in
        finished_clear locals (callee w locals e) (callee_clear e locals r.1)

  pub meant_clear : (e : tree.Expr) (locals : Locals) → AreSound w (expr_sites w locals e)
      → Clear locals (meant w locals e)
  meant_clear e locals q = finished_clear locals (callee w locals e) (callee_clear e locals q)

pub expr_apart : (w : World) (locals : Locals) (e : tree.Expr) → flat_map (faults_at w) (expr_sites w locals e) ≡ []
    → LetsApart (meant w locals e)
expr_apart w locals e none_ = (meant_clear w e locals (sound_sites w (expr_sites w locals e) none_)).apart
