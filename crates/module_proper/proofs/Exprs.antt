-- What expressions mean mentions the constructors alone that names mean.
use Rattle.std.proofs.Common.{◌∷◌}
use Rattle.std.specs.Prelude.{Option, None}
use Rattle.std.specs.List.{AllByRecursion}
use Rattle.elm_tree.specs.Tree as tree
use Rattle.elm_canon.specs.Tree as canon
use Rattle.elm_canon.specs.Tree.{Annotation}
use Rattle.elm_canon.specs.declared.reference.Ref.TheVariants.{Local}
use Rattle.canon_env.specs.Imports.{name_of}
use Rattle.canon_env.specs.Naming.{World}
use Rattle.canon_env.specs.Locals.{Locals, with_names}
use Rattle.canon_env.specs.Sites.{value_meaning}
use Rattle.canon_env.specs.Patterns.{words_of, words_of_all, pattern_of, patterns_of}
use Rattle.canon_expr.specs.Binding.{is_function, bound_in, bound_by_each, uses_among}
use Rattle.canon_expr.specs.Blocks.{title_of}
use Rattle.canon_expr.specs.Exprs.{definitions_sites, callee, meant, meant_each, meant_parts, callees}
use Rattle.canon_expr.specs.Exprs.{meant_branches, made_in, made_by, annotation_of, long_word, base_value}
use Rattle.elm_canon.specs.Mentions.{Condition, IsLocal, Mentions, BranchesMention}
use Rattle.module_proper.specs.Laws.{Meets, AllMeet}
use Rattle.module_proper.proofs.Parts.{all_both, bound_local, pattern_takes, patterns_take, Each, each_of, accessed_of}
use Rattle.module_proper.proofs.Calls.{CalleeMentions, AreOthers, finished_of, value_mentions, maker_mentions}
use Rattle.module_proper.proofs.Calls.{function_mentions, chain_mentions}
use Rattle.module_proper.proofs.Blocks.{MadeMentions, define_mentions, let_mentions}

module _ (P B : Condition) (meets : Meets P) (w : World) (taken : AllMeet P w) (built : AllMeet B w) where
  mutual
    pub callee_of : (e : tree.Expr) (locals : Locals) → CalleeMentions P B (callee w locals e)
    callee_of (tree.Is p l) locals = (tt, tt)
    callee_of (tree.Name x) locals = (value_mentions P B x (value_meaning w locals x), tt)
    callee_of (tree.Constructor x) locals = (maker_mentions P B w built x, tt)
    callee_of (tree.OperatorName op) locals = (function_mentions P B op, tt)
    callee_of (tree.Accessor x) locals = (tt, tt)
    callee_of (tree.Lambda p ps e) locals = (
      (
        patterns_take P meets w taken ps,
        finished_of P B (callee w (with_names (words_of_all ps) locals) e)
            (callee_of e (with_names (words_of_all ps) locals)),
      ),
      tt,
    )
    callee_of (tree.Apply f es) locals =
        let h = callee_of f locals in
        (h.0, all_both (Mentions P B) (callee w locals f).arguments (meant_each w locals es) h.1 (each_is es locals))
    callee_of (tree.Chain e ps) locals =
        chain_mentions P B (callee w locals e) (callees w locals ps) (callee_of e locals) (operands_of ps locals)
    callee_of (tree.Negate p e) locals = ((tt, (finished_of P B (callee w locals e) (callee_of e locals), tt)), tt)
    callee_of (tree.If c a b) locals = (
      (
        finished_of P B (callee w locals c) (callee_of c locals),
        (
          finished_of P B
              (callee w locals a) (callee_of a locals),
          finished_of P B (callee w locals b) (callee_of b locals),
        ),
      ),
      tt,
    )
    callee_of (tree.Case p e bs) locals = (
      (
        finished_of P B (callee w locals e)
            (callee_of e locals),
        branches_of bs locals,
      ),
      tt,
    )
    callee_of (tree.Let ds e) locals =
        let inner = with_names (bound_in ds) locals in (
          (
            let_mentions P B (uses_among w (bound_by_each ds) (definitions_sites w inner ds)) (made_in w inner None ds)
                (definitions_of ds None inner),
            finished_of P B (callee w inner e) (callee_of e inner),
          ),
          tt,
        )
    callee_of (tree.ListOf p es) locals = ((tt, each_of P B (meant_each w locals es) (each_is es locals)), tt)
    callee_of (tree.TupleOf p es) locals = ((tt, each_of P B (meant_each w locals es) (each_is es locals)), tt)
    callee_of (tree.RecordOf p fs) locals = ((tt, each_of P B (meant_parts w locals fs) (parts_of fs locals)), tt)
    callee_of (tree.Update p x fs) locals =
        let base = value_mentions P B (long_word x) (value_meaning w locals (long_word x)) in
        ((tt, each_of P B (base_value w locals x ∷ meant_parts w locals fs) (base, parts_of fs locals)), tt)
    callee_of (tree.Access p e xs) locals = (
      accessed_of P B (meant w locals e) xs (finished_of P B
          (callee w locals e) (callee_of e locals)),
      tt,
    )

    each_is : (es : tree.Exprs) (locals : Locals) → Each P B (meant_each w locals es)
    each_is tree.NoExpr locals = tt
    each_is (tree.MoreExpr e es) locals =
        (finished_of P B (callee w locals e) (callee_of e locals), each_is es locals)

    parts_of : (fs : tree.Parts) (locals : Locals) → Each P B (meant_parts w locals fs)
    parts_of tree.NoPart locals = tt
    parts_of (tree.MorePart x e fs) locals =
        (finished_of P B (callee w locals e) (callee_of e locals), parts_of fs locals)

    operands_of : (ps : tree.Parts) (locals : Locals) → AreOthers P B (callees w locals ps)
    operands_of tree.NoPart locals = tt
    operands_of (tree.MorePart op e ps) locals = (callee_of e locals, operands_of ps locals)

    branches_of : (bs : tree.Branches) (locals : Locals) → BranchesMention P B (meant_branches w locals bs)
    branches_of tree.NoBranch locals = tt
    branches_of (tree.MoreBranch q e bs) locals =
        let inner = with_names (words_of q) locals in (
          pattern_takes P meets w taken q,
          (finished_of P B (callee w inner e) (callee_of e inner), branches_of bs locals),
        )

    definitions_of : (ds : tree.Definitions) (before : Option Annotation) (locals : Locals)
        → AllByRecursion (MadeMentions IsLocal P B) (made_in w locals before ds)
    definitions_of tree.NoDefinition before locals = tt
    definitions_of (tree.MoreDefinition d ds) before locals =
        (definition_of d before locals, definitions_of ds (annotation_of w d) locals)

    definition_of : (d : tree.Definition) (before : Option Annotation) (locals : Locals)
        → MadeMentions IsLocal P B (made_by w locals before d)
    definition_of (tree.Annotate x t) before locals = tt
    definition_of (tree.Define x ps e) before locals =
        let inner = with_names (words_of_all ps) locals in
        define_mentions IsLocal P B (is_function ps e) (title_of (Local (name_of x)) x.place before) (patterns_of w ps)
        (meant w inner e) tt (patterns_take P meets w taken ps)
        (finished_of P B (callee w inner e) (callee_of e inner))
    definition_of (tree.Destructure q e) before locals = (
      bound_local (pattern_of w q),
      (pattern_takes P meets w taken q, finished_of P B (callee w locals e) (callee_of e locals)),
    )

  pub expr_mentions : (e : tree.Expr) (locals : Locals) → Mentions P B (meant w locals e)
  expr_mentions e locals = finished_of P B (callee w locals e) (callee_of e locals)
