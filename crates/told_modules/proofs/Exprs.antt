-- What expressions mean has fields, where the updates that are written name some.
use Rattle.std.proofs.Common.{◌∷◌}
use Rattle.std.specs.Prelude.{Option, None, map}
use Rattle.std.specs.List.{AllByRecursion}
use Rattle.elm_tree.specs.Tree as tree
use Rattle.elm_canon.specs.Tree.{Annotation}
use Rattle.elm_canon.specs.declared.reference.Ref.TheVariants.{Local}
use Rattle.canon_env.specs.Imports.{name_of}
use Rattle.canon_env.specs.Naming.{World, maker_found}
use Rattle.canon_env.specs.Locals.{Locals, with_names}
use Rattle.canon_env.specs.Sites.{value_meaning}
use Rattle.canon_env.specs.Patterns.{words_of, words_of_all, patterns_of}
use Rattle.canon_expr.specs.Binding.{is_function, bound_in, bound_by_each, uses_among}
use Rattle.canon_expr.specs.Blocks.{title_of}
use Rattle.canon_expr.specs.Exprs.{definitions_sites, callee, meant, meant_each, meant_parts, callees}
use Rattle.canon_expr.specs.Exprs.{meant_branches, made_in, made_by, annotation_of, long_word, base_value}
use Rattle.canon_expr.specs.Exprs.{part_words}
use Rattle.typed_values.specs.Simple.{IsSome}
use Rattle.told_modules.specs.Resolved.{HasFields, BranchesHaveFields}
use Rattle.elm_tree.specs.Written.{HasPart, UpdatesSome, EachUpdatesSome, PartsUpdateSome, BranchesUpdateSome}
use Rattle.elm_tree.specs.Written.{DefinitionsUpdateSome, DefinitionUpdatesSome}
use Rattle.told_modules.proofs.Parts.{all_both, pattern_has, patterns_have, Each, each_of, accessed_of}
use Rattle.told_modules.proofs.Calls.{CalleeHasFields, AreOthers, finished_of, value_has, maker_has, function_has}
use Rattle.told_modules.proofs.Calls.{chain_has}
use Rattle.told_modules.proofs.Blocks.{MadeHasFields, define_has, let_has}

some_names : (fs : tree.Parts) → HasPart fs → IsSome (map name_of (part_words fs))
some_names tree.NoPart h = absurd h
some_names (tree.MorePart x e fs) h = tt

module _ (w : World) where
  mutual
    callee_of : (e : tree.Expr) (locals : Locals) → UpdatesSome e → CalleeHasFields (callee w locals e)
    callee_of (tree.Is p l) locals h = (tt, tt)
    callee_of (tree.Name x) locals h = (value_has x (value_meaning w locals x), tt)
    callee_of (tree.Constructor x) locals h = (maker_has x (maker_found w x), tt)
    callee_of (tree.OperatorName op) locals h = (function_has op, tt)
    callee_of (tree.Accessor x) locals h = (tt, tt)
    callee_of (tree.Lambda p ps e) locals h =
        let inner = with_names (words_of_all ps) locals in
        ((patterns_have w ps, finished_of (callee w inner e) (callee_of e inner h)), tt)
    callee_of (tree.Apply f es) locals h =
        let k = callee_of f locals h.0 in
        (k.0, all_both HasFields (callee w locals f).arguments (meant_each w locals es) k.1 (each_is es locals h.1))
    callee_of (tree.Chain e ps) locals h =
        chain_has (callee w locals e) (callees w locals ps) (callee_of e locals h.0) (operands_of ps locals h.1)
    callee_of (tree.Negate p e) locals h = ((tt, (finished_of (callee w locals e) (callee_of e locals h), tt)), tt)
    callee_of (tree.If c a b) locals h =
        let yes = finished_of (callee w locals a) (callee_of a locals h.1.0) in
        let no = finished_of (callee w locals b) (callee_of b locals h.1.1) in
        ((finished_of (callee w locals c) (callee_of c locals h.0), (yes, no)), tt)
    callee_of (tree.Case p e bs) locals h =
        ((finished_of (callee w locals e) (callee_of e locals h.0), branches_of bs locals h.1), tt)
    callee_of (tree.Let ds e) locals h =
        let inner = with_names (bound_in ds) locals in (
          (
            let_has (uses_among w (bound_by_each ds) (definitions_sites w inner ds)) (made_in w inner None ds)
                (definitions_of ds None inner h.0),
            finished_of (callee w inner e) (callee_of e inner h.1),
          ),
          tt,
        )
    callee_of (tree.ListOf p es) locals h = ((tt, each_of (meant_each w locals es) (each_is es locals h)), tt)
    callee_of (tree.TupleOf p es) locals h = ((tt, each_of (meant_each w locals es) (each_is es locals h)), tt)
    callee_of (tree.RecordOf p fs) locals h = ((tt, each_of (meant_parts w locals fs) (parts_of fs locals h)), tt)
    callee_of (tree.Update p x fs) locals h =
        let base = value_has (long_word x) (value_meaning w locals (long_word x)) in
        let parts = each_of (base_value w locals x ∷ meant_parts w locals fs) (base, parts_of fs locals h.1) in
        ((some_names fs h.0, parts), tt)
    callee_of (tree.Access p e xs) locals h =
        (accessed_of (meant w locals e) xs (finished_of (callee w locals e) (callee_of e locals h)), tt)

    each_is : (es : tree.Exprs) (locals : Locals) → EachUpdatesSome es → Each (meant_each w locals es)
    each_is tree.NoExpr locals h = tt
    each_is (tree.MoreExpr e es) locals h =
        (finished_of (callee w locals e) (callee_of e locals h.0), each_is es locals h.1)

    parts_of : (fs : tree.Parts) (locals : Locals) → PartsUpdateSome fs → Each (meant_parts w locals fs)
    parts_of tree.NoPart locals h = tt
    parts_of (tree.MorePart x e fs) locals h =
        (finished_of (callee w locals e) (callee_of e locals h.0), parts_of fs locals h.1)

    operands_of : (ps : tree.Parts) (locals : Locals) → PartsUpdateSome ps → AreOthers (callees w locals ps)
    operands_of tree.NoPart locals h = tt
    operands_of (tree.MorePart op e ps) locals h = (callee_of e locals h.0, operands_of ps locals h.1)

    branches_of : (bs : tree.Branches) (locals : Locals) → BranchesUpdateSome bs
        → BranchesHaveFields (meant_branches w locals bs)
    branches_of tree.NoBranch locals h = tt
    branches_of (tree.MoreBranch q e bs) locals h =
        let inner = with_names (words_of q) locals in
        let body = finished_of (callee w inner e) (callee_of e inner h.0) in
        (pattern_has w q, (body, branches_of bs locals h.1))

    definitions_of : (ds : tree.Definitions) (before : Option Annotation) (locals : Locals) → DefinitionsUpdateSome ds
        → AllByRecursion MadeHasFields (made_in w locals before ds)
    definitions_of tree.NoDefinition before locals h = tt
    definitions_of (tree.MoreDefinition d ds) before locals h =
        (definition_of d before locals h.0, definitions_of ds (annotation_of w d) locals h.1)

    definition_of : (d : tree.Definition) (before : Option Annotation) (locals : Locals) → DefinitionUpdatesSome d
        → MadeHasFields (made_by w locals before d)
    definition_of (tree.Annotate x t) before locals h = tt
    definition_of (tree.Define x ps e) before locals h =
        let inner = with_names (words_of_all ps) locals in
        define_has (is_function ps e) (title_of (Local (name_of x)) x.place before) (patterns_of w ps)
        (meant w inner e) (patterns_have w ps) (finished_of (callee w inner e) (callee_of e inner h))
    definition_of (tree.Destructure q e) before locals h =
        (pattern_has w q, finished_of (callee w locals e) (callee_of e locals h))

  pub expr_of : (e : tree.Expr) (locals : Locals) → UpdatesSome e → HasFields (meant w locals e)
  expr_of e locals h = finished_of (callee w locals e) (callee_of e locals h)
