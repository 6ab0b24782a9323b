-- Lists of parts: what they mean and their sites, one after the other.
use Rattle.std.proofs.Common.{◌≡◌, List, [], ◌∷◌, ◌++◌, Option, map, refl, sym, ap, ◌∙◌}
use Rattle.std.proofs.Common.{append-nil, ℕ, take}
use Rattle.std.specs.List.{flat_map}
use Rattle.std.proofs.lemmas.Grind.{flat_map-append}
use Rattle.elm_tree.specs.Tree.{Expr, Word, Definition, exprs_of, parts_of, branches_of, definitions_of}
use Rattle.elm_tree.specs.View.{WordExpr, BranchView}
use Rattle.elm_canon.specs.Tree as canon
use Rattle.elm_canon.specs.Tree.{Annotation}
use Rattle.canon_env.specs.Naming.{World}
use Rattle.canon_env.specs.Locals.{Locals, with_names}
use Rattle.canon_env.specs.Sites.{Site, OperatorUse}
use Rattle.canon_env.specs.Patterns.{pattern_of, pattern_sites, words_of}
use Rattle.canon_expr.specs.Callees.{Callee}
use Rattle.canon_expr.specs.Binding.{uses_among}
use Rattle.canon_expr.specs.Blocks.{joined_sites}
use Rattle.canon_expr.specs.Exprs.{expr_sites, exprs_sites, part_sites, chain_sites, branch_sites, definitions_sites}
use Rattle.canon_expr.specs.Exprs.{definition_sites, callee, meant, meant_each, meant_parts, callees, meant_branches}
use Rattle.canon_expr.specs.Exprs.{made_in, made_by, annotation_of}

pub joined_next : (each : List (List Site)) (sites : List Site) →
    joined_sites (each ++ sites ∷ []) ≡ joined_sites each ++ sites
joined_next each sites =
    flat_map-append (λ sites. sites) each (sites ∷ []) ∙ ap (λ r. joined_sites each ++ r) (append-nil sites)

-- one more, where it is known what stands before it and what it is
pub one_more : {X : Type 0} {new old before : List X} {x y : X} → new ≡ old ++ x ∷ [] → old ≡ before → x ≡ y →
    new ≡ before ++ y ∷ []
one_more {old = old} {before = before} {x = x} e h g = e ∙ ap (λ l. l ++ x ∷ []) h ∙ ap (λ z. before ++ z ∷ []) g

module _ (w : World) (locals : Locals) where
  pub each_meant : (es : List Expr) → meant_each w locals (exprs_of es) ≡ map (meant w locals) es
  each_meant [] = refl
  each_meant (e ∷ es) = ap (λ l. meant w locals e ∷ l) (each_meant es)

  pub each_sites : (es : List Expr) → exprs_sites w locals (exprs_of es) ≡ flat_map (expr_sites w locals) es
  each_sites [] = refl
  each_sites (e ∷ es) = ap (λ l. expr_sites w locals e ++ l) (each_sites es)

  abbrev pub part_meant : WordExpr → canon.Expr
  part_meant p = meant w locals p.1

  pub parts_meant : (ps : List WordExpr) → meant_parts w locals (parts_of ps) ≡ map part_meant ps
  parts_meant [] = refl
  parts_meant (p ∷ ps) = ap (λ l. meant w locals p.1 ∷ l) (parts_meant ps)

  abbrev pub one_part_sites : WordExpr → List Site
  one_part_sites p = expr_sites w locals p.1

  pub parts_sites : (ps : List WordExpr) → part_sites w locals (parts_of ps) ≡ flat_map one_part_sites ps
  parts_sites [] = refl
  parts_sites (p ∷ ps) = ap (λ l. expr_sites w locals p.1 ++ l) (parts_sites ps)

  abbrev pub operand : WordExpr → Word × Callee
  operand p = (p.0, callee w locals p.1)

  pub operands_mean : (ps : List WordExpr) → callees w locals (parts_of ps) ≡ map operand ps
  operands_mean [] = refl
  operands_mean (p ∷ ps) = ap (λ l. operand p ∷ l) (operands_mean ps)

  abbrev pub operand_sites : WordExpr → List Site
  operand_sites p = OperatorUse p.0 ∷ expr_sites w locals p.1

  pub operands_sites : (ps : List WordExpr) → chain_sites w locals (parts_of ps) ≡ flat_map operand_sites ps
  operands_sites [] = refl
  operands_sites (p ∷ ps) = ap (λ l. OperatorUse p.0 ∷ expr_sites w locals p.1 ++ l) (operands_sites ps)

  abbrev pub branch_meant : BranchView → canon.Pattern × canon.Expr
  branch_meant b = (pattern_of w b.0, meant w (with_names (words_of b.0) locals) b.1)

  pub branches_mean : (bs : List BranchView) →
      meant_branches w locals (branches_of bs) ≡ canon.branches_of (map branch_meant bs)
  branches_mean [] = refl
  branches_mean (b ∷ bs) =
      ap (canon.MoreBranch (pattern_of w b.0) (meant w (with_names (words_of b.0) locals) b.1)) (branches_mean bs)

  abbrev pub one_branch_sites : BranchView → List Site
  one_branch_sites b = pattern_sites locals b.0 ++ expr_sites w (with_names (words_of b.0) locals) b.1

  pub branches_sites : (bs : List BranchView) → branch_sites w locals (branches_of bs) ≡ flat_map one_branch_sites bs
  branches_sites [] = refl
  branches_sites (b ∷ bs) = ap (λ l. one_branch_sites b ++ l) (branches_sites bs)

  pub each_definition : (ds : List Definition) →
      definitions_sites w locals (definitions_of ds) ≡ map (definition_sites w locals) ds
  each_definition [] = refl
  each_definition (d ∷ ds) = ap (λ l. definition_sites w locals d ∷ l) (each_definition ds)

  -- the annotation that stands after definitions
  abbrev pub annotated : Option Annotation → List Definition → Option Annotation
  annotated before [] = before
  annotated before (d ∷ ds) = annotated (annotation_of w d) ds

  pub annotated_next : (before : Option Annotation) (ds : List Definition) (d : Definition) →
      annotated before (ds ++ d ∷ []) ≡ annotation_of w d
  annotated_next before [] d = refl
  annotated_next before (e ∷ ds) d = annotated_next (annotation_of w e) ds d

  pub made_next : (before : Option Annotation) (ds : List Definition) (d : Definition) →
      made_in w locals before (definitions_of (ds ++ d ∷ []))
      ≡ made_in w locals before (definitions_of ds) ++ made_by w locals (annotated before ds) d ∷ []
  made_next before [] d = refl
  made_next before (e ∷ ds) d =
      ap (λ l. made_by w locals before e ∷ l) (made_next (annotation_of w e) ds d)

-- what all definitions of a block use
pub uses_are : {X : Type 0} (w : World) (locals : Locals) (each : List (List Word)) (view : X → Definition) (ds : List X)
    (i : ℕ) (uses : List (List ℕ)) → take i ds ≡ ds →
    uses ≡ uses_among w each (map (definition_sites w locals) (map view (take i ds))) →
    uses ≡ uses_among w each (definitions_sites w locals (definitions_of (map view ds)))
uses_are w locals each view ds i uses all h =
    h ∙ ap (λ es. uses_among w each (map (definition_sites w locals) (map view es))) all
    ∙ ap (uses_among w each) (sym (each_definition w locals (map view ds)))
