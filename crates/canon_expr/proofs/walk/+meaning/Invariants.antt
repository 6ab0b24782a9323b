use Rattle.std.proofs.Common.{◌≡◌, ◌++◌, ◌<◌, ◌^◌, None, length, map, take}
use Rattle.std.specs.Prelude.{option_map}
use Rattle.std.specs.List.{All, flat_map}
use Rattle.decl_groups.specs.Groups.{plain}
use Rattle.elm_tree.specs.Tree.{definitions_of}
use Rattle.elm_tree.specs.View as tree_view
use Rattle.elm_tree.specs.Turns.{tokens_view}
use Rattle.elm_canon.specs.View.{expr_view, branch_view, annotation_view}
use Rattle.canon_env.specs.Naming.{World}
use Rattle.canon_env.specs.Locals.{Locals}
use Rattle.canon_expr.specs.Scope.{locals_of}
use Rattle.canon_expr.specs.Logs.{Grows}
use Rattle.canon_expr.specs.Chains.{operand_view}
use Rattle.canon_expr.specs.Binding.{bound_by_each, uses_among}
use Rattle.canon_expr.specs.Blocks.{joined_sites}
use Rattle.canon_expr.specs.Kept.{Binds, made_view}
use Rattle.canon_expr.specs.Exprs.{expr_sites, meant, definition_sites, made_in}
use Rattle.canon_expr.specs.Walking.{StandsIn}
use Rattle.canon_expr.proofs.Lists.{part_meant, one_part_sites, operand, operand_sites, branch_meant, one_branch_sites}
use Rattle.canon_expr.proofs.Lists.{annotated}
use Rattle.canon_expr.proofs.walk.+meaning.Given as goal

abbrev pub invariant-meant_each-loop-one : goal.invariant-meant_each-loop-one
invariant-meant_each-loop-one l = record {
  meaning : (w : World) (locals : Locals) → StandsIn l.world l.initial.scope w locals → map expr_view l.meanings.items
      ≡ map (meant w locals) (map (tree_view.expr_view (tokens_view l.tokens)) (take l.one-index l.written));
  log : (w : World) (locals : Locals) → StandsIn l.world l.initial.scope w locals → Grows w l.initial.log l.log
      (flat_map (expr_sites w locals) (map (tree_view.expr_view (tokens_view l.tokens)) (take l.one-index l.written)));
  scope : locals_of l.scope ≡ locals_of l.initial.scope;
}

abbrev pub invariant-meant_parts-loop-field : goal.invariant-meant_parts-loop-field
invariant-meant_parts-loop-field l = record {
  meaning : (w : World) (locals : Locals) → StandsIn l.world l.initial.scope w locals → map expr_view l.meanings.items
      ≡ map expr_view l.initial.meanings.items
      ++ map (part_meant w locals) (map (tree_view.part_view (tokens_view l.tokens)) (take l.field-index l.fields));
  log : (w : World) (locals : Locals) → StandsIn l.world l.initial.scope w locals → Grows w l.initial.log l.log
      (flat_map (one_part_sites w locals) (map (tree_view.part_view (tokens_view l.tokens)) (take l.field-index l.fields)));
  scope : locals_of l.scope ≡ locals_of l.initial.scope;
}

abbrev pub invariant-operands-loop-part : goal.invariant-operands-loop-part
invariant-operands-loop-part l = record {
  meaning : (w : World) (locals : Locals) → StandsIn l.world l.initial.scope w locals →
      map (operand_view (tokens_view l.tokens)) l.operands.items
      ≡ map (operand w locals) (map (tree_view.part_view (tokens_view l.tokens)) (take l.part-index l.parts));
  log : (w : World) (locals : Locals) → StandsIn l.world l.initial.scope w locals → Grows w l.initial.log l.log
      (flat_map (operand_sites w locals) (map (tree_view.part_view (tokens_view l.tokens)) (take l.part-index l.parts)));
  scope : locals_of l.scope ≡ locals_of l.initial.scope;
}

abbrev pub invariant-meant_branches-loop-branch : goal.invariant-meant_branches-loop-branch
invariant-meant_branches-loop-branch l = record {
  meaning : (w : World) (locals : Locals) → StandsIn l.world l.initial.scope w locals →
      map branch_view l.meanings.items
      ≡ map (branch_meant w locals) (map (tree_view.branch_view (tokens_view l.tokens)) (take l.branch-index l.branches));
  log : (w : World) (locals : Locals) → StandsIn l.world l.initial.scope w locals → Grows w l.initial.log l.log
      (flat_map (one_branch_sites w locals)
      (map (tree_view.branch_view (tokens_view l.tokens)) (take l.branch-index l.branches)));
  scope : locals_of l.scope ≡ locals_of l.initial.scope;
}

abbrev pub invariant-defined-loop-definition : goal.invariant-defined-loop-definition
invariant-defined-loop-definition l = record {
  uses : (w : World) (locals : Locals) → StandsIn l.world l.initial.scope w locals → plain l.gathered.uses.items
      ≡ uses_among w
      (bound_by_each (definitions_of (map (tree_view.definition_view (tokens_view l.tokens)) l.definitions)))
      (map (definition_sites w locals)
      (map (tree_view.definition_view (tokens_view l.tokens)) (take l.definition-index l.definitions)));
  made : (w : World) (locals : Locals) → StandsIn l.world l.initial.scope w locals →
      map made_view l.gathered.made.items ≡ made_in w locals None (definitions_of
      (map (tree_view.definition_view (tokens_view l.tokens)) (take l.definition-index l.definitions)));
  before : (w : World) (locals : Locals) → StandsIn l.world l.initial.scope w locals →
      option_map annotation_view l.gathered.before ≡ annotated w locals None
      (map (tree_view.definition_view (tokens_view l.tokens)) (take l.definition-index l.definitions));
  log : (w : World) (locals : Locals) → StandsIn l.world l.initial.scope w locals → Grows w l.initial.log l.log
      (joined_sites (map (definition_sites w locals)
      (map (tree_view.definition_view (tokens_view l.tokens)) (take l.definition-index l.definitions))));
  scope : locals_of l.scope ≡ locals_of l.initial.scope;
  binds : Binds l.gathered.binders
      (bound_by_each (definitions_of (map (tree_view.definition_view (tokens_view l.tokens)) l.definitions)));
  within : All (λ row. All (λ j. j < length
      (bound_by_each (definitions_of (map (tree_view.definition_view (tokens_view l.tokens)) l.definitions)))) row.items)
      l.gathered.uses.items;
  count : length l.gathered.uses.items ≡ l.definition-index;
  few : length l.definitions < 2 ^ 32;
}
