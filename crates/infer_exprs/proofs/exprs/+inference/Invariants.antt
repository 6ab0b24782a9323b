use Rattle.std.proofs.Common.{◌≡◌, ◌≤◌, ◌+◌, ◌*◌, ℕ, List, length, map, take, drop}
use Rattle.std.specs.List.{AllByRecursion}
use Rattle.elm_canon.specs.Tree.{Expr}
use Rattle.infer_steps.specs.Codes.{State}
use Rattle.elm_canon.specs.View.{expr_view, op_view, link_view, branch_view, group_view, linked}
use Rattle.elm_canon.proofs.tree.Group.TheLaws.{the_size}
use Rattle.type_items.specs.Definitions.{Definition as PlainDefinition}
use Rattle.type_walks.specs.Links.{Live}
use Rattle.infer_steps.specs.Ready.{Follows}
use Rattle.infer_steps.specs.Leaving.{without}
use Rattle.infer_steps.specs.View.{here, code_of}
use Rattle.infer_order.specs.Order.{ordered, AreDefinitions}
use Rattle.infer_groups.specs.Defined.{at_child}
use Rattle.infer_groups.specs.Members.{with_named, MembersDone}
use Rattle.infer_groups.specs.Names.{named_views}
use Rattle.infer_groups.specs.Lets.{DefinedFirst}
use denote.Param.Weighed.{most}
use Rattle.infer_parts.specs.Steps.{CanWalk}
use Rattle.infer_parts.specs.Parts.{known_count, OpOpens, ArgumentsWent, BranchesWent}
use Rattle.infer_parts.specs.Chains.{Waits, Winding}
use Rattle.infer_exprs.proofs.exprs.+inference.Given as goal

abbrev pub invariant-walk_parts-loop-index : goal.invariant-walk_parts-loop-index
invariant-walk_parts-loop-index l = record {
  scope : code_of l.scope ≡ code_of l.fn.scope;
  follows : Follows (here l.fn.state) (here l.state);
  live : AllByRecursion (Live (here l.state).depth (here l.state).store) l.variables.items;
  number : length l.variables.items ≡ known_count (op_view l.op) l.count l.index;
  opened : OpOpens (code_of l.fn.scope) l.wanted (op_view l.op) l.count l.position
      (map expr_view (take l.index l.parts))
      l.variables.items (here l.fn.state) (here l.state);
}

abbrev pub invariant-walk_arguments-loop-index : goal.invariant-walk_arguments-loop-index
invariant-walk_arguments-loop-index l = record {
  scope : code_of l.scope ≡ code_of l.fn.scope;
  follows : Follows (here l.fn.state) (here l.state);
  live : AllByRecursion (Live (here l.state).depth (here l.state).store) l.variables.items;
  opened : ArgumentsWent (code_of l.fn.scope) l.position (map expr_view (take l.index l.arguments)) l.variables.items
      (here l.fn.state) (here l.state);
}

abbrev pub invariant-walk_branches-loop-index : goal.invariant-walk_branches-loop-index
invariant-walk_branches-loop-index l = record {
  scope : code_of l.scope ≡ code_of l.fn.scope;
  went : BranchesWent (code_of l.fn.scope) l.subject l.wanted l.position (map branch_view (take l.index l.branches))
      (here l.fn.state) (here l.state);
}

abbrev pub invariant-open_links-loop-left : goal.invariant-open_links-loop-left
invariant-open_links-loop-left l = record {
  few : l.left ≤ length l.links;
  scope : code_of l.scope ≡ code_of l.fn.scope;
  can : CanWalk (code_of l.fn.scope) (here l.state);
  live : Live (here l.state).depth (here l.state).store l.inner;
  waits : Waits (code_of l.fn.scope) l.position (here l.fn.state) l.wanted (map link_view (drop l.left l.links))
      (map (λ vs. vs.items) l.kept.items) (here l.state) l.inner;
}

abbrev pub invariant-close_links-loop-link : goal.invariant-close_links-loop-link
invariant-close_links-loop-link l = record {
  scope : code_of l.scope ≡ code_of l.fn.scope;
  winds : (before : State) (w : ℕ) (e : Expr) → Winding (code_of l.fn.scope) l.position before w e
      (map link_view l.links) (map (λ vs. vs.items) l.fn.kept.items) (here l.fn.state)
      → Winding (code_of l.fn.scope) l.position before w (linked e (map link_view (take l.link-index l.links)))
      (map link_view (drop l.link-index l.links)) (map (λ vs. vs.items) l.kept.items) (here l.state);
}

abbrev pub decreases-open_links-loop-left : goal.decreases-open_links-loop-left
decreases-open_links-loop-left l = l.left

-- ---- the calls end: each goes to a smaller tree, or to the same one by one that is ranked lower

abbrev pub decreases-walk : goal.decreases-walk
decreases-walk l = 8 * goal.size-walk l

abbrev pub decreases-walk_part : goal.decreases-walk_part
decreases-walk_part l = 8 * goal.size-walk_part l + 1

abbrev pub decreases-walk_operand : goal.decreases-walk_operand
decreases-walk_operand l = 8 * goal.size-walk_operand l + 1

abbrev pub decreases-walk_callee : goal.decreases-walk_callee
decreases-walk_callee l = 8 * goal.size-walk_callee l + 2

abbrev pub decreases-walk_function : goal.decreases-walk_function
decreases-walk_function l = 8 * goal.size-walk_function l + 2

abbrev pub decreases-walk_branch : goal.decreases-walk_branch
decreases-walk_branch l = 8 * goal.size-walk_branch l

abbrev pub decreases-walk_branches : goal.decreases-walk_branches
decreases-walk_branches l = 8 * goal.size-walk_branches l + 1

abbrev pub decreases-walk_access : goal.decreases-walk_access
decreases-walk_access l = 8 * goal.size-walk_access l + 1

abbrev pub decreases-walk_parts : goal.decreases-walk_parts
decreases-walk_parts l = 8 * goal.size-walk_parts l + 2

abbrev pub decreases-walk_operation : goal.decreases-walk_operation
decreases-walk_operation l = 8 * goal.size-walk_operation l + 3

abbrev pub decreases-walk_arguments : goal.decreases-walk_arguments
decreases-walk_arguments l = 8 * goal.size-walk_arguments l + 2

abbrev pub decreases-open_link : goal.decreases-open_link
decreases-open_link l = 8 * goal.size-open_link l

abbrev pub decreases-open_composed : goal.decreases-open_composed
decreases-open_composed l = 8 * goal.size-open_composed l + 3

abbrev pub decreases-open_after : goal.decreases-open_after
decreases-open_after l = 8 * goal.size-open_after l + 3

abbrev pub decreases-open_decided : goal.decreases-open_decided
decreases-open_decided l = 8 * goal.size-open_decided l + 2

abbrev pub decreases-open_links : goal.decreases-open_links
decreases-open_links l = 8 * goal.size-open_links l + 1

abbrev pub decreases-close_link : goal.decreases-close_link
decreases-close_link l = 8 * goal.size-close_link l

abbrev pub decreases-close_links : goal.decreases-close_links
decreases-close_links l = 8 * goal.size-close_links l + 1

abbrev pub decreases-walk_definition : goal.decreases-walk_definition
decreases-walk_definition l = 8 * goal.size-walk_definition l

abbrev pub decreases-walk_annotated : goal.decreases-walk_annotated
decreases-walk_annotated l = 8 * goal.size-walk_annotated l + 1

abbrev pub decreases-walk_destructured : goal.decreases-walk_destructured
decreases-walk_destructured l = 8 * goal.size-walk_destructured l

abbrev pub decreases-walk_groups : goal.decreases-walk_groups
decreases-walk_groups l = 8 * goal.size-walk_groups l + 3

abbrev pub decreases-walk_members : goal.decreases-walk_members
decreases-walk_members l = 8 * most the_size (map (λ g. g.now) l.groups.now) + 1

abbrev pub decreases-walk_group : goal.decreases-walk_group
decreases-walk_group l = 8 * most the_size (map (λ g. g.now) l.groups.now) + 2

abbrev pub invariant-walk_groups-loop-number : goal.invariant-walk_groups-loop-number
invariant-walk_groups-loop-number l = record {
  left : without l.entered.items (code_of l.scope) ≡ code_of l.fn.scope;
  can : CanWalk (code_of l.scope) (here l.state);
  first : DefinedFirst (code_of l.fn.scope) (code_of l.scope) (ordered (map group_view l.groups)) l.number
      (at_child (here l.fn.state) 0) (here l.state);
}

abbrev pub invariant-walk_members-loop-index : goal.invariant-walk_members-loop-index
invariant-walk_members-loop-index l = record {
  scope : code_of l.scope ≡ with_named (named_views l.opened.names.items) (code_of l.fn.scope);
  can : CanWalk (code_of l.scope) (here l.state);
  done : (g : List PlainDefinition) → AreDefinitions (map (λ g. group_view g.now) l.groups) l.members g
      → MembersDone (code_of l.fn.scope) g l.number l.index (named_views l.opened.names.items) (here l.fn.state)
      (here l.state);
}
