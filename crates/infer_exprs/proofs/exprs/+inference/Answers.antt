use Rattle.std.proofs.Common.{rules, ◌≡◌, ◌<◌, ◌+◌, ◌∷◌, ◌++◌, [], ℕ, suc, List, length, map, take, drop}
use Rattle.std.proofs.Common.{get_or, refl, sym, ap, ◌∙◌, subst, arith, ◌-◌, true}
use Rattle.std.proofs.Common.{false}
use Rattle.std.proofs.lemmas.Grind.{common_steps}
use Rattle.std.proofs.lemmas.List.{length-map, length-append, map-append, append_assoc, append-nil, drop_all}
use Rattle.std.proofs.lemmas.Result.{IfOk-weaker, err_from_is_err_and, on_ok_weaker}
use Rattle.elm_canon.specs.declared.tree.Connective.{Connective}
use Rattle.std.specs.List.{AllByRecursion}
use Rattle.elm_canon.specs.Tree.{Apply, Strict, exprs_of, patterns_of, branches_of, groups_of}
use Rattle.elm_canon.specs.View.{Given, Composed, After, Before, Decided, expr_view, pattern_view, op_view, link_view}
use Rattle.elm_canon.specs.View.{branch_view, group_view, linked, done, accessed}
use Rattle.elm_canon.specs.declared.tree.Expr.{the_lemmas}
use Rattle.type_items.specs.Items.{Wanted, child}
use Rattle.type_walks.specs.Links.{Live}
use Rattle.type_walks.specs.Regions.{below}
use Rattle.type_constructs.proofs.Walking.{count_each}
use Rattle.infer_steps.specs.Codes.{State, Code}
use Rattle.infer_steps.specs.Ready.{Follows, AreWritten}
use Rattle.infer_steps.specs.View.{here, bad_view, code_of}
use Rattle.infer_steps.proofs.Staying.{follows_on}
use Rattle.infer_steps.proofs.Stepping.{still_live, all_still_live, follows_itself}
use Rattle.infer_parts.specs.Formed.{Formed, AllFormed, FormedBranches, FormedOp}
use Rattle.infer_parts.specs.Linked.{FormedLink, FormedLinks}
use Rattle.infer_parts.specs.Chains.{IsInside, OpensOne, Closable, Closes, ClosesStuck, Waits, Winding, Inside, Unwinds}
use Rattle.infer_parts.specs.Chains.{UnwindsStuck}
use Rattle.infer_parts.specs.Steps.{CanWalk, one, two, Went, Stuck}
use Rattle.infer_parts.specs.Parts.{listed, operand_of, operand_place, known_count, OpOpens}
use Rattle.infer_parts.specs.Parts.{CallOpens, function_of, branch_at, BranchesWent, BranchesStuck}
use Rattle.infer_parts.specs.Parts.{ArgumentsWent, ArgumentsStuck}
use Rattle.infer_parts.proofs.Going.{stuck_stopped}
use Rattle.infer_parts.proofs.Placing.{moved, part_done, part_stuck_back, operand_done, operand_stuck_back, can_part}
use Rattle.infer_parts.proofs.Placing.{can_operand, can_on, can_then, live_there}
use Rattle.infer_parts.proofs.Rows.{seen_next, seen_all, drop_next, seen_split, seen_count, item_formed, link_formed}
use Rattle.infer_parts.proofs.Showing.{shown, shown_stuck, alone_went, alone_stuck, name_went, read_at, live_read}
use Rattle.infer_parts.proofs.Operating.{strict_op, op_begun, op_unbegun, op_closes}
use Rattle.infer_parts.proofs.Turning.{next_count, known_enough, enough_at, part_enough, part_count, part_step}
use Rattle.infer_parts.proofs.Turning.{part_stuck, part_go_stuck}
use Rattle.infer_parts.proofs.Calling.{call_begun, call_closes, callee_stuck}
use Rattle.infer_parts.proofs.Forming.{accessed_formed, linked_formed}
use Rattle.infer_parts.proofs.Choosing.{decided_unbegun, decided_opens, left_stuck, if_closes, test_stuck, then_stuck}
use Rattle.infer_parts.proofs.Choosing.{else_stuck, case_closes, subject_stuck, branches_stuck, branches_none}
use Rattle.infer_parts.proofs.Choosing.{branches_next, branches_next_stuck}
use Rattle.infer_parts.proofs.Chaining.{linked_append, waits_stuck}
use Rattle.infer_parts.proofs.Winding.{last_same, waits_more, opening_stuck, winds_end, winds_closable, winds_on}
use Rattle.infer_parts.proofs.Winding.{winds_stuck, back_can, back_live, back_there, inside_can, inside_live}
use Rattle.infer_parts.proofs.Winding.{given_inside, composed_inside, after_inside, before_inside, decided_inside}
use Rattle.infer_parts.proofs.Winding.{given_closed, composed_closed, composed_stopped, after_closed, after_stopped}
use Rattle.infer_parts.proofs.Winding.{before_closed, before_go_stopped, before_stopped, decided_closed}
use Rattle.infer_patterns.specs.Once.{FieldsOnce, EachFieldsOnce}
use Rattle.infer_parts.specs.Reading.{field_view}
use Rattle.infer_parts.proofs.Coding.{can_at, went_at, stuck_at, formed_branch, length_taken, branches_split}
use Rattle.infer_parts.proofs.Coding.{branches_taken, all_taken, branch_is, branch_out, branch_stuck_out, branch_there}
use Rattle.infer_parts.proofs.Coding.{entered_can, entered_live, can_bound, other_error}
use Rattle.infer_parts.proofs.Reading.{ok_on, reads_stuck, reads_live, fields_later}
use Rattle.type_items.specs.Scopes.{Known}
use Rattle.infer_patterns.specs.View.{bound_view}
use Rattle.infer_patterns.specs.Matches.{MatchesPattern, RefusesPattern, MatchesEach, RefusesEach}
use Rattle.infer_parts.proofs.Entering.{branch_went, branch_refused, branch_stuck, function_unbegun, function_went}
use Rattle.infer_parts.proofs.Entering.{function_refused, function_stuck}
use Rattle.elm_canon.specs.Tree as tree
use Rattle.elm_canon.proofs.Views as view
use Rattle.infer_exprs.proofs.exprs.+inference.Goals as goal
use Rattle.infer_parts.proofs.Several.{arguments_none, arguments_next, arguments_stuck}
use Rattle.infer_steps.specs.Begun.{Begun}
use Rattle.infer_steps.specs.Operations.{parameters, function_items, function_types}
use Rattle.infer_steps.specs.Codes as plain
use Rattle.std.proofs.Common.{Some, true}
use Rattle.std.specs.Prelude.{slice_get, is_some}
use Rattle.std.specs.List.{AllZip}
use Rattle.elm_base.specs.declared.position.Pos.{Pos}
use Rattle.elm_canon.specs.declared.reference.Ref.{Ref}
use Rattle.elm_canon.specs.View.{annotation_view, function_view, title_view}
use Rattle.elm_canon.proofs.tree.Group.TheLaws.{the_size}
use Rattle.type_items.specs.Items.{Place, Item}
use Rattle.type_items.specs.Scopes.{Scope}
use Rattle.type_items.specs.Patterns.{pattern_start}
use Rattle.type_items.specs.Expressions.{nowhere, definitions, group_definitions}
use Rattle.type_items.specs.Definitions.{Definition, type_groups, list_group, list_definitions}
use Rattle.type_walks.specs.Regions.{none}
use Rattle.infer_steps.specs.Leaving.{without, without_constant}
use Rattle.infer_order.specs.Order.{ordered, IsDefinition, AreDefinitions, IsOrder, IsSimple}
use Rattle.infer_order.specs.Spots.{in_group, at_spot, has_titles}
use Rattle.infer_order.proofs.Zips.{zip_beside}
use Rattle.infer_groups.specs.Defined.{Defined, DefinitionsStop, group_places, at_child, inside}
use Rattle.infer_groups.specs.Members.{IsTitledAs, MembersDone, GroupDone}
use Rattle.infer_groups.specs.Names.{named_view, named_views}
use Rattle.infer_groups.specs.Laws.{back_at}
use Rattle.infer_groups.specs.Lets.{listed_names}
use Rattle.infer_exprs.specs.Titles.{titles_of, AnnotationsOnce}
use Rattle.infer_parts.specs.Formed.{FormedGroups, FormedGroup}
use Rattle.infer_parts.proofs.Placing.{can_child, follows_back}
use Rattle.infer_exprs.specs.Members.{HasTitle, StandAlone, AreTitled}
use Rattle.infer_exprs.specs.Finished.{GroupStops, InferredStops, AnnotatedWalked, InferredWalked}
use Rattle.infer_exprs.specs.First.{IsAnnotated, IsPattern, AreInferred, IsFirst, StartsAt}
use Rattle.infer_exprs.proofs.Grouping.{all_some, at_number}
use Rattle.infer_exprs.proofs.Around.{can_inside, value_law}
use Rattle.infer_exprs.proofs.Closed.{inferred_stops}
use Rattle.infer_exprs.proofs.Measure.{at_most_ref}
use Rattle.infer_exprs.proofs.Letting.{let_refused, body_can, let_done, body_refused, body_there}
use Rattle.infer_exprs.proofs.Defining.{views, spot_within, within, group_there, formed_there, titles_once}
use Rattle.infer_exprs.proofs.Defining.{annotated_once}
use Rattle.infer_exprs.proofs.Defining.{has_there, starts_there, place_there, function_list, constant_list}
use Rattle.infer_exprs.proofs.Defining.{function_formed}
use Rattle.infer_exprs.proofs.Defining.{function_within, refs_views}
use Rattle.infer_exprs.proofs.Grouped.{member_next, member_stuck, member_is_large, names_count, name_at, members_end}
use Rattle.infer_exprs.proofs.Grouped.{annotated_can, annotated_done, annotated_stuck, annotated_walked}
use Rattle.infer_exprs.proofs.Grouped.{annotated_group_stops, pattern_walked, pattern_stops, of_number, group_of_number}
use Rattle.infer_exprs.proofs.Grouped.{can_finish, turns_none, turns_next, turns_end, turns_stop, names_stop, can_after}
use denote.Param.Weighed.{most}

pub close_link-returns-in-Given-clause-closed : goal.close_link-returns-in-Given-clause-closed
close_link-returns-in-Given-clause-closed t c = λ others own2 before w inside v e is i went. (
    let rest = map (λ vs. vs.items) c.pop.new.self.items in
    let own = c.in-Some.own.items in
    let was : map (λ vs. vs.items) c.args.kept.now.items ≡ rest ++ own ∷ [] =
    ap (map (λ vs. vs.items)) c.in-Some.ensures.items ∙ map-append (λ vs. vs.items) c.pop.new.self.items
    (c.in-Some.own ∷ []) in
    let same = last_same rest others own own2 (sym was ∙ is) in
    let k = subst (λ l. IsInside (code_of c.args.scope.now) c.args.position l own before w inside v)
    (ap link_view c.in-Given.is ∙ view.given c.in-Given.field-0 c.in-Given.field-1)
    (subst (λ o. IsInside (code_of c.args.scope.now) c.args.position (link_view c.args.link.now) o before w inside v)
    (sym same.1) i) in
    let left = c.leave_both.ensures (moved (here c.args.state.now) k.outside.place) 1
    (length (map expr_view c.in-Given.field-1.items))
    (back_there (code_of c.args.scope.now) c.args.position
    (Given (expr_view c.in-Given.field-0.value) (map expr_view c.in-Given.field-1.items)) own before w inside v k
    (here c.args.state.now) went.follows) in
    record {
      is = same.0;
      went = subst (λ l. Went Wanted (code_of c.args.scope.now) (one w) below (listed (done l e) c.args.position) before
          (here c.leave_both.new.state)) (sym (ap link_view c.in-Given.is ∙ view.given c.in-Given.field-0
          c.in-Given.field-1))
          (given_closed (code_of c.args.scope.now) c.args.position own before w inside v e (here c.args.state.now) went
          (expr_view c.in-Given.field-0.value) (map expr_view c.in-Given.field-1.items) k (here c.leave_both.new.state) left);
    })

pub close_link-index-variable-requires : goal.close_link-index-variable-requires
close_link-index-variable-requires t c =
    let rest = map (λ vs. vs.items) c.pop.new.self.items in
    let own = c.in-Some.own.items in
    let was : map (λ vs. vs.items) c.args.kept.now.items ≡ rest ++ own ∷ [] =
    ap (map (λ vs. vs.items)) c.in-Some.ensures.items ∙ map-append (λ vs. vs.items) c.pop.new.self.items
    (c.in-Some.own ∷ []) in
    let r = c.requires.open in
    let same = last_same rest r.others own r.own (sym was ∙ r.is) in
    let k = subst (λ l. IsInside (code_of c.args.scope.now) c.args.position l r.own r.before r.wanted r.inside
    r.variable) (ap link_view c.in-Composed.is ∙ view.composed c.in-Composed.field-0 c.in-Composed.argument) r.opens in
    let left = c.leave_both-in-Composed.ensures (moved (here c.args.state.now) k.outside.place) 1 0
    (back_there (code_of c.args.scope.now) c.args.position
    (Composed (expr_view c.in-Composed.field-0.value) (expr_view c.in-Composed.argument.value)) r.own r.before r.wanted r.inside
    r.variable k (here c.args.state.now) r.follows) in
    let can_ = subst (CanWalk (code_of c.args.scope.now)) (sym left)
    (back_can (code_of c.args.scope.now) c.args.position
    (Composed (expr_view c.in-Composed.field-0.value) (expr_view c.in-Composed.argument.value)) r.own r.before r.wanted r.inside
    r.variable k (here c.args.state.now) r.follows) in
    let live_ = subst (λ (s : State). AllByRecursion (Live s.depth s.store) own) (sym left)
    (subst (AllByRecursion (Live (here c.args.state.now).depth (here c.args.state.now).store)) (sym same.1)
    (back_live (code_of c.args.scope.now) c.args.position
    (Composed (expr_view c.in-Composed.field-0.value) (expr_view c.in-Composed.argument.value)) r.own r.before r.wanted r.inside
    r.variable k (here c.args.state.now) r.follows)) in
    let count_ = ap length same.1 ∙ k.count in
    omega (arith, count_)

pub close_link-walk_operand-requires : goal.close_link-walk_operand-requires
close_link-walk_operand-requires t c =
    let rest = map (λ vs. vs.items) c.pop.new.self.items in
    let own = c.in-Some.own.items in
    let was : map (λ vs. vs.items) c.args.kept.now.items ≡ rest ++ own ∷ [] =
    ap (map (λ vs. vs.items)) c.in-Some.ensures.items ∙ map-append (λ vs. vs.items) c.pop.new.self.items
    (c.in-Some.own ∷ []) in
    let r = c.requires.open in
    let same = last_same rest r.others own r.own (sym was ∙ r.is) in
    let k = subst (λ l. IsInside (code_of c.args.scope.now) c.args.position l r.own r.before r.wanted r.inside
    r.variable) (ap link_view c.in-Composed.is ∙ view.composed c.in-Composed.field-0 c.in-Composed.argument
    ∙ ap (λ x. Composed (expr_view c.in-Composed.field-0.value) (expr_view x)) (sym c.deref.ensures)) r.opens in
    let left = c.leave_both-in-Composed.ensures (moved (here c.args.state.now) k.outside.place) 1 0
    (back_there (code_of c.args.scope.now) c.args.position
    (Composed (expr_view c.in-Composed.field-0.value) (expr_view c.deref.result.now)) r.own r.before r.wanted r.inside
    r.variable k (here c.args.state.now) r.follows) in
    let can_ = subst (CanWalk (code_of c.args.scope.now)) (sym left)
    (back_can (code_of c.args.scope.now) c.args.position
    (Composed (expr_view c.in-Composed.field-0.value) (expr_view c.deref.result.now)) r.own r.before r.wanted r.inside
    r.variable k (here c.args.state.now) r.follows) in
    let live_ = subst (λ (s : State). AllByRecursion (Live s.depth s.store) own) (sym left)
    (subst (AllByRecursion (Live (here c.args.state.now).depth (here c.args.state.now).store)) (sym same.1)
    (back_live (code_of c.args.scope.now) c.args.position
    (Composed (expr_view c.in-Composed.field-0.value) (expr_view c.deref.result.now)) r.own r.before r.wanted r.inside
    r.variable k (here c.args.state.now) r.follows)) in
    let count_ = ap length same.1 ∙ k.count in (
      first_of (omega (arith, c.decreases), search (rules, the_lemmas, c.decreases), search rules),
      (
        can_,
        (
          (subst FormedLink (ap link_view c.in-Composed.is ∙ view.composed c.in-Composed.field-0 c.in-Composed.argument
              ∙ ap (λ x. Composed (expr_view c.in-Composed.field-0.value) (expr_view x)) (sym c.deref.ensures))
              c.requires.formed).1,
          live_read c.leave_both-in-Composed.new.state.depth c.leave_both-in-Composed.new.state.store own 2
              c.index-variable.result.now (omega (arith, count_))
              c.index-variable.ensures live_,
        ),
      ),
    )

pub close_link-returns-in-Composed-clause-closed : goal.close_link-returns-in-Composed-clause-closed
close_link-returns-in-Composed-clause-closed t c =
    on_ok_weaker c.walk_operand.result (λ h. λ others own2 before w inside v e is i went. (
    let rest = map (λ vs. vs.items) c.pop.new.self.items in
    let own = c.in-Some.own.items in
    let was : map (λ vs. vs.items) c.args.kept.now.items ≡ rest ++ own ∷ [] =
    ap (map (λ vs. vs.items)) c.in-Some.ensures.items ∙ map-append (λ vs. vs.items) c.pop.new.self.items
    (c.in-Some.own ∷ []) in
    let same = last_same rest others own own2 (sym was ∙ is) in
    let k = subst (λ l. IsInside (code_of c.args.scope.now) c.args.position l own before w inside v)
    (ap link_view c.in-Composed.is ∙ view.composed c.in-Composed.field-0 c.in-Composed.argument
    ∙ ap (λ x. Composed (expr_view c.in-Composed.field-0.value) (expr_view x)) (sym c.deref.ensures))
    (subst (λ o. IsInside (code_of c.args.scope.now) c.args.position (link_view c.args.link.now) o before w inside v)
    (sym same.1) i) in
    let left = c.leave_both-in-Composed.ensures (moved (here c.args.state.now) k.outside.place) 1 0
    (back_there (code_of c.args.scope.now) c.args.position
    (Composed (expr_view c.in-Composed.field-0.value) (expr_view c.deref.result.now)) own before w inside v k
    (here c.args.state.now) went.follows) in
    record {
      is = same.0;
      went = subst (λ l. Went Wanted (code_of c.args.scope.now) (one w) below (listed (done l e) c.args.position) before
          (here c.walk_operand.new.state)) (sym
          (ap link_view c.in-Composed.is ∙ view.composed c.in-Composed.field-0 c.in-Composed.argument
          ∙ ap (λ x. Composed (expr_view c.in-Composed.field-0.value) (expr_view x)) (sym c.deref.ensures)))
          (composed_closed (code_of c.args.scope.now) c.args.position own before w inside v e (here c.args.state.now)
          went (expr_view c.in-Composed.field-0.value) (expr_view c.deref.result.now) k
          (here c.leave_both-in-Composed.new.state) left c.index-variable.result.now (here c.walk_operand.new.state)
          (read_at own 2 c.index-variable.result.now (let m = k.count in omega (arith, m)) c.index-variable.ensures)
          h);
    }))
    c.walk_operand.ensures.walked

pub close_link-returns-in-Composed-clause-stopped : goal.close_link-returns-in-Composed-clause-stopped
close_link-returns-in-Composed-clause-stopped t c = λ b x others own2 before w inside v e is i went. (
    let rest = map (λ vs. vs.items) c.pop.new.self.items in
    let own = c.in-Some.own.items in
    let was : map (λ vs. vs.items) c.args.kept.now.items ≡ rest ++ own ∷ [] =
    ap (map (λ vs. vs.items)) c.in-Some.ensures.items ∙ map-append (λ vs. vs.items) c.pop.new.self.items
    (c.in-Some.own ∷ []) in
    let same = last_same rest others own own2 (sym was ∙ is) in
    let k = subst (λ l. IsInside (code_of c.args.scope.now) c.args.position l own before w inside v)
    (ap link_view c.in-Composed.is ∙ view.composed c.in-Composed.field-0 c.in-Composed.argument
    ∙ ap (λ x. Composed (expr_view c.in-Composed.field-0.value) (expr_view x)) (sym c.deref.ensures))
    (subst (λ o. IsInside (code_of c.args.scope.now) c.args.position (link_view c.args.link.now) o before w inside v)
    (sym same.1) i) in
    let left = c.leave_both-in-Composed.ensures (moved (here c.args.state.now) k.outside.place) 1 0
    (back_there (code_of c.args.scope.now) c.args.position
    (Composed (expr_view c.in-Composed.field-0.value) (expr_view c.deref.result.now)) own before w inside v k
    (here c.args.state.now) went.follows) in
    subst (λ l. Stuck Wanted (code_of c.args.scope.now) (one w) below (listed (done l e) c.args.position) before
    (here c.walk_operand.new.state) (bad_view b))
    (sym (ap link_view c.in-Composed.is ∙ view.composed c.in-Composed.field-0 c.in-Composed.argument
    ∙ ap (λ x. Composed (expr_view c.in-Composed.field-0.value) (expr_view x)) (sym c.deref.ensures)))
    (composed_stopped (code_of c.args.scope.now) c.args.position own before w inside v e (here c.args.state.now) went
    (expr_view c.in-Composed.field-0.value) (expr_view c.deref.result.now) k (here c.leave_both-in-Composed.new.state)
    left c.index-variable.result.now (here c.walk_operand.new.state) (bad_view b)
    (read_at own 2 c.index-variable.result.now (let m = k.count in omega (arith, m)) c.index-variable.ensures)
    (c.walk_operand.ensures.stopped b x)))

pub close_link-go_on-requires-clause-whole : goal.close_link-go_on-requires-clause-whole
close_link-go_on-requires-clause-whole t c =
    let own = c.in-Some.own.items in
    let r = c.requires.open in
    let k = subst (λ l. IsInside (code_of c.args.scope.now) c.args.position l r.own r.before r.wanted r.inside
    r.variable) (ap link_view c.in-After.is ∙ view.part_after c.in-After.op c.in-After.parts) r.opens in
    let left = c.leave_both-in-After.ensures (moved (here c.args.state.now) k.outside.place) 0
    (length (map expr_view c.in-After.parts.items))
    (back_there (code_of c.args.scope.now) c.args.position
    (After (op_view c.in-After.op) (map expr_view c.in-After.parts.items)) r.own r.before r.wanted r.inside r.variable k
    (here c.args.state.now) r.follows) in
    let can_ = subst (CanWalk (code_of c.args.scope.now)) (sym left)
    (back_can (code_of c.args.scope.now) c.args.position
    (After (op_view c.in-After.op) (map expr_view c.in-After.parts.items)) r.own r.before r.wanted r.inside r.variable k
    (here c.args.state.now) r.follows) in
    can_.ready.whole

pub close_link-go_on-requires-clause-once : goal.close_link-go_on-requires-clause-once
close_link-go_on-requires-clause-once t c =
    (subst FormedLink (ap link_view c.in-After.is ∙ view.part_after c.in-After.op c.in-After.parts)
    c.requires.formed).0.0

pub close_link-go_on-requires-clause-some : goal.close_link-go_on-requires-clause-some
close_link-go_on-requires-clause-some t c =
    let rest = map (λ vs. vs.items) c.pop.new.self.items in
    let own = c.in-Some.own.items in
    let was : map (λ vs. vs.items) c.args.kept.now.items ≡ rest ++ own ∷ [] =
    ap (map (λ vs. vs.items)) c.in-Some.ensures.items ∙ map-append (λ vs. vs.items) c.pop.new.self.items
    (c.in-Some.own ∷ []) in
    let r = c.requires.open in
    let same = last_same rest r.others own r.own (sym was ∙ r.is) in
    let k = subst (λ l. IsInside (code_of c.args.scope.now) c.args.position l r.own r.before r.wanted r.inside
    r.variable) (ap link_view c.in-After.is ∙ view.part_after c.in-After.op c.in-After.parts) r.opens in
    let left = c.leave_both-in-After.ensures (moved (here c.args.state.now) k.outside.place) 0
    (length (map expr_view c.in-After.parts.items))
    (back_there (code_of c.args.scope.now) c.args.position
    (After (op_view c.in-After.op) (map expr_view c.in-After.parts.items)) r.own r.before r.wanted r.inside r.variable k
    (here c.args.state.now) r.follows) in
    let can_ = subst (CanWalk (code_of c.args.scope.now)) (sym left)
    (back_can (code_of c.args.scope.now) c.args.position
    (After (op_view c.in-After.op) (map expr_view c.in-After.parts.items)) r.own r.before r.wanted r.inside r.variable k
    (here c.args.state.now) r.follows) in
    let live_ = subst (λ (s : State). AllByRecursion (Live s.depth s.store) own) (sym left)
    (subst (AllByRecursion (Live (here c.args.state.now).depth (here c.args.state.now).store)) (sym same.1)
    (back_live (code_of c.args.scope.now) c.args.position
    (After (op_view c.in-After.op) (map expr_view c.in-After.parts.items)) r.own r.before r.wanted r.inside r.variable k
    (here c.args.state.now) r.follows)) in
    let count_ = ap length same.1 ∙ k.count in
    let m = known_enough (op_view c.in-After.op) (length (map expr_view c.in-After.parts.items))
    (length (map expr_view c.in-After.parts.items)) k.strict.1 (omega arith) in omega (arith, m, count_)

pub close_link-go_on-requires-clause-live : goal.close_link-go_on-requires-clause-live
close_link-go_on-requires-clause-live t c =
    let rest = map (λ vs. vs.items) c.pop.new.self.items in
    let own = c.in-Some.own.items in
    let was : map (λ vs. vs.items) c.args.kept.now.items ≡ rest ++ own ∷ [] =
    ap (map (λ vs. vs.items)) c.in-Some.ensures.items ∙ map-append (λ vs. vs.items) c.pop.new.self.items
    (c.in-Some.own ∷ []) in
    let r = c.requires.open in
    let same = last_same rest r.others own r.own (sym was ∙ r.is) in
    let k = subst (λ l. IsInside (code_of c.args.scope.now) c.args.position l r.own r.before r.wanted r.inside
    r.variable) (ap link_view c.in-After.is ∙ view.part_after c.in-After.op c.in-After.parts) r.opens in
    let left = c.leave_both-in-After.ensures (moved (here c.args.state.now) k.outside.place) 0
    (length (map expr_view c.in-After.parts.items))
    (back_there (code_of c.args.scope.now) c.args.position
    (After (op_view c.in-After.op) (map expr_view c.in-After.parts.items)) r.own r.before r.wanted r.inside r.variable k
    (here c.args.state.now) r.follows) in
    let live_ = subst (λ (s : State). AllByRecursion (Live s.depth s.store) own) (sym left)
    (subst (AllByRecursion (Live (here c.args.state.now).depth (here c.args.state.now).store)) (sym same.1)
    (back_live (code_of c.args.scope.now) c.args.position
    (After (op_view c.in-After.op) (map expr_view c.in-After.parts.items)) r.own r.before r.wanted r.inside r.variable k
    (here c.args.state.now) r.follows)) in
    live_

pub close_link-returns-in-After-clause-closed : goal.close_link-returns-in-After-clause-closed
close_link-returns-in-After-clause-closed t c =
    on_ok_weaker c.go_on.result (λ h. λ others own2 before w inside v e is i went. (
    let rest = map (λ vs. vs.items) c.pop.new.self.items in
    let own = c.in-Some.own.items in
    let was : map (λ vs. vs.items) c.args.kept.now.items ≡ rest ++ own ∷ [] =
    ap (map (λ vs. vs.items)) c.in-Some.ensures.items ∙ map-append (λ vs. vs.items) c.pop.new.self.items
    (c.in-Some.own ∷ []) in
    let same = last_same rest others own own2 (sym was ∙ is) in
    let k = subst (λ l. IsInside (code_of c.args.scope.now) c.args.position l own before w inside v)
    (ap link_view c.in-After.is ∙ view.part_after c.in-After.op c.in-After.parts)
    (subst (λ o. IsInside (code_of c.args.scope.now) c.args.position (link_view c.args.link.now) o before w inside v)
    (sym same.1) i) in
    let left = c.leave_both-in-After.ensures (moved (here c.args.state.now) k.outside.place) 0
    (length (map expr_view c.in-After.parts.items))
    (back_there (code_of c.args.scope.now) c.args.position
    (After (op_view c.in-After.op) (map expr_view c.in-After.parts.items)) own before w inside v k
    (here c.args.state.now) went.follows) in
    record {
      is = same.0;
      went = subst (λ l. Went Wanted (code_of c.args.scope.now) (one w) below (listed (done l e) c.args.position) before
          (here c.go_on.new.state)) (sym (ap link_view c.in-After.is ∙ view.part_after c.in-After.op c.in-After.parts))
          (after_closed (code_of c.args.scope.now) c.args.position own before w inside v e (here c.args.state.now) went
          (op_view c.in-After.op) (map expr_view c.in-After.parts.items) k (here c.leave_both-in-After.new.state) left
          c.len.result (let m = length-map c.in-After.parts.items expr_view in let z : length
          (map expr_view c.in-After.parts.items) ≡ c.len.result = omega (arith, m, c.len.ensures) in z)
          c.go_on.new.variables.items (here c.go_on.new.state) (h (code_of c.args.scope.now)));
    }))
    c.go_on.ensures.goes

pub close_link-returns-in-After-clause-stopped : goal.close_link-returns-in-After-clause-stopped
close_link-returns-in-After-clause-stopped t c = λ b x others own2 before w inside v e is i went. (
    let rest = map (λ vs. vs.items) c.pop.new.self.items in
    let own = c.in-Some.own.items in
    let was : map (λ vs. vs.items) c.args.kept.now.items ≡ rest ++ own ∷ [] =
    ap (map (λ vs. vs.items)) c.in-Some.ensures.items ∙ map-append (λ vs. vs.items) c.pop.new.self.items
    (c.in-Some.own ∷ []) in
    let same = last_same rest others own own2 (sym was ∙ is) in
    let k = subst (λ l. IsInside (code_of c.args.scope.now) c.args.position l own before w inside v)
    (ap link_view c.in-After.is ∙ view.part_after c.in-After.op c.in-After.parts)
    (subst (λ o. IsInside (code_of c.args.scope.now) c.args.position (link_view c.args.link.now) o before w inside v)
    (sym same.1) i) in
    let left = c.leave_both-in-After.ensures (moved (here c.args.state.now) k.outside.place) 0
    (length (map expr_view c.in-After.parts.items))
    (back_there (code_of c.args.scope.now) c.args.position
    (After (op_view c.in-After.op) (map expr_view c.in-After.parts.items)) own before w inside v k
    (here c.args.state.now) went.follows) in
    subst (λ l. Stuck Wanted (code_of c.args.scope.now) (one w) below (listed (done l e) c.args.position) before
    (here c.go_on.new.state) (bad_view b))
    (sym (ap link_view c.in-After.is ∙ view.part_after c.in-After.op c.in-After.parts))
    (after_stopped (code_of c.args.scope.now) c.args.position own before w inside v e (here c.args.state.now) went
    (op_view c.in-After.op) (map expr_view c.in-After.parts.items) k (here c.leave_both-in-After.new.state) left
    c.len.result (let m = length-map c.in-After.parts.items expr_view in let z : length
    (map expr_view c.in-After.parts.items) ≡ c.len.result = omega (arith, m, c.len.ensures) in z)
    (here c.go_on.new.state) (bad_view b) (c.go_on.ensures.stops b x (code_of c.args.scope.now))))

pub close_link-go_on-requires-in-Before-clause-whole : goal.close_link-go_on-requires-in-Before-clause-whole
close_link-go_on-requires-in-Before-clause-whole t c =
    let own = c.in-Some.own.items in
    let r = c.requires.open in
    let k = subst (λ l. IsInside (code_of c.args.scope.now) c.args.position l r.own r.before r.wanted r.inside
    r.variable) (ap link_view c.in-Before.is ∙ view.part_before c.in-Before.op c.in-Before.part) r.opens in
    let left = c.leave_both-in-Before.ensures (moved (here c.args.state.now) k.outside.place) 0 0
    (back_there (code_of c.args.scope.now) c.args.position
    (Before (op_view c.in-Before.op) (expr_view c.in-Before.part.value)) r.own r.before r.wanted r.inside r.variable k
    (here c.args.state.now) r.follows) in
    let can_ = subst (CanWalk (code_of c.args.scope.now)) (sym left)
    (back_can (code_of c.args.scope.now) c.args.position (Before (op_view c.in-Before.op) (expr_view c.in-Before.part.value))
    r.own r.before r.wanted r.inside r.variable k (here c.args.state.now) r.follows) in
    can_.ready.whole

pub close_link-go_on-requires-in-Before-clause-once : goal.close_link-go_on-requires-in-Before-clause-once
close_link-go_on-requires-in-Before-clause-once t c =
    (subst FormedLink (ap link_view c.in-Before.is ∙ view.part_before c.in-Before.op c.in-Before.part)
    c.requires.formed).0.0

pub close_link-go_on-requires-in-Before-clause-some : goal.close_link-go_on-requires-in-Before-clause-some
close_link-go_on-requires-in-Before-clause-some t c =
    let rest = map (λ vs. vs.items) c.pop.new.self.items in
    let own = c.in-Some.own.items in
    let was : map (λ vs. vs.items) c.args.kept.now.items ≡ rest ++ own ∷ [] =
    ap (map (λ vs. vs.items)) c.in-Some.ensures.items ∙ map-append (λ vs. vs.items) c.pop.new.self.items
    (c.in-Some.own ∷ []) in
    let r = c.requires.open in
    let same = last_same rest r.others own r.own (sym was ∙ r.is) in
    let k = subst (λ l. IsInside (code_of c.args.scope.now) c.args.position l r.own r.before r.wanted r.inside
    r.variable) (ap link_view c.in-Before.is ∙ view.part_before c.in-Before.op c.in-Before.part) r.opens in
    let left = c.leave_both-in-Before.ensures (moved (here c.args.state.now) k.outside.place) 0 0
    (back_there (code_of c.args.scope.now) c.args.position
    (Before (op_view c.in-Before.op) (expr_view c.in-Before.part.value)) r.own r.before r.wanted r.inside r.variable k
    (here c.args.state.now) r.follows) in
    let can_ = subst (CanWalk (code_of c.args.scope.now)) (sym left)
    (back_can (code_of c.args.scope.now) c.args.position (Before (op_view c.in-Before.op) (expr_view c.in-Before.part.value))
    r.own r.before r.wanted r.inside r.variable k (here c.args.state.now) r.follows) in
    let live_ = subst (λ (s : State). AllByRecursion (Live s.depth s.store) own) (sym left)
    (subst (AllByRecursion (Live (here c.args.state.now).depth (here c.args.state.now).store)) (sym same.1)
    (back_live (code_of c.args.scope.now) c.args.position (Before (op_view c.in-Before.op) (expr_view c.in-Before.part.value))
    r.own r.before r.wanted r.inside r.variable k (here c.args.state.now) r.follows)) in
    let count_ = ap length same.1 ∙ k.count in
    let m = known_enough (op_view c.in-Before.op) 1 0 k.strict.1 (omega arith) in omega (arith, m, count_)

pub close_link-go_on-requires-in-Before-clause-live : goal.close_link-go_on-requires-in-Before-clause-live
close_link-go_on-requires-in-Before-clause-live t c =
    let rest = map (λ vs. vs.items) c.pop.new.self.items in
    let own = c.in-Some.own.items in
    let was : map (λ vs. vs.items) c.args.kept.now.items ≡ rest ++ own ∷ [] =
    ap (map (λ vs. vs.items)) c.in-Some.ensures.items ∙ map-append (λ vs. vs.items) c.pop.new.self.items
    (c.in-Some.own ∷ []) in
    let r = c.requires.open in
    let same = last_same rest r.others own r.own (sym was ∙ r.is) in
    let k = subst (λ l. IsInside (code_of c.args.scope.now) c.args.position l r.own r.before r.wanted r.inside
    r.variable) (ap link_view c.in-Before.is ∙ view.part_before c.in-Before.op c.in-Before.part) r.opens in
    let left = c.leave_both-in-Before.ensures (moved (here c.args.state.now) k.outside.place) 0 0
    (back_there (code_of c.args.scope.now) c.args.position
    (Before (op_view c.in-Before.op) (expr_view c.in-Before.part.value)) r.own r.before r.wanted r.inside r.variable k
    (here c.args.state.now) r.follows) in
    let live_ = subst (λ (s : State). AllByRecursion (Live s.depth s.store) own) (sym left)
    (subst (AllByRecursion (Live (here c.args.state.now).depth (here c.args.state.now).store)) (sym same.1)
    (back_live (code_of c.args.scope.now) c.args.position (Before (op_view c.in-Before.op) (expr_view c.in-Before.part.value))
    r.own r.before r.wanted r.inside r.variable k (here c.args.state.now) r.follows)) in
    live_

pub close_link-returns-in_err-go_on-in-Before-clause-stopped :
    goal.close_link-returns-in_err-go_on-in-Before-clause-stopped
close_link-returns-in_err-go_on-in-Before-clause-stopped t c = λ b x others own2 before w inside v e is i went. (
    let p = err_from_is_err_and c.from_residual.result c.from_residual.ensures.1 in
    let rest = map (λ vs. vs.items) c.pop.new.self.items in
    let own = c.in-Some.own.items in
    let was : map (λ vs. vs.items) c.args.kept.now.items ≡ rest ++ own ∷ [] =
    ap (map (λ vs. vs.items)) c.in-Some.ensures.items ∙ map-append (λ vs. vs.items) c.pop.new.self.items
    (c.in-Some.own ∷ []) in
    let same = last_same rest others own own2 (sym was ∙ is) in
    let k = subst (λ l. IsInside (code_of c.args.scope.now) c.args.position l own before w inside v)
    (ap link_view c.in-Before.is ∙ view.part_before c.in-Before.op c.in-Before.part)
    (subst (λ o. IsInside (code_of c.args.scope.now) c.args.position (link_view c.args.link.now) o before w inside v)
    (sym same.1) i) in
    let left = c.leave_both-in-Before.ensures (moved (here c.args.state.now) k.outside.place) 0 0
    (back_there (code_of c.args.scope.now) c.args.position
    (Before (op_view c.in-Before.op) (expr_view c.in-Before.part.value)) own before w inside v k (here c.args.state.now)
    went.follows) in
    subst (λ l. Stuck Wanted (code_of c.args.scope.now) (one w) below (listed (done l e) c.args.position) before
    (here c.go_on-in-Before.new.state) (bad_view b))
    (sym (ap link_view c.in-Before.is ∙ view.part_before c.in-Before.op c.in-Before.part))
    (before_go_stopped (code_of c.args.scope.now) c.args.position own before w inside v e (here c.args.state.now) went
    (op_view c.in-Before.op) (expr_view c.in-Before.part.value) k (here c.leave_both-in-Before.new.state) left
    (here c.go_on-in-Before.new.state) (bad_view b)
    (c.in_err-go_on-in-Before.ensures.stops b (rw (p.1, p.2) at x) (code_of c.args.scope.now))))

pub close_link-index-variable-requires-in-Before : goal.close_link-index-variable-requires-in-Before
close_link-index-variable-requires-in-Before t c =
    let rest = map (λ vs. vs.items) c.pop.new.self.items in
    let own = c.in-Some.own.items in
    let was : map (λ vs. vs.items) c.args.kept.now.items ≡ rest ++ own ∷ [] =
    ap (map (λ vs. vs.items)) c.in-Some.ensures.items ∙ map-append (λ vs. vs.items) c.pop.new.self.items
    (c.in-Some.own ∷ []) in
    let r = c.requires.open in
    let same = last_same rest r.others own r.own (sym was ∙ r.is) in
    let k = subst (λ l. IsInside (code_of c.args.scope.now) c.args.position l r.own r.before r.wanted r.inside
    r.variable) (ap link_view c.in-Before.is ∙ view.part_before c.in-Before.op c.in-Before.part) r.opens in
    let left = c.leave_both-in-Before.ensures (moved (here c.args.state.now) k.outside.place) 0 0
    (back_there (code_of c.args.scope.now) c.args.position
    (Before (op_view c.in-Before.op) (expr_view c.in-Before.part.value)) r.own r.before r.wanted r.inside r.variable k
    (here c.args.state.now) r.follows) in
    let can_ = subst (CanWalk (code_of c.args.scope.now)) (sym left)
    (back_can (code_of c.args.scope.now) c.args.position (Before (op_view c.in-Before.op) (expr_view c.in-Before.part.value))
    r.own r.before r.wanted r.inside r.variable k (here c.args.state.now) r.follows) in
    let live_ = subst (λ (s : State). AllByRecursion (Live s.depth s.store) own) (sym left)
    (subst (AllByRecursion (Live (here c.args.state.now).depth (here c.args.state.now).store)) (sym same.1)
    (back_live (code_of c.args.scope.now) c.args.position (Before (op_view c.in-Before.op) (expr_view c.in-Before.part.value))
    r.own r.before r.wanted r.inside r.variable k (here c.args.state.now) r.follows)) in
    let count_ = ap length same.1 ∙ k.count in
    let two_ = c.in_ok-go_on-in-Before.ensures.number ∙ next_count (op_view c.in-Before.op) 1 0 (length own) k.strict.1
    count_ in
    omega (arith, two_)

pub close_link-walk_operand-requires-in-Before : goal.close_link-walk_operand-requires-in-Before
close_link-walk_operand-requires-in-Before t c =
    let rest = map (λ vs. vs.items) c.pop.new.self.items in
    let own = c.in-Some.own.items in
    let was : map (λ vs. vs.items) c.args.kept.now.items ≡ rest ++ own ∷ [] =
    ap (map (λ vs. vs.items)) c.in-Some.ensures.items ∙ map-append (λ vs. vs.items) c.pop.new.self.items
    (c.in-Some.own ∷ []) in
    let r = c.requires.open in
    let same = last_same rest r.others own r.own (sym was ∙ r.is) in
    let k = subst (λ l. IsInside (code_of c.args.scope.now) c.args.position l r.own r.before r.wanted r.inside
    r.variable) (ap link_view c.in-Before.is ∙ view.part_before c.in-Before.op c.in-Before.part
    ∙ ap (λ x. Before (op_view c.in-Before.op) (expr_view x)) (sym c.deref-in-Before.ensures)) r.opens in
    let left = c.leave_both-in-Before.ensures (moved (here c.args.state.now) k.outside.place) 0 0
    (back_there (code_of c.args.scope.now) c.args.position
    (Before (op_view c.in-Before.op) (expr_view c.deref-in-Before.result.now)) r.own r.before r.wanted r.inside r.variable k
    (here c.args.state.now) r.follows) in
    let can_ = subst (CanWalk (code_of c.args.scope.now)) (sym left)
    (back_can (code_of c.args.scope.now) c.args.position (Before (op_view c.in-Before.op) (expr_view c.deref-in-Before.result.now))
    r.own r.before r.wanted r.inside r.variable k (here c.args.state.now) r.follows) in
    let live_ = subst (λ (s : State). AllByRecursion (Live s.depth s.store) own) (sym left)
    (subst (AllByRecursion (Live (here c.args.state.now).depth (here c.args.state.now).store)) (sym same.1)
    (back_live (code_of c.args.scope.now) c.args.position (Before (op_view c.in-Before.op) (expr_view c.deref-in-Before.result.now))
    r.own r.before r.wanted r.inside r.variable k (here c.args.state.now) r.follows)) in
    let count_ = ap length same.1 ∙ k.count in
    let two_ = c.in_ok-go_on-in-Before.ensures.number ∙ next_count (op_view c.in-Before.op) 1 0 (length own) k.strict.1
    count_ in (
      first_of (omega (arith, c.decreases), search (rules, the_lemmas, c.decreases), search rules),
      (
        can_on (code_of c.args.scope.now) (here c.leave_both-in-Before.new.state) (here c.go_on-in-Before.new.state)
            can_
            c.in_ok-go_on-in-Before.ensures.follows,
        (
          (subst FormedLink (ap link_view c.in-Before.is ∙ view.part_before c.in-Before.op c.in-Before.part
              ∙ ap (λ x. Before (op_view c.in-Before.op) (expr_view x)) (sym c.deref-in-Before.ensures))
              c.requires.formed).1,
          live_read c.go_on-in-Before.new.state.depth c.go_on-in-Before.new.state.store
              c.go_on-in-Before.new.variables.items
              1 c.index-variable-in-Before.result.now
              (omega (arith, two_)) c.index-variable-in-Before.ensures c.in_ok-go_on-in-Before.ensures.live,
        ),
      ),
    )

pub close_link-returns-in-Before-clause-closed : goal.close_link-returns-in-Before-clause-closed
close_link-returns-in-Before-clause-closed t c =
    on_ok_weaker c.walk_operand-in-Before.result (λ h. λ others own2 before w inside v e is i went. (
    let rest = map (λ vs. vs.items) c.pop.new.self.items in
    let own = c.in-Some.own.items in
    let was : map (λ vs. vs.items) c.args.kept.now.items ≡ rest ++ own ∷ [] =
    ap (map (λ vs. vs.items)) c.in-Some.ensures.items ∙ map-append (λ vs. vs.items) c.pop.new.self.items
    (c.in-Some.own ∷ []) in
    let same = last_same rest others own own2 (sym was ∙ is) in
    let k = subst (λ l. IsInside (code_of c.args.scope.now) c.args.position l own before w inside v)
    (ap link_view c.in-Before.is ∙ view.part_before c.in-Before.op c.in-Before.part
    ∙ ap (λ x. Before (op_view c.in-Before.op) (expr_view x)) (sym c.deref-in-Before.ensures))
    (subst (λ o. IsInside (code_of c.args.scope.now) c.args.position (link_view c.args.link.now) o before w inside v)
    (sym same.1) i) in
    let left = c.leave_both-in-Before.ensures (moved (here c.args.state.now) k.outside.place) 0 0
    (back_there (code_of c.args.scope.now) c.args.position
    (Before (op_view c.in-Before.op) (expr_view c.deref-in-Before.result.now)) own before w inside v k (here c.args.state.now)
    went.follows) in
    let two_ = c.in_ok-go_on-in-Before.ensures.number ∙ next_count (op_view c.in-Before.op) 1 0 (length own) k.strict.1
    k.count in
    record {
      is = same.0;
      went = subst (λ l. Went Wanted (code_of c.args.scope.now) (one w) below (listed (done l e) c.args.position) before
          (here c.walk_operand-in-Before.new.state))
          (sym (ap link_view c.in-Before.is ∙ view.part_before c.in-Before.op c.in-Before.part
          ∙ ap (λ x. Before (op_view c.in-Before.op) (expr_view x)) (sym c.deref-in-Before.ensures)))
          (before_closed (code_of c.args.scope.now) c.args.position own before w inside v e (here c.args.state.now) went
          (op_view c.in-Before.op) (expr_view c.deref-in-Before.result.now) k (here c.leave_both-in-Before.new.state) left
          c.go_on-in-Before.new.variables.items c.index-variable-in-Before.result.now (here c.go_on-in-Before.new.state)
          (here c.walk_operand-in-Before.new.state) (c.in_ok-go_on-in-Before.ensures.goes (code_of c.args.scope.now))
          two_ (read_at c.go_on-in-Before.new.variables.items 1 c.index-variable-in-Before.result.now
          (omega (arith, two_)) c.index-variable-in-Before.ensures) h);
    }))
    c.walk_operand-in-Before.ensures.walked

pub close_link-returns-in-Before-clause-stopped : goal.close_link-returns-in-Before-clause-stopped
close_link-returns-in-Before-clause-stopped t c = λ b x others own2 before w inside v e is i went. (
    let rest = map (λ vs. vs.items) c.pop.new.self.items in
    let own = c.in-Some.own.items in
    let was : map (λ vs. vs.items) c.args.kept.now.items ≡ rest ++ own ∷ [] =
    ap (map (λ vs. vs.items)) c.in-Some.ensures.items ∙ map-append (λ vs. vs.items) c.pop.new.self.items
    (c.in-Some.own ∷ []) in
    let same = last_same rest others own own2 (sym was ∙ is) in
    let k = subst (λ l. IsInside (code_of c.args.scope.now) c.args.position l own before w inside v)
    (ap link_view c.in-Before.is ∙ view.part_before c.in-Before.op c.in-Before.part
    ∙ ap (λ x. Before (op_view c.in-Before.op) (expr_view x)) (sym c.deref-in-Before.ensures))
    (subst (λ o. IsInside (code_of c.args.scope.now) c.args.position (link_view c.args.link.now) o before w inside v)
    (sym same.1) i) in
    let left = c.leave_both-in-Before.ensures (moved (here c.args.state.now) k.outside.place) 0 0
    (back_there (code_of c.args.scope.now) c.args.position
    (Before (op_view c.in-Before.op) (expr_view c.deref-in-Before.result.now)) own before w inside v k (here c.args.state.now)
    went.follows) in
    let two_ = c.in_ok-go_on-in-Before.ensures.number ∙ next_count (op_view c.in-Before.op) 1 0 (length own) k.strict.1
    k.count in
    subst (λ l. Stuck Wanted (code_of c.args.scope.now) (one w) below (listed (done l e) c.args.position) before
    (here c.walk_operand-in-Before.new.state) (bad_view b))
    (sym (ap link_view c.in-Before.is ∙ view.part_before c.in-Before.op c.in-Before.part
    ∙ ap (λ x. Before (op_view c.in-Before.op) (expr_view x)) (sym c.deref-in-Before.ensures)))
    (before_stopped (code_of c.args.scope.now) c.args.position own before w inside v e (here c.args.state.now) went
    (op_view c.in-Before.op) (expr_view c.deref-in-Before.result.now) k (here c.leave_both-in-Before.new.state) left
    c.go_on-in-Before.new.variables.items c.index-variable-in-Before.result.now (here c.go_on-in-Before.new.state)
    (here c.walk_operand-in-Before.new.state) (bad_view b)
    (c.in_ok-go_on-in-Before.ensures.goes (code_of c.args.scope.now)) two_
    (read_at c.go_on-in-Before.new.variables.items 1 c.index-variable-in-Before.result.now (omega (arith, two_))
    c.index-variable-in-Before.ensures) (c.walk_operand-in-Before.ensures.stopped b x)))

pub close_link-returns-clause-closed : goal.close_link-returns-clause-closed
close_link-returns-clause-closed t c = λ others own2 before w inside v e is i went. (
    let rest = map (λ vs. vs.items) c.pop.new.self.items in
    let own = c.in-Some.own.items in
    let was : map (λ vs. vs.items) c.args.kept.now.items ≡ rest ++ own ∷ [] =
    ap (map (λ vs. vs.items)) c.in-Some.ensures.items ∙ map-append (λ vs. vs.items) c.pop.new.self.items
    (c.in-Some.own ∷ []) in
    let same = last_same rest others own own2 (sym was ∙ is) in
    let k = subst (λ l. IsInside (code_of c.args.scope.now) c.args.position l own before w inside v)
    (ap link_view c.in-Decided.is ∙ view.decided c.in-Decided.field-0 c.in-Decided.field-1 c.in-Decided.field-2)
    (subst (λ o. IsInside (code_of c.args.scope.now) c.args.position (link_view c.args.link.now) o before w inside v)
    (sym same.1) i) in
    let left = c.leave_one.ensures (moved (here c.args.state.now) k.outside.place) 1
    (back_there (code_of c.args.scope.now) c.args.position
    (Decided c.in-Decided.field-0 c.in-Decided.field-1 (expr_view c.in-Decided.field-2.value)) own before w inside v k
    (here c.args.state.now) went.follows) in
    record {
      is = same.0;
      went = subst (λ l. Went Wanted (code_of c.args.scope.now) (one w) below (listed (done l e) c.args.position) before
          (here c.leave_one.new.state)) (sym (ap link_view c.in-Decided.is ∙ view.decided c.in-Decided.field-0
          c.in-Decided.field-1 c.in-Decided.field-2))
          (decided_closed (code_of c.args.scope.now) c.args.position own before w inside v e (here c.args.state.now)
          went c.in-Decided.field-0 c.in-Decided.field-1 (expr_view c.in-Decided.field-2.value) k (here c.leave_one.new.state)
          left);
    })

pub open_link-walk_arguments-requires : goal.open_link-walk_arguments-requires
open_link-walk_arguments-requires t c =
    let f = (subst FormedLink (ap link_view c.in-Given.is ∙ view.given c.in-Given.callee c.in-Given.arguments
    ∙ ap (λ x. Given (expr_view x) (map expr_view c.in-Given.arguments.items)) (sym c.deref.ensures))
    c.requires.formed) in
    let d = ap length c.deref-in-Given.ensures.value in (
      first_of (omega (arith, c.decreases), search (rules, the_lemmas, c.decreases), search rules),
      (
        can_then (code_of c.args.scope.now) (code_of c.walk_callee.new.scope) (here c.args.state.now)
            (here c.walk_callee.new.state) c.in_ok-variables-in-Given.ensures.scope c.requires.can
            c.in_ok-variables-in-Given.ensures.follows,
        (
          subst (λ xs. AllFormed (exprs_of (map expr_view xs))) (sym c.deref-in-Given.ensures.value) f.1,
          (
            omega (arith, d, c.len-count.ensures, c.in_ok-variables-in-Given.ensures.number),
            subst (AllByRecursion (Live c.walk_callee.new.state.depth c.walk_callee.new.state.store)) refl
                c.in_ok-variables-in-Given.ensures.live,
          ),
        ),
      ),
    )

pub open_link-returns-in_err-variables-in-Given-clause-stopped :
    goal.open_link-returns-in_err-variables-in-Given-clause-stopped
open_link-returns-in_err-variables-in-Given-clause-stopped t c = λ b e y. (
    let p = err_from_is_err_and c.from_residual.result c.from_residual.ensures.1 in
    shown_stuck (code_of c.args.scope.now) c.args.wanted c.args.position (here c.args.state.now)
    (here c.walk_callee.new.state) (bad_view b) _ _
    (ap (λ l. done l y) (ap link_view c.in-Given.is ∙ view.given c.in-Given.callee c.in-Given.arguments
    ∙ ap (λ x. Given (expr_view x) (map expr_view c.in-Given.arguments.items)) (sym c.deref.ensures)))
    (c.in_err-variables-in-Given.ensures.stopped b (other_error _ _ (rw (p.1, p.2) at e))
    ((map expr_view c.in-Given.arguments.items) ++ y ∷ [])
    (let m = (let m = length-map c.in-Given.arguments.items expr_view in let z : length
    (map expr_view c.in-Given.arguments.items) ≡ c.len-count.result = omega (arith, m, c.len-count.ensures) in z) in let
    k = length-append (map expr_view c.in-Given.arguments.items) (y ∷ []) in omega (arith, m, k))))

pub open_link-walk_callee-requires : goal.open_link-walk_callee-requires
open_link-walk_callee-requires t c = (
  first_of (omega (arith, c.decreases), search (rules, the_lemmas, c.decreases), search rules),
  (
    c.requires.can,
    (
      (subst FormedLink (ap link_view c.in-Given.is ∙ view.given c.in-Given.callee c.in-Given.arguments
          ∙ ap (λ x. Given (expr_view x) (map expr_view c.in-Given.arguments.items)) (sym c.deref.ensures))
          c.requires.formed).0,
      c.requires.wanted,
    ),
  ),
)

pub open_link-returns-in_ok-inner-in-Given-clause-opened : goal.open_link-returns-in_ok-inner-in-Given-clause-opened
open_link-returns-in_ok-inner-in-Given-clause-opened t c =
    let outside_ = here c.walk_arguments.new.state in
    let own = c.in_ok-variables-in-Given.variables.items in
    let went = subst (λ k. ArgumentsWent k c.args.position (map expr_view c.deref-in-Given.result.now)
    c.in_ok-variables-in-Given.variables.items (here c.walk_callee.new.state) outside_)
    c.in_ok-variables-in-Given.ensures.scope c.in_ok-walk_arguments-in-Given.ensures.opened in
    let o = went (expr_view c.deref.result.now) c.args.wanted (c.len-count.result + 1) (here c.args.state.now)
    c.requires.can (subst (λ vs. length vs ≡ suc (c.len-count.result + 1)) refl
    c.in_ok-variables-in-Given.ensures.number)
    (subst (λ vs. CallOpens (code_of c.args.scope.now) c.args.wanted (expr_view c.deref.result.now)
    (c.len-count.result + 1) c.args.position [] vs (here c.args.state.now) (here c.walk_callee.new.state)) refl
    c.in_ok-variables-in-Given.ensures.opened) in
    let o2 = subst (λ vs. CallOpens (code_of c.args.scope.now) c.args.wanted (expr_view c.deref.result.now)
    (c.len-count.result + 1) c.args.position (map expr_view c.deref-in-Given.result.now) vs (here c.args.state.now) outside_)
    refl o in
    let o3 = subst (λ xs. CallOpens (code_of c.args.scope.now) c.args.wanted (expr_view c.deref.result.now)
    (c.len-count.result + 1) c.args.position (map expr_view xs) own (here c.args.state.now) outside_)
    c.deref-in-Given.ensures.value o2 in
    record {
      own = own;
      is = c.in_ok-inner-in-Given.ensures.kept;
      inside_is =
          subst (λ l. IsInside (code_of c.args.scope.now) c.args.position l own (here c.args.state.now) c.args.wanted
          (here c.go_inside.new.state) c.in_ok-inner-in-Given.inner)
          (sym (ap link_view c.in-Given.is ∙ view.given c.in-Given.callee c.in-Given.arguments
          ∙ ap (λ x. Given (expr_view x) (map expr_view c.in-Given.arguments.items)) (sym c.deref.ensures)))
          (given_inside (code_of c.args.scope.now) c.args.position own (here c.args.state.now) c.args.wanted
          (here c.go_inside.new.state) c.in_ok-inner-in-Given.inner outside_ c.requires.can
          (follows_on (here c.args.state.now) (here c.walk_callee.new.state) outside_
          c.in_ok-variables-in-Given.ensures.follows c.in_ok-walk_arguments-in-Given.ensures.follows)
          (all_still_live (here c.walk_callee.new.state) outside_ own c.in_ok-walk_arguments-in-Given.ensures.follows
          c.in_ok-variables-in-Given.ensures.live) (expr_view c.deref.result.now)
          (map expr_view c.in-Given.arguments.items)
          c.len-count.result (let m = length-map c.in-Given.arguments.items expr_view in let z : length
          (map expr_view c.in-Given.arguments.items) ≡ c.len-count.result = omega (arith, m, c.len-count.ensures) in z)
          o3 c.in_ok-variables-in-Given.ensures.number c.in_ok-inner-in-Given.ensures.variable
          c.in_ok-inner-in-Given.ensures.place);
    }

pub walk-walk_function-requires : goal.walk-walk_function-requires
walk-walk_function-requires t c =
    let f = subst Formed (ap expr_view c.in-Lambda.is ∙ (view.lambda c.in-Lambda.parameters c.in-Lambda.body
    ∙ sym (ap (λ ps. tree.Lambda (patterns_of (map pattern_view ps)) (expr_view c.deref.result.now))
    c.deref-in-Lambda.ensures.value
    ∙ ap (λ x. tree.Lambda (patterns_of (map pattern_view c.in-Lambda.parameters.items)) (expr_view x))
    c.deref.ensures))) c.requires.formed in (
      first_of (omega (arith, c.decreases), search (rules, the_lemmas, c.decreases), search rules),
      (
        c.requires.can,
        (
          f.0,
          (
            f.1,
            c.requires.wanted,
          ),
        ),
      ),
    )

pub walk-walk_operation-requires : goal.walk-walk_operation-requires
walk-walk_operation-requires t c = (
  first_of (omega (arith, c.decreases), search (rules, the_lemmas, c.decreases), search rules),
  (
    (c.requires.can),
    (
      ((subst Formed (ap expr_view c.in-Strict.is ∙ view.strict c.in-Strict.op c.in-Strict.parts) c.requires.formed)),
      (c.requires.wanted),
    ),
  ),
)

pub walk-walk_access-requires : goal.walk-walk_access-requires
walk-walk_access-requires t c = (
  first_of (omega (arith, c.decreases), search (rules, the_lemmas, c.decreases), search rules),
  (
    (c.requires.can),
    (
      (accessed_formed _ c.deref-in-Access-2.result.now
          (subst Formed (ap expr_view c.in-Access.is ∙ (view.access c.in-Access.inner c.in-Access.names
          ∙ sym (ap (λ x. accessed (expr_view x) c.deref-in-Access-2.result.now) c.deref-in-Access.ensures
          ∙ ap (λ xs. accessed (expr_view c.in-Access.inner.value) xs) c.deref-in-Access-2.ensures.value)))
          c.requires.formed)),
      (c.requires.wanted),
    ),
  ),
)

pub walk-walk-requires : goal.walk-walk-requires
walk-walk-requires t c = (
  first_of (omega (arith, c.decreases), search (rules, the_lemmas, c.decreases), search rules),
  (
    subst (λ k. CanWalk k (here c.open_links.new.state)) (sym c.in_ok-inner-in-Chain.ensures.scope)
        c.in_ok-inner-in-Chain.ensures.can,
    (
      subst (λ x. Formed (expr_view x)) (sym c.deref-in-Chain-2.ensures)
          (linked_formed (expr_view c.in-Chain.first.value) (map link_view c.in-Chain.links.items)
          (subst Formed (ap expr_view c.in-Chain.is ∙ view.chain c.in-Chain.first c.in-Chain.links)
          c.requires.formed)).0,
      c.in_ok-inner-in-Chain.ensures.live,
    ),
  ),
)

pub walk-returns-in-Literal-clause-walked : goal.walk-returns-in-Literal-clause-walked
walk-returns-in-Literal-clause-walked t c =
    shown c.infer_literal.result (code_of c.args.scope.now) c.args.wanted c.args.position (here c.args.state.now)
    (here c.infer_literal.new.state) _ _ (ap expr_view c.in-Literal.is ∙ view.literal c.in-Literal.literal)
    (alone_went c.infer_literal.result (code_of c.args.scope.now) c.args.wanted _ (here c.args.state.now)
    (here c.infer_literal.new.state) c.infer_literal.ensures.walked)

pub walk-returns-in-Literal-clause-stopped : goal.walk-returns-in-Literal-clause-stopped
walk-returns-in-Literal-clause-stopped t c = λ b e.
    shown_stuck (code_of c.args.scope.now) c.args.wanted c.args.position (here c.args.state.now)
    (here c.infer_literal.new.state) (bad_view b) _ _ (ap expr_view c.in-Literal.is ∙ view.literal c.in-Literal.literal)
    (alone_stuck (code_of c.args.scope.now) c.args.wanted _ (here c.args.state.now) (here c.infer_literal.new.state)
    (bad_view b) (c.infer_literal.ensures.stopped b e))

pub walk-returns-in-Name-clause-walked : goal.walk-returns-in-Name-clause-walked
walk-returns-in-Name-clause-walked t c =
    shown c.infer_name.result (code_of c.args.scope.now) c.args.wanted c.args.position (here c.args.state.now)
    (here c.infer_name.new.state) _ _ (ap expr_view c.in-Name.is ∙ view.name c.in-Name.name)
    (name_went c.infer_name.result (code_of c.args.scope.now) c.args.wanted _ (here c.args.state.now)
    (here c.infer_name.new.state) c.infer_name.ensures.follows c.infer_name.ensures.walked)

pub walk-returns-in-Name-clause-stopped : goal.walk-returns-in-Name-clause-stopped
walk-returns-in-Name-clause-stopped t c = λ b e.
    shown_stuck (code_of c.args.scope.now) c.args.wanted c.args.position (here c.args.state.now)
    (here c.infer_name.new.state) (bad_view b) _ _ (ap expr_view c.in-Name.is ∙ view.name c.in-Name.name)
    (stuck_stopped (code_of c.args.scope.now) c.args.wanted _ (here c.args.state.now) (here c.infer_name.new.state)
    (bad_view b) (c.infer_name.ensures.stopped b e))

pub walk-returns-in-Accessor-clause-walked : goal.walk-returns-in-Accessor-clause-walked
walk-returns-in-Accessor-clause-walked t c =
    shown c.infer_accessor.result (code_of c.args.scope.now) c.args.wanted c.args.position (here c.args.state.now)
    (here c.infer_accessor.new.state) _ _ (ap expr_view c.in-Accessor.is ∙ view.accessor c.in-Accessor.name)
    (alone_went c.infer_accessor.result (code_of c.args.scope.now) c.args.wanted _ (here c.args.state.now)
    (here c.infer_accessor.new.state) c.infer_accessor.ensures.walked)

pub walk-returns-in-Accessor-clause-stopped : goal.walk-returns-in-Accessor-clause-stopped
walk-returns-in-Accessor-clause-stopped t c = λ b e.
    shown_stuck (code_of c.args.scope.now) c.args.wanted c.args.position (here c.args.state.now)
    (here c.infer_accessor.new.state) (bad_view b) _ _
    (ap expr_view c.in-Accessor.is ∙ view.accessor c.in-Accessor.name)
    (alone_stuck (code_of c.args.scope.now) c.args.wanted _ (here c.args.state.now) (here c.infer_accessor.new.state)
    (bad_view b) (c.infer_accessor.ensures.stopped b e))

pub walk-returns-in-Lambda-clause-walked : goal.walk-returns-in-Lambda-clause-walked
walk-returns-in-Lambda-clause-walked t c =
    shown c.walk_function.result (code_of c.args.scope.now) c.args.wanted c.args.position (here c.args.state.now)
    (here c.walk_function.new.state) _ _ (ap expr_view c.in-Lambda.is ∙
    (view.lambda c.in-Lambda.parameters c.in-Lambda.body
    ∙ sym (ap (λ ps. tree.Lambda (patterns_of (map pattern_view ps)) (expr_view c.deref.result.now))
    c.deref-in-Lambda.ensures.value
    ∙ ap (λ x. tree.Lambda (patterns_of (map pattern_view c.in-Lambda.parameters.items)) (expr_view x))
    c.deref.ensures))) c.walk_function.ensures.walked

pub walk-returns-in-Lambda-clause-stopped : goal.walk-returns-in-Lambda-clause-stopped
walk-returns-in-Lambda-clause-stopped t c = λ b e.
    shown_stuck (code_of c.args.scope.now) c.args.wanted c.args.position (here c.args.state.now)
    (here c.walk_function.new.state) (bad_view b) _ _
    (ap expr_view c.in-Lambda.is ∙ (view.lambda c.in-Lambda.parameters c.in-Lambda.body
    ∙ sym (ap (λ ps. tree.Lambda (patterns_of (map pattern_view ps)) (expr_view c.deref.result.now))
    c.deref-in-Lambda.ensures.value
    ∙ ap (λ x. tree.Lambda (patterns_of (map pattern_view c.in-Lambda.parameters.items)) (expr_view x))
    c.deref.ensures))) (c.walk_function.ensures.stopped b e)

pub walk-returns-in-Strict-clause-walked : goal.walk-returns-in-Strict-clause-walked
walk-returns-in-Strict-clause-walked t c =
    shown c.walk_operation.result (code_of c.args.scope.now) c.args.wanted c.args.position (here c.args.state.now)
    (here c.walk_operation.new.state) _ _ (ap expr_view c.in-Strict.is ∙ view.strict c.in-Strict.op c.in-Strict.parts)
    c.walk_operation.ensures.walked

pub walk-returns-in-Strict-clause-stopped : goal.walk-returns-in-Strict-clause-stopped
walk-returns-in-Strict-clause-stopped t c = λ b e.
    shown_stuck (code_of c.args.scope.now) c.args.wanted c.args.position (here c.args.state.now)
    (here c.walk_operation.new.state) (bad_view b) _ _
    (ap expr_view c.in-Strict.is ∙ view.strict c.in-Strict.op c.in-Strict.parts) (c.walk_operation.ensures.stopped b e)

pub walk-returns-in-Access-clause-walked : goal.walk-returns-in-Access-clause-walked
walk-returns-in-Access-clause-walked t c =
    shown c.walk_access.result (code_of c.args.scope.now) c.args.wanted c.args.position (here c.args.state.now)
    (here c.walk_access.new.state) _ _ (ap expr_view c.in-Access.is ∙ (view.access c.in-Access.inner c.in-Access.names
    ∙ sym (ap (λ x. accessed (expr_view x) c.deref-in-Access-2.result.now) c.deref-in-Access.ensures
    ∙ ap (λ xs. accessed (expr_view c.in-Access.inner.value) xs) c.deref-in-Access-2.ensures.value)))
    c.walk_access.ensures.walked

pub walk-returns-in-Access-clause-stopped : goal.walk-returns-in-Access-clause-stopped
walk-returns-in-Access-clause-stopped t c = λ b e.
    shown_stuck (code_of c.args.scope.now) c.args.wanted c.args.position (here c.args.state.now)
    (here c.walk_access.new.state) (bad_view b) _ _
    (ap expr_view c.in-Access.is ∙ (view.access c.in-Access.inner c.in-Access.names
    ∙ sym (ap (λ x. accessed (expr_view x) c.deref-in-Access-2.result.now) c.deref-in-Access.ensures
    ∙ ap (λ xs. accessed (expr_view c.in-Access.inner.value) xs) c.deref-in-Access-2.ensures.value)))
    (c.walk_access.ensures.stopped b e)

pub walk-returns-in-Located-clause-walked : goal.walk-returns-in-Located-clause-walked
walk-returns-in-Located-clause-walked t c =
    shown c.walk-in-Located.result (code_of c.args.scope.now) c.args.wanted c.args.position (here c.args.state.now)
    (here c.walk-in-Located.new.state) _ _
    (ap expr_view c.in-Located.is ∙ (view.located c.in-Located.start c.in-Located.inner
    ∙ sym (ap (λ x. tree.Located c.in-Located.start (expr_view x)) c.deref-in-Located.ensures)))
    c.walk-in-Located.ensures.walked

pub walk-returns-in-Located-clause-stopped : goal.walk-returns-in-Located-clause-stopped
walk-returns-in-Located-clause-stopped t c = λ b e.
    shown_stuck (code_of c.args.scope.now) c.args.wanted c.args.position (here c.args.state.now)
    (here c.walk-in-Located.new.state) (bad_view b) _ _
    (ap expr_view c.in-Located.is ∙ (view.located c.in-Located.start c.in-Located.inner
    ∙ sym (ap (λ x. tree.Located c.in-Located.start (expr_view x)) c.deref-in-Located.ensures)))
    (c.walk-in-Located.ensures.stopped b e)

pub walk_access-walk-requires : goal.walk_access-walk-requires
walk_access-walk-requires t c = (
  search rules,
  (
    (c.in_ok-begun.ensures.begins (code_of c.args.scope.now) c.requires.can).can,
    (c.requires.formed, c.in_ok-begun.ensures.owner),
  ),
)

pub walk_access-end_reads-requires-clause-live : goal.walk_access-end_reads-requires-clause-live
walk_access-end_reads-requires-clause-live t c =
    fields_later (here c.begin_reads.new.state) (here c.walk.new.state)
    (map field_view c.in_ok-begun.begun.fields.items) c.in_ok-walk.ensures.walked.follows
    (reads_live (code_of c.args.scope.now) c.args.position (here c.args.state.now) c.args.wanted c.args.names.now
    (map field_view c.in_ok-begun.begun.fields.items)
    (here c.begin_reads.new.state) c.in_ok-begun.begun.owner
    (c.in_ok-begun.ensures.begins (code_of c.args.scope.now) c.requires.can).reads)

pub walk_access-returns-clause-walked : goal.walk_access-returns-clause-walked
walk_access-returns-clause-walked t c =
    ok_on c.end_reads.result c.end_reads.ensures.closes
    (λ k. k (code_of c.args.scope.now) (here c.args.state.now) c.args.wanted (here c.begin_reads.new.state)
    c.in_ok-begun.begun.owner (expr_view c.args.inner.now)
    (c.in_ok-begun.ensures.begins (code_of c.args.scope.now) c.requires.can).reads c.in_ok-walk.ensures.walked)

pub walk_access-returns-clause-stopped : goal.walk_access-returns-clause-stopped
walk_access-returns-clause-stopped t c b e =
    c.end_reads.ensures.stops b e (code_of c.args.scope.now) (here c.args.state.now) c.args.wanted
    (here c.begin_reads.new.state) c.in_ok-begun.begun.owner
    (expr_view c.args.inner.now) (c.in_ok-begun.ensures.begins (code_of c.args.scope.now) c.requires.can).reads
    c.in_ok-walk.ensures.walked

pub walk_arguments-loop-index-init : goal.walk_arguments-loop-index-init
walk_arguments-loop-index-init t c = record {
  scope = refl;
  follows = follows_itself (here c.args.state.now) c.requires.can.ready.whole;
  live = c.requires.live;
  opened = arguments_none (code_of c.args.scope.now) c.args.position c.args.variables.now.items (here c.args.state.now);
}

pub walk_arguments-walk_operand-requires : goal.walk_arguments-walk_operand-requires
walk_arguments-walk_operand-requires t c =
    let i = c.loop-index.index in
    let vs = c.args.variables.now.items in
    let es = map expr_view (take i c.args.arguments.now) in
    let x = c.index-arguments-index.result in
    let lt = c.loop-index-test.true in
    let at = seen_count expr_view c.args.arguments.now i (omega (arith, lt)) in
    let enough : i + 1 < length vs = omega (arith, lt, c.requires.few) in
    let u = c.index-variable.result.now in (
      first_of (omega (arith, c.decreases), search (rules, the_lemmas, c.decreases), search rules),
      (
        can_then (code_of c.args.scope.now) (code_of c.loop-index.scope) (here c.args.state.now)
            (here c.loop-index.state)
            c.loop-index.invariant.scope c.requires.can c.loop-index.invariant.follows,
        (
          item_formed c.args.arguments.now i x lt c.index-arguments-index.is c.requires.arguments,
          live_read c.loop-index.state.depth c.loop-index.state.store vs (i + 1) u enough c.index-variable.ensures
              c.loop-index.invariant.live,
        ),
      ),
    )

pub walk_arguments-returns-in_err-walk_operand-clause-stopped :
    goal.walk_arguments-returns-in_err-walk_operand-clause-stopped
walk_arguments-returns-in_err-walk_operand-clause-stopped t c = λ b e. (
    let i = c.loop-index.index in
    let vs = c.args.variables.now.items in
    let es = map expr_view (take i c.args.arguments.now) in
    let x = c.index-arguments-index.result in
    let lt = c.loop-index-test.true in
    let at = seen_count expr_view c.args.arguments.now i (omega (arith, lt)) in
    let enough : i + 1 < length vs = omega (arith, lt, c.requires.few) in
    let u = c.index-variable.result.now in
    let same : c.in_ok-number.number ≡ length es = c.in_ok-number.ensures ∙ sym at in
    let far : suc (length es) < length vs = omega (arith, at, enough) in
    let e1 : i + 1 ≡ suc (length es) = omega (arith, at) in
    let is : u ≡ get_or vs (suc (length es)) 0 = read_at vs (i + 1) u enough c.index-variable.ensures ∙ ap
    (λ k. get_or vs k 0) e1 in
    let p = err_from_is_err_and c.from_residual-in_err-walk_operand.result c.from_residual-in_err-walk_operand.ensures.1
    in
    subst (λ l. ArgumentsStuck (code_of c.args.scope.now) c.args.position l vs (here c.args.state.now)
    (here c.walk_operand.new.state) (bad_view b))
    (sym (seen_split expr_view c.args.arguments.now i x lt c.index-arguments-index.is))
    (arguments_stuck (code_of c.args.scope.now) c.args.position es (expr_view x)
    (map expr_view (drop (i + 1) c.args.arguments.now)) vs u (here c.args.state.now) (here c.loop-index.state)
    (here c.walk_operand.new.state) (bad_view b) far is c.loop-index.invariant.opened
    (subst (λ k. Stuck Wanted (code_of c.args.scope.now) (one u) (operand_place 1 k)
    (operand_of (expr_view x) c.args.position 1 k) (here c.loop-index.state) (here c.walk_operand.new.state)
    (bad_view b)) same
    (subst (λ k. Stuck Wanted k (one u) (operand_place 1 c.in_ok-number.number)
    (operand_of (expr_view x) c.args.position 1 c.in_ok-number.number) (here c.loop-index.state)
    (here c.walk_operand.new.state) (bad_view b)) c.loop-index.invariant.scope
    (c.in_err-walk_operand.ensures.stopped b (rw (p.1, p.2) at e))))))

pub walk_arguments-loop-index-preserved : goal.walk_arguments-loop-index-preserved
walk_arguments-loop-index-preserved t c =
    let i = c.loop-index.index in
    let vs = c.args.variables.now.items in
    let es = map expr_view (take i c.args.arguments.now) in
    let x = c.index-arguments-index.result in
    let lt = c.loop-index-test.true in
    let at = seen_count expr_view c.args.arguments.now i (omega (arith, lt)) in
    let enough : i + 1 < length vs = omega (arith, lt, c.requires.few) in
    let u = c.index-variable.result.now in
    let same : c.in_ok-number.number ≡ length es = c.in_ok-number.ensures ∙ sym at in
    let far : suc (length es) < length vs = omega (arith, at, enough) in
    let e1 : i + 1 ≡ suc (length es) = omega (arith, at) in
    let is : u ≡ get_or vs (suc (length es)) 0 = read_at vs (i + 1) u enough c.index-variable.ensures ∙ ap
    (λ k. get_or vs k 0) e1 in
    let next = seen_next expr_view c.args.arguments.now i x lt c.index-arguments-index.is in
    let went = c.in_ok-walk_operand.ensures.walked in
    record {
      scope = c.in_ok-walk_operand.ensures.scope ∙ c.loop-index.invariant.scope;
      follows = follows_on (here c.args.state.now) (here c.loop-index.state) (here c.walk_operand.new.state)
          c.loop-index.invariant.follows went.follows;
      live = all_still_live (here c.loop-index.state) (here c.walk_operand.new.state) vs went.follows
          c.loop-index.invariant.live;
      opened =
          subst (λ l. ArgumentsWent (code_of c.args.scope.now) c.args.position l vs (here c.args.state.now)
          (here c.walk_operand.new.state)) (sym next)
          (arguments_next (code_of c.args.scope.now) c.args.position es (expr_view x) vs u (here c.args.state.now)
          (here c.loop-index.state) (here c.walk_operand.new.state) far is c.loop-index.invariant.opened
          (subst (λ k. Went Wanted (code_of c.args.scope.now) (one u) (operand_place 1 k)
          (operand_of (expr_view x) c.args.position 1 k) (here c.loop-index.state) (here c.walk_operand.new.state)) same
          (subst (λ k. Went Wanted k (one u) (operand_place 1 c.in_ok-number.number)
          (operand_of (expr_view x) c.args.position 1 c.in_ok-number.number) (here c.loop-index.state)
          (here c.walk_operand.new.state)) c.loop-index.invariant.scope went)));
    }

pub walk_arguments-returns-clause-scope : goal.walk_arguments-returns-clause-scope
walk_arguments-returns-clause-scope t c = c.loop-index.invariant.scope

pub walk_arguments-returns-clause-follows : goal.walk_arguments-returns-clause-follows
walk_arguments-returns-clause-follows t c = c.loop-index.invariant.follows

pub walk_arguments-returns-clause-opened : goal.walk_arguments-returns-clause-opened
walk_arguments-returns-clause-opened t c =
    subst (λ l. ArgumentsWent (code_of c.args.scope.now) c.args.position (map expr_view l) c.args.variables.now.items
    (here c.args.state.now) (here c.loop-index.state))
    (seen_all c.loop-index.index c.args.arguments.now
    (omega (arith, c.loop-index-test.false, c.loop-index.auto.index-end))) c.loop-index.invariant.opened

pub walk_branch-infer_pattern-requires-clause-known : goal.walk_branch-infer_pattern-requires-clause-known
walk_branch-infer_pattern-requires-clause-known t c = subst AreWritten (sym c.known.ensures) c.requires.can.ready.known

pub walk_branch-infer_pattern-requires-clause-once : goal.walk_branch-infer_pattern-requires-clause-once
walk_branch-infer_pattern-requires-clause-once t c =
    subst FieldsOnce (ap (λ (x : tree.Pattern × tree.Expr). x.0) (branch_is c.args.branch.now)) c.requires.pattern

pub walk_branch-returns-in_err-bound-clause-stopped : goal.walk_branch-returns-in_err-bound-clause-stopped
walk_branch-returns-in_err-bound-clause-stopped t c b e =
    let p = err_from_is_err_and c.from_residual-in_err-bound.result c.from_residual-in_err-bound.ensures.1 in
    let refused =
    subst (λ (k : Known). RefusesPattern k c.args.position c.args.subject (pattern_view c.args.branch.now.pattern)
    (bad_view b) (here c.enter_both.new.state) (here c.infer_pattern.new.state)) c.known.ensures
    (c.in_err-bound.ensures.refuses b (other_error _ _ (rw (p.1, p.2) at e))) in
    subst (λ (x : tree.Pattern × tree.Expr). Stuck (Wanted × Wanted) (code_of c.args.scope.now)
    (two c.args.subject c.args.wanted)
    (operand_place 1 c.args.number) (branch_at x.0 x.1 c.args.position c.args.number) (here c.args.state.now)
    (here c.infer_pattern.new.state) (bad_view b)) (sym (branch_is c.args.branch.now))
    (branch_stuck_out (code_of c.args.scope.now) c.args.position (pattern_view c.args.branch.now.pattern)
    (expr_view c.args.branch.now.body.value) c.args.subject c.args.wanted c.args.number (here c.args.state.now)
    (here c.enter_both.new.state) (here c.infer_pattern.new.state) c.in_ok-enter_both.ensures (bad_view b)
    (branch_refused (code_of c.args.scope.now) c.args.position (pattern_view c.args.branch.now.pattern)
    (expr_view c.args.branch.now.body.value) c.args.subject c.args.wanted (here c.enter_both.new.state)
    (entered_can (code_of c.args.scope.now) c.args.position (pattern_view c.args.branch.now.pattern)
    (expr_view c.args.branch.now.body.value) c.args.subject c.args.wanted c.args.number (here c.args.state.now)
    (here c.enter_both.new.state) (here c.infer_pattern.new.state) c.in_ok-enter_both.ensures c.requires.can).ready
    (here c.infer_pattern.new.state) (bad_view b) refused))

pub walk_branch-walk_part-requires : goal.walk_branch-walk_part-requires
walk_branch-walk_part-requires t c =
    let matched =
    subst (λ (k : Known). MatchesPattern k c.args.position c.args.subject (pattern_view c.args.branch.now.pattern)
    (map bound_view c.in_ok-bound.bound.items) (here c.enter_both.new.state) (here c.infer_pattern.new.state))
    c.known.ensures c.in_ok-bound.ensures.matches in
    let can = can_on (code_of c.args.scope.now) (here c.enter_both.new.state) (here c.infer_pattern.new.state)
    (entered_can (code_of c.args.scope.now) c.args.position (pattern_view c.args.branch.now.pattern)
    (expr_view c.deref.result.now) c.args.subject c.args.wanted c.args.number (here c.args.state.now)
    (here c.enter_both.new.state) (here c.infer_pattern.new.state) c.in_ok-enter_both.ensures c.requires.can)
    matched.follows in (
      first_of (omega (arith, c.decreases), search (rules, the_lemmas, c.decreases), search rules),
      (
        can_at (sym c.in_ok-entered.ensures.scope)
            (can_bound (code_of c.args.scope.now) (here c.infer_pattern.new.state)
            (map bound_view c.in_ok-bound.bound.items)
            matched.live can),
        (
          subst Formed (ap (λ (x : tree.Pattern × tree.Expr). x.1) (branch_is c.args.branch.now
              ∙ ap (λ x. (pattern_view c.args.branch.now.pattern, expr_view x)) (sym c.deref.ensures))) c.requires.body,
          still_live _ _ c.args.wanted matched.follows
              (entered_live (code_of c.args.scope.now) c.args.position (pattern_view c.args.branch.now.pattern)
              (expr_view c.deref.result.now) c.args.subject c.args.wanted c.args.number (here c.args.state.now)
              (here c.enter_both.new.state) (here c.infer_pattern.new.state) c.in_ok-enter_both.ensures c.args.wanted
              c.requires.wanted),
        ),
      ),
    )

pub walk_branch-returns-clause-walked : goal.walk_branch-returns-clause-walked
walk_branch-returns-clause-walked t c =
    let matched =
    subst (λ (k : Known). MatchesPattern k c.args.position c.args.subject (pattern_view c.args.branch.now.pattern)
    (map bound_view c.in_ok-bound.bound.items) (here c.enter_both.new.state) (here c.infer_pattern.new.state))
    c.known.ensures c.in_ok-bound.ensures.matches in
    let went =
    branch_went (code_of c.args.scope.now) c.args.position (pattern_view c.args.branch.now.pattern)
    (expr_view c.deref.result.now) c.args.subject c.args.wanted (here c.enter_both.new.state)
    (entered_can (code_of c.args.scope.now) c.args.position (pattern_view c.args.branch.now.pattern)
    (expr_view c.deref.result.now) c.args.subject c.args.wanted c.args.number (here c.args.state.now)
    (here c.enter_both.new.state) (here c.infer_pattern.new.state) c.in_ok-enter_both.ensures c.requires.can).ready
    (map bound_view c.in_ok-bound.bound.items) (here c.infer_pattern.new.state) (here c.walk_part.new.state) matched
    (went_at c.in_ok-entered.ensures.scope c.in_ok-walk_part.ensures.walked) in
    subst (λ (x : tree.Pattern × tree.Expr). Went (Wanted × Wanted) (code_of c.args.scope.now)
    (two c.args.subject c.args.wanted)
    (operand_place 1 c.args.number) (branch_at x.0 x.1 c.args.position c.args.number) (here c.args.state.now)
    (here c.leave_both.new.state)) (sym (branch_is c.args.branch.now
    ∙ ap (λ x. (pattern_view c.args.branch.now.pattern, expr_view x)) (sym c.deref.ensures)))
    (branch_out (code_of c.args.scope.now) c.args.position (pattern_view c.args.branch.now.pattern)
    (expr_view c.deref.result.now) c.args.subject c.args.wanted c.args.number (here c.args.state.now)
    (here c.enter_both.new.state) (here c.walk_part.new.state) c.in_ok-enter_both.ensures (here c.leave_both.new.state)
    (c.leave_both.ensures (moved (here c.walk_part.new.state) c.args.state.now.place.items) 1 c.args.number
    (branch_there (code_of c.args.scope.now) c.args.position (pattern_view c.args.branch.now.pattern)
    (expr_view c.deref.result.now) c.args.subject c.args.wanted c.args.number (here c.args.state.now)
    (here c.enter_both.new.state) (here c.walk_part.new.state) c.in_ok-enter_both.ensures went.follows))
    went)

pub walk_branches-loop-index-init : goal.walk_branches-loop-index-init
walk_branches-loop-index-init t c = record {
  scope = refl;
  went = branches_none (code_of c.args.scope.now) c.args.subject c.args.wanted c.args.position (here c.args.state.now)
      c.requires.can.ready;
}

pub walk_branches-walk_branch-requires : goal.walk_branches-walk_branch-requires
walk_branches-walk_branch-requires t c =
    let inv = c.loop-index.invariant in
    let b =
    formed_branch c.args.branches.now c.loop-index.index c.index-branches-index.result c.loop-index-test.true
    c.index-branches-index.is c.requires.branches in (
      first_of (omega (arith, c.decreases), search (rules, the_lemmas, c.decreases), search rules),
      (
        can_at (sym inv.scope) (can_on (code_of c.args.scope.now) (here c.args.state.now) (here c.loop-index.state)
            c.requires.can inv.went.follows),
        (
          b.0,
          (
            b.1,
            (
              still_live _ _ c.args.subject inv.went.follows c.requires.subject,
              still_live _ _ c.args.wanted inv.went.follows c.requires.wanted,
            ),
          ),
        ),
      ),
    )

pub walk_branches-loop-index-preserved : goal.walk_branches-loop-index-preserved
walk_branches-loop-index-preserved t c =
    let inv = c.loop-index.invariant in
    let is = c.in_ok-number.ensures ∙ sym (length_taken c.args.branches.now c.loop-index.index
    (omega (arith, c.loop-index-test.true))) in
    record {
      scope = c.in_ok-walk_branch.ensures.scope ∙ inv.scope;
      went =
          subst (λ bs. BranchesWent (code_of c.args.scope.now) c.args.subject c.args.wanted c.args.position bs
          (here c.args.state.now) (here c.walk_branch.new.state))
          (sym (branches_taken c.args.branches.now c.loop-index.index c.index-branches-index.result
          c.loop-index-test.true c.index-branches-index.is))
          (branches_next (code_of c.args.scope.now) c.args.subject c.args.wanted c.args.position
          (map branch_view (take c.loop-index.index c.args.branches.now)) (branch_view c.index-branches-index.result).0
          (branch_view c.index-branches-index.result).1 c.in_ok-number.number is (here c.args.state.now)
          (here c.loop-index.state)
          (here c.walk_branch.new.state) c.requires.can.ready inv.went
          (went_at inv.scope c.in_ok-walk_branch.ensures.walked));
    }

pub walk_branches-returns-clause-scope : goal.walk_branches-returns-clause-scope
walk_branches-returns-clause-scope t c = c.loop-index.invariant.scope

pub walk_branches-returns-clause-walked : goal.walk_branches-returns-clause-walked
walk_branches-returns-clause-walked t c =
    subst (λ bs. BranchesWent (code_of c.args.scope.now) c.args.subject c.args.wanted c.args.position bs
    (here c.args.state.now) (here c.loop-index.state))
    (all_taken c.args.branches.now c.loop-index.index (omega (arith, c.loop-index-test.false)))
    c.loop-index.invariant.went

pub walk_callee-walk_part-requires : goal.walk_callee-walk_part-requires
walk_callee-walk_part-requires t c =
    let b = c.in_ok-variables.ensures.begins (code_of c.args.scope.now) in (
      first_of (omega (arith, c.decreases), search (rules, the_lemmas, c.decreases), search rules),
      (
        can_then (code_of c.args.scope.now) (code_of c.args.scope.now) (here c.args.state.now)
            (here c.begin_apply.new.state) refl c.requires.can b.follows,
        (
          c.requires.formed,
          live_read c.begin_apply.new.state.depth c.begin_apply.new.state.store c.in_ok-variables.variables.items 0
              c.index-variable.result.now
              (omega (arith, c.in_ok-variables.ensures.number)) c.index-variable.ensures b.live,
        ),
      ),
    )

pub walk_callee-returns-in-Ok-clause-follows : goal.walk_callee-returns-in-Ok-clause-follows
walk_callee-returns-in-Ok-clause-follows t c =
    follows_on (here c.args.state.now) (here c.begin_apply.new.state) (here c.walk_part.new.state)
    (c.in_ok-variables.ensures.begins (code_of c.args.scope.now)).follows c.in-Ok.ensures.walked.follows

pub walk_callee-returns-in-Ok-clause-live : goal.walk_callee-returns-in-Ok-clause-live
walk_callee-returns-in-Ok-clause-live t c =
    all_still_live (here c.begin_apply.new.state) (here c.walk_part.new.state) c.in_ok-variables.variables.items
    c.in-Ok.ensures.walked.follows
    (c.in_ok-variables.ensures.begins (code_of c.args.scope.now)).live

pub walk_callee-returns-in-Ok-clause-opened : goal.walk_callee-returns-in-Ok-clause-opened
walk_callee-returns-in-Ok-clause-opened t c =
    call_begun (code_of c.args.scope.now) c.args.wanted (expr_view c.args.callee.now) c.args.count c.args.position
    c.in_ok-variables.variables.items c.index-variable.result.now
    (here c.args.state.now) (here c.begin_apply.new.state) (here c.walk_part.new.state) c.requires.can.ready
    (omega (arith, c.in_ok-variables.ensures.number))
    (read_at c.in_ok-variables.variables.items 0 c.index-variable.result.now
    (omega (arith, c.in_ok-variables.ensures.number)) c.index-variable.ensures)
    (c.in_ok-variables.ensures.begins (code_of c.args.scope.now)) c.in-Ok.ensures.walked

pub walk_callee-returns-in-Err-clause-stopped : goal.walk_callee-returns-in-Err-clause-stopped
walk_callee-returns-in-Err-clause-stopped t c = λ b e es count.
    callee_stuck (code_of c.args.scope.now) c.args.wanted (expr_view c.args.callee.now) c.args.count c.args.position es
    c.in_ok-variables.variables.items c.index-variable.result.now
    (here c.args.state.now) (here c.begin_apply.new.state) (here c.walk_part.new.state) (bad_view b)
    c.requires.can.ready count (omega (arith, c.in_ok-variables.ensures.number))
    (read_at c.in_ok-variables.variables.items 0 c.index-variable.result.now
    (omega (arith, c.in_ok-variables.ensures.number)) c.index-variable.ensures)
    (c.in_ok-variables.ensures.begins (code_of c.args.scope.now)) (c.in-Err.ensures.stopped b (other_error _ _ e))

pub walk_function-returns-in_err-begun-clause-stopped : goal.walk_function-returns-in_err-begun-clause-stopped
walk_function-returns-in_err-begun-clause-stopped t c = λ b e. (
    let p = err_from_is_err_and c.from_residual.result c.from_residual.ensures.1 in
    function_unbegun (code_of c.args.scope.now) c.args.position (map pattern_view c.args.parameters.now)
    (expr_view c.args.body.now) 0 [] c.args.wanted (length c.args.parameters.now) (here c.args.state.now)
    (here c.begin_function.new.state) (bad_view b)
    (let m = length-map c.args.parameters.now pattern_view in let z : length
    (map pattern_view c.args.parameters.now) ≡ length c.args.parameters.now = m in z)
    (c.in_err-begun.ensures.stops b (other_error _ _ (rw (p.1, p.2) at e)) (code_of c.args.scope.now)))

pub walk_function-infer_patterns-requires-clause-whole : goal.walk_function-infer_patterns-requires-clause-whole
walk_function-infer_patterns-requires-clause-whole t c =
    (c.in_ok-begun.ensures.begins (code_of c.args.scope.now)).follows.whole

pub walk_function-infer_patterns-requires-clause-known : goal.walk_function-infer_patterns-requires-clause-known
walk_function-infer_patterns-requires-clause-known t c =
    subst AreWritten (sym c.known.ensures) c.requires.can.ready.known

pub walk_function-infer_patterns-requires-clause-wanted : goal.walk_function-infer_patterns-requires-clause-wanted
walk_function-infer_patterns-requires-clause-wanted t c =
    let whole : c.in_ok-begun.begun.items ≡ c.in-Some.value.now ∷ c.in-Some.variables.now =
    sym c.deref.ensures.value ∙ c.in-Some.ensures.cases.0 in
    (subst (AllByRecursion (Live c.begin_function.new.state.depth c.begin_function.new.state.store)) whole
    (c.in_ok-begun.ensures.begins (code_of c.args.scope.now)).live).1

pub walk_function-returns-in_err-bound-clause-stopped : goal.walk_function-returns-in_err-bound-clause-stopped
walk_function-returns-in_err-bound-clause-stopped t c = λ b e. (
    let whole : c.in_ok-begun.begun.items ≡ c.in-Some.value.now ∷ c.in-Some.variables.now =
    sym c.deref.ensures.value ∙ c.in-Some.ensures.cases.0 in
    let b0 = c.in_ok-begun.ensures.begins (code_of c.args.scope.now) in
    let began = subst (λ vs. Begun (code_of c.args.scope.now) c.args.wanted (parameters (length c.args.parameters.now))
    (function_items (length c.args.parameters.now) c.args.position) vs
    (function_types (length c.args.parameters.now)) (here c.args.state.now) (here c.begin_function.new.state)) whole b0
    in
    let can_ = can_on (code_of c.args.scope.now) (here c.args.state.now) (here c.begin_function.new.state)
    c.requires.can b0.follows in
    let p = err_from_is_err_and c.from_residual-in_err-bound.result c.from_residual-in_err-bound.ensures.1 in
    function_refused (code_of c.args.scope.now) c.args.position (map pattern_view c.args.parameters.now)
    (expr_view c.args.body.now) c.in-Some.value.now c.in-Some.variables.now c.args.wanted
    (length c.args.parameters.now) (here c.args.state.now) (here c.begin_function.new.state) c.requires.can.ready
    (let m = length-map c.args.parameters.now pattern_view in let z : length
    (map pattern_view c.args.parameters.now) ≡ length c.args.parameters.now = m in z) began can_.ready
    (here c.infer_patterns.new.state) (bad_view b)
    (subst (λ (k : Known). RefusesEach k c.args.position c.in-Some.variables.now
    (map pattern_view c.args.parameters.now) (bad_view b) (here c.begin_function.new.state)
    (here c.infer_patterns.new.state)) c.known.ensures
    (c.in_err-bound.ensures.refuses b (other_error _ _ (rw (p.1, p.2) at e)))))

pub walk_function-walk_part-requires : goal.walk_function-walk_part-requires
walk_function-walk_part-requires t c =
    let whole : c.in_ok-begun.begun.items ≡ c.in-Some.value.now ∷ c.in-Some.variables.now =
    sym c.deref.ensures.value ∙ c.in-Some.ensures.cases.0 in
    let b0 = c.in_ok-begun.ensures.begins (code_of c.args.scope.now) in
    let began = subst (λ vs. Begun (code_of c.args.scope.now) c.args.wanted (parameters (length c.args.parameters.now))
    (function_items (length c.args.parameters.now) c.args.position) vs
    (function_types (length c.args.parameters.now)) (here c.args.state.now) (here c.begin_function.new.state)) whole b0
    in
    let can_ = can_on (code_of c.args.scope.now) (here c.args.state.now) (here c.begin_function.new.state)
    c.requires.can b0.follows in
    let matched = subst (λ (k : Known). MatchesEach k c.args.position c.in-Some.variables.now
    (map pattern_view c.args.parameters.now) (map bound_view c.in_ok-bound.bound.items)
    (here c.begin_function.new.state) (here c.infer_patterns.new.state)) c.known.ensures
    c.in_ok-bound.ensures.matches in (
      first_of (omega (arith, c.decreases), search (rules, the_lemmas, c.decreases), search rules),
      (
        can_at (sym c.in_ok-entered.ensures.scope)
            (can_bound (code_of c.args.scope.now) (here c.infer_patterns.new.state)
            (map bound_view c.in_ok-bound.bound.items)
            matched.live (can_on (code_of c.args.scope.now) (here c.begin_function.new.state)
            (here c.infer_patterns.new.state)
            can_ matched.follows)),
        (
          c.requires.body,
          still_live (here c.begin_function.new.state) (here c.infer_patterns.new.state) c.in-Some.value.now
              matched.follows
              (subst (AllByRecursion (Live c.begin_function.new.state.depth c.begin_function.new.state.store)) whole
              b0.live).0,
        ),
      ),
    )

pub walk_function-returns-in_err-walk_part-clause-stopped : goal.walk_function-returns-in_err-walk_part-clause-stopped
walk_function-returns-in_err-walk_part-clause-stopped t c = λ b e. (
    let whole : c.in_ok-begun.begun.items ≡ c.in-Some.value.now ∷ c.in-Some.variables.now =
    sym c.deref.ensures.value ∙ c.in-Some.ensures.cases.0 in
    let b0 = c.in_ok-begun.ensures.begins (code_of c.args.scope.now) in
    let began = subst (λ vs. Begun (code_of c.args.scope.now) c.args.wanted (parameters (length c.args.parameters.now))
    (function_items (length c.args.parameters.now) c.args.position) vs
    (function_types (length c.args.parameters.now)) (here c.args.state.now) (here c.begin_function.new.state)) whole b0
    in
    let can_ = can_on (code_of c.args.scope.now) (here c.args.state.now) (here c.begin_function.new.state)
    c.requires.can b0.follows in
    let matched = subst (λ (k : Known). MatchesEach k c.args.position c.in-Some.variables.now
    (map pattern_view c.args.parameters.now) (map bound_view c.in_ok-bound.bound.items)
    (here c.begin_function.new.state) (here c.infer_patterns.new.state)) c.known.ensures
    c.in_ok-bound.ensures.matches in
    let p = err_from_is_err_and c.from_residual-in_err-walk_part.result c.from_residual-in_err-walk_part.ensures.1 in
    function_stuck (code_of c.args.scope.now) c.args.position (map pattern_view c.args.parameters.now)
    (expr_view c.args.body.now) c.in-Some.value.now c.in-Some.variables.now c.args.wanted
    (length c.args.parameters.now) (here c.args.state.now) (here c.begin_function.new.state) c.requires.can.ready
    (let m = length-map c.args.parameters.now pattern_view in let z : length
    (map pattern_view c.args.parameters.now) ≡ length c.args.parameters.now = m in z) began can_.ready
    (map bound_view c.in_ok-bound.bound.items) (here c.infer_patterns.new.state) (here c.walk_part.new.state)
    (bad_view b) matched
    (stuck_at c.in_ok-entered.ensures.scope
    (c.in_err-walk_part.ensures.stopped b (other_error _ _ (rw (p.1, p.2) at e)))))

pub walk_function-returns-clause-walked : goal.walk_function-returns-clause-walked
walk_function-returns-clause-walked t c =
    let whole : c.in_ok-begun.begun.items ≡ c.in-Some.value.now ∷ c.in-Some.variables.now =
    sym c.deref.ensures.value ∙ c.in-Some.ensures.cases.0 in
    let b0 = c.in_ok-begun.ensures.begins (code_of c.args.scope.now) in
    let began = subst (λ vs. Begun (code_of c.args.scope.now) c.args.wanted (parameters (length c.args.parameters.now))
    (function_items (length c.args.parameters.now) c.args.position) vs
    (function_types (length c.args.parameters.now)) (here c.args.state.now) (here c.begin_function.new.state)) whole b0
    in
    let can_ = can_on (code_of c.args.scope.now) (here c.args.state.now) (here c.begin_function.new.state)
    c.requires.can b0.follows in
    let matched = subst (λ (k : Known). MatchesEach k c.args.position c.in-Some.variables.now
    (map pattern_view c.args.parameters.now) (map bound_view c.in_ok-bound.bound.items)
    (here c.begin_function.new.state) (here c.infer_patterns.new.state)) c.known.ensures
    c.in_ok-bound.ensures.matches in
    function_went (code_of c.args.scope.now) c.args.position (map pattern_view c.args.parameters.now)
    (expr_view c.args.body.now) c.in-Some.value.now c.in-Some.variables.now c.args.wanted
    (length c.args.parameters.now) (here c.args.state.now) (here c.begin_function.new.state) c.requires.can.ready
    (let m = length-map c.args.parameters.now pattern_view in let z : length
    (map pattern_view c.args.parameters.now) ≡ length c.args.parameters.now = m in z) began can_.ready
    (map bound_view c.in_ok-bound.bound.items) (here c.infer_patterns.new.state) (here c.walk_part.new.state)
    matched
    (went_at c.in_ok-entered.ensures.scope c.in_ok-walk_part.ensures.walked)

pub walk_operand-walk-requires : goal.walk_operand-walk-requires
walk_operand-walk-requires t c = (
  first_of (omega (arith, c.decreases), search (rules, the_lemmas, c.decreases), search rules),
  (
    (can_operand (code_of c.args.scope.now) (here c.args.state.now) (here c.enter_both.new.state) c.args.outer
        c.args.number c.in_ok-enter_both.ensures c.requires.can),
    (
      (c.requires.formed),
      (live_there (here c.args.state.now) (here c.enter_both.new.state) _ c.args.wanted c.in_ok-enter_both.ensures
          c.requires.wanted),
    ),
  ),
)

pub walk_operand-returns-in-Ok-clause-walked : goal.walk_operand-returns-in-Ok-clause-walked
walk_operand-returns-in-Ok-clause-walked t c =
    operand_done (code_of c.args.scope.now) c.args.wanted (expr_view c.args.expr.now) c.args.position c.args.outer
    c.args.number (here c.args.state.now) (here c.enter_both.new.state)
    (here c.walk.new.state) (here c.leave_both.new.state) c.in_ok-enter_both.ensures c.in-Ok.ensures.walked
    c.leave_both.ensures

pub walk_operand-returns-in-Err-clause-stopped : goal.walk_operand-returns-in-Err-clause-stopped
walk_operand-returns-in-Err-clause-stopped t c = λ b e.
    operand_stuck_back (code_of c.args.scope.now) c.args.wanted (expr_view c.args.expr.now) c.args.position
    (here c.args.state.now) (here c.enter_both.new.state) (here c.walk.new.state)
    c.args.outer c.args.number c.in_ok-enter_both.ensures (bad_view b) (c.in-Err.ensures.stopped b e)

pub walk_operation-walk_parts-requires : goal.walk_operation-walk_parts-requires
walk_operation-walk_parts-requires t c = (
  first_of (omega (arith, c.decreases), search (rules, the_lemmas, c.decreases), search rules),
  (
    (c.requires.can),
    (
      ((let m = length-map c.args.parts.now.items expr_view in let count : length (map expr_view c.args.parts.now.items)
          ≡ c.len.result = omega (arith, m, c.len.ensures) in
          subst (λ n. FormedOp (op_view c.args.op.now) n) (count_each (map expr_view c.args.parts.now.items) ∙ count)
          c.requires.formed.0)),
      (
        (subst (λ ps. AllFormed (exprs_of (map expr_view ps))) (sym c.deref.ensures.value) c.requires.formed.1),
        (
          (let same = ap length c.deref.ensures.value in omega (arith, same, c.len.ensures)),
          (c.requires.wanted),
        ),
      ),
    ),
  ),
)

pub walk_operation-returns-in-Ok-clause-walked : goal.walk_operation-returns-in-Ok-clause-walked
walk_operation-returns-in-Ok-clause-walked t c =
    let es = map expr_view c.args.parts.now.items in
    let same = ap (map expr_view) c.deref.ensures.value in
    let m = length-map c.args.parts.now.items expr_view in let count : length es ≡ c.len.result = omega
    (arith, m, c.len.ensures) in
    op_closes (code_of c.args.scope.now) c.args.wanted (op_view c.args.op.now) c.args.position (strict_op c.args.op.now)
    es c.len.result c.in-Ok.field-0.items (here c.args.state.now) (here c.walk_parts.new.state) count
    (subst (λ n. FormedOp (op_view c.args.op.now) n) (count_each es ∙ count) c.requires.formed.0)
    (subst (λ xs. OpOpens (code_of c.args.scope.now) c.args.wanted (op_view c.args.op.now) c.len.result c.args.position
    xs c.in-Ok.field-0.items (here c.args.state.now) (here c.walk_parts.new.state)) same
    c.in-Ok.ensures.opened)

pub walk_operation-returns-clause-stopped : goal.walk_operation-returns-clause-stopped
walk_operation-returns-clause-stopped t c = λ b e.
    let es = map expr_view c.args.parts.now.items in
    let same = ap (map expr_view) c.deref.ensures.value in
    subst (λ xs. Stuck Wanted (code_of c.args.scope.now) (one c.args.wanted) below
    (listed (Strict (op_view c.args.op.now) (exprs_of xs)) c.args.position) (here c.args.state.now)
    (here c.walk_parts.new.state) (bad_view b)) (append-nil (map expr_view c.deref.result.now) ∙ same)
    (c.in-Err.ensures.stopped b (other_error _ _ e) []
    (let l = ap length c.deref.ensures.value in omega (arith, l, c.len.ensures)))

pub walk_part-walk-requires : goal.walk_part-walk-requires
walk_part-walk-requires t c = (
  first_of (omega (arith, c.decreases), search (rules, the_lemmas, c.decreases), search rules),
  (
    (can_part (code_of c.args.scope.now) (here c.args.state.now) (here c.enter.new.self) c.args.number
        c.in_ok-enter.ensures c.requires.can),
    (
      (c.requires.formed),
      (live_there (here c.args.state.now) (here c.enter.new.self) _ c.args.wanted c.in_ok-enter.ensures
          c.requires.wanted),
    ),
  ),
)

pub walk_part-returns-in-Ok-clause-walked : goal.walk_part-returns-in-Ok-clause-walked
walk_part-returns-in-Ok-clause-walked t c =
    part_done (code_of c.args.scope.now) c.args.wanted (expr_view c.args.expr.now) c.args.position c.args.number
    (here c.args.state.now) (here c.enter.new.self) (here c.walk.new.state)
    (here c.leave_one.new.state) c.in_ok-enter.ensures c.in-Ok.ensures.walked c.leave_one.ensures

pub walk_part-returns-in-Err-clause-stopped : goal.walk_part-returns-in-Err-clause-stopped
walk_part-returns-in-Err-clause-stopped t c = λ b e.
    part_stuck_back (code_of c.args.scope.now) c.args.wanted (expr_view c.args.expr.now) c.args.position
    (here c.args.state.now) (here c.enter.new.self) (here c.walk.new.state) c.args.number
    c.in_ok-enter.ensures (bad_view b) (c.in-Err.ensures.stopped b e)

pub walk_parts-begin_op-requires-clause-known : goal.walk_parts-begin_op-requires-clause-known
walk_parts-begin_op-requires-clause-known t c =
    subst AreWritten (sym c.known.ensures) c.requires.can.ready.known

pub walk_parts-returns-in_err-variables-clause-stopped : goal.walk_parts-returns-in_err-variables-clause-stopped
walk_parts-returns-in_err-variables-clause-stopped t c = λ b e more count. (
    let p = err_from_is_err_and c.from_residual.result c.from_residual.ensures.1 in
    let es = map expr_view c.args.parts.now in
    op_unbegun (code_of c.args.scope.now) c.args.wanted (op_view c.args.op.now) c.args.position
    (strict_op c.args.op.now) (es ++ more) c.args.count (here c.args.state.now) (here c.begin_op.new.state) (bad_view b)
    (let l = length-append es more in let m = length-map c.args.parts.now expr_view in omega (arith, l, m, count))
    (c.in_err-variables.ensures.stops b (other_error _ _ (rw (p.1, p.2) at e)) (code_of c.args.scope.now)
    (sym c.known.ensures)))

pub walk_parts-loop-index-init : goal.walk_parts-loop-index-init
walk_parts-loop-index-init t c =
    let b = c.in_ok-variables.ensures.begins (code_of c.args.scope.now) (sym c.known.ensures) in
    record {
      scope = refl;
      follows = b.follows;
      live = b.live;
      number = c.in_ok-variables.ensures.number;
      opened = op_begun (code_of c.args.scope.now) c.args.wanted (op_view c.args.op.now) c.args.position
          (strict_op c.args.op.now) c.args.count c.in_ok-variables.variables.items (here c.args.state.now)
          (here c.begin_op.new.state) b;
    }

pub walk_parts-index-variable-requires : goal.walk_parts-index-variable-requires
walk_parts-index-variable-requires t c =
    let i = c.loop-index.index in
    let few : i < c.args.count = omega (arith, c.loop-index-test.true, c.requires.few) in
    let vs = c.loop-index.variables.items in
    let es = map expr_view (take i c.args.parts.now) in
    let x = c.index-parts-index.result in
    let lt = c.loop-index-test.true in
    let at = seen_count expr_view c.args.parts.now i (omega (arith, lt)) in
    let enough = (part_enough (code_of c.args.scope.now) c.args.wanted (op_view c.args.op.now) c.args.position
    (strict_op c.args.op.now) c.args.count c.requires.formed es (expr_view x) i i at refl few vs
    (get_or vs i 0) c.loop-index.invariant.number refl (here c.args.state.now) (here c.loop-index.state)
    c.requires.can.ready c.loop-index.invariant.opened) in omega (arith, enough)

pub walk_parts-walk_operand-requires : goal.walk_parts-walk_operand-requires
walk_parts-walk_operand-requires t c =
    let i = c.loop-index.index in
    let few : i < c.args.count = omega (arith, c.loop-index-test.true, c.requires.few) in
    let vs = c.loop-index.variables.items in
    let es = map expr_view (take i c.args.parts.now) in
    let x = c.index-parts-index.result in
    let lt = c.loop-index-test.true in
    let at = seen_count expr_view c.args.parts.now i (omega (arith, lt)) in
    let enough = (part_enough (code_of c.args.scope.now) c.args.wanted (op_view c.args.op.now) c.args.position
    (strict_op c.args.op.now) c.args.count c.requires.formed es (expr_view x) i i at refl few vs
    (get_or vs i 0) c.loop-index.invariant.number refl (here c.args.state.now) (here c.loop-index.state)
    c.requires.can.ready c.loop-index.invariant.opened) in
    let u = c.index-variable.result.now in (
      first_of (omega (arith, c.decreases), search (rules, the_lemmas, c.decreases), search rules),
      (
        can_then (code_of c.args.scope.now) (code_of c.loop-index.scope) (here c.args.state.now)
            (here c.loop-index.state)
            c.loop-index.invariant.scope c.requires.can c.loop-index.invariant.follows,
        (
          item_formed c.args.parts.now i x lt c.index-parts-index.is c.requires.parts,
          live_read c.loop-index.state.depth c.loop-index.state.store vs i u enough c.index-variable.ensures
              c.loop-index.invariant.live,
        ),
      ),
    )

pub walk_parts-returns-in_err-walk_operand-clause-stopped : goal.walk_parts-returns-in_err-walk_operand-clause-stopped
walk_parts-returns-in_err-walk_operand-clause-stopped t c = λ b e more count. (
    let i = c.loop-index.index in
    let few : i < c.args.count = omega (arith, c.loop-index-test.true, c.requires.few) in
    let vs = c.loop-index.variables.items in
    let es = map expr_view (take i c.args.parts.now) in
    let x = c.index-parts-index.result in
    let lt = c.loop-index-test.true in
    let at = seen_count expr_view c.args.parts.now i (omega (arith, lt)) in
    let enough = (part_enough (code_of c.args.scope.now) c.args.wanted (op_view c.args.op.now) c.args.position
    (strict_op c.args.op.now) c.args.count c.requires.formed es (expr_view x) i i at refl few vs
    (get_or vs i 0) c.loop-index.invariant.number refl (here c.args.state.now) (here c.loop-index.state)
    c.requires.can.ready c.loop-index.invariant.opened) in
    let u = c.index-variable.result.now in
    let split : map expr_view c.args.parts.now ++ more ≡ es ++ expr_view x ∷
    (map expr_view (drop (i + 1) c.args.parts.now) ++ more) =
    ap (λ l. l ++ more) (seen_split expr_view c.args.parts.now i x lt c.index-parts-index.is)
    ∙ append_assoc es (expr_view x ∷ map expr_view (drop (i + 1) c.args.parts.now)) more in
    let whole : length (es ++ expr_view x ∷ (map expr_view (drop (i + 1) c.args.parts.now) ++ more)) ≡ c.args.count =
    (let l = ap length split in let k = length-append (map expr_view c.args.parts.now) more in let m = length-map
    c.args.parts.now expr_view in
    omega (arith, l, k, m, count)) in
    let p = err_from_is_err_and c.from_residual-in_err-walk_operand.result c.from_residual-in_err-walk_operand.ensures.1
    in
    subst (λ l. Stuck Wanted (code_of c.args.scope.now) (one c.args.wanted) below
    (listed (Strict (op_view c.args.op.now) (exprs_of l)) c.args.position) (here c.args.state.now)
    (here c.walk_operand.new.state) (bad_view b))
    (sym split)
    (part_stuck (code_of c.args.scope.now) c.args.wanted (op_view c.args.op.now) c.args.position
    (strict_op c.args.op.now) c.args.count c.requires.formed es (expr_view x) i c.in_ok-number.number at
    c.in_ok-number.ensures few vs u c.loop-index.invariant.number (read_at vs i u enough c.index-variable.ensures)
    (here c.args.state.now) (here c.loop-index.state) c.requires.can.ready c.loop-index.invariant.opened
    (map expr_view (drop (i + 1) c.args.parts.now) ++ more) (here c.walk_operand.new.state) (bad_view b) whole
    (subst (λ k. Stuck Wanted k (one u) (operand_place 0 c.in_ok-number.number)
    (operand_of (expr_view x) c.args.position 0 c.in_ok-number.number) (here c.loop-index.state)
    (here c.walk_operand.new.state) (bad_view b)) c.loop-index.invariant.scope
    (c.in_err-walk_operand.ensures.stopped b (other_error _ _ (rw (p.1, p.2) at e))))))

pub walk_parts-go_on-requires-clause-some : goal.walk_parts-go_on-requires-clause-some
walk_parts-go_on-requires-clause-some t c =
    let i = c.loop-index.index in
    let few : i < c.args.count = omega (arith, c.loop-index-test.true, c.requires.few) in
    let vs = c.loop-index.variables.items in
    let es = map expr_view (take i c.args.parts.now) in
    let x = c.index-parts-index.result in
    let lt = c.loop-index-test.true in
    let at = seen_count expr_view c.args.parts.now i (omega (arith, lt)) in
    let enough = (part_enough (code_of c.args.scope.now) c.args.wanted (op_view c.args.op.now) c.args.position
    (strict_op c.args.op.now) c.args.count c.requires.formed es (expr_view x) i i at refl few vs
    (get_or vs i 0) c.loop-index.invariant.number refl (here c.args.state.now) (here c.loop-index.state)
    c.requires.can.ready c.loop-index.invariant.opened) in
    omega (arith, enough)

pub walk_parts-go_on-requires-clause-live : goal.walk_parts-go_on-requires-clause-live
walk_parts-go_on-requires-clause-live t c =
    all_still_live (here c.loop-index.state) (here c.walk_operand.new.state) c.loop-index.variables.items
    c.in_ok-walk_operand.ensures.walked.follows c.loop-index.invariant.live

pub walk_parts-returns-in_err-go_on-clause-stopped : goal.walk_parts-returns-in_err-go_on-clause-stopped
walk_parts-returns-in_err-go_on-clause-stopped t c = λ b e more count. (
    let i = c.loop-index.index in
    let few : i < c.args.count = omega (arith, c.loop-index-test.true, c.requires.few) in
    let vs = c.loop-index.variables.items in
    let es = map expr_view (take i c.args.parts.now) in
    let x = c.index-parts-index.result in
    let lt = c.loop-index-test.true in
    let at = seen_count expr_view c.args.parts.now i (omega (arith, lt)) in
    let enough = (part_enough (code_of c.args.scope.now) c.args.wanted (op_view c.args.op.now) c.args.position
    (strict_op c.args.op.now) c.args.count c.requires.formed es (expr_view x) i i at refl few vs
    (get_or vs i 0) c.loop-index.invariant.number refl (here c.args.state.now) (here c.loop-index.state)
    c.requires.can.ready c.loop-index.invariant.opened) in
    let u = c.index-variable.result.now in
    let split : map expr_view c.args.parts.now ++ more ≡ es ++ expr_view x ∷
    (map expr_view (drop (i + 1) c.args.parts.now) ++ more) =
    ap (λ l. l ++ more) (seen_split expr_view c.args.parts.now i x lt c.index-parts-index.is)
    ∙ append_assoc es (expr_view x ∷ map expr_view (drop (i + 1) c.args.parts.now)) more in
    let whole : length (es ++ expr_view x ∷ (map expr_view (drop (i + 1) c.args.parts.now) ++ more)) ≡ c.args.count =
    (let l = ap length split in let k = length-append (map expr_view c.args.parts.now) more in let m = length-map
    c.args.parts.now expr_view in
    omega (arith, l, k, m, count)) in
    let p = err_from_is_err_and c.from_residual-in_err-go_on.result c.from_residual-in_err-go_on.ensures.1 in
    subst (λ l. Stuck Wanted (code_of c.args.scope.now) (one c.args.wanted) below
    (listed (Strict (op_view c.args.op.now) (exprs_of l)) c.args.position) (here c.args.state.now)
    (here c.go_on.new.state) (bad_view b))
    (sym split)
    (part_go_stuck (code_of c.args.scope.now) c.args.wanted (op_view c.args.op.now) c.args.position
    (strict_op c.args.op.now) c.args.count c.requires.formed es (expr_view x) i c.in_ok-number.number at
    c.in_ok-number.ensures few vs u c.loop-index.invariant.number (read_at vs i u enough c.index-variable.ensures)
    (here c.args.state.now) (here c.loop-index.state) c.requires.can.ready c.loop-index.invariant.opened
    (map expr_view (drop (i + 1) c.args.parts.now) ++ more) (here c.walk_operand.new.state) (here c.go_on.new.state)
    (bad_view b) whole
    (subst (λ k. Went Wanted k (one u) (operand_place 0 c.in_ok-number.number)
    (operand_of (expr_view x) c.args.position 0 c.in_ok-number.number) (here c.loop-index.state)
    (here c.walk_operand.new.state)) c.loop-index.invariant.scope c.in_ok-walk_operand.ensures.walked)
    (c.in_err-go_on.ensures.stops b (other_error _ _ (rw (p.1, p.2) at e)) (code_of c.args.scope.now) c.args.count)))

pub walk_parts-loop-index-preserved : goal.walk_parts-loop-index-preserved
walk_parts-loop-index-preserved t c =
    let i = c.loop-index.index in
    let few : i < c.args.count = omega (arith, c.loop-index-test.true, c.requires.few) in
    let vs = c.loop-index.variables.items in
    let es = map expr_view (take i c.args.parts.now) in
    let x = c.index-parts-index.result in
    let lt = c.loop-index-test.true in
    let at = seen_count expr_view c.args.parts.now i (omega (arith, lt)) in
    let enough = (part_enough (code_of c.args.scope.now) c.args.wanted (op_view c.args.op.now) c.args.position
    (strict_op c.args.op.now) c.args.count c.requires.formed es (expr_view x) i i at refl few vs
    (get_or vs i 0) c.loop-index.invariant.number refl (here c.args.state.now) (here c.loop-index.state)
    c.requires.can.ready c.loop-index.invariant.opened) in
    let u = c.index-variable.result.now in
    let us = c.go_on.new.variables.items in
    let next = seen_next expr_view c.args.parts.now i x lt c.index-parts-index.is in
    let went = c.in_ok-walk_operand.ensures.walked in
    let e : suc i ≡ i + 1 = omega arith in
    record {
      scope = c.in_ok-walk_operand.ensures.scope ∙ c.loop-index.invariant.scope;
      follows = follows_on (here c.args.state.now) (here c.loop-index.state) (here c.go_on.new.state)
          c.loop-index.invariant.follows
          (follows_on (here c.loop-index.state) (here c.walk_operand.new.state) (here c.go_on.new.state) went.follows
          c.in_ok-go_on.ensures.follows);
      live = c.in_ok-go_on.ensures.live;
      number = part_count (code_of c.args.scope.now) c.args.wanted (op_view c.args.op.now) c.args.position
          (strict_op c.args.op.now) c.args.count c.requires.formed es (expr_view x) i c.in_ok-number.number at
          c.in_ok-number.ensures few vs u c.loop-index.invariant.number (read_at vs i u enough c.index-variable.ensures)
          (here c.args.state.now) (here c.loop-index.state) c.requires.can.ready c.loop-index.invariant.opened us
          c.in_ok-go_on.ensures.number ∙ ap (known_count (op_view c.args.op.now) c.args.count) e;
      opened =
          subst (λ l. OpOpens (code_of c.args.scope.now) c.args.wanted (op_view c.args.op.now) c.args.count
          c.args.position l us (here c.args.state.now) (here c.go_on.new.state)) (sym next)
          (part_step (code_of c.args.scope.now) c.args.wanted (op_view c.args.op.now) c.args.position
          (strict_op c.args.op.now) c.args.count c.requires.formed es (expr_view x) i c.in_ok-number.number at
          c.in_ok-number.ensures few vs u c.loop-index.invariant.number (read_at vs i u enough c.index-variable.ensures)
          (here c.args.state.now) (here c.loop-index.state) c.requires.can.ready c.loop-index.invariant.opened us
          (here c.walk_operand.new.state) (here c.go_on.new.state)
          (subst (λ k. Went Wanted k (one u) (operand_place 0 c.in_ok-number.number)
          (operand_of (expr_view x) c.args.position 0 c.in_ok-number.number) (here c.loop-index.state)
          (here c.walk_operand.new.state)) c.loop-index.invariant.scope c.in_ok-walk_operand.ensures.walked)
          (c.in_ok-go_on.ensures.goes (code_of c.args.scope.now) c.args.count));
    }

pub walk_parts-returns-clause-scope : goal.walk_parts-returns-clause-scope
walk_parts-returns-clause-scope t c = c.loop-index.invariant.scope

pub walk_parts-returns-clause-follows : goal.walk_parts-returns-clause-follows
walk_parts-returns-clause-follows t c = c.loop-index.invariant.follows

pub walk_parts-returns-clause-live : goal.walk_parts-returns-clause-live
walk_parts-returns-clause-live t c = c.loop-index.invariant.live

pub walk_parts-returns-clause-number : goal.walk_parts-returns-clause-number
walk_parts-returns-clause-number t c =
    c.loop-index.invariant.number ∙ ap (known_count (op_view c.args.op.now) c.args.count)
    (let m : c.loop-index.index ≡ length c.args.parts.now = omega
    (arith, c.loop-index-test.false, c.loop-index.auto.index-end) in m)

pub walk_parts-returns-clause-opened : goal.walk_parts-returns-clause-opened
walk_parts-returns-clause-opened t c =
    subst (λ l. OpOpens (code_of c.args.scope.now) c.args.wanted (op_view c.args.op.now) c.args.count c.args.position
    (map expr_view l) c.loop-index.variables.items (here c.args.state.now) (here c.loop-index.state))
    (seen_all c.loop-index.index c.args.parts.now (omega (arith, c.loop-index-test.false, c.loop-index.auto.index-end)))
    c.loop-index.invariant.opened

pub walk_access-returns-in_err-walk-clause-stopped : goal.walk_access-returns-in_err-walk-clause-stopped
walk_access-returns-in_err-walk-clause-stopped t c b e =
    let p = err_from_is_err_and c.from_residual-in_err-walk.result c.from_residual-in_err-walk.ensures.1 in
    reads_stuck (code_of c.args.scope.now) c.args.position (here c.args.state.now) c.args.wanted c.args.names.now
    (map field_view c.in_ok-begun.begun.fields.items)
    (here c.begin_reads.new.state) c.in_ok-begun.begun.owner
    (expr_view c.args.inner.now) (here c.walk.new.state) (bad_view b)
    (c.in_ok-begun.ensures.begins (code_of c.args.scope.now) c.requires.can).reads
    (c.in_err-walk.ensures.stopped b (rw (p.1, p.2) at e))

pub walk_branch-returns-in_err-walk_part-clause-stopped : goal.walk_branch-returns-in_err-walk_part-clause-stopped
walk_branch-returns-in_err-walk_part-clause-stopped t c b e =
    let p = err_from_is_err_and c.from_residual-in_err-walk_part.result c.from_residual-in_err-walk_part.ensures.1 in
    let matched =
    subst (λ (k : Known). MatchesPattern k c.args.position c.args.subject (pattern_view c.args.branch.now.pattern)
    (map bound_view c.in_ok-bound.bound.items) (here c.enter_both.new.state) (here c.infer_pattern.new.state))
    c.known.ensures c.in_ok-bound.ensures.matches in
    subst (λ (x : tree.Pattern × tree.Expr). Stuck (Wanted × Wanted) (code_of c.args.scope.now)
    (two c.args.subject c.args.wanted)
    (operand_place 1 c.args.number) (branch_at x.0 x.1 c.args.position c.args.number) (here c.args.state.now)
    (here c.walk_part.new.state) (bad_view b)) (sym (branch_is c.args.branch.now
    ∙ ap (λ x. (pattern_view c.args.branch.now.pattern, expr_view x)) (sym c.deref.ensures)))
    (branch_stuck_out (code_of c.args.scope.now) c.args.position (pattern_view c.args.branch.now.pattern)
    (expr_view c.deref.result.now) c.args.subject c.args.wanted c.args.number (here c.args.state.now)
    (here c.enter_both.new.state) (here c.walk_part.new.state) c.in_ok-enter_both.ensures (bad_view b)
    (branch_stuck (code_of c.args.scope.now) c.args.position (pattern_view c.args.branch.now.pattern)
    (expr_view c.deref.result.now) c.args.subject c.args.wanted (here c.enter_both.new.state)
    (entered_can (code_of c.args.scope.now) c.args.position (pattern_view c.args.branch.now.pattern)
    (expr_view c.deref.result.now) c.args.subject c.args.wanted c.args.number (here c.args.state.now)
    (here c.enter_both.new.state) (here c.infer_pattern.new.state) c.in_ok-enter_both.ensures c.requires.can).ready
    (map bound_view c.in_ok-bound.bound.items) (here c.infer_pattern.new.state) (here c.walk_part.new.state)
    (bad_view b) matched
    (stuck_at c.in_ok-entered.ensures.scope (c.in_err-walk_part.ensures.stopped b (rw (p.1, p.2) at e)))))

pub walk_branches-returns-in_err-walk_branch-clause-stopped :
    goal.walk_branches-returns-in_err-walk_branch-clause-stopped
walk_branches-returns-in_err-walk_branch-clause-stopped t c b e =
    let p =
    err_from_is_err_and c.from_residual-in_err-walk_branch.result c.from_residual-in_err-walk_branch.ensures.1 in
    let inv = c.loop-index.invariant in
    let is = c.in_ok-number.ensures ∙ sym (length_taken c.args.branches.now c.loop-index.index
    (omega (arith, c.loop-index-test.true))) in
    subst (λ bs. BranchesStuck (code_of c.args.scope.now) c.args.subject c.args.wanted c.args.position bs
    (here c.args.state.now) (here c.walk_branch.new.state) (bad_view b))
    (sym (branches_split c.args.branches.now c.loop-index.index c.index-branches-index.result c.loop-index-test.true
    c.index-branches-index.is))
    (branches_next_stuck (code_of c.args.scope.now) c.args.subject c.args.wanted c.args.position
    (map branch_view (take c.loop-index.index c.args.branches.now)) (branch_view c.index-branches-index.result).0
    (branch_view c.index-branches-index.result).1 c.in_ok-number.number is
    (map branch_view (drop (suc c.loop-index.index) c.args.branches.now)) (here c.args.state.now)
    (here c.loop-index.state)
    (here c.walk_branch.new.state) (bad_view b) c.requires.can.ready inv.went
    (stuck_at inv.scope (c.in_err-walk_branch.ensures.stopped b (rw (p.1, p.2) at e))))

pub walk_arguments-index-variable-requires : goal.walk_arguments-index-variable-requires
walk_arguments-index-variable-requires t c = omega (arith, c.loop-index-test.true, c.requires.few)

pub open_links-loop-left-init : goal.open_links-loop-left-init
open_links-loop-left-init t c = record {
  few = omega arith;
  scope = refl;
  can = c.requires.can;
  live = c.requires.wanted;
  waits =
      subst (λ ls. Waits (code_of c.args.scope.now) c.args.position (here c.args.state.now) c.args.wanted
      (map link_view ls) (map (λ vs. vs.items) c.args.kept.now.items) (here c.args.state.now) c.args.wanted)
      (sym (drop_all (length c.args.links.now) c.args.links.now (omega arith)))
      (ap (map (λ vs. vs.items)) c.requires.none, (refl, refl));
}

pub open_links-bounds-links-left : goal.open_links-bounds-links-left
open_links-bounds-links-left t c = omega (arith, c.loop-left.invariant.few, c.loop-left-test.true)

pub open_links-open_link-requires : goal.open_links-open_link-requires
open_links-open_link-requires t c =
    let j = c.loop-left.left - 1 in
    let lt : j < length c.args.links.now = omega (arith, c.loop-left.invariant.few, c.loop-left-test.true) in
    let e1 : j + 1 ≡ c.loop-left.left = omega (arith, c.loop-left-test.true) in
    let x = c.index-links-left.result in
    let kept = map (λ vs. vs.items) c.loop-left.kept.items in (
      first_of (omega (arith, c.decreases), search (rules, the_lemmas, c.decreases), search rules),
      (
        subst (λ k. CanWalk k (here c.loop-left.state)) (sym c.loop-left.invariant.scope) c.loop-left.invariant.can,
        (
          link_formed c.args.links.now j x lt c.index-links-left.is c.requires.formed,
          c.loop-left.invariant.live,
        ),
      ),
    )

pub open_links-returns-in_err-inner-clause-stopped : goal.open_links-returns-in_err-inner-clause-stopped
open_links-returns-in_err-inner-clause-stopped t c = λ b e y. (
    let j = c.loop-left.left - 1 in
    let lt : j < length c.args.links.now = omega (arith, c.loop-left.invariant.few, c.loop-left-test.true) in
    let e1 : j + 1 ≡ c.loop-left.left = omega (arith, c.loop-left-test.true) in
    let x = c.index-links-left.result in
    let kept = map (λ vs. vs.items) c.loop-left.kept.items in
    let split : linked y (map link_view c.args.links.now) ≡ linked (linked y (map link_view (take j c.args.links.now)))
    (link_view x ∷ map link_view (drop (j + 1) c.args.links.now)) =
    ap (linked y) (seen_split link_view c.args.links.now j x lt c.index-links-left.is)
    ∙ linked_append (map link_view (take j c.args.links.now))
    (link_view x ∷ map link_view (drop (j + 1) c.args.links.now)) y in
    let p = err_from_is_err_and c.from_residual.result c.from_residual.ensures.1 in
    shown_stuck (code_of c.args.scope.now) c.args.wanted c.args.position (here c.args.state.now)
    (here c.open_link.new.state) (bad_view b) _ _ split
    (opening_stuck (code_of c.args.scope.now) c.args.position (here c.args.state.now) c.args.wanted (link_view x)
    (map link_view (drop (j + 1) c.args.links.now)) kept (here c.loop-left.state) c.loop-left.inner
    (linked y (map link_view (take j c.args.links.now))) (here c.open_link.new.state) (bad_view b)
    (subst (λ n. Waits (code_of c.args.scope.now) c.args.position (here c.args.state.now) c.args.wanted
    (map link_view (drop n c.args.links.now)) kept (here c.loop-left.state) c.loop-left.inner) (sym e1)
    c.loop-left.invariant.waits)
    (subst (λ k. Stuck Wanted k (one c.loop-left.inner) below
    (listed (done (link_view x) (linked y (map link_view (take j c.args.links.now)))) c.args.position)
    (here c.loop-left.state)
    (here c.open_link.new.state) (bad_view b)) c.loop-left.invariant.scope
    (c.in_err-inner.ensures.stopped b (rw (p.1, p.2) at e) (linked y (map link_view (take j c.args.links.now)))))))

pub open_links-loop-left-preserved : goal.open_links-loop-left-preserved
open_links-loop-left-preserved t c =
    let j = c.loop-left.left - 1 in
    let lt : j < length c.args.links.now = omega (arith, c.loop-left.invariant.few, c.loop-left-test.true) in
    let e1 : j + 1 ≡ c.loop-left.left = omega (arith, c.loop-left-test.true) in
    let x = c.index-links-left.result in
    let kept = map (λ vs. vs.items) c.loop-left.kept.items in
    let o = subst (λ k. OpensOne k c.args.position (link_view x) kept (map (λ vs. vs.items) c.open_link.new.kept.items)
    (here c.loop-left.state) c.loop-left.inner
    (here c.open_link.new.state) c.in_ok-inner.inner) c.loop-left.invariant.scope c.in_ok-inner.ensures.opened in
    record {
      few = omega (arith, c.loop-left.invariant.few);
      scope = c.in_ok-inner.ensures.scope ∙ c.loop-left.invariant.scope;
      can = inside_can (code_of c.args.scope.now) c.args.position o.own (here c.loop-left.state) c.loop-left.inner
          (here c.open_link.new.state) c.in_ok-inner.inner (link_view x) o.inside_is;
      live = inside_live (code_of c.args.scope.now) c.args.position o.own (here c.loop-left.state) c.loop-left.inner
          (here c.open_link.new.state) c.in_ok-inner.inner (link_view x) o.inside_is;
      waits =
          subst (λ ls. Waits (code_of c.args.scope.now) c.args.position (here c.args.state.now) c.args.wanted ls
          (map (λ vs. vs.items) c.open_link.new.kept.items) (here c.open_link.new.state) c.in_ok-inner.inner)
          (sym (drop_next link_view c.args.links.now j x lt c.index-links-left.is))
          (waits_more (code_of c.args.scope.now) c.args.position (here c.args.state.now) c.args.wanted (link_view x)
          (map link_view (drop (j + 1) c.args.links.now)) kept (map (λ vs. vs.items) c.open_link.new.kept.items)
          (here c.loop-left.state) (here c.open_link.new.state) c.loop-left.inner c.in_ok-inner.inner
          (subst (λ n. Waits (code_of c.args.scope.now) c.args.position (here c.args.state.now) c.args.wanted
          (map link_view (drop n c.args.links.now)) kept (here c.loop-left.state) c.loop-left.inner) (sym e1)
          c.loop-left.invariant.waits) o);
    }

pub open_links-returns-clause-scope : goal.open_links-returns-clause-scope
open_links-returns-clause-scope t c = c.loop-left.invariant.scope

pub open_links-returns-clause-can : goal.open_links-returns-clause-can
open_links-returns-clause-can t c = c.loop-left.invariant.can

pub open_links-returns-clause-live : goal.open_links-returns-clause-live
open_links-returns-clause-live t c = c.loop-left.invariant.live

pub open_links-returns-clause-waits : goal.open_links-returns-clause-waits
open_links-returns-clause-waits t c =
    let none : c.loop-left.left ≡ 0 = omega (arith, c.loop-left-test.false) in
    subst (λ n. Waits (code_of c.args.scope.now) c.args.position (here c.args.state.now) c.args.wanted
    (map link_view (drop n c.args.links.now)) (map (λ vs. vs.items) c.loop-left.kept.items) (here c.loop-left.state)
    c.loop-left.inner)
    none c.loop-left.invariant.waits

pub close_links-loop-link-init : goal.close_links-loop-link-init
close_links-loop-link-init t c = record { scope = refl; winds = λ before w e h. h }

pub close_links-close_link-requires : goal.close_links-close_link-requires
close_links-close_link-requires t c =
    let j = c.loop-link.link-index in
    let lt = c.loop-link-test.true in
    let x = c.link-item.result in
    let kept = map (λ vs. vs.items) c.loop-link.kept.items in
    let rest = map link_view (drop (j + 1) c.args.links.now) in
    let o = c.requires.open in
    let seen = linked o.inner_one (map link_view (take j c.args.links.now)) in
    let winds = subst (λ ls. Winding (code_of c.args.scope.now) c.args.position o.before o.wanted seen ls kept
    (here c.loop-link.state)) (drop_next link_view c.args.links.now j x lt c.link-item.is)
    (c.loop-link.invariant.winds o.before o.wanted o.inner_one o.winds) in (
      first_of (omega (arith, c.decreases), search (rules, the_lemmas, c.decreases), search rules),
      (
        link_formed c.args.links.now j x lt c.link-item.is c.requires.formed,
        subst (λ k. Closable k c.args.position (link_view x) kept (here c.loop-link.state))
            (sym c.loop-link.invariant.scope)
            (winds_closable (code_of c.args.scope.now) c.args.position o.before o.wanted seen (link_view x) rest kept
            (here c.loop-link.state) winds),
      ),
    )

pub close_links-returns-in_err-close_link-clause-stopped : goal.close_links-returns-in_err-close_link-clause-stopped
close_links-returns-in_err-close_link-clause-stopped t c = λ b z before w e h. (
    let j = c.loop-link.link-index in
    let lt = c.loop-link-test.true in
    let x = c.link-item.result in
    let kept = map (λ vs. vs.items) c.loop-link.kept.items in
    let rest = map link_view (drop (j + 1) c.args.links.now) in
    let seen = linked e (map link_view (take j c.args.links.now)) in
    let winds = subst (λ ls. Winding (code_of c.args.scope.now) c.args.position before w seen ls kept
    (here c.loop-link.state)) (drop_next link_view c.args.links.now j x lt c.link-item.is)
    (c.loop-link.invariant.winds before w e h) in
    let p = err_from_is_err_and c.from_residual.result c.from_residual.ensures.1 in
    let split : linked e (map link_view c.args.links.now) ≡ linked seen (link_view x ∷ rest) =
    ap (linked e) (seen_split link_view c.args.links.now j x lt c.link-item.is) ∙ linked_append
    (map link_view (take j c.args.links.now)) (link_view x ∷ rest) e in
    let s = subst (λ k. ClosesStuck k c.args.position (link_view x) kept (here c.loop-link.state)
    (here c.close_link.new.state) (bad_view b)) c.loop-link.invariant.scope
    (c.in_err-close_link.ensures.stopped b (rw (p.1, p.2) at z)) in
    subst (λ y. Stuck Wanted (code_of c.args.scope.now) (one w) below (listed y c.args.position) before
    (here c.close_link.new.state) (bad_view b)) (sym split)
    (winds_stuck (code_of c.args.scope.now) c.args.position before w seen (link_view x) rest kept
    (here c.loop-link.state) (here c.close_link.new.state) (bad_view b) winds
    (s winds.waits.others winds.waits.own winds.waits.before winds.waits.wanted winds.inside winds.variable seen
    winds.waits.is winds.waits.opens winds.went)))

pub close_links-loop-link-preserved : goal.close_links-loop-link-preserved
close_links-loop-link-preserved t c =
    let j = c.loop-link.link-index in
    let lt = c.loop-link-test.true in
    let x = c.link-item.result in
    let kept = map (λ vs. vs.items) c.loop-link.kept.items in
    let rest = map link_view (drop (j + 1) c.args.links.now) in
    let left = map (λ vs. vs.items) c.close_link.new.kept.items in
    let s = subst (λ k. Closes k c.args.position (link_view x) kept left (here c.loop-link.state)
    (here c.close_link.new.state)) c.loop-link.invariant.scope c.in_ok-close_link.ensures.closed in
    record {
      scope = c.in_ok-close_link.ensures.scope ∙ c.loop-link.invariant.scope;
      winds = λ before w e h. (
          let seen = linked e (map link_view (take j c.args.links.now)) in
          let winds = subst (λ ls. Winding (code_of c.args.scope.now) c.args.position before w seen ls kept
          (here c.loop-link.state)) (drop_next link_view c.args.links.now j x lt c.link-item.is)
          (c.loop-link.invariant.winds before w e h) in
          let closed_ = s winds.waits.others winds.waits.own winds.waits.before winds.waits.wanted winds.inside
          winds.variable
          seen winds.waits.is winds.waits.opens winds.went in
          let next : linked e (map link_view (take (j + 1) c.args.links.now)) ≡ done (link_view x) seen =
          ap (linked e) (seen_next link_view c.args.links.now j x lt c.link-item.is) ∙ linked_append
          (map link_view (take j c.args.links.now)) (link_view x ∷ []) e in
          subst (λ y. Winding (code_of c.args.scope.now) c.args.position before w y rest left
          (here c.close_link.new.state)) (sym next)
          (winds_on (code_of c.args.scope.now) c.args.position before w seen (link_view x) rest kept left
          (here c.loop-link.state) (here c.close_link.new.state) winds closed_));
    }

pub close_links-returns-clause-scope : goal.close_links-returns-clause-scope
close_links-returns-clause-scope t c = c.loop-link.invariant.scope

pub close_links-returns-clause-closed : goal.close_links-returns-clause-closed
close_links-returns-clause-closed t c = λ before w e h. (
    let j = c.loop-link.link-index in
    let kept = map (λ vs. vs.items) c.loop-link.kept.items in
    let end : j ≡ length c.args.links.now = omega (arith, c.loop-link-test.false, c.loop-link.auto.link-index-end) in
    let all = seen_all j c.args.links.now end in
    let none = drop_all j c.args.links.now (omega (arith, end)) in
    winds_end (code_of c.args.scope.now) c.args.position before w (linked e (map link_view c.args.links.now)) kept
    (here c.loop-link.state)
    (subst (λ ls. Winding (code_of c.args.scope.now) c.args.position before w (linked e (map link_view ls)) [] kept
    (here c.loop-link.state)) all
    (subst (λ ls. Winding (code_of c.args.scope.now) c.args.position before w
    (linked e (map link_view (take j c.args.links.now))) (map link_view ls) kept (here c.loop-link.state)) none
    (c.loop-link.invariant.winds before w e h))))

pub walk-walk_callee-requires : goal.walk-walk_callee-requires
walk-walk_callee-requires t c =
    let f = subst Formed ((ap expr_view c.in-Apply.is ∙ view.apply c.in-Apply.callee c.in-Apply.arguments) ∙ sym
    (ap (λ x. Apply (expr_view x) (exprs_of (map expr_view c.in-Apply.arguments.items))) c.deref-in-Apply.ensures))
    c.requires.formed in (
      first_of (omega (arith, c.decreases), search (rules, the_lemmas, c.decreases), search rules),
      (
        c.requires.can,
        (
          f.0,
          c.requires.wanted,
        ),
      ),
    )

pub walk-returns-in_err-variables-in-Apply-clause-stopped : goal.walk-returns-in_err-variables-in-Apply-clause-stopped
walk-returns-in_err-variables-in-Apply-clause-stopped t c = λ b e. (
    let p = err_from_is_err_and c.from_residual.result c.from_residual.ensures.1 in
    shown_stuck (code_of c.args.scope.now) c.args.wanted c.args.position (here c.args.state.now)
    (here c.walk_callee.new.state) (bad_view b) _ _
    (((ap expr_view c.in-Apply.is ∙ view.apply c.in-Apply.callee c.in-Apply.arguments) ∙ sym
    (ap (λ x. Apply (expr_view x) (exprs_of (map expr_view c.in-Apply.arguments.items))) c.deref-in-Apply.ensures)))
    (c.in_err-variables-in-Apply.ensures.stopped b (other_error _ _ (rw (p.1, p.2) at e))
    (map expr_view c.in-Apply.arguments.items)
    (let m = length-map c.in-Apply.arguments.items expr_view in let z : length
    (map expr_view c.in-Apply.arguments.items) ≡ c.len-count.result = omega (arith, m, c.len-count.ensures) in z)))

pub walk-walk_arguments-requires : goal.walk-walk_arguments-requires
walk-walk_arguments-requires t c =
    let f = subst Formed ((ap expr_view c.in-Apply.is ∙ view.apply c.in-Apply.callee c.in-Apply.arguments) ∙ sym
    (ap (λ x. Apply (expr_view x) (exprs_of (map expr_view c.in-Apply.arguments.items))) c.deref-in-Apply.ensures))
    c.requires.formed in
    let d = ap length c.deref-in-Apply-2.ensures.value in (
      first_of (omega (arith, c.decreases), search (rules, the_lemmas, c.decreases), search rules),
      (
        can_then (code_of c.args.scope.now) (code_of c.walk_callee.new.scope) (here c.args.state.now)
            (here c.walk_callee.new.state) c.in_ok-variables-in-Apply.ensures.scope c.requires.can
            c.in_ok-variables-in-Apply.ensures.follows,
        (
          subst (λ xs. AllFormed (exprs_of (map expr_view xs))) (sym c.deref-in-Apply-2.ensures.value) f.1,
          (
            omega (arith, d, c.len-count.ensures, c.in_ok-variables-in-Apply.ensures.number),
            subst (AllByRecursion (Live c.walk_callee.new.state.depth c.walk_callee.new.state.store)) refl
                c.in_ok-variables-in-Apply.ensures.live,
          ),
        ),
      ),
    )

pub walk-walk_part-requires : goal.walk-walk_part-requires
walk-walk_part-requires t c =
    let f = subst Formed ((ap expr_view c.in-If.is ∙ view.conditional c.in-If.test c.in-If.yes c.in-If.no) ∙ sym
    (ap (λ x. tree.If (expr_view x) (expr_view c.in-If.yes.value) (expr_view c.in-If.no.value)) c.deref-in-If.ensures))
    c.requires.formed in (
      first_of (omega (arith, c.decreases), search (rules, the_lemmas, c.decreases), search rules),
      (
        can_on (code_of c.args.scope.now) (here c.args.state.now) (here c.bool.new.state) c.requires.can
            c.in_ok-choice-in-If.ensures.follows,
        (f.0, c.in_ok-choice-in-If.ensures.live),
      ),
    )

pub walk-walk_part-requires-in-If : goal.walk-walk_part-requires-in-If
walk-walk_part-requires-in-If t c =
    let f = subst Formed (((ap expr_view c.in-If.is ∙ view.conditional c.in-If.test c.in-If.yes c.in-If.no) ∙ sym
    (ap (λ x. tree.If (expr_view x) (expr_view c.in-If.yes.value) (expr_view c.in-If.no.value)) c.deref-in-If.ensures))
    ∙ sym (ap (λ x. tree.If (expr_view c.deref-in-If.result.now) (expr_view x) (expr_view c.in-If.no.value))
    c.deref-in-If-2.ensures)) c.requires.formed in
    let g = follows_on _ _ _ c.in_ok-choice-in-If.ensures.follows c.in_ok-walk_part-in-If.ensures.walked.follows in (
      first_of (omega (arith, c.decreases), search (rules, the_lemmas, c.decreases), search rules),
      (
        can_at (sym c.in_ok-walk_part-in-If.ensures.scope)
            (can_on (code_of c.args.scope.now) (here c.args.state.now) (here c.walk_part.new.state) c.requires.can g),
        (f.1.0, still_live _ _ c.args.wanted g c.requires.wanted),
      ),
    )

pub walk-walk_part-requires-in-If-2 : goal.walk-walk_part-requires-in-If-2
walk-walk_part-requires-in-If-2 t c =
    let f = subst Formed ((((ap expr_view c.in-If.is ∙ view.conditional c.in-If.test c.in-If.yes c.in-If.no) ∙ sym
    (ap (λ x. tree.If (expr_view x) (expr_view c.in-If.yes.value) (expr_view c.in-If.no.value)) c.deref-in-If.ensures))
    ∙ sym (ap (λ x. tree.If (expr_view c.deref-in-If.result.now) (expr_view x) (expr_view c.in-If.no.value))
    c.deref-in-If-2.ensures)) ∙ sym (ap (λ x. tree.If (expr_view c.deref-in-If.result.now)
    (expr_view c.deref-in-If-2.result.now) (expr_view x)) c.deref-in-If-3.ensures)) c.requires.formed in
    let same = c.in_ok-walk_part-in-If-2.ensures.scope ∙ c.in_ok-walk_part-in-If.ensures.scope in
    let g =
    follows_on _ _ _ c.in_ok-choice-in-If.ensures.follows
    (follows_on _ _ _ c.in_ok-walk_part-in-If.ensures.walked.follows c.in_ok-walk_part-in-If-2.ensures.walked.follows)
    in (
      first_of (omega (arith, c.decreases), search (rules, the_lemmas, c.decreases), search rules),
      (
        can_at (sym same) (can_on (code_of c.args.scope.now) (here c.args.state.now) (here c.walk_part-in-If.new.state)
            c.requires.can g),
        (f.1.1, still_live _ _ c.args.wanted g c.requires.wanted),
      ),
    )

pub walk-returns-in_err-walk_part-in-If-clause-stopped : goal.walk-returns-in_err-walk_part-in-If-clause-stopped
walk-returns-in_err-walk_part-in-If-clause-stopped t c = λ b e. (
    let p = err_from_is_err_and c.from_residual-in_err-walk_part-in-If.result
    c.from_residual-in_err-walk_part-in-If.ensures.1 in
    shown_stuck (code_of c.args.scope.now) c.args.wanted c.args.position (here c.args.state.now)
    (here c.walk_part.new.state) (bad_view b) _ _
    (((ap expr_view c.in-If.is ∙ view.conditional c.in-If.test c.in-If.yes c.in-If.no) ∙ sym
    (ap (λ x. tree.If (expr_view x) (expr_view c.in-If.yes.value) (expr_view c.in-If.no.value)) c.deref-in-If.ensures)))
    (test_stuck (code_of c.args.scope.now) c.in_ok-choice-in-If.choice c.args.wanted c.args.position
    (expr_view c.deref-in-If.result.now) (expr_view c.in-If.yes.value) (expr_view c.in-If.no.value)
    (here c.args.state.now) (here c.bool.new.state) c.requires.can.ready c.in_ok-choice-in-If.ensures
    (here c.walk_part.new.state) (bad_view b)
    (c.in_err-walk_part-in-If.ensures.stopped b (other_error _ _ (rw (p.1, p.2) at e)))))

pub walk-returns-in_err-walk_part-in-If-2-clause-stopped : goal.walk-returns-in_err-walk_part-in-If-2-clause-stopped
walk-returns-in_err-walk_part-in-If-2-clause-stopped t c = λ b e. (
    let p = err_from_is_err_and c.from_residual-in_err-walk_part-in-If-2.result
    c.from_residual-in_err-walk_part-in-If-2.ensures.1 in
    shown_stuck (code_of c.args.scope.now) c.args.wanted c.args.position (here c.args.state.now)
    (here c.walk_part-in-If.new.state) (bad_view b) _ _
    ((((ap expr_view c.in-If.is ∙ view.conditional c.in-If.test c.in-If.yes c.in-If.no) ∙ sym
    (ap (λ x. tree.If (expr_view x) (expr_view c.in-If.yes.value) (expr_view c.in-If.no.value)) c.deref-in-If.ensures))
    ∙ sym (ap (λ x. tree.If (expr_view c.deref-in-If.result.now) (expr_view x) (expr_view c.in-If.no.value))
    c.deref-in-If-2.ensures)))
    (then_stuck (code_of c.args.scope.now) c.in_ok-choice-in-If.choice c.args.wanted c.args.position
    (expr_view c.deref-in-If.result.now) (expr_view c.deref-in-If-2.result.now) (expr_view c.in-If.no.value)
    (here c.args.state.now) (here c.bool.new.state) c.requires.can.ready c.in_ok-choice-in-If.ensures
    (here c.walk_part.new.state) (here c.walk_part-in-If.new.state) (bad_view b) c.in_ok-walk_part-in-If.ensures.walked
    (stuck_at c.in_ok-walk_part-in-If.ensures.scope
    (c.in_err-walk_part-in-If-2.ensures.stopped b (other_error _ _ (rw (p.1, p.2) at e))))))

pub walk-open_links-requires : goal.walk-open_links-requires
walk-open_links-requires t c = (
  first_of (omega (arith, c.decreases), search (rules, the_lemmas, c.decreases), search rules),
  (
    c.requires.can,
    (
      subst (λ ls. FormedLinks (map link_view ls)) (sym c.deref-in-Chain.ensures.value)
          (linked_formed (expr_view c.in-Chain.first.value) (map link_view c.in-Chain.links.items)
          (subst Formed (ap expr_view c.in-Chain.is ∙ view.chain c.in-Chain.first c.in-Chain.links)
          c.requires.formed)).1,
      (
        c.requires.wanted,
        c.new-kept.ensures.items,
      ),
    ),
  ),
)

pub walk-returns-in_err-inner-in-Chain-clause-stopped : goal.walk-returns-in_err-inner-in-Chain-clause-stopped
walk-returns-in_err-inner-in-Chain-clause-stopped t c = λ b e. (
    let p = err_from_is_err_and c.from_residual-in_err-inner-in-Chain.result
    c.from_residual-in_err-inner-in-Chain.ensures.1 in
    shown_stuck (code_of c.args.scope.now) c.args.wanted c.args.position (here c.args.state.now)
    (here c.open_links.new.state) (bad_view b) _ _
    ((ap expr_view c.in-Chain.is ∙ view.chain c.in-Chain.first c.in-Chain.links))
    (subst (λ ls. Stuck Wanted (code_of c.args.scope.now) (one c.args.wanted) below
    (listed (linked (expr_view c.in-Chain.first.value) (map link_view ls)) c.args.position) (here c.args.state.now)
    (here c.open_links.new.state) (bad_view b))
    (c.deref-in-Chain.ensures.value) (c.in_err-inner-in-Chain.ensures.stopped b (other_error _ _ (rw (p.1, p.2) at e))
    (expr_view c.in-Chain.first.value))))

pub walk-returns-in_err-walk-in-Chain-clause-stopped : goal.walk-returns-in_err-walk-in-Chain-clause-stopped
walk-returns-in_err-walk-in-Chain-clause-stopped t c = λ b e. (
    let p = err_from_is_err_and c.from_residual-in_err-walk-in-Chain.result
    c.from_residual-in_err-walk-in-Chain.ensures.1 in
    shown_stuck (code_of c.args.scope.now) c.args.wanted c.args.position (here c.args.state.now) (here c.walk.new.state)
    (bad_view b) _ _ ((ap expr_view c.in-Chain.is ∙ view.chain c.in-Chain.first c.in-Chain.links))
    (waits_stuck (code_of c.args.scope.now) c.args.position (here c.args.state.now) c.args.wanted
    (map link_view c.in-Chain.links.items) (map (λ vs. vs.items) c.open_links.new.kept.items)
    (here c.open_links.new.state) c.in_ok-inner-in-Chain.inner (expr_view c.in-Chain.first.value)
    (here c.walk.new.state) (bad_view b) (subst
    (λ ls. Waits (code_of c.args.scope.now) c.args.position (here c.args.state.now) c.args.wanted (map link_view ls)
    (map (λ vs. vs.items) c.open_links.new.kept.items) (here c.open_links.new.state) c.in_ok-inner-in-Chain.inner)
    c.deref-in-Chain.ensures.value c.in_ok-inner-in-Chain.ensures.waits)
    (subst (λ x. Stuck Wanted (code_of c.args.scope.now) (one c.in_ok-inner-in-Chain.inner) below
    (listed (expr_view x) c.args.position) (here c.open_links.new.state) (here c.walk.new.state) (bad_view b))
    c.deref-in-Chain-2.ensures
    (stuck_at c.in_ok-inner-in-Chain.ensures.scope
    (c.in_err-walk-in-Chain.ensures.stopped b (other_error _ _ (rw (p.1, p.2) at e)))))))

pub walk-close_links-requires : goal.walk-close_links-requires
walk-close_links-requires t c =
    let winds : Winding (code_of c.args.scope.now) c.args.position (here c.args.state.now) c.args.wanted
    (expr_view c.in-Chain.first.value) (map link_view c.in-Chain.links.items)
    (map (λ vs. vs.items) c.open_links.new.kept.items) (here c.walk.new.state) = record {
      inside = here c.open_links.new.state;
      variable = c.in_ok-inner-in-Chain.inner;
      waits = (subst (λ ls. Waits (code_of c.args.scope.now) c.args.position (here c.args.state.now) c.args.wanted
          (map link_view ls) (map (λ vs. vs.items) c.open_links.new.kept.items) (here c.open_links.new.state)
          c.in_ok-inner-in-Chain.inner) c.deref-in-Chain.ensures.value c.in_ok-inner-in-Chain.ensures.waits);
      went = subst (λ x. Went Wanted (code_of c.args.scope.now) (one c.in_ok-inner-in-Chain.inner) below
          (listed (expr_view x) c.args.position) (here c.open_links.new.state) (here c.walk.new.state))
          c.deref-in-Chain-2.ensures
          (went_at c.in_ok-inner-in-Chain.ensures.scope c.in_ok-walk-in-Chain.ensures.walked);
    } in (
      first_of (omega (arith, c.decreases), search (rules, the_lemmas, c.decreases), search rules),
      (
        subst (λ ls. FormedLinks (map link_view ls)) (sym c.deref-in-Chain-3.ensures.value)
            (linked_formed (expr_view c.in-Chain.first.value) (map link_view c.in-Chain.links.items)
            (subst Formed (ap expr_view c.in-Chain.is ∙ view.chain c.in-Chain.first c.in-Chain.links)
            c.requires.formed)).1,
        subst (λ k. Inside k c.args.position (map link_view c.deref-in-Chain-3.result.now)
            (map (λ vs. vs.items) c.open_links.new.kept.items) (here c.walk.new.state))
            (sym (c.in_ok-walk-in-Chain.ensures.scope ∙ c.in_ok-inner-in-Chain.ensures.scope))
            record {
              before = (here c.args.state.now);
              wanted = c.args.wanted;
              inner_one = (expr_view c.in-Chain.first.value);
              winds = (subst (λ ls. Winding (code_of c.args.scope.now) c.args.position (here c.args.state.now)
                  c.args.wanted
                  (expr_view c.in-Chain.first.value) (map link_view ls)
                  (map (λ vs. vs.items) c.open_links.new.kept.items)
                  (here c.walk.new.state)) (sym c.deref-in-Chain-3.ensures.value) winds);
            },
      ),
    )

pub walk-walk_part-requires-in-Case : goal.walk-walk_part-requires-in-Case
walk-walk_part-requires-in-Case t c =
    let f = subst Formed ((ap expr_view c.in-Case.is ∙ view.case_of c.in-Case.subject c.in-Case.branches) ∙ sym
    (ap (λ x. tree.Case (expr_view x) (branches_of (map branch_view c.in-Case.branches.items)))
    c.deref-in-Case.ensures)) c.requires.formed in (
      first_of (omega (arith, c.decreases), search (rules, the_lemmas, c.decreases), search rules),
      (
        can_on (code_of c.args.scope.now) (here c.args.state.now) (here c.open.new.state) c.requires.can
            c.in_ok-variable-in-Case.ensures.follows,
        (f.0, c.in_ok-variable-in-Case.ensures.live),
      ),
    )

pub walk-returns-in_err-walk_part-in-Case-clause-stopped : goal.walk-returns-in_err-walk_part-in-Case-clause-stopped
walk-returns-in_err-walk_part-in-Case-clause-stopped t c = λ b e. (
    let p = err_from_is_err_and c.from_residual-in_err-walk_part-in-Case.result
    c.from_residual-in_err-walk_part-in-Case.ensures.1 in
    shown_stuck (code_of c.args.scope.now) c.args.wanted c.args.position (here c.args.state.now)
    (here c.walk_part-in-Case.new.state) (bad_view b) _ _
    (((ap expr_view c.in-Case.is ∙ view.case_of c.in-Case.subject c.in-Case.branches) ∙ sym
    (ap (λ x. tree.Case (expr_view x) (branches_of (map branch_view c.in-Case.branches.items)))
    c.deref-in-Case.ensures)))
    (subject_stuck (code_of c.args.scope.now) c.in_ok-variable-in-Case.variable c.args.wanted c.args.position
    (expr_view c.deref-in-Case.result.now) (map branch_view c.in-Case.branches.items) (here c.args.state.now)
    (here c.open.new.state) c.requires.can.ready c.in_ok-variable-in-Case.ensures (here c.walk_part-in-Case.new.state)
    (bad_view b) (c.in_err-walk_part-in-Case.ensures.stopped b (other_error _ _ (rw (p.1, p.2) at e)))))

pub walk-walk_branches-requires : goal.walk-walk_branches-requires
walk-walk_branches-requires t c =
    let f = subst Formed ((ap expr_view c.in-Case.is ∙ view.case_of c.in-Case.subject c.in-Case.branches) ∙ sym
    (ap (λ x. tree.Case (expr_view x) (branches_of (map branch_view c.in-Case.branches.items)))
    c.deref-in-Case.ensures)) c.requires.formed in
    let g = follows_on _ _ _ c.in_ok-variable-in-Case.ensures.follows c.in_ok-walk_part-in-Case.ensures.walked.follows
    in (
      first_of (omega (arith, c.decreases), search (rules, the_lemmas, c.decreases), search rules),
      (
        can_at (sym c.in_ok-walk_part-in-Case.ensures.scope)
            (can_on (code_of c.args.scope.now) (here c.args.state.now) (here c.walk_part-in-Case.new.state)
            c.requires.can g),
        (
          subst (λ bs. FormedBranches (branches_of (map branch_view bs))) (sym c.deref-in-Case-2.ensures.value) f.1,
          (
            still_live _ _ c.in_ok-variable-in-Case.variable c.in_ok-walk_part-in-Case.ensures.walked.follows
                c.in_ok-variable-in-Case.ensures.live,
            still_live _ _ c.args.wanted g c.requires.wanted,
          ),
        ),
      ),
    )

pub walk-walk-requires-in-Located : goal.walk-walk-requires-in-Located
walk-walk-requires-in-Located t c =
    let f = subst Formed (ap expr_view c.in-Located.is ∙ (view.located c.in-Located.start c.in-Located.inner
    ∙ sym (ap (λ x. tree.Located c.in-Located.start (expr_view x)) c.deref-in-Located.ensures))) c.requires.formed in (
      first_of (omega (arith, c.decreases), search (rules, the_lemmas, c.decreases), search rules),
      (c.requires.can, (f, c.requires.wanted)),
    )

pub open_link-returns-in_err-walk_arguments-in-Given-clause-stopped :
    goal.open_link-returns-in_err-walk_arguments-in-Given-clause-stopped
open_link-returns-in_err-walk_arguments-in-Given-clause-stopped t c = λ b e y. (
    let p = err_from_is_err_and c.from_residual-in_err-walk_arguments-in-Given.result
    c.from_residual-in_err-walk_arguments-in-Given.ensures.1 in
    let stuck = subst (λ k. ArgumentsStuck k c.args.position (map expr_view c.deref-in-Given.result.now)
    c.in_ok-variables-in-Given.variables.items (here c.walk_callee.new.state) (here c.walk_arguments.new.state)
    (bad_view b)) c.in_ok-variables-in-Given.ensures.scope
    (c.in_err-walk_arguments-in-Given.ensures.stopped b (other_error _ _ (rw (p.1, p.2) at e))) in
    let s = stuck (expr_view c.deref.result.now) c.args.wanted (c.len-count.result + 1) (here c.args.state.now)
    c.requires.can (subst (λ vs. length vs ≡ suc (c.len-count.result + 1)) refl
    c.in_ok-variables-in-Given.ensures.number)
    (subst (λ vs. CallOpens (code_of c.args.scope.now) c.args.wanted (expr_view c.deref.result.now)
    (c.len-count.result + 1) c.args.position [] vs (here c.args.state.now) (here c.walk_callee.new.state)) refl
    c.in_ok-variables-in-Given.ensures.opened) (y ∷ [])
    (let d = ap length c.deref-in-Given.ensures.value in let m = length-map c.deref-in-Given.result.now expr_view in omega
    (arith, d, m, c.len-count.ensures)) in
    shown_stuck (code_of c.args.scope.now) c.args.wanted c.args.position (here c.args.state.now)
    (here c.walk_arguments.new.state) (bad_view b) _ _
    (ap (λ l. done l y) (ap link_view c.in-Given.is ∙ view.given c.in-Given.callee c.in-Given.arguments
    ∙ ap (λ x. Given (expr_view x) (map expr_view c.in-Given.arguments.items)) (sym c.deref.ensures)))
    (subst (λ xs. Stuck Wanted (code_of c.args.scope.now) (one c.args.wanted) below
    (listed (Apply (expr_view c.deref.result.now) (exprs_of (map expr_view xs ++ y ∷ []))) c.args.position)
    (here c.args.state.now) (here c.walk_arguments.new.state) (bad_view b))
    (c.deref-in-Given.ensures.value) (s)))

pub walk-returns-in_ok-variables-in-Apply-clause-walked : goal.walk-returns-in_ok-variables-in-Apply-clause-walked
walk-returns-in_ok-variables-in-Apply-clause-walked t c =
    shown c.walk_arguments.result (code_of c.args.scope.now) c.args.wanted c.args.position (here c.args.state.now)
    (here c.walk_arguments.new.state) _ _ ((ap expr_view c.in-Apply.is ∙ view.apply c.in-Apply.callee
    c.in-Apply.arguments) ∙ sym (ap (λ x. Apply (expr_view x) (exprs_of (map expr_view c.in-Apply.arguments.items)))
    c.deref-in-Apply.ensures))
    (on_ok_weaker c.walk_arguments.result (λ h. (
    let went = subst (λ k. ArgumentsWent k c.args.position (map expr_view c.deref-in-Apply-2.result.now)
    c.in_ok-variables-in-Apply.variables.items (here c.walk_callee.new.state) (here c.walk_arguments.new.state))
    c.in_ok-variables-in-Apply.ensures.scope h in
    call_closes (code_of c.args.scope.now) c.args.wanted (expr_view c.deref-in-Apply.result.now) c.len-count.result
    c.args.position (map expr_view c.in-Apply.arguments.items) c.in_ok-variables-in-Apply.variables.items
    (here c.args.state.now) (here c.walk_arguments.new.state)
    (let m = length-map c.in-Apply.arguments.items expr_view in let z : length
    (map expr_view c.in-Apply.arguments.items) ≡ c.len-count.result = omega (arith, m, c.len-count.ensures) in z)
    (subst (λ xs. CallOpens (code_of c.args.scope.now) c.args.wanted (expr_view c.deref-in-Apply.result.now)
    c.len-count.result c.args.position (map expr_view xs) c.in_ok-variables-in-Apply.variables.items
    (here c.args.state.now) (here c.walk_arguments.new.state))
    c.deref-in-Apply-2.ensures.value (went (expr_view c.deref-in-Apply.result.now) c.args.wanted c.len-count.result
    (here c.args.state.now) c.requires.can
    (subst (λ vs. length vs ≡ suc c.len-count.result) refl c.in_ok-variables-in-Apply.ensures.number)
    (subst (λ vs. CallOpens (code_of c.args.scope.now) c.args.wanted (expr_view c.deref-in-Apply.result.now)
    c.len-count.result c.args.position [] vs (here c.args.state.now) (here c.walk_callee.new.state)) refl
    c.in_ok-variables-in-Apply.ensures.opened))))) c.walk_arguments.ensures.opened)

pub walk-returns-in_ok-variables-in-Apply-clause-stopped : goal.walk-returns-in_ok-variables-in-Apply-clause-stopped
walk-returns-in_ok-variables-in-Apply-clause-stopped t c = λ b e. (
    let stuck = subst (λ k. ArgumentsStuck k c.args.position (map expr_view c.deref-in-Apply-2.result.now)
    c.in_ok-variables-in-Apply.variables.items (here c.walk_callee.new.state) (here c.walk_arguments.new.state)
    (bad_view b)) c.in_ok-variables-in-Apply.ensures.scope (c.walk_arguments.ensures.stopped b e) in
    let s = stuck (expr_view c.deref-in-Apply.result.now) c.args.wanted c.len-count.result (here c.args.state.now)
    c.requires.can (subst (λ vs. length vs ≡ suc c.len-count.result) refl c.in_ok-variables-in-Apply.ensures.number)
    (subst (λ vs. CallOpens (code_of c.args.scope.now) c.args.wanted (expr_view c.deref-in-Apply.result.now)
    c.len-count.result c.args.position [] vs (here c.args.state.now) (here c.walk_callee.new.state)) refl
    c.in_ok-variables-in-Apply.ensures.opened) []
    (let d = ap length c.deref-in-Apply-2.ensures.value in let m = length-map c.deref-in-Apply-2.result.now expr_view in
    omega (arith, d, m, c.len-count.ensures)) in
    shown_stuck (code_of c.args.scope.now) c.args.wanted c.args.position (here c.args.state.now)
    (here c.walk_arguments.new.state) (bad_view b) _ _
    (((ap expr_view c.in-Apply.is ∙ view.apply c.in-Apply.callee c.in-Apply.arguments) ∙ sym
    (ap (λ x. Apply (expr_view x) (exprs_of (map expr_view c.in-Apply.arguments.items))) c.deref-in-Apply.ensures)))
    (subst (λ xs. Stuck Wanted (code_of c.args.scope.now) (one c.args.wanted) below
    (listed (Apply (expr_view c.deref-in-Apply.result.now) (exprs_of xs)) c.args.position) (here c.args.state.now)
    (here c.walk_arguments.new.state) (bad_view b))
    (append-nil (map expr_view c.deref-in-Apply-2.result.now) ∙ ap (map expr_view) c.deref-in-Apply-2.ensures.value)
    (s)))

pub walk-returns-in_ok-walk_part-in-If-2-clause-walked : goal.walk-returns-in_ok-walk_part-in-If-2-clause-walked
walk-returns-in_ok-walk_part-in-If-2-clause-walked t c =
    let same = c.in_ok-walk_part-in-If-2.ensures.scope ∙ c.in_ok-walk_part-in-If.ensures.scope in
    shown c.walk_part-in-If-2.result (code_of c.args.scope.now) c.args.wanted c.args.position (here c.args.state.now)
    (here c.walk_part-in-If-2.new.state) _ _
    ((((ap expr_view c.in-If.is ∙ view.conditional c.in-If.test c.in-If.yes c.in-If.no) ∙ sym
    (ap (λ x. tree.If (expr_view x) (expr_view c.in-If.yes.value) (expr_view c.in-If.no.value)) c.deref-in-If.ensures))
    ∙ sym (ap (λ x. tree.If (expr_view c.deref-in-If.result.now) (expr_view x) (expr_view c.in-If.no.value))
    c.deref-in-If-2.ensures)) ∙ sym (ap (λ x. tree.If (expr_view c.deref-in-If.result.now)
    (expr_view c.deref-in-If-2.result.now) (expr_view x)) c.deref-in-If-3.ensures))
    (ok_on c.walk_part-in-If-2.result c.walk_part-in-If-2.ensures.walked
    (λ w. if_closes (code_of c.args.scope.now) c.in_ok-choice-in-If.choice c.args.wanted c.args.position
    (expr_view c.deref-in-If.result.now) (expr_view c.deref-in-If-2.result.now) (expr_view c.deref-in-If-3.result.now)
    (here c.args.state.now) (here c.bool.new.state) c.requires.can.ready c.in_ok-choice-in-If.ensures
    (here c.walk_part.new.state) (here c.walk_part-in-If.new.state) (here c.walk_part-in-If-2.new.state)
    c.in_ok-walk_part-in-If.ensures.walked
    (went_at c.in_ok-walk_part-in-If.ensures.scope c.in_ok-walk_part-in-If-2.ensures.walked) (went_at same w)))

pub walk-returns-in_ok-walk_part-in-If-2-clause-stopped : goal.walk-returns-in_ok-walk_part-in-If-2-clause-stopped
walk-returns-in_ok-walk_part-in-If-2-clause-stopped t c = λ b e. (
    let same = c.in_ok-walk_part-in-If-2.ensures.scope ∙ c.in_ok-walk_part-in-If.ensures.scope in
    shown_stuck (code_of c.args.scope.now) c.args.wanted c.args.position (here c.args.state.now)
    (here c.walk_part-in-If-2.new.state) (bad_view b) _ _
    (((((ap expr_view c.in-If.is ∙ view.conditional c.in-If.test c.in-If.yes c.in-If.no) ∙ sym
    (ap (λ x. tree.If (expr_view x) (expr_view c.in-If.yes.value) (expr_view c.in-If.no.value)) c.deref-in-If.ensures))
    ∙ sym (ap (λ x. tree.If (expr_view c.deref-in-If.result.now) (expr_view x) (expr_view c.in-If.no.value))
    c.deref-in-If-2.ensures)) ∙ sym (ap (λ x. tree.If (expr_view c.deref-in-If.result.now)
    (expr_view c.deref-in-If-2.result.now) (expr_view x)) c.deref-in-If-3.ensures)))
    (else_stuck (code_of c.args.scope.now) c.in_ok-choice-in-If.choice c.args.wanted c.args.position
    (expr_view c.deref-in-If.result.now) (expr_view c.deref-in-If-2.result.now) (expr_view c.deref-in-If-3.result.now)
    (here c.args.state.now) (here c.bool.new.state) c.requires.can.ready c.in_ok-choice-in-If.ensures
    (here c.walk_part.new.state) (here c.walk_part-in-If.new.state) (here c.walk_part-in-If-2.new.state) (bad_view b)
    c.in_ok-walk_part-in-If.ensures.walked
    (went_at c.in_ok-walk_part-in-If.ensures.scope c.in_ok-walk_part-in-If-2.ensures.walked)
    (stuck_at same (c.walk_part-in-If-2.ensures.stopped b e))))

pub walk-returns-in_ok-walk-in-Chain-clause-walked : goal.walk-returns-in_ok-walk-in-Chain-clause-walked
walk-returns-in_ok-walk-in-Chain-clause-walked t c =
    let winds : Winding (code_of c.args.scope.now) c.args.position (here c.args.state.now) c.args.wanted
    (expr_view c.in-Chain.first.value) (map link_view c.in-Chain.links.items)
    (map (λ vs. vs.items) c.open_links.new.kept.items) (here c.walk.new.state) = record {
      inside = here c.open_links.new.state;
      variable = c.in_ok-inner-in-Chain.inner;
      waits = (subst (λ ls. Waits (code_of c.args.scope.now) c.args.position (here c.args.state.now) c.args.wanted
          (map link_view ls) (map (λ vs. vs.items) c.open_links.new.kept.items) (here c.open_links.new.state)
          c.in_ok-inner-in-Chain.inner) c.deref-in-Chain.ensures.value c.in_ok-inner-in-Chain.ensures.waits);
      went = subst (λ x. Went Wanted (code_of c.args.scope.now) (one c.in_ok-inner-in-Chain.inner) below
          (listed (expr_view x) c.args.position) (here c.open_links.new.state) (here c.walk.new.state))
          c.deref-in-Chain-2.ensures
          (went_at c.in_ok-inner-in-Chain.ensures.scope c.in_ok-walk-in-Chain.ensures.walked);
    } in
    shown c.close_links.result (code_of c.args.scope.now) c.args.wanted c.args.position (here c.args.state.now)
    (here c.close_links.new.state) _ _ (ap expr_view c.in-Chain.is ∙ view.chain c.in-Chain.first c.in-Chain.links)
    (on_ok_weaker c.close_links.result (λ h. (
    let s = subst (λ k. Unwinds k c.args.position (map link_view c.deref-in-Chain-3.result.now)
    (map (λ vs. vs.items) c.open_links.new.kept.items) (here c.walk.new.state) (here c.close_links.new.state))
    (c.in_ok-walk-in-Chain.ensures.scope ∙ c.in_ok-inner-in-Chain.ensures.scope) h in
    subst (λ ls. Went Wanted (code_of c.args.scope.now) (one c.args.wanted) below
    (listed (linked (expr_view c.in-Chain.first.value) (map link_view ls)) c.args.position) (here c.args.state.now)
    (here c.close_links.new.state)) c.deref-in-Chain-3.ensures.value
    (s (here c.args.state.now) c.args.wanted (expr_view c.in-Chain.first.value)
    (subst (λ ls. Winding (code_of c.args.scope.now) c.args.position (here c.args.state.now) c.args.wanted
    (expr_view c.in-Chain.first.value) (map link_view ls) (map (λ vs. vs.items) c.open_links.new.kept.items)
    (here c.walk.new.state)) (sym c.deref-in-Chain-3.ensures.value) winds)))) c.close_links.ensures.closed)

pub walk-returns-in_ok-walk-in-Chain-clause-stopped : goal.walk-returns-in_ok-walk-in-Chain-clause-stopped
walk-returns-in_ok-walk-in-Chain-clause-stopped t c = λ b e. (
    let winds : Winding (code_of c.args.scope.now) c.args.position (here c.args.state.now) c.args.wanted
    (expr_view c.in-Chain.first.value) (map link_view c.in-Chain.links.items)
    (map (λ vs. vs.items) c.open_links.new.kept.items) (here c.walk.new.state) = record {
      inside = here c.open_links.new.state;
      variable = c.in_ok-inner-in-Chain.inner;
      waits = (subst (λ ls. Waits (code_of c.args.scope.now) c.args.position (here c.args.state.now) c.args.wanted
          (map link_view ls) (map (λ vs. vs.items) c.open_links.new.kept.items) (here c.open_links.new.state)
          c.in_ok-inner-in-Chain.inner) c.deref-in-Chain.ensures.value c.in_ok-inner-in-Chain.ensures.waits);
      went = subst (λ x. Went Wanted (code_of c.args.scope.now) (one c.in_ok-inner-in-Chain.inner) below
          (listed (expr_view x) c.args.position) (here c.open_links.new.state) (here c.walk.new.state))
          c.deref-in-Chain-2.ensures
          (went_at c.in_ok-inner-in-Chain.ensures.scope c.in_ok-walk-in-Chain.ensures.walked);
    } in
    let s = subst (λ k. UnwindsStuck k c.args.position (map link_view c.deref-in-Chain-3.result.now)
    (map (λ vs. vs.items) c.open_links.new.kept.items) (here c.walk.new.state) (here c.close_links.new.state)
    (bad_view b)) (c.in_ok-walk-in-Chain.ensures.scope ∙ c.in_ok-inner-in-Chain.ensures.scope)
    (c.close_links.ensures.stopped b e) in
    shown_stuck (code_of c.args.scope.now) c.args.wanted c.args.position (here c.args.state.now)
    (here c.close_links.new.state) (bad_view b) _ _
    ((ap expr_view c.in-Chain.is ∙ view.chain c.in-Chain.first c.in-Chain.links))
    (subst (λ ls. Stuck Wanted (code_of c.args.scope.now) (one c.args.wanted) below
    (listed (linked (expr_view c.in-Chain.first.value) (map link_view ls)) c.args.position) (here c.args.state.now)
    (here c.close_links.new.state) (bad_view b))
    (c.deref-in-Chain-3.ensures.value) (s (here c.args.state.now) c.args.wanted (expr_view c.in-Chain.first.value)
    (subst (λ ls. Winding (code_of c.args.scope.now) c.args.position (here c.args.state.now) c.args.wanted
    (expr_view c.in-Chain.first.value) (map link_view ls) (map (λ vs. vs.items) c.open_links.new.kept.items)
    (here c.walk.new.state)) (sym c.deref-in-Chain-3.ensures.value) winds))))

pub walk-returns-in_ok-walk_part-in-Case-clause-walked : goal.walk-returns-in_ok-walk_part-in-Case-clause-walked
walk-returns-in_ok-walk_part-in-Case-clause-walked t c =
    shown c.walk_branches.result (code_of c.args.scope.now) c.args.wanted c.args.position (here c.args.state.now)
    (here c.walk_branches.new.state) _ _ ((ap expr_view c.in-Case.is ∙ view.case_of c.in-Case.subject
    c.in-Case.branches) ∙ sym (ap (λ x. tree.Case (expr_view x)
    (branches_of (map branch_view c.in-Case.branches.items))) c.deref-in-Case.ensures))
    (ok_on c.walk_branches.result c.walk_branches.ensures.walked
    (λ w. case_closes (code_of c.args.scope.now) c.in_ok-variable-in-Case.variable c.args.wanted c.args.position
    (expr_view c.deref-in-Case.result.now) (map branch_view c.in-Case.branches.items) (here c.args.state.now)
    (here c.open.new.state) c.requires.can.ready c.in_ok-variable-in-Case.ensures (here c.walk_part-in-Case.new.state)
    (here c.walk_branches.new.state) c.in_ok-walk_part-in-Case.ensures.walked
    (subst (λ bs. BranchesWent (code_of c.args.scope.now) c.in_ok-variable-in-Case.variable c.args.wanted
    c.args.position (map branch_view bs) (here c.walk_part-in-Case.new.state) (here c.walk_branches.new.state))
    c.deref-in-Case-2.ensures.value
    (went_at c.in_ok-walk_part-in-Case.ensures.scope w))))

pub walk-returns-in_ok-walk_part-in-Case-clause-stopped : goal.walk-returns-in_ok-walk_part-in-Case-clause-stopped
walk-returns-in_ok-walk_part-in-Case-clause-stopped t c = λ b e. (
    shown_stuck (code_of c.args.scope.now) c.args.wanted c.args.position (here c.args.state.now)
    (here c.walk_branches.new.state) (bad_view b) _ _
    (((ap expr_view c.in-Case.is ∙ view.case_of c.in-Case.subject c.in-Case.branches) ∙ sym
    (ap (λ x. tree.Case (expr_view x) (branches_of (map branch_view c.in-Case.branches.items)))
    c.deref-in-Case.ensures)))
    (branches_stuck (code_of c.args.scope.now) c.in_ok-variable-in-Case.variable c.args.wanted c.args.position
    (expr_view c.deref-in-Case.result.now) (map branch_view c.in-Case.branches.items) (here c.args.state.now)
    (here c.open.new.state) c.requires.can.ready c.in_ok-variable-in-Case.ensures (here c.walk_part-in-Case.new.state)
    (here c.walk_branches.new.state) (bad_view b) c.in_ok-walk_part-in-Case.ensures.walked
    (subst (λ bs. BranchesStuck (code_of c.args.scope.now) c.in_ok-variable-in-Case.variable c.args.wanted
    c.args.position (map branch_view bs) (here c.walk_part-in-Case.new.state) (here c.walk_branches.new.state)
    (bad_view b)) c.deref-in-Case-2.ensures.value
    (stuck_at c.in_ok-walk_part-in-Case.ensures.scope (c.walk_branches.ensures.stopped b e)))))

-- ---- lets

pub walk-walk_groups-requires : goal.walk-walk_groups-requires
walk-walk_groups-requires t c =
    let f = subst Formed (ap expr_view c.in-Let.is ∙ view.let_in c.in-Let.groups c.in-Let.body) c.requires.formed in
    let e = c.deref-in-Let.ensures.value in (
      first_of (omega (arith, c.decreases), search (rules, the_lemmas, c.decreases), search rules),
      (
        c.requires.can,
        (
          subst (λ gs. FormedGroups (groups_of (map group_view gs))) (sym e) f.1.0,
          subst (λ gs. IsSimple (groups_of (map group_view gs))) (sym e) f.0,
        ),
      ),
    )

pub walk-returns-in_err-entered-in-Let-clause-stopped : goal.walk-returns-in_err-entered-in-Let-clause-stopped
walk-returns-in_err-entered-in-Let-clause-stopped t c = λ b e. (
    let p = err_from_is_err_and c.from_residual-in_err-entered-in-Let.result
    c.from_residual-in_err-entered-in-Let.ensures.1 in
    let body = expr_view c.in-Let.body.value in
    shown_stuck (code_of c.args.scope.now) c.args.wanted c.args.position (here c.args.state.now)
    (here c.walk_groups.new.state) (bad_view b) _ _
    (ap expr_view c.in-Let.is ∙ (view.let_in c.in-Let.groups c.in-Let.body
    ∙ sym (ap (λ gs. tree.Let (groups_of (map group_view gs)) body) c.deref-in-Let.ensures.value)))
    (let_refused (code_of c.args.scope.now) (groups_of (map group_view c.deref-in-Let.result.now)) body c.args.position
    c.args.wanted (here c.args.state.now) (here c.walk_groups.new.state) (bad_view b)
    (c.in_err-entered-in-Let.ensures.stopped b (other_error _ _ (rw (p.1, p.2) at e)))))

pub walk-walk-requires-in-Let : goal.walk-walk-requires-in-Let
walk-walk-requires-in-Let t c =
    let f = subst Formed (ap expr_view c.in-Let.is ∙ view.let_in c.in-Let.groups c.in-Let.body) c.requires.formed in
    let g = c.in_ok-entered-in-Let.ensures in (
      first_of (omega (arith, c.decreases), search (rules, the_lemmas, c.decreases), search rules),
      (
        body_can (code_of c.args.scope.now) (groups_of (map group_view c.deref-in-Let.result.now))
            (expr_view c.deref-in-Let-2.result.now) c.args.position c.args.wanted (here c.args.state.now)
            (code_of c.walk_groups.new.scope) (here c.walk_groups.new.state) (here c.enter.new.self) g.follows g.defined
            c.in_ok-enter-in-Let.ensures c.requires.can,
        (
          subst (λ x. Formed (expr_view x)) (sym c.deref-in-Let-2.ensures) f.1.1,
          live_there (here c.walk_groups.new.state) (here c.enter.new.self) _ c.args.wanted c.in_ok-enter-in-Let.ensures
              (still_live (here c.args.state.now) (here c.walk_groups.new.state) c.args.wanted g.follows
              c.requires.wanted),
        ),
      ),
    )

pub walk-returns-in_err-walk-in-Let-clause-stopped : goal.walk-returns-in_err-walk-in-Let-clause-stopped
walk-returns-in_err-walk-in-Let-clause-stopped t c = λ b e. (
    let p = err_from_is_err_and c.from_residual-in_err-walk-in-Let.result c.from_residual-in_err-walk-in-Let.ensures.1
    in
    let g = c.in_ok-entered-in-Let.ensures in
    shown_stuck (code_of c.args.scope.now) c.args.wanted c.args.position (here c.args.state.now)
    (here c.walk-in-Let.new.state) (bad_view b) _ _
    (ap expr_view c.in-Let.is ∙ (view.let_in c.in-Let.groups c.in-Let.body ∙ sym
    (ap (λ gs. tree.Let (groups_of (map group_view gs)) (expr_view c.deref-in-Let-2.result.now))
    c.deref-in-Let.ensures.value ∙ ap (λ x. tree.Let (groups_of (map group_view c.in-Let.groups.items)) (expr_view x))
    c.deref-in-Let-2.ensures)))
    (body_refused (code_of c.args.scope.now) (groups_of (map group_view c.deref-in-Let.result.now))
    (expr_view c.deref-in-Let-2.result.now) c.args.position c.args.wanted (here c.args.state.now)
    (code_of c.walk_groups.new.scope) (here c.walk_groups.new.state) (here c.enter.new.self) g.follows g.defined
    c.in_ok-enter-in-Let.ensures (here c.walk-in-Let.new.state) (bad_view b)
    (c.in_err-walk-in-Let.ensures.stopped b (other_error _ _ (rw (p.1, p.2) at e)))))

pub walk-returns-in_ok-leave-in-Let-clause-scope : goal.walk-returns-in_ok-leave-in-Let-clause-scope
walk-returns-in_ok-leave-in-Let-clause-scope t c =
    c.in_ok-leave-in-Let.ensures ∙ (ap (without c.in_ok-entered-in-Let.entered.items) c.in_ok-walk-in-Let.ensures.scope
    ∙ c.in_ok-entered-in-Let.ensures.left)

pub walk-returns-in_ok-leave-in-Let-clause-walked : goal.walk-returns-in_ok-leave-in-Let-clause-walked
walk-returns-in_ok-leave-in-Let-clause-walked t c =
    let g = c.in_ok-entered-in-Let.ensures in
    let w = c.in_ok-walk-in-Let.ensures.walked in
    let mid = here c.walk_groups.new.state in
    let x = here c.walk-in-Let.new.state in
    subst (λ y. Went Wanted (code_of c.args.scope.now) (one c.args.wanted) below (listed y c.args.position)
    (here c.args.state.now) (here c.leave_one.new.state))
    (sym (ap expr_view c.in-Let.is ∙ (view.let_in c.in-Let.groups c.in-Let.body ∙ sym
    (ap (λ gs. tree.Let (groups_of (map group_view gs)) (expr_view c.deref-in-Let-2.result.now))
    c.deref-in-Let.ensures.value ∙ ap (λ x. tree.Let (groups_of (map group_view c.in-Let.groups.items)) (expr_view x))
    c.deref-in-Let-2.ensures))))
    (let_done (code_of c.args.scope.now) (groups_of (map group_view c.deref-in-Let.result.now))
    (expr_view c.deref-in-Let-2.result.now) c.args.position c.args.wanted (here c.args.state.now)
    (code_of c.walk_groups.new.scope) (here c.walk_groups.new.state) (here c.enter.new.self) g.follows g.defined
    c.in_ok-enter-in-Let.ensures x (here c.leave_one.new.state) w
    (c.leave_one.ensures (record mid { store = x.store; depth = x.depth }) 1
    (body_there (code_of c.args.scope.now) (groups_of (map group_view c.deref-in-Let.result.now))
    (expr_view c.deref-in-Let-2.result.now) c.args.position c.args.wanted (here c.args.state.now)
    (code_of c.walk_groups.new.scope) (here c.walk_groups.new.state) (here c.enter.new.self) g.follows g.defined
    c.in_ok-enter-in-Let.ensures x w.follows)))

pub walk_groups-declare-requires-clause-ready : goal.walk_groups-declare-requires-clause-ready
walk_groups-declare-requires-clause-ready t c =
    (can_part (code_of c.args.scope.now) (here c.args.state.now) (here c.enter.new.self) 0 c.in_ok-enter.ensures
    c.requires.can).ready

pub walk_groups-declare-requires-clause-once : goal.walk_groups-declare-requires-clause-once
walk_groups-declare-requires-clause-once t c =
    let gs = map group_view c.args.groups.now in
    let is = subst (λ l. IsOrder l c.in_ok-order.order)
    (ap (map (λ g. group_view g.now)) c.deref.ensures.value ∙ refs_views c.in_ok-all.all.items c.args.groups.now
    c.in_ok-all.ensures) c.in_ok-order.ensures in
    subst (λ xs. AnnotationsOnce (titles_of xs)) (sym c.deref-2.ensures.value)
    (titles_once gs c.in_ok-order.order.definitions.items (ordered gs) c.requires.formed is.definitions)

pub walk_groups-returns-in_err-entered-clause-stopped : goal.walk_groups-returns-in_err-entered-clause-stopped
walk_groups-returns-in_err-entered-clause-stopped t c = λ b e. (
    let gs = map group_view c.args.groups.now in
    let is = subst (λ l. IsOrder l c.in_ok-order.order)
    (ap (map (λ g. group_view g.now)) c.deref.ensures.value ∙ refs_views c.in_ok-all.all.items c.args.groups.now
    c.in_ok-all.ensures) c.in_ok-order.ensures in
    let p = err_from_is_err_and c.from_residual-in_err-entered.result c.from_residual-in_err-entered.ensures.1 in
    let are = subst (λ xs. AreDefinitions gs xs (ordered gs)) (sym c.deref-2.ensures.value) is.definitions in
    names_stop gs (code_of c.args.scope.now) (at_child (here c.args.state.now) 0) (here c.declare.new.state)
    (bad_view b)
    (subst (λ (s : plain.State). DefinitionsStop (code_of c.args.scope.now) (λ q. none) (listed_names (ordered gs)) s
    (here c.declare.new.state) (bad_view b))
    c.in_ok-enter.ensures (c.in_err-entered.ensures.refused b (other_error _ _ (rw (p.1, p.2) at e)) gs (ordered gs)
    are)))

pub walk_groups-loop-number-init : goal.walk_groups-loop-number-init
walk_groups-loop-number-init t c =
    let gs = map group_view c.args.groups.now in
    let is = subst (λ l. IsOrder l c.in_ok-order.order)
    (ap (map (λ g. group_view g.now)) c.deref.ensures.value ∙ refs_views c.in_ok-all.all.items c.args.groups.now
    c.in_ok-all.ensures) c.in_ok-order.ensures in
    let are = subst (λ xs. AreDefinitions gs xs (ordered gs)) (sym c.deref-2.ensures.value) is.definitions in
    let code = code_of c.args.scope.now in
    let start = at_child (here c.args.state.now) 0 in
    let after = code_of c.declare.new.scope in
    let now = here c.declare.new.state in
    let one_ : Defined code after (λ q. none) (listed_names (ordered gs)) start now =
    subst (λ (s : plain.State). Defined code after (λ q. none) (listed_names (ordered gs)) s now) c.in_ok-enter.ensures
    (c.in_ok-entered.ensures.declared gs (ordered gs) are) in
    record {
      left = c.in_ok-entered.ensures.left;
      can = can_after code after (λ q. none) (listed_names (ordered gs)) start now
          (can_child code (here c.args.state.now) 0 c.requires.can) one_;
      first = turns_none gs code start after now one_;
    }

pub walk_groups-walk_group-requires : goal.walk_groups-walk_group-requires
walk_groups-walk_group-requires t c =
    let gs = map group_view c.args.groups.now in
    let is = subst (λ l. IsOrder l c.in_ok-order.order)
    (ap (map (λ g. group_view g.now)) c.deref.ensures.value ∙ refs_views c.in_ok-all.all.items c.args.groups.now
    c.in_ok-all.ensures) c.in_ok-order.ensures in
    let rs = ap (map (λ g. g.now)) c.deref-in-loop-number.ensures.value ∙ c.in_ok-all.ensures in
    let there = sym (refs_views c.deref-in-loop-number.result.now c.args.groups.now rs) in
    let size = ap (most the_size) rs in (
      omega (arith, size, c.decreases),
      (
        c.loop-number.invariant.can,
        (
          subst (λ l. FormedGroups (groups_of l)) there c.requires.formed,
          (
            subst (λ l. IsSimple (groups_of l)) there c.requires.simple,
            (
              subst (λ l. IsOrder l c.in_ok-order.order) there is,
              (let n = c.len-number-end.ensures in let l = c.loop-number-test.true in omega (arith, n, l)),
            ),
          ),
        ),
      ),
    )

pub walk_groups-returns-in_err-walked-clause-stopped : goal.walk_groups-returns-in_err-walked-clause-stopped
walk_groups-returns-in_err-walked-clause-stopped t c = λ b e. (
    let gs = map group_view c.args.groups.now in
    let is = subst (λ l. IsOrder l c.in_ok-order.order)
    (ap (map (λ g. group_view g.now)) c.deref.ensures.value ∙ refs_views c.in_ok-all.all.items c.args.groups.now
    c.in_ok-all.ensures) c.in_ok-order.ensures in
    let code = code_of c.args.scope.now in
    let start = at_child (here c.args.state.now) 0 in
    let k = c.loop-number.number in
    let few : k < length c.in_ok-order.order.groups.items =
    (let n = c.len-number-end.ensures in let l = c.loop-number-test.true in omega (arith, n, l)) in
    let g = group_of_number gs c.in_ok-order.order k is few in
    let rs = ap (map (λ r. r.now)) c.deref-in-loop-number.ensures.value ∙ c.in_ok-all.ensures in
    let at = subst (λ l. slice_get (type_groups (ordered l)) k ≡ Some g.group)
    (sym (refs_views c.deref-in-loop-number.result.now c.args.groups.now rs)) g.at in
    let p = err_from_is_err_and c.from_residual-in_err-walked.result c.from_residual-in_err-walked.ensures.1 in
    turns_stop gs code start (code_of c.loop-number.scope) k g.group (here c.loop-number.state)
    (here c.walk_group.new.state)
    (bad_view b) g.at c.loop-number.invariant.first
    (c.in_err-walked.ensures.stopped b (other_error _ _ (rw (p.1, p.2) at e)) g.group at))

pub walk_groups-finish_group-requires : goal.walk_groups-finish_group-requires
walk_groups-finish_group-requires t c =
    let gs = map group_view c.args.groups.now in
    let is = subst (λ l. IsOrder l c.in_ok-order.order)
    (ap (map (λ g. group_view g.now)) c.deref.ensures.value ∙ refs_views c.in_ok-all.all.items c.args.groups.now
    c.in_ok-all.ensures) c.in_ok-order.ensures in
    let code = code_of c.args.scope.now in
    let start = at_child (here c.args.state.now) 0 in
    let k = c.loop-number.number in
    let few : k < length c.in_ok-order.order.groups.items =
    (let n = c.len-number-end.ensures in let l = c.loop-number-test.true in omega (arith, n, l)) in
    let g = group_of_number gs c.in_ok-order.order k is few in
    let rs = ap (map (λ r. r.now)) c.deref-in-loop-number.ensures.value ∙ c.in_ok-all.ensures in
    let at = subst (λ l. slice_get (type_groups (ordered l)) k ≡ Some g.group)
    (sym (refs_views c.deref-in-loop-number.result.now c.args.groups.now rs)) g.at in
    can_finish (code_of c.loop-number.scope) (code_of c.walk_group.new.scope) g.group k c.in_ok-walked.walked
    (here c.loop-number.state) (here c.walk_group.new.state) (c.in_ok-walked.ensures.walked g.group at)

pub walk_groups-loop-number-preserved : goal.walk_groups-loop-number-preserved
walk_groups-loop-number-preserved t c =
    let gs = map group_view c.args.groups.now in
    let is = subst (λ l. IsOrder l c.in_ok-order.order)
    (ap (map (λ g. group_view g.now)) c.deref.ensures.value ∙ refs_views c.in_ok-all.all.items c.args.groups.now
    c.in_ok-all.ensures) c.in_ok-order.ensures in
    let code = code_of c.args.scope.now in
    let start = at_child (here c.args.state.now) 0 in
    let k = c.loop-number.number in
    let few : k < length c.in_ok-order.order.groups.items =
    (let n = c.len-number-end.ensures in let l = c.loop-number-test.true in omega (arith, n, l)) in
    let g = group_of_number gs c.in_ok-order.order k is few in
    let rs = ap (map (λ r. r.now)) c.deref-in-loop-number.ensures.value ∙ c.in_ok-all.ensures in
    let at = subst (λ l. slice_get (type_groups (ordered l)) k ≡ Some g.group)
    (sym (refs_views c.deref-in-loop-number.result.now c.args.groups.now rs)) g.at in
    let f = c.in_ok-finish_group.ensures (code_of c.loop-number.scope) g.group k (here c.loop-number.state)
    (c.in_ok-walked.ensures.walked g.group at) in
    let now = code_of c.loop-number.scope in
    let after = code_of c.finish_group.new.scope in
    record {
      left = f.left ∙ c.loop-number.invariant.left;
      can = can_after now after (λ q. group_places (child q k)) (λ s q. list_group g.group s (child q k))
          (here c.loop-number.state) (here c.finish_group.new.state) c.loop-number.invariant.can f.defined;
      first = turns_next gs code start now after k g.group (here c.loop-number.state) (here c.finish_group.new.state)
          g.at
          c.loop-number.invariant.first f.defined;
    }

pub walk_groups-returns-clause-left : goal.walk_groups-returns-clause-left
walk_groups-returns-clause-left t c = c.loop-number.invariant.left

pub walk_groups-returns-clause-follows : goal.walk_groups-returns-clause-follows
walk_groups-returns-clause-follows t c =
    let old = here c.args.state.now in
    let x = here c.loop-number.state in
    let f = c.loop-number.invariant.first.follows in
    subst (Follows old) (sym (c.leave_one.ensures (record old { store = x.store; depth = x.depth }) 0
    (ap (λ q. record x { place = q }) f.place)))
    (follows_back old x (child old.place 0) f)

pub walk_groups-returns-clause-defined : goal.walk_groups-returns-clause-defined
walk_groups-returns-clause-defined t c =
    let gs = map group_view c.args.groups.now in
    let is = subst (λ l. IsOrder l c.in_ok-order.order)
    (ap (map (λ g. group_view g.now)) c.deref.ensures.value ∙ refs_views c.in_ok-all.all.items c.args.groups.now
    c.in_ok-all.ensures) c.in_ok-order.ensures in
    let code = code_of c.args.scope.now in
    let old = here c.args.state.now in
    let start = at_child old 0 in
    let x = here c.loop-number.state in
    let f = c.loop-number.invariant.first.follows in
    let back = c.leave_one.ensures (record old { store = x.store; depth = x.depth }) 0
    (ap (λ q. record x { place = q }) f.place) in
    let same : x ≡ at_child (here c.leave_one.new.state) 0 = ap (λ q. record x { place = q }) f.place ∙ ap
    (λ s. at_child s 0) (sym back) in
    let end : c.loop-number.number ≡ length c.in_ok-order.order.groups.items =
    (let n = c.len-number-end.ensures in omega (arith, n, c.loop-number-test.false, c.loop-number.auto.number-end)) in
    subst (λ (s : plain.State). Defined code (code_of c.loop-number.scope) below
    (list_definitions (definitions (groups_of gs))) start s) same
    (turns_end gs code start (code_of c.loop-number.scope) c.loop-number.number x c.in_ok-order.order is end
    c.loop-number.invariant.first)

pub walk_group-members-requires-clause-inside : goal.walk_group-members-requires-clause-inside
walk_group-members-requires-clause-inside t c = c.requires.order.inside

pub walk_group-bounds-groups-group : goal.walk_group-bounds-groups-group
walk_group-bounds-groups-group t c =
    let gs = views c.args.groups.now in
    let tg = c.in_ok-members.ensures gs c.requires.order c.requires.simple in
    let kind = c.first_of.ensures gs tg.group
    (subst (λ l. AreDefinitions gs l tg.group) (sym c.deref.ensures.value) tg.definitions)
    (subst StandAlone (sym c.deref.ensures.value) tg.alone) in
    let ann : IsAnnotated gs tg.group c.in-Annotated.group c.in-Annotated.function c.in-Annotated.place
    (annotation_view c.in-Annotated.annotation.now) = subst (λ r. IsFirst r gs c.deref.result.now tg.group)
    c.in-Annotated.is kind in
    spot_within c.args.groups.now c.in-Annotated.group c.in-Annotated.function ann.definition ann.at

pub walk_group-walk_annotated-requires : goal.walk_group-walk_annotated-requires
walk_group-walk_annotated-requires t c =
    let gs = views c.args.groups.now in
    let ms = c.in_ok-members.members.items in
    let tg = c.in_ok-members.ensures gs c.requires.order c.requires.simple in
    let kind = c.first_of.ensures gs tg.group
    (subst (λ l. AreDefinitions gs l tg.group) (sym c.deref.ensures.value) tg.definitions)
    (subst StandAlone (sym c.deref.ensures.value) tg.alone) in
    let ann : IsAnnotated gs tg.group c.in-Annotated.group c.in-Annotated.function c.in-Annotated.place
    (annotation_view c.in-Annotated.annotation.now) = subst (λ r. IsFirst r gs c.deref.result.now tg.group)
    c.in-Annotated.is kind in
    let r = c.index-groups-group.result in
    let few = spot_within c.args.groups.now c.in-Annotated.group c.in-Annotated.function ann.definition ann.at in
    let there = group_there c.args.groups.now c.in-Annotated.group r r few c.index-groups-group.is in
    let size = at_most_ref the_size c.args.groups.now c.in-Annotated.group r few c.index-groups-group.is in (
      omega (arith, size, c.decreases),
      (
        c.requires.can,
        (
          formed_there gs c.in-Annotated.group (group_view r.now) there c.requires.formed,
          (
            has_there gs c.in-Annotated.group c.in-Annotated.function (group_view r.now) ann.definition there ann.at
                ann.titled,
            (
              (λ d at. place_there gs tg.group c.in-Annotated.group c.in-Annotated.function c.in-Annotated.place
                  (annotation_view c.in-Annotated.annotation.now) (group_view r.now) d ann there at),
              annotated_once gs tg.group c.in-Annotated.group c.in-Annotated.function c.in-Annotated.place
                  (annotation_view c.in-Annotated.annotation.now)
                  c.requires.formed ann,
            ),
          ),
        ),
      ),
    )

pub walk_group-returns-in-Annotated-clause-walked : goal.walk_group-returns-in-Annotated-clause-walked
walk_group-returns-in-Annotated-clause-walked t c g at = (
    let gs = views c.args.groups.now in
    let ms = c.in_ok-members.members.items in
    let tg = c.in_ok-members.ensures gs c.requires.order c.requires.simple in
    let kind = c.first_of.ensures gs tg.group
    (subst (λ l. AreDefinitions gs l tg.group) (sym c.deref.ensures.value) tg.definitions)
    (subst StandAlone (sym c.deref.ensures.value) tg.alone) in
    let ann : IsAnnotated gs tg.group c.in-Annotated.group c.in-Annotated.function c.in-Annotated.place
    (annotation_view c.in-Annotated.annotation.now) = subst (λ r. IsFirst r gs c.deref.result.now tg.group)
    c.in-Annotated.is kind in
    let r = c.index-groups-group.result in
    let few = spot_within c.args.groups.now c.in-Annotated.group c.in-Annotated.function ann.definition ann.at in
    let there = group_there c.args.groups.now c.in-Annotated.group r r few c.index-groups-group.is in
    subst (λ l. AnnotatedWalked (code_of c.args.scope.now) (code_of c.walk_annotated.new.scope) l c.args.number
    (here c.args.state.now) (here c.walk_annotated.new.state))
    (of_number gs c.args.number ms g tg at)
    (annotated_walked gs tg.group c.in-Annotated.group c.in-Annotated.function c.in-Annotated.place
    (annotation_view c.in-Annotated.annotation.now) ann
    (code_of c.args.scope.now) c.args.number (here c.args.state.now) (here c.walk_annotated.new.state)
    (code_of c.walk_annotated.new.scope)
    c.in_ok-walk_annotated-in-Annotated.ensures.scope
    (λ d spot place. c.in_ok-walk_annotated-in-Annotated.ensures.walked d
    (subst (λ o. in_group o c.in-Annotated.function ≡ Some d) there spot))))

pub walk_group-returns-in_err-walk_annotated-in-Annotated-clause-stopped :
    goal.walk_group-returns-in_err-walk_annotated-in-Annotated-clause-stopped
walk_group-returns-in_err-walk_annotated-in-Annotated-clause-stopped t c b e g at = (
    let gs = views c.args.groups.now in
    let ms = c.in_ok-members.members.items in
    let tg = c.in_ok-members.ensures gs c.requires.order c.requires.simple in
    let kind = c.first_of.ensures gs tg.group
    (subst (λ l. AreDefinitions gs l tg.group) (sym c.deref.ensures.value) tg.definitions)
    (subst StandAlone (sym c.deref.ensures.value) tg.alone) in
    let ann : IsAnnotated gs tg.group c.in-Annotated.group c.in-Annotated.function c.in-Annotated.place
    (annotation_view c.in-Annotated.annotation.now) = subst (λ r. IsFirst r gs c.deref.result.now tg.group)
    c.in-Annotated.is kind in
    let r = c.index-groups-group.result in
    let few = spot_within c.args.groups.now c.in-Annotated.group c.in-Annotated.function ann.definition ann.at in
    let there = group_there c.args.groups.now c.in-Annotated.group r r few c.index-groups-group.is in
    let p = err_from_is_err_and c.from_residual-in_err-walk_annotated-in-Annotated.result
    c.from_residual-in_err-walk_annotated-in-Annotated.ensures.1 in
    subst (λ l. GroupStops (code_of c.args.scope.now) l c.args.number (here c.args.state.now)
    (here c.walk_annotated.new.state) (bad_view b))
    (of_number gs c.args.number ms g tg at)
    (annotated_group_stops gs tg.group c.in-Annotated.group c.in-Annotated.function c.in-Annotated.place
    (annotation_view c.in-Annotated.annotation.now) ann
    (code_of c.args.scope.now) c.args.number (here c.args.state.now) (here c.walk_annotated.new.state) (bad_view b)
    (λ d spot place. c.in_err-walk_annotated-in-Annotated.ensures.stopped b (other_error _ _ (rw (p.1, p.2) at e)) d
    (subst (λ o. in_group o c.in-Annotated.function ≡ Some d) there spot))))

pub walk_group-bounds-groups-group-in-Pattern : goal.walk_group-bounds-groups-group-in-Pattern
walk_group-bounds-groups-group-in-Pattern t c =
    let gs = views c.args.groups.now in
    let tg = c.in_ok-members.ensures gs c.requires.order c.requires.simple in
    let kind = c.first_of.ensures gs tg.group
    (subst (λ l. AreDefinitions gs l tg.group) (sym c.deref.ensures.value) tg.definitions)
    (subst StandAlone (sym c.deref.ensures.value) tg.alone) in
    let pat : IsPattern gs tg.group c.in-Pattern.group c.in-Pattern.place = subst
    (λ r. IsFirst r gs c.deref.result.now tg.group) c.in-Pattern.is kind in
    within c.args.groups.now c.in-Pattern.group (ap is_some pat.at)

pub walk_group-walk_destructured-requires : goal.walk_group-walk_destructured-requires
walk_group-walk_destructured-requires t c =
    let gs = views c.args.groups.now in
    let ms = c.in_ok-members.members.items in
    let tg = c.in_ok-members.ensures gs c.requires.order c.requires.simple in
    let kind = c.first_of.ensures gs tg.group
    (subst (λ l. AreDefinitions gs l tg.group) (sym c.deref.ensures.value) tg.definitions)
    (subst StandAlone (sym c.deref.ensures.value) tg.alone) in
    let pat : IsPattern gs tg.group c.in-Pattern.group c.in-Pattern.place = subst
    (λ r. IsFirst r gs c.deref.result.now tg.group) c.in-Pattern.is kind in
    let r = c.index-groups-group-in-Pattern.result in
    let few = within c.args.groups.now c.in-Pattern.group (ap is_some pat.at) in
    let there = group_there c.args.groups.now c.in-Pattern.group r r few c.index-groups-group-in-Pattern.is in
    let size = at_most_ref the_size c.args.groups.now c.in-Pattern.group r few c.index-groups-group-in-Pattern.is in (
      omega (arith, size, c.decreases),
      (
        c.requires.can,
        (
          formed_there gs c.in-Pattern.group (group_view r.now) there c.requires.formed,
          starts_there gs tg.group c.in-Pattern.group (group_view r.now) c.in-Pattern.place there pat,
        ),
      ),
    )

pub walk_group-returns-in-Pattern-clause-walked : goal.walk_group-returns-in-Pattern-clause-walked
walk_group-returns-in-Pattern-clause-walked t c g at = (
    let gs = views c.args.groups.now in
    let ms = c.in_ok-members.members.items in
    let tg = c.in_ok-members.ensures gs c.requires.order c.requires.simple in
    let kind = c.first_of.ensures gs tg.group
    (subst (λ l. AreDefinitions gs l tg.group) (sym c.deref.ensures.value) tg.definitions)
    (subst StandAlone (sym c.deref.ensures.value) tg.alone) in
    let pat : IsPattern gs tg.group c.in-Pattern.group c.in-Pattern.place = subst
    (λ r. IsFirst r gs c.deref.result.now tg.group) c.in-Pattern.is kind in
    let r = c.index-groups-group-in-Pattern.result in
    let few = within c.args.groups.now c.in-Pattern.group (ap is_some pat.at) in
    let there = group_there c.args.groups.now c.in-Pattern.group r r few c.index-groups-group-in-Pattern.is in
    subst (λ l. InferredWalked (code_of c.args.scope.now) (code_of c.walk_destructured.new.scope) l c.args.number
    c.in_ok-opened-in-Pattern.opened (here c.args.state.now) (here c.walk_destructured.new.state))
    (of_number gs c.args.number ms g tg at)
    (pattern_walked gs tg.group c.in-Pattern.group c.in-Pattern.place pat (group_view r.now) there
    (code_of c.args.scope.now) c.args.number (here c.args.state.now) (here c.walk_destructured.new.state)
    (code_of c.walk_destructured.new.scope)
    c.in_ok-opened-in-Pattern.opened c.in_ok-opened-in-Pattern.ensures.left c.in_ok-opened-in-Pattern.ensures.walked))

pub walk_group-returns-in_err-opened-in-Pattern-clause-stopped :
    goal.walk_group-returns-in_err-opened-in-Pattern-clause-stopped
walk_group-returns-in_err-opened-in-Pattern-clause-stopped t c b e g at = (
    let gs = views c.args.groups.now in
    let ms = c.in_ok-members.members.items in
    let tg = c.in_ok-members.ensures gs c.requires.order c.requires.simple in
    let kind = c.first_of.ensures gs tg.group
    (subst (λ l. AreDefinitions gs l tg.group) (sym c.deref.ensures.value) tg.definitions)
    (subst StandAlone (sym c.deref.ensures.value) tg.alone) in
    let pat : IsPattern gs tg.group c.in-Pattern.group c.in-Pattern.place = subst
    (λ r. IsFirst r gs c.deref.result.now tg.group) c.in-Pattern.is kind in
    let r = c.index-groups-group-in-Pattern.result in
    let few = within c.args.groups.now c.in-Pattern.group (ap is_some pat.at) in
    let there = group_there c.args.groups.now c.in-Pattern.group r r few c.index-groups-group-in-Pattern.is in
    let p = err_from_is_err_and c.from_residual-in_err-opened-in-Pattern.result
    c.from_residual-in_err-opened-in-Pattern.ensures.1 in
    subst (λ l. GroupStops (code_of c.args.scope.now) l c.args.number (here c.args.state.now)
    (here c.walk_destructured.new.state) (bad_view b))
    (of_number gs c.args.number ms g tg at)
    (pattern_stops gs tg.group c.in-Pattern.group c.in-Pattern.place pat (group_view r.now) there
    (code_of c.args.scope.now) c.args.number (here c.args.state.now) (here c.walk_destructured.new.state) (bad_view b)
    (c.in_err-opened-in-Pattern.ensures.stopped b (other_error _ _ (rw (p.1, p.2) at e)))))

pub walk_group-walk_members-requires : goal.walk_group-walk_members-requires
walk_group-walk_members-requires t c =
    let gs = views c.args.groups.now in
    let ms = c.in_ok-members.members.items in
    let tg = c.in_ok-members.ensures gs c.requires.order c.requires.simple in
    let kind = c.first_of.ensures gs tg.group
    (subst (λ l. AreDefinitions gs l tg.group) (sym c.deref.ensures.value) tg.definitions)
    (subst StandAlone (sym c.deref.ensures.value) tg.alone) in
    let inf : AreInferred c.deref.result.now tg.group = subst (λ r. IsFirst r gs c.deref.result.now tg.group)
    c.in-Inferred.is kind in (
      omega (arith, c.decreases),
      (
        c.requires.can,
        (
          c.requires.formed,
          subst (AreTitled gs) (sym c.deref-in-Inferred.ensures.value)
              (record {
                group = tg.group;
                definitions = tg.definitions;
                titled = subst (AllByRecursion HasTitle)
                    c.deref.ensures.value inf.titled;
              }),
        ),
      ),
    )

pub walk_group-returns-clause-walked : goal.walk_group-returns-clause-walked
walk_group-returns-clause-walked t c g at = (
    let gs = views c.args.groups.now in
    let ms = c.in_ok-members.members.items in
    let tg = c.in_ok-members.ensures gs c.requires.order c.requires.simple in
    let kind = c.first_of.ensures gs tg.group
    (subst (λ l. AreDefinitions gs l tg.group) (sym c.deref.ensures.value) tg.definitions)
    (subst StandAlone (sym c.deref.ensures.value) tg.alone) in
    let inf : AreInferred c.deref.result.now tg.group = subst (λ r. IsFirst r gs c.deref.result.now tg.group)
    c.in-Inferred.is kind in
    subst (λ l. InferredWalked (code_of c.args.scope.now) (code_of c.walk_members.new.scope) l c.args.number
    c.in_ok-opened-in-Inferred.opened (here c.args.state.now) (here c.walk_members.new.state))
    (of_number gs c.args.number ms g tg at)
    (record {
      left = c.in_ok-opened-in-Inferred.ensures.left;
      inferred = inf.inferred;
      done = c.in_ok-opened-in-Inferred.ensures.walked tg.group
          (subst (λ l. AreDefinitions gs l tg.group) (sym c.deref-in-Inferred.ensures.value) tg.definitions);
    }))

pub walk_group-returns-in_err-opened-in-Inferred-clause-stopped :
    goal.walk_group-returns-in_err-opened-in-Inferred-clause-stopped
walk_group-returns-in_err-opened-in-Inferred-clause-stopped t c b e g at = (
    let gs = views c.args.groups.now in
    let ms = c.in_ok-members.members.items in
    let tg = c.in_ok-members.ensures gs c.requires.order c.requires.simple in
    let kind = c.first_of.ensures gs tg.group
    (subst (λ l. AreDefinitions gs l tg.group) (sym c.deref.ensures.value) tg.definitions)
    (subst StandAlone (sym c.deref.ensures.value) tg.alone) in
    let inf : AreInferred c.deref.result.now tg.group = subst (λ r. IsFirst r gs c.deref.result.now tg.group)
    c.in-Inferred.is kind in
    let p = err_from_is_err_and c.from_residual-in_err-opened-in-Inferred.result
    c.from_residual-in_err-opened-in-Inferred.ensures.1 in
    subst (λ l. GroupStops (code_of c.args.scope.now) l c.args.number (here c.args.state.now)
    (here c.walk_members.new.state) (bad_view b))
    (of_number gs c.args.number ms g tg at)
    (inferred_stops (code_of c.args.scope.now) tg.group c.args.number (here c.args.state.now)
    (here c.walk_members.new.state) (bad_view b) inf.inferred
    (c.in_err-opened-in-Inferred.ensures.stopped b (other_error _ _ (rw (p.1, p.2) at e)) tg.group
    (subst (λ l. AreDefinitions gs l tg.group) (sym c.deref-in-Inferred.ensures.value) tg.definitions))))

pub walk_members-titles-requires : goal.walk_members-titles-requires
walk_members-titles-requires t c = c.requires.members.titled

pub walk_members-open_group-requires : goal.walk_members-open_group-requires
walk_members-open_group-requires t c = c.requires.can.ready

pub walk_members-loop-index-init : goal.walk_members-loop-index-init
walk_members-loop-index-init t c =
    let code = code_of c.args.scope.now in
    let old = here c.args.state.now in
    let now = here c.open_group.new.state in
    let each = λ (g : List Definition) (are : AreDefinitions (views c.args.groups.now) c.args.members.now g).
    c.in_ok-opened.ensures.opened g (subst (λ l. AllZip (λ t d. IsTitledAs t.now.name d) l g)
    (sym c.deref.ensures.value)
    (c.in_ok-titles.ensures (views c.args.groups.now) g are)) in
    let one_ = each c.requires.members.group c.requires.members.definitions in
    record {
      scope = c.in_ok-opened.ensures.scope;
      can = subst (λ k. CanWalk k now) (sym c.in_ok-opened.ensures.scope)
          (record {
            ready = one_.ready;
            clear =
                (can_on code (inside old c.args.number) now (can_inside code old c.args.number c.requires.can)
                one_.follows).clear;
          });
      done = each;
    }

pub walk_members-index-requires : goal.walk_members-index-requires
walk_members-index-requires t c =
    let gs = views c.args.groups.now in
    let code = code_of c.args.scope.now in
    let k = c.loop-index.index in
    let now = here c.loop-index.state in
    let inv = c.loop-index.invariant in
    let lt = c.loop-index-test.true in
    let m = c.index-members-index.result in
    let names = c.in_ok-opened.opened.names.items in
    let rm = c.requires.members in
    let b = zip_beside (IsDefinition gs) c.args.members.now rm.group k m rm.definitions lt c.index-members-index.is in
    let count = names_count gs c.args.members.now code c.args.number k names (here c.args.state.now) now rm.group
    rm.definitions (inv.done rm.group rm.definitions) in
    omega (arith, lt, count)

pub walk_members-bounds-groups-member : goal.walk_members-bounds-groups-member
walk_members-bounds-groups-member t c =
    let gs = views c.args.groups.now in
    let k = c.loop-index.index in
    let now = here c.loop-index.state in
    let lt = c.loop-index-test.true in
    let m = c.index-members-index.result in
    let rm = c.requires.members in
    let b = zip_beside (IsDefinition gs) c.args.members.now rm.group k m rm.definitions lt c.index-members-index.is in
    spot_within c.args.groups.now m.group m.function b.other b.related.at

pub walk_members-walk_definition-requires : goal.walk_members-walk_definition-requires
walk_members-walk_definition-requires t c =
    let gs = views c.args.groups.now in
    let code = code_of c.args.scope.now in
    let k = c.loop-index.index in
    let now = here c.loop-index.state in
    let inv = c.loop-index.invariant in
    let lt = c.loop-index-test.true in
    let m = c.index-members-index.result in
    let names = c.in_ok-opened.opened.names.items in
    let rm = c.requires.members in
    let b = zip_beside (IsDefinition gs) c.args.members.now rm.group k m rm.definitions lt c.index-members-index.is in
    let count = names_count gs c.args.members.now code c.args.number k names (here c.args.state.now) now rm.group
    rm.definitions (inv.done rm.group rm.definitions) in
    let r = c.index-groups-member.result in
    let few = spot_within c.args.groups.now m.group m.function b.other b.related.at in
    let there = group_there c.args.groups.now m.group r r few c.index-groups-member.is in
    let size = at_most_ref the_size c.args.groups.now m.group r few c.index-groups-member.is in
    let titled_ : has_titles (slice_get gs m.group) ≡ true = sym b.related.kind ∙ all_some HasTitle c.args.members.now k
    m rm.titled (at_number c.args.members.now k m m lt c.index-members-index.is) in
    let n = named_view c.index.result.now in
    let at_n = name_at names k c.index.result.now (omega (arith, lt, count)) c.index.ensures in
    let at_k : here c.enter.new.self ≡ at_child now k = c.in_ok-enter.ensures ∙ ap (λ j. at_child now j)
    c.in_ok-child.ensures in
    let live_ = live_there now (here c.enter.new.self) _ n.1 c.in_ok-enter.ensures
    (all_some (λ (x : Ref × ℕ). Live now.depth now.store x.1) (named_views names) k n
    (inv.done rm.group rm.definitions).live at_n) in (
      omega (arith, size, c.decreases),
      (
        can_part (code_of c.loop-index.scope) now (here c.enter.new.self) c.in_ok-child.child c.in_ok-enter.ensures
            inv.can,
        (
          formed_there gs m.group (group_view r.now) there c.requires.formed,
          (
            has_there gs m.group m.function (group_view r.now) b.other there b.related.at titled_,
            live_,
          ),
        ),
      ),
    )

pub walk_members-returns-in_err-walk_definition-clause-stopped :
    goal.walk_members-returns-in_err-walk_definition-clause-stopped
walk_members-returns-in_err-walk_definition-clause-stopped t c y e = (
    let gs = views c.args.groups.now in
    let code = code_of c.args.scope.now in
    let k = c.loop-index.index in
    let now = here c.loop-index.state in
    let inv = c.loop-index.invariant in
    let lt = c.loop-index-test.true in
    let m = c.index-members-index.result in
    let names = c.in_ok-opened.opened.names.items in
    let rm = c.requires.members in
    let b = zip_beside (IsDefinition gs) c.args.members.now rm.group k m rm.definitions lt c.index-members-index.is in
    let count = names_count gs c.args.members.now code c.args.number k names (here c.args.state.now) now rm.group
    rm.definitions (inv.done rm.group rm.definitions) in
    let r = c.index-groups-member.result in
    let few = spot_within c.args.groups.now m.group m.function b.other b.related.at in
    let there = group_there c.args.groups.now m.group r r few c.index-groups-member.is in
    let size = at_most_ref the_size c.args.groups.now m.group r few c.index-groups-member.is in
    let titled_ : has_titles (slice_get gs m.group) ≡ true = sym b.related.kind ∙ all_some HasTitle c.args.members.now k
    m rm.titled (at_number c.args.members.now k m m lt c.index-members-index.is) in
    let n = named_view c.index.result.now in
    let at_n = name_at names k c.index.result.now (omega (arith, lt, count)) c.index.ensures in
    let at_k : here c.enter.new.self ≡ at_child now k = c.in_ok-enter.ensures ∙ ap (λ j. at_child now j)
    c.in_ok-child.ensures in
    let p = err_from_is_err_and c.from_residual-in_err-walk_definition.result
    c.from_residual-in_err-walk_definition.ensures.1 in
    member_stuck gs c.args.members.now code c.args.number k (named_views names) (here c.args.state.now) now m lt
    c.index-members-index.is inv.done
    n at_n (here c.walk_definition.new.state) (bad_view y)
    (λ d spot. stuck_at inv.scope (subst (λ (s : plain.State). Stuck Wanted (code_of c.loop-index.scope) (one n.1) below
    (λ s q w. d.list s q w) s (here c.walk_definition.new.state) (bad_view y)) at_k
    (c.in_err-walk_definition.ensures.stopped y (other_error _ _ (rw (p.1, p.2) at e)) d
    (subst (λ o. in_group o m.function ≡ Some d) there spot)))))

pub walk_members-check_size-requires-clause-whole : goal.walk_members-check_size-requires-clause-whole
walk_members-check_size-requires-clause-whole t c =
    let gs = views c.args.groups.now in
    let k = c.loop-index.index in
    let now = here c.loop-index.state in
    let inv = c.loop-index.invariant in
    let lt = c.loop-index-test.true in
    let m = c.index-members-index.result in
    let rm = c.requires.members in
    let b = zip_beside (IsDefinition gs) c.args.members.now rm.group k m rm.definitions lt c.index-members-index.is in
    let r = c.index-groups-member.result in
    let few = spot_within c.args.groups.now m.group m.function b.other b.related.at in
    let there = group_there c.args.groups.now m.group r r few c.index-groups-member.is in
    let n = named_view c.index.result.now in
    let at_k : here c.enter.new.self ≡ at_child now k = c.in_ok-enter.ensures ∙ ap (λ j. at_child now j)
    c.in_ok-child.ensures in
    let went = λ (d : Definition) (spot : at_spot gs m.group m.function ≡ Some d). went_at inv.scope
    (subst (λ (s : plain.State). Went Wanted (code_of c.loop-index.scope) (one n.1) below (λ s q w. d.list s q w) s
    (here c.walk_definition.new.state)) at_k
    (c.in_ok-walk_definition.ensures.walked d (subst (λ o. in_group o m.function ≡ Some d) there spot))) in
    (went b.other b.related.at).follows.whole

pub walk_members-check_size-requires-clause-inside : goal.walk_members-check_size-requires-clause-inside
walk_members-check_size-requires-clause-inside t c =
    let gs = views c.args.groups.now in
    let code = code_of c.args.scope.now in
    let k = c.loop-index.index in
    let now = here c.loop-index.state in
    let inv = c.loop-index.invariant in
    let lt = c.loop-index-test.true in
    let m = c.index-members-index.result in
    let names = c.in_ok-opened.opened.names.items in
    let rm = c.requires.members in
    let b = zip_beside (IsDefinition gs) c.args.members.now rm.group k m rm.definitions lt c.index-members-index.is in
    let count = names_count gs c.args.members.now code c.args.number k names (here c.args.state.now) now rm.group
    rm.definitions (inv.done rm.group rm.definitions) in
    let r = c.index-groups-member.result in
    let few = spot_within c.args.groups.now m.group m.function b.other b.related.at in
    let there = group_there c.args.groups.now m.group r r few c.index-groups-member.is in
    let size = at_most_ref the_size c.args.groups.now m.group r few c.index-groups-member.is in
    let titled_ : has_titles (slice_get gs m.group) ≡ true = sym b.related.kind ∙ all_some HasTitle c.args.members.now k
    m rm.titled (at_number c.args.members.now k m m lt c.index-members-index.is) in
    let n = named_view c.index.result.now in
    let at_n = name_at names k c.index.result.now (omega (arith, lt, count)) c.index.ensures in
    let at_k : here c.enter.new.self ≡ at_child now k = c.in_ok-enter.ensures ∙ ap (λ j. at_child now j)
    c.in_ok-child.ensures in
    let live_ = live_there now (here c.enter.new.self) _ n.1 c.in_ok-enter.ensures
    (all_some (λ (x : Ref × ℕ). Live now.depth now.store x.1) (named_views names) k n
    (inv.done rm.group rm.definitions).live at_n) in
    let went = λ (d : Definition) (spot : at_spot gs m.group m.function ≡ Some d). went_at inv.scope
    (subst (λ (s : plain.State). Went Wanted (code_of c.loop-index.scope) (one n.1) below (λ s q w. d.list s q w) s
    (here c.walk_definition.new.state)) at_k
    (c.in_ok-walk_definition.ensures.walked d (subst (λ o. in_group o m.function ≡ Some d) there spot))) in
    (still_live (at_child now k) (here c.walk_definition.new.state) n.1 (went b.other b.related.at).follows
    (subst (λ (s : plain.State). Live s.depth s.store n.1) at_k live_)).inside

pub walk_members-returns-in_err-check_size-clause-stopped : goal.walk_members-returns-in_err-check_size-clause-stopped
walk_members-returns-in_err-check_size-clause-stopped t c y e = (
    let gs = views c.args.groups.now in
    let code = code_of c.args.scope.now in
    let k = c.loop-index.index in
    let now = here c.loop-index.state in
    let inv = c.loop-index.invariant in
    let lt = c.loop-index-test.true in
    let m = c.index-members-index.result in
    let names = c.in_ok-opened.opened.names.items in
    let rm = c.requires.members in
    let b = zip_beside (IsDefinition gs) c.args.members.now rm.group k m rm.definitions lt c.index-members-index.is in
    let count = names_count gs c.args.members.now code c.args.number k names (here c.args.state.now) now rm.group
    rm.definitions (inv.done rm.group rm.definitions) in
    let r = c.index-groups-member.result in
    let few = spot_within c.args.groups.now m.group m.function b.other b.related.at in
    let there = group_there c.args.groups.now m.group r r few c.index-groups-member.is in
    let size = at_most_ref the_size c.args.groups.now m.group r few c.index-groups-member.is in
    let titled_ : has_titles (slice_get gs m.group) ≡ true = sym b.related.kind ∙ all_some HasTitle c.args.members.now k
    m rm.titled (at_number c.args.members.now k m m lt c.index-members-index.is) in
    let n = named_view c.index.result.now in
    let at_n = name_at names k c.index.result.now (omega (arith, lt, count)) c.index.ensures in
    let at_k : here c.enter.new.self ≡ at_child now k = c.in_ok-enter.ensures ∙ ap (λ j. at_child now j)
    c.in_ok-child.ensures in
    let went = λ (d : Definition) (spot : at_spot gs m.group m.function ≡ Some d). went_at inv.scope
    (subst (λ (s : plain.State). Went Wanted (code_of c.loop-index.scope) (one n.1) below (λ s q w. d.list s q w) s
    (here c.walk_definition.new.state)) at_k
    (c.in_ok-walk_definition.ensures.walked d (subst (λ o. in_group o m.function ≡ Some d) there spot))) in
    let p = err_from_is_err_and c.from_residual-in_err-check_size.result c.from_residual-in_err-check_size.ensures.1 in
    let is_ = other_error _ _ (rw (p.1, p.2) at e) in
    λ g are. subst (λ z. InferredStops code g c.args.number (here c.args.state.now) (here c.walk_definition.new.state)
    z)
    (sym (c.in_err-check_size.ensures.what y is_))
    (member_is_large gs c.args.members.now code c.args.number k (named_views names) (here c.args.state.now) now m lt
    c.index-members-index.is inv.done
    n at_n (here c.walk_definition.new.state) went (c.in_err-check_size.ensures.large y is_) g are))

pub walk_members-loop-index-preserved : goal.walk_members-loop-index-preserved
walk_members-loop-index-preserved t c =
    let gs = views c.args.groups.now in
    let code = code_of c.args.scope.now in
    let k = c.loop-index.index in
    let now = here c.loop-index.state in
    let inv = c.loop-index.invariant in
    let lt = c.loop-index-test.true in
    let m = c.index-members-index.result in
    let names = c.in_ok-opened.opened.names.items in
    let rm = c.requires.members in
    let b = zip_beside (IsDefinition gs) c.args.members.now rm.group k m rm.definitions lt c.index-members-index.is in
    let count = names_count gs c.args.members.now code c.args.number k names (here c.args.state.now) now rm.group
    rm.definitions (inv.done rm.group rm.definitions) in
    let r = c.index-groups-member.result in
    let few = spot_within c.args.groups.now m.group m.function b.other b.related.at in
    let there = group_there c.args.groups.now m.group r r few c.index-groups-member.is in
    let size = at_most_ref the_size c.args.groups.now m.group r few c.index-groups-member.is in
    let titled_ : has_titles (slice_get gs m.group) ≡ true = sym b.related.kind ∙ all_some HasTitle c.args.members.now k
    m rm.titled (at_number c.args.members.now k m m lt c.index-members-index.is) in
    let n = named_view c.index.result.now in
    let at_n = name_at names k c.index.result.now (omega (arith, lt, count)) c.index.ensures in
    let at_k : here c.enter.new.self ≡ at_child now k = c.in_ok-enter.ensures ∙ ap (λ j. at_child now j)
    c.in_ok-child.ensures in
    let went = λ (d : Definition) (spot : at_spot gs m.group m.function ≡ Some d). went_at inv.scope
    (subst (λ (s : plain.State). Went Wanted (code_of c.loop-index.scope) (one n.1) below (λ s q w. d.list s q w) s
    (here c.walk_definition.new.state)) at_k
    (c.in_ok-walk_definition.ensures.walked d (subst (λ o. in_group o m.function ≡ Some d) there spot))) in
    let x = here c.walk_definition.new.state in
    let w = went b.other b.related.at in
    let back : here c.leave_one.new.state ≡ back_at now x =
    c.leave_one.ensures (back_at now x) k (ap (λ q. record x { place = q }) w.follows.place) in
    record {
      scope = c.in_ok-walk_definition.ensures.scope ∙ inv.scope;
      can = subst (λ (s : plain.State). CanWalk (code_of c.walk_definition.new.scope) s) (sym back)
          (can_at (sym c.in_ok-walk_definition.ensures.scope)
          (can_on (code_of c.loop-index.scope) now (back_at now x) inv.can
          (follows_back now x (child now.place k) w.follows)));
      done = λ g are. subst (λ (s : plain.State). MembersDone code g c.args.number (k + 1) (named_views names)
          (here c.args.state.now) s) (sym back)
          (member_next gs c.args.members.now code c.args.number k (named_views names) (here c.args.state.now) now m lt
          c.index-members-index.is inv.done
          n at_n x went c.in_ok-check_size.ensures.small g are);
    }

pub walk_members-returns-clause-left : goal.walk_members-returns-clause-left
walk_members-returns-clause-left t c =
    ap (without c.in_ok-opened.opened.entered.items) (c.loop-index.invariant.scope ∙ sym c.in_ok-opened.ensures.scope) ∙
    c.in_ok-opened.ensures.entered

pub walk_members-returns-clause-walked : goal.walk_members-returns-clause-walked
walk_members-returns-clause-walked t c g are =
    members_end (views c.args.groups.now) c.args.members.now (code_of c.args.scope.now) c.args.number c.loop-index.index
    (named_views c.in_ok-opened.opened.names.items) (here c.args.state.now) (here c.loop-index.state)
    (let e : length c.args.members.now ≡ c.loop-index.index = omega
    (arith, c.loop-index-test.false, c.loop-index.auto.index-end) in e)
    c.loop-index.invariant.done g are

pub walk_definition-index-each-requires : goal.walk_definition-index-each-requires
walk_definition-index-each-requires t c =
    let h = c.requires.defined in
    let same = ap group_view c.in-Together.is ∙ view.together c.in-Together.functions in
    let at = subst (λ g. in_group (Some g) c.args.function ≡ Some h.definition) same h.at in
    (let l = function_within (map function_view c.in-Together.functions.items) c.args.function h.definition at in
    let m = length-map c.in-Together.functions.items function_view in omega (arith, l, m))

pub walk_definition-walk_function-requires : goal.walk_definition-walk_function-requires
walk_definition-walk_function-requires t c =
    let h = c.requires.defined in
    let same = ap group_view c.in-Together.is ∙ view.together c.in-Together.functions in
    let at = subst (λ g. in_group (Some g) c.args.function ≡ Some h.definition) same h.at in
    let each = c.index-each.result.now in
    let few : c.args.function < length c.in-Together.functions.items =
    (let l = function_within (map function_view c.in-Together.functions.items) c.args.function h.definition at in
    let m = length-map c.in-Together.functions.items function_view in omega (arith, l, m)) in
    let here_ = at_number c.in-Together.functions.items c.args.function each each few c.index-each.ensures in
    let f = function_formed c.in-Together.functions.items c.args.function each here_
    (subst FormedGroup same c.requires.formed) in (
      first_of (omega (arith, c.decreases), search (rules, the_lemmas, c.decreases), search rules),
      (
        c.requires.can,
        (
          subst (λ ps. EachFieldsOnce (patterns_of (map pattern_view ps))) (sym c.deref-in-Together.ensures.value) f.0,
          (
            subst (λ x. Formed (expr_view x)) (sym c.deref.ensures) f.1,
            c.requires.wanted,
          ),
        ),
      ),
    )

pub walk_definition-returns-in-Together-clause-walked : goal.walk_definition-returns-in-Together-clause-walked
walk_definition-returns-in-Together-clause-walked t c =
    let h = c.requires.defined in
    let same = ap group_view c.in-Together.is ∙ view.together c.in-Together.functions in
    let at = subst (λ g. in_group (Some g) c.args.function ≡ Some h.definition) same h.at in
    let each = c.index-each.result.now in
    let few : c.args.function < length c.in-Together.functions.items =
    (let l = function_within (map function_view c.in-Together.functions.items) c.args.function h.definition at in
    let m = length-map c.in-Together.functions.items function_view in omega (arith, l, m)) in
    let here_ = at_number c.in-Together.functions.items c.args.function each each few c.index-each.ensures in
    on_ok_weaker c.walk_function.result (λ w d spot.
    subst (λ (l : Scope → Place → Wanted → List Item). Went Wanted (code_of c.args.scope.now) (one c.args.wanted) below
    (λ s q v. l s q v) (here c.args.state.now) (here c.walk_function.new.state))
    (sym (function_list c.in-Together.functions.items c.args.function each d here_
    (subst (λ g. in_group (Some g) c.args.function ≡ Some d) same spot)))
    (subst (λ ps. Went Wanted (code_of c.args.scope.now) (one c.args.wanted) below
    (function_of (map pattern_view ps) (expr_view each.body.value) each.title.place) (here c.args.state.now)
    (here c.walk_function.new.state))
    c.deref-in-Together.ensures.value
    (subst (λ x. Went Wanted (code_of c.args.scope.now) (one c.args.wanted) below
    (function_of (map pattern_view c.deref-in-Together.result.now) (expr_view x) each.title.place)
    (here c.args.state.now) (here c.walk_function.new.state))
    c.deref.ensures w))) c.walk_function.ensures.walked

pub walk_definition-returns-in-Together-clause-stopped : goal.walk_definition-returns-in-Together-clause-stopped
walk_definition-returns-in-Together-clause-stopped t c = λ b e d spot. (
    let h = c.requires.defined in
    let same = ap group_view c.in-Together.is ∙ view.together c.in-Together.functions in
    let at = subst (λ g. in_group (Some g) c.args.function ≡ Some h.definition) same h.at in
    let each = c.index-each.result.now in
    let few : c.args.function < length c.in-Together.functions.items =
    (let l = function_within (map function_view c.in-Together.functions.items) c.args.function h.definition at in
    let m = length-map c.in-Together.functions.items function_view in omega (arith, l, m)) in
    let here_ = at_number c.in-Together.functions.items c.args.function each each few c.index-each.ensures in
    subst (λ (l : Scope → Place → Wanted → List Item). Stuck Wanted (code_of c.args.scope.now) (one c.args.wanted) below
    (λ s q v. l s q v) (here c.args.state.now) (here c.walk_function.new.state) (bad_view b))
    (sym (function_list c.in-Together.functions.items c.args.function each d here_
    (subst (λ g. in_group (Some g) c.args.function ≡ Some d) same spot)))
    (subst (λ ps. Stuck Wanted (code_of c.args.scope.now) (one c.args.wanted) below
    (function_of (map pattern_view ps) (expr_view each.body.value) each.title.place) (here c.args.state.now)
    (here c.walk_function.new.state) (bad_view b))
    c.deref-in-Together.ensures.value
    (subst (λ x. Stuck Wanted (code_of c.args.scope.now) (one c.args.wanted) below
    (function_of (map pattern_view c.deref-in-Together.result.now) (expr_view x) each.title.place)
    (here c.args.state.now) (here c.walk_function.new.state) (bad_view b))
    c.deref.ensures (c.walk_function.ensures.stopped b e))))

pub walk_definition-walk_function-requires-in-Constant : goal.walk_definition-walk_function-requires-in-Constant
walk_definition-walk_function-requires-in-Constant t c =
    let same = ap group_view c.in-Constant.is ∙ view.constant c.in-Constant.title c.in-Constant.body
    ∙ ap (λ x. tree.Constant (title_view c.in-Constant.title) (expr_view x)) (sym c.deref-in-Constant.ensures) in (
      first_of (omega (arith, c.decreases), search (rules, the_lemmas, c.decreases), search rules),
      (
        c.requires.can,
        (
          tt,
          (
            (subst FormedGroup same c.requires.formed).1,
            c.requires.wanted,
          ),
        ),
      ),
    )

pub walk_definition-returns-in-Constant-clause-walked : goal.walk_definition-returns-in-Constant-clause-walked
walk_definition-returns-in-Constant-clause-walked t c =
    let same = ap group_view c.in-Constant.is ∙ view.constant c.in-Constant.title c.in-Constant.body
    ∙ ap (λ x. tree.Constant (title_view c.in-Constant.title) (expr_view x)) (sym c.deref-in-Constant.ensures) in
    on_ok_weaker c.walk_function-in-Constant.result (λ w d spot.
    subst (λ (l : Scope → Place → Wanted → List Item). Went Wanted (code_of c.args.scope.now) (one c.args.wanted) below
    (λ s q v. l s q v) (here c.args.state.now) (here c.walk_function-in-Constant.new.state))
    (sym (constant_list c.in-Constant.title (expr_view c.deref-in-Constant.result.now) c.args.function d
    (subst (λ g. in_group (Some g) c.args.function ≡ Some d) same spot)))
    w) c.walk_function-in-Constant.ensures.walked

pub walk_definition-returns-in-Constant-clause-stopped : goal.walk_definition-returns-in-Constant-clause-stopped
walk_definition-returns-in-Constant-clause-stopped t c = λ b e d spot. (
    let same = ap group_view c.in-Constant.is ∙ view.constant c.in-Constant.title c.in-Constant.body
    ∙ ap (λ x. tree.Constant (title_view c.in-Constant.title) (expr_view x)) (sym c.deref-in-Constant.ensures) in
    subst (λ (l : Scope → Place → Wanted → List Item). Stuck Wanted (code_of c.args.scope.now) (one c.args.wanted) below
    (λ s q v. l s q v) (here c.args.state.now) (here c.walk_function-in-Constant.new.state) (bad_view b))
    (sym (constant_list c.in-Constant.title (expr_view c.deref-in-Constant.result.now) c.args.function d
    (subst (λ g. in_group (Some g) c.args.function ≡ Some d) same spot)))
    (c.walk_function-in-Constant.ensures.stopped b e))

pub walk_annotated-enter_annotated-requires-clause-ready : goal.walk_annotated-enter_annotated-requires-clause-ready
walk_annotated-enter_annotated-requires-clause-ready t c = c.requires.can.ready

pub walk_annotated-enter_annotated-requires-clause-clear : goal.walk_annotated-enter_annotated-requires-clause-clear
walk_annotated-enter_annotated-requires-clause-clear t c = record { each = c.requires.can.clear }

pub walk_annotated-returns-in_err-begun-clause-stopped : goal.walk_annotated-returns-in_err-begun-clause-stopped
walk_annotated-returns-in_err-begun-clause-stopped t c b e d spot = (
    let at = c.requires.place d spot in
    let p = err_from_is_err_and c.from_residual.result c.from_residual.ensures.1 in
    c.in_err-begun.ensures.stops b (other_error _ _ (rw (p.1, p.2) at e)) d (sym at))

pub walk_annotated-walk_definition-requires : goal.walk_annotated-walk_definition-requires
walk_annotated-walk_definition-requires t c =
    let code = code_of c.args.scope.now in
    let now = here c.enter_annotated.new.state in
    let vs = c.in_ok-begun.begun.inside.slots.items in
    let v = c.in_ok-begun.begun.variable in
    let o = c.in_ok-begun.ensures.opens in (
      first_of (omega (arith, c.decreases), search (rules, the_lemmas, c.decreases), search rules),
      (
        can_part (code_of c.enter_annotated.new.scope) now (here c.enter.new.self) 0 c.in_ok-enter.ensures
            (annotated_can code (code_of c.enter_annotated.new.scope) c.args.place
            (annotation_view c.args.annotation.now) c.args.number vs v (here c.args.state.now) now o),
        (
          c.requires.formed,
          (
            c.requires.defined,
            live_there now (here c.enter.new.self) _ v c.in_ok-enter.ensures o.asked.live,
          ),
        ),
      ),
    )

pub walk_annotated-returns-in_err-walk_definition-clause-stopped :
    goal.walk_annotated-returns-in_err-walk_definition-clause-stopped
walk_annotated-returns-in_err-walk_definition-clause-stopped t c b e d spot = (
    let at = c.requires.place d spot in
    let code = code_of c.args.scope.now in
    let now = here c.enter_annotated.new.state in
    let vs = c.in_ok-begun.begun.inside.slots.items in
    let v = c.in_ok-begun.begun.variable in
    let o = c.in_ok-begun.ensures.opens in
    let p = err_from_is_err_and c.from_residual-in_err-walk_definition.result
    c.from_residual-in_err-walk_definition.ensures.1 in
    annotated_stuck code (code_of c.enter_annotated.new.scope) c.args.place (annotation_view c.args.annotation.now)
    c.args.number vs v (here c.args.state.now) now o
    d at c.body_law.ensures.stops (here c.walk_definition.new.state) (bad_view b)
    (subst (λ (s : plain.State). Stuck Wanted (code_of c.enter_annotated.new.scope) (one v) below
    (λ s q w. d.list s q w) s (here c.walk_definition.new.state) (bad_view b)) c.in_ok-enter.ensures
    (c.in_err-walk_definition.ensures.stopped b (other_error _ _ (rw (p.1, p.2) at e)) d spot)))

pub walk_annotated-close_annotated-requires : goal.walk_annotated-close_annotated-requires
walk_annotated-close_annotated-requires t c =
    let code = code_of c.args.scope.now in
    let now = here c.enter_annotated.new.state in
    let vs = c.in_ok-begun.begun.inside.slots.items in
    let v = c.in_ok-begun.begun.variable in
    let o = c.in_ok-begun.ensures.opens in
    let d = c.requires.defined.definition in
    let spot = c.requires.defined.at in
    let at = c.requires.place d spot in
    let x = here c.walk_definition.new.state in
    let went = subst (λ (s : plain.State). Went Wanted (code_of c.enter_annotated.new.scope) (one v) below
    (λ s q w. d.list s q w) s x) c.in_ok-enter.ensures (c.in_ok-walk_definition.ensures.walked d spot) in
    let back = c.leave_one.ensures (record now { store = x.store; depth = x.depth }) 0
    (ap (λ q. record x { place = q }) went.follows.place) in
    let ad = annotated_done code (code_of c.enter_annotated.new.scope) c.args.place
    (annotation_view c.args.annotation.now) c.args.number vs v (here c.args.state.now) now o d at x
    (here c.leave_one.new.state) went back in
    record {
      code = code;
      definition = d;
      annotation = annotation_view c.args.annotation.now;
      number = c.args.number;
      old = here c.args.state.now;
      mid = o.mid;
      done = ad;
      names = c.in_ok-begun.ensures.names;
      at = at;
    }

pub walk_annotated-returns-clause-scope : goal.walk_annotated-returns-clause-scope
walk_annotated-returns-clause-scope t c =
    let code = code_of c.args.scope.now in
    let now = here c.enter_annotated.new.state in
    let vs = c.in_ok-begun.begun.inside.slots.items in
    let v = c.in_ok-begun.begun.variable in
    let o = c.in_ok-begun.ensures.opens in
    let d = c.requires.defined.definition in
    let spot = c.requires.defined.at in
    let at = c.requires.place d spot in
    let x = here c.walk_definition.new.state in
    let went = subst (λ (s : plain.State). Went Wanted (code_of c.enter_annotated.new.scope) (one v) below
    (λ s q w. d.list s q w) s x) c.in_ok-enter.ensures (c.in_ok-walk_definition.ensures.walked d spot) in
    let back = c.leave_one.ensures (record now { store = x.store; depth = x.depth }) 0
    (ap (λ q. record x { place = q }) went.follows.place) in
    let ad = annotated_done code (code_of c.enter_annotated.new.scope) c.args.place
    (annotation_view c.args.annotation.now) c.args.number vs v (here c.args.state.now) now o d at x
    (here c.leave_one.new.state) went back in
    let left_ = ap (without_constant c.in_ok-begun.begun.inside.entered.items) c.in_ok-walk_definition.ensures.scope ∙
    c.in_ok-begun.ensures.left in
    on_ok_weaker c.close_annotated.result (λ h.
    (h code d (annotation_view c.args.annotation.now) c.args.number (here c.args.state.now) o.mid left_ ad).0)
    c.close_annotated.ensures.closed

pub walk_annotated-returns-clause-walked : goal.walk_annotated-returns-clause-walked
walk_annotated-returns-clause-walked t c =
    let code = code_of c.args.scope.now in
    let now = here c.enter_annotated.new.state in
    let vs = c.in_ok-begun.begun.inside.slots.items in
    let v = c.in_ok-begun.begun.variable in
    let o = c.in_ok-begun.ensures.opens in
    on_ok_weaker c.close_annotated.result (λ h d spot. (
    let at = c.requires.place d spot in
    let x = here c.walk_definition.new.state in
    let went = subst (λ (s : plain.State). Went Wanted (code_of c.enter_annotated.new.scope) (one v) below
    (λ s q w. d.list s q w) s x) c.in_ok-enter.ensures (c.in_ok-walk_definition.ensures.walked d spot) in
    let back = c.leave_one.ensures (record now { store = x.store; depth = x.depth }) 0
    (ap (λ q. record x { place = q }) went.follows.place) in
    let ad = annotated_done code (code_of c.enter_annotated.new.scope) c.args.place
    (annotation_view c.args.annotation.now) c.args.number vs v (here c.args.state.now) now o d at x
    (here c.leave_one.new.state) went back in
    let left_ = ap (without_constant c.in_ok-begun.begun.inside.entered.items) c.in_ok-walk_definition.ensures.scope ∙
    c.in_ok-begun.ensures.left in
    (h code d (annotation_view c.args.annotation.now) c.args.number (here c.args.state.now) o.mid left_ ad).1))
    c.close_annotated.ensures.closed

pub walk_annotated-returns-clause-stopped : goal.walk_annotated-returns-clause-stopped
walk_annotated-returns-clause-stopped t c y e d spot = (
    let code = code_of c.args.scope.now in
    let now = here c.enter_annotated.new.state in
    let vs = c.in_ok-begun.begun.inside.slots.items in
    let v = c.in_ok-begun.begun.variable in
    let o = c.in_ok-begun.ensures.opens in
    let at = c.requires.place d spot in
    let x = here c.walk_definition.new.state in
    let went = subst (λ (s : plain.State). Went Wanted (code_of c.enter_annotated.new.scope) (one v) below
    (λ s q w. d.list s q w) s x) c.in_ok-enter.ensures (c.in_ok-walk_definition.ensures.walked d spot) in
    let back = c.leave_one.ensures (record now { store = x.store; depth = x.depth }) 0
    (ap (λ q. record x { place = q }) went.follows.place) in
    let ad = annotated_done code (code_of c.enter_annotated.new.scope) c.args.place
    (annotation_view c.args.annotation.now) c.args.number vs v (here c.args.state.now) now o d at x
    (here c.leave_one.new.state) went back in
    c.close_annotated.ensures.stops y e code d (annotation_view c.args.annotation.now) c.args.number
    (here c.args.state.now) o.mid ad
    c.in_ok-begun.ensures.names at)

pub walk_destructured-begin_pattern-requires-clause-once : goal.walk_destructured-begin_pattern-requires-clause-once
walk_destructured-begin_pattern-requires-clause-once t c =
    let same = ap group_view c.in-Destructure.is ∙ view.destructure c.in-Destructure.pattern c.in-Destructure.body in
    (subst FormedGroup same c.requires.formed).0

pub walk_destructured-begin_pattern-requires-clause-start : goal.walk_destructured-begin_pattern-requires-clause-start
walk_destructured-begin_pattern-requires-clause-start t c =
    let same = ap group_view c.in-Destructure.is ∙ view.destructure c.in-Destructure.pattern c.in-Destructure.body in
    let starts : c.args.place ≡ pattern_start nowhere (pattern_view c.in-Destructure.pattern) = subst
    (StartsAt c.args.place) same c.requires.pattern in
    starts

pub walk_destructured-returns-in_err-begun-in-Destructure-clause-stopped :
    goal.walk_destructured-returns-in_err-begun-in-Destructure-clause-stopped
walk_destructured-returns-in_err-begun-in-Destructure-clause-stopped t c y e = (
    let same = ap group_view c.in-Destructure.is ∙ view.destructure c.in-Destructure.pattern c.in-Destructure.body in
    let p = err_from_is_err_and c.from_residual.result c.from_residual.ensures.1 in
    subst (λ (g : tree.Group). InferredStops (code_of c.args.scope.now) (group_definitions g) c.args.number
    (here c.args.state.now) (here c.begin_pattern.new.state) (bad_view y))
    (sym same) (c.in_err-begun-in-Destructure.ensures.stops y (other_error _ _ (rw (p.1, p.2) at e))
    (expr_view c.in-Destructure.body.value)))

pub walk_destructured-walk-requires : goal.walk_destructured-walk-requires
walk_destructured-walk-requires t c =
    let same = ap group_view c.in-Destructure.is ∙ view.destructure c.in-Destructure.pattern c.in-Destructure.body
    ∙ ap (λ x. tree.Destructure (pattern_view c.in-Destructure.pattern) (expr_view x)) (sym c.deref.ensures) in
    let starts : c.args.place ≡ pattern_start nowhere (pattern_view c.in-Destructure.pattern) = subst
    (StartsAt c.args.place) same c.requires.pattern in
    let inner = code_of c.begin_pattern.new.scope in
    let now = here c.begin_pattern.new.state in
    let v = c.in_ok-begun-in-Destructure.begun.variable in
    let b = c.in_ok-begun-in-Destructure.ensures.begun in (
      first_of (omega (arith, c.decreases), search (rules, the_lemmas, c.decreases), search rules),
      (
        can_part (code_of c.begin_pattern.new.scope) now (here c.enter.new.self) 1 c.in_ok-enter-in-Destructure.ensures
            b.can,
        (
          (subst FormedGroup same c.requires.formed).1,
          live_there now (here c.enter.new.self) _ v c.in_ok-enter-in-Destructure.ensures b.live,
        ),
      ),
    )

pub walk_destructured-returns-in_err-walk-in-Destructure-clause-stopped :
    goal.walk_destructured-returns-in_err-walk-in-Destructure-clause-stopped
walk_destructured-returns-in_err-walk-in-Destructure-clause-stopped t c y e = (
    let same = ap group_view c.in-Destructure.is ∙ view.destructure c.in-Destructure.pattern c.in-Destructure.body
    ∙ ap (λ x. tree.Destructure (pattern_view c.in-Destructure.pattern) (expr_view x)) (sym c.deref.ensures) in
    let starts : c.args.place ≡ pattern_start nowhere (pattern_view c.in-Destructure.pattern) = subst
    (StartsAt c.args.place) same c.requires.pattern in
    let inner = code_of c.begin_pattern.new.scope in
    let now = here c.begin_pattern.new.state in
    let v = c.in_ok-begun-in-Destructure.begun.variable in
    let b = c.in_ok-begun-in-Destructure.ensures.begun in
    let p = err_from_is_err_and c.from_residual-in_err-walk-in-Destructure.result
    c.from_residual-in_err-walk-in-Destructure.ensures.1 in
    let stuck = subst (λ (s : plain.State). Stuck Wanted inner (one v) below
    (listed (expr_view c.deref.result.now) c.args.place) s (here c.walk.new.state) (bad_view y))
    c.in_ok-enter-in-Destructure.ensures (c.in_err-walk-in-Destructure.ensures.stopped y
    (other_error _ _ (rw (p.1, p.2) at e))) in
    subst (λ (g : tree.Group). InferredStops (code_of c.args.scope.now) (group_definitions g) c.args.number
    (here c.args.state.now) (here c.walk.new.state) (bad_view y)) (sym same)
    (value_law (code_of c.args.scope.now) inner (pattern_view c.in-Destructure.pattern)
    (expr_view c.deref.result.now) c.args.number v
    (named_views c.in_ok-begun-in-Destructure.begun.names.items) (here c.args.state.now) now (here c.walk.new.state)
    (bad_view y) b
    (subst (λ (h : Pos). Stuck Wanted inner (one v) below (listed (expr_view c.deref.result.now) h) (at_child now 1)
    (here c.walk.new.state) (bad_view y)) starts stuck)))

pub walk_destructured-end_pattern-requires-clause-whole : goal.walk_destructured-end_pattern-requires-clause-whole
walk_destructured-end_pattern-requires-clause-whole t c = c.in_ok-walk-in-Destructure.ensures.walked.follows.whole

pub walk_destructured-end_pattern-requires-clause-inside : goal.walk_destructured-end_pattern-requires-clause-inside
walk_destructured-end_pattern-requires-clause-inside t c =
    let now = here c.begin_pattern.new.state in
    let v = c.in_ok-begun-in-Destructure.begun.variable in
    let b = c.in_ok-begun-in-Destructure.ensures.begun in
    (still_live (here c.enter.new.self) (here c.walk.new.state) v c.in_ok-walk-in-Destructure.ensures.walked.follows
    (live_there now (here c.enter.new.self) _ v c.in_ok-enter-in-Destructure.ensures b.live)).inside

pub walk_destructured-returns-in_err-end_pattern-in-Destructure-clause-stopped :
    goal.walk_destructured-returns-in_err-end_pattern-in-Destructure-clause-stopped
walk_destructured-returns-in_err-end_pattern-in-Destructure-clause-stopped t c y e = (
    let same = ap group_view c.in-Destructure.is ∙ view.destructure c.in-Destructure.pattern c.in-Destructure.body
    ∙ ap (λ x. tree.Destructure (pattern_view c.in-Destructure.pattern) (expr_view x)) (sym c.deref.ensures) in
    let starts : c.args.place ≡ pattern_start nowhere (pattern_view c.in-Destructure.pattern) = subst
    (StartsAt c.args.place) same c.requires.pattern in
    let inner = code_of c.begin_pattern.new.scope in
    let now = here c.begin_pattern.new.state in
    let v = c.in_ok-begun-in-Destructure.begun.variable in
    let b = c.in_ok-begun-in-Destructure.ensures.begun in
    let went = subst (λ (s : plain.State). Went Wanted inner (one v) below
    (listed (expr_view c.deref.result.now) c.args.place) s (here c.walk.new.state))
    c.in_ok-enter-in-Destructure.ensures c.in_ok-walk-in-Destructure.ensures.walked in
    let p = err_from_is_err_and c.from_residual-in_err-end_pattern-in-Destructure.result
    c.from_residual-in_err-end_pattern-in-Destructure.ensures.1 in
    subst (λ (g : tree.Group). InferredStops (code_of c.args.scope.now) (group_definitions g) c.args.number
    (here c.args.state.now) (here c.end_pattern.new.state) (bad_view y)) (sym same)
    (c.in_err-end_pattern-in-Destructure.ensures.large y (other_error _ _ (rw (p.1, p.2) at e))
    (code_of c.args.scope.now) inner (pattern_view c.in-Destructure.pattern) (expr_view c.deref.result.now)
    c.args.number (named_views c.in_ok-begun-in-Destructure.begun.names.items) (here c.args.state.now) now starts b
    went))

pub walk_destructured-returns-clause-left : goal.walk_destructured-returns-clause-left
walk_destructured-returns-clause-left t c =
    ap (without c.in_ok-begun-in-Destructure.begun.entered.items) c.in_ok-walk-in-Destructure.ensures.scope ∙
    c.in_ok-begun-in-Destructure.ensures.left

pub walk_destructured-returns-clause-walked : goal.walk_destructured-returns-clause-walked
walk_destructured-returns-clause-walked t c =
    let same = ap group_view c.in-Destructure.is ∙ view.destructure c.in-Destructure.pattern c.in-Destructure.body
    ∙ ap (λ x. tree.Destructure (pattern_view c.in-Destructure.pattern) (expr_view x)) (sym c.deref.ensures) in
    let starts : c.args.place ≡ pattern_start nowhere (pattern_view c.in-Destructure.pattern) = subst
    (StartsAt c.args.place) same c.requires.pattern in
    let inner = code_of c.begin_pattern.new.scope in
    let now = here c.begin_pattern.new.state in
    let v = c.in_ok-begun-in-Destructure.begun.variable in
    let b = c.in_ok-begun-in-Destructure.ensures.begun in
    let went = subst (λ (s : plain.State). Went Wanted inner (one v) below
    (listed (expr_view c.deref.result.now) c.args.place) s (here c.walk.new.state))
    c.in_ok-enter-in-Destructure.ensures c.in_ok-walk-in-Destructure.ensures.walked in
    subst (λ (g : tree.Group). GroupDone (code_of c.args.scope.now) (group_definitions g) c.args.number
    (named_views c.in_ok-begun-in-Destructure.begun.names.items) (here c.args.state.now) (here c.end_pattern.new.state))
    (sym same)
    (c.in_ok-end_pattern-in-Destructure.ensures.ends (code_of c.args.scope.now) inner
    (pattern_view c.in-Destructure.pattern) (expr_view c.deref.result.now)
    c.args.number (named_views c.in_ok-begun-in-Destructure.begun.names.items) (here c.args.state.now) now starts b
    went)

pub walk_members-offset_bounds-groups-member : goal.walk_members-offset_bounds-groups-member
walk_members-offset_bounds-groups-member t c =
    let gs = views c.args.groups.now in
    let code = code_of c.args.scope.now in
    let k = c.loop-index.index in
    let now = here c.loop-index.state in
    let inv = c.loop-index.invariant in
    let lt = c.loop-index-test.true in
    let m = c.index-members-index.result in
    let names = c.in_ok-opened.opened.names.items in
    let rm = c.requires.members in
    let b = zip_beside (IsDefinition gs) c.args.members.now rm.group k m rm.definitions lt c.index-members-index.is in
    let count = names_count gs c.args.members.now code c.args.number k names (here c.args.state.now) now rm.group
    rm.definitions (inv.done rm.group rm.definitions) in
    let few = spot_within c.args.groups.now m.group m.function b.other b.related.at in
    first_of (omega (arith, few), search (rules, few), grind (arith, common_steps, few))

pub walk_definition-unreachable-requires : goal.walk_definition-unreachable-requires
walk_definition-unreachable-requires t c =
    let same = ap group_view c.in-Destructure.is ∙ view.destructure c.in-Destructure.field-0 c.in-Destructure.field-1 in
    let h : false ≡ true = subst (λ g. has_titles (Some g) ≡ true) same c.requires.defined.titled in
    cc

pub walk_destructured-unreachable-requires : goal.walk_destructured-unreachable-requires
walk_destructured-unreachable-requires t c =
    subst (StartsAt c.args.place) (ap group_view c.in-Together.is ∙ view.together c.in-Together.field-0)
    c.requires.pattern

pub walk_destructured-unreachable-requires-in-Constant : goal.walk_destructured-unreachable-requires-in-Constant
walk_destructured-unreachable-requires-in-Constant t c =
    subst (StartsAt c.args.place)
    (ap group_view c.in-Constant.is ∙ view.constant c.in-Constant.field-0 c.in-Constant.field-1) c.requires.pattern

pub open_link-open_composed-requires : goal.open_link-open_composed-requires
open_link-open_composed-requires t c = (
  first_of (omega (arith, c.decreases), search (rules, the_lemmas, c.decreases), search rules),
  (
    c.requires.can,
    (
      (subst FormedLink (ap link_view c.in-Composed.is ∙ view.composed c.in-Composed.callee c.in-Composed.field-1
          ∙ ap (λ x. Composed (expr_view x) (expr_view c.in-Composed.field-1.value)) (sym c.deref-in-Composed.ensures)) c.requires.formed).0,
      c.requires.wanted,
    ),
  ),
)

pub open_link-returns-in-Composed-clause-opened : goal.open_link-returns-in-Composed-clause-opened
open_link-returns-in-Composed-clause-opened t c =
    IfOk-weaker c.open_composed.result
    (λ (v : ℕ). (x : tree.Expr) → OpensOne (code_of c.args.scope.now) c.args.position (Composed
    (expr_view c.deref-in-Composed.result.now) x)
    (map (λ vs. vs.items) c.args.kept.now.items) (map (λ vs. vs.items) c.open_composed.new.kept.items)
    (here c.args.state.now) c.args.wanted
    (here c.open_composed.new.state) v)
    (λ (v : ℕ). OpensOne (code_of c.args.scope.now) c.args.position (link_view c.args.link.now)
    (map (λ vs. vs.items) c.args.kept.now.items) (map (λ vs. vs.items) c.open_composed.new.kept.items)
    (here c.args.state.now) c.args.wanted
    (here c.open_composed.new.state) v)
    (λ v o. subst (λ l. OpensOne (code_of c.args.scope.now) c.args.position l (map (λ vs. vs.items)
    c.args.kept.now.items)
    (map (λ vs. vs.items) c.open_composed.new.kept.items) (here c.args.state.now) c.args.wanted
    (here c.open_composed.new.state) v)
    (sym (ap link_view c.in-Composed.is ∙ view.composed c.in-Composed.callee c.in-Composed.field-1
    ∙ ap (λ x. Composed (expr_view x) (expr_view c.in-Composed.field-1.value)) (sym c.deref-in-Composed.ensures))) (o
    (expr_view c.in-Composed.field-1.value))) c.open_composed.ensures.opened

pub open_link-returns-in-Composed-clause-stopped : goal.open_link-returns-in-Composed-clause-stopped
open_link-returns-in-Composed-clause-stopped t c = λ b e y.
    shown_stuck (code_of c.args.scope.now) c.args.wanted c.args.position (here c.args.state.now)
    (here c.open_composed.new.state) (bad_view b) _ _
    (ap (λ l. done l y) (ap link_view c.in-Composed.is ∙ view.composed c.in-Composed.callee c.in-Composed.field-1
    ∙ ap (λ x. Composed (expr_view x) (expr_view c.in-Composed.field-1.value)) (sym c.deref-in-Composed.ensures)))
    (c.open_composed.ensures.stopped b e (expr_view c.in-Composed.field-1.value) y)

pub open_link-open_after-requires : goal.open_link-open_after-requires
open_link-open_after-requires t c = (
  first_of (omega (arith, c.decreases), search (rules, the_lemmas, c.decreases), search rules),
  (
    c.requires.can,
    (
      (subst FormedLink (ap link_view c.in-After.is ∙ view.part_after c.in-After.op c.in-After.parts)
          c.requires.formed),
      c.requires.wanted,
    ),
  ),
)

pub open_link-returns-in-After-clause-opened : goal.open_link-returns-in-After-clause-opened
open_link-returns-in-After-clause-opened t c =
    IfOk-weaker c.open_after.result
    (λ (v : ℕ). OpensOne (code_of c.args.scope.now) c.args.position (After (op_view c.in-After.op)
    (map expr_view c.in-After.parts.items))
    (map (λ vs. vs.items) c.args.kept.now.items) (map (λ vs. vs.items) c.open_after.new.kept.items)
    (here c.args.state.now) c.args.wanted
    (here c.open_after.new.state) v)
    (λ (v : ℕ). OpensOne (code_of c.args.scope.now) c.args.position (link_view c.args.link.now)
    (map (λ vs. vs.items) c.args.kept.now.items) (map (λ vs. vs.items) c.open_after.new.kept.items)
    (here c.args.state.now) c.args.wanted
    (here c.open_after.new.state) v)
    (λ v o. subst (λ l. OpensOne (code_of c.args.scope.now) c.args.position l (map (λ vs. vs.items)
    c.args.kept.now.items)
    (map (λ vs. vs.items) c.open_after.new.kept.items) (here c.args.state.now) c.args.wanted
    (here c.open_after.new.state) v)
    (sym (ap link_view c.in-After.is ∙ view.part_after c.in-After.op c.in-After.parts)) o) c.open_after.ensures.opened

pub open_link-returns-in-After-clause-stopped : goal.open_link-returns-in-After-clause-stopped
open_link-returns-in-After-clause-stopped t c = λ b e y.
    shown_stuck (code_of c.args.scope.now) c.args.wanted c.args.position (here c.args.state.now)
    (here c.open_after.new.state) (bad_view b) _ _
    (ap (λ l. done l y) (ap link_view c.in-After.is ∙ view.part_after c.in-After.op c.in-After.parts))
    (c.open_after.ensures.stopped b e y)

pub open_link-open_before-requires-clause-formed : goal.open_link-open_before-requires-clause-formed
open_link-open_before-requires-clause-formed t c =
    (subst FormedLink (ap link_view c.in-Before.is ∙ view.part_before c.in-Before.op c.in-Before.field-1)
    c.requires.formed).0

pub open_link-returns-in-Before-clause-opened : goal.open_link-returns-in-Before-clause-opened
open_link-returns-in-Before-clause-opened t c =
    IfOk-weaker c.open_before.result
    (λ (v : ℕ). (x : tree.Expr) → OpensOne (code_of c.args.scope.now) c.args.position (Before (op_view c.in-Before.op)
    x)
    (map (λ vs. vs.items) c.args.kept.now.items) (map (λ vs. vs.items) c.open_before.new.kept.items)
    (here c.args.state.now) c.args.wanted
    (here c.open_before.new.state) v)
    (λ (v : ℕ). OpensOne (code_of c.args.scope.now) c.args.position (link_view c.args.link.now)
    (map (λ vs. vs.items) c.args.kept.now.items) (map (λ vs. vs.items) c.open_before.new.kept.items)
    (here c.args.state.now) c.args.wanted
    (here c.open_before.new.state) v)
    (λ v o. subst (λ l. OpensOne (code_of c.args.scope.now) c.args.position l (map (λ vs. vs.items)
    c.args.kept.now.items)
    (map (λ vs. vs.items) c.open_before.new.kept.items) (here c.args.state.now) c.args.wanted
    (here c.open_before.new.state) v)
    (sym (ap link_view c.in-Before.is ∙ view.part_before c.in-Before.op c.in-Before.field-1)) (o
    (expr_view c.in-Before.field-1.value))) c.open_before.ensures.opened

pub open_link-returns-in-Before-clause-stopped : goal.open_link-returns-in-Before-clause-stopped
open_link-returns-in-Before-clause-stopped t c = λ b e y.
    shown_stuck (code_of c.args.scope.now) c.args.wanted c.args.position (here c.args.state.now)
    (here c.open_before.new.state) (bad_view b) _ _
    (ap (λ l. done l y) (ap link_view c.in-Before.is ∙ view.part_before c.in-Before.op c.in-Before.field-1))
    (c.open_before.ensures.stopped b e (expr_view c.in-Before.field-1.value) y)

pub open_link-open_decided-requires : goal.open_link-open_decided-requires
open_link-open_decided-requires t c = (
  first_of (omega (arith, c.decreases), search (rules, the_lemmas, c.decreases), search rules),
  (
    c.requires.can,
    (
      (subst FormedLink (ap link_view c.in-Decided.is ∙ view.decided c.in-Decided.place c.in-Decided.field-1 c.in-Decided.left
          ∙ ap (λ x. Decided c.in-Decided.place c.in-Decided.field-1 (expr_view x)) (sym c.deref-in-Decided.ensures)) c.requires.formed),
      c.requires.wanted,
    ),
  ),
)

pub open_link-returns-in-Decided-clause-opened : goal.open_link-returns-in-Decided-clause-opened
open_link-returns-in-Decided-clause-opened t c =
    IfOk-weaker c.open_decided.result
    (λ (v : ℕ). (x : Connective) → OpensOne (code_of c.args.scope.now) c.args.position (Decided c.in-Decided.place x
    (expr_view c.deref-in-Decided.result.now))
    (map (λ vs. vs.items) c.args.kept.now.items) (map (λ vs. vs.items) c.open_decided.new.kept.items)
    (here c.args.state.now) c.args.wanted
    (here c.open_decided.new.state) v)
    (λ (v : ℕ). OpensOne (code_of c.args.scope.now) c.args.position (link_view c.args.link.now)
    (map (λ vs. vs.items) c.args.kept.now.items) (map (λ vs. vs.items) c.open_decided.new.kept.items)
    (here c.args.state.now) c.args.wanted
    (here c.open_decided.new.state) v)
    (λ v o. subst (λ l. OpensOne (code_of c.args.scope.now) c.args.position l (map (λ vs. vs.items)
    c.args.kept.now.items)
    (map (λ vs. vs.items) c.open_decided.new.kept.items) (here c.args.state.now) c.args.wanted
    (here c.open_decided.new.state) v)
    (sym (ap link_view c.in-Decided.is ∙ view.decided c.in-Decided.place c.in-Decided.field-1 c.in-Decided.left
    ∙ ap (λ x. Decided c.in-Decided.place c.in-Decided.field-1 (expr_view x)) (sym c.deref-in-Decided.ensures)))
    (o c.in-Decided.field-1)) c.open_decided.ensures.opened

pub open_link-returns-in-Decided-clause-stopped : goal.open_link-returns-in-Decided-clause-stopped
open_link-returns-in-Decided-clause-stopped t c = λ b e y.
    shown_stuck (code_of c.args.scope.now) c.args.wanted c.args.position (here c.args.state.now)
    (here c.open_decided.new.state) (bad_view b) _ _
    (ap (λ l. done l y) (ap link_view c.in-Decided.is ∙ view.decided c.in-Decided.place c.in-Decided.field-1 c.in-Decided.left
    ∙ ap (λ x. Decided c.in-Decided.place c.in-Decided.field-1 (expr_view x)) (sym c.deref-in-Decided.ensures))) (c.open_decided.ensures.stopped b e c.in-Decided.field-1 y)

pub open_composed-walk_callee-requires : goal.open_composed-walk_callee-requires
open_composed-walk_callee-requires t c = (
  first_of (omega (arith, c.decreases), search (rules, the_lemmas, c.decreases), search rules),
  (
    c.requires.can,
    (c.requires.formed, c.requires.wanted),
  ),
)

pub open_composed-returns-in_err-variables-clause-stopped : goal.open_composed-returns-in_err-variables-clause-stopped
open_composed-returns-in_err-variables-clause-stopped t c = λ b e x y.
    let p = err_from_is_err_and c.from_residual.result c.from_residual.ensures.1 in
    c.in_err-variables.ensures.stopped b (other_error _ _ (rw (p.1, p.2) at e)) (y ∷ x ∷ []) refl

pub open_composed-returns-clause-opened : goal.open_composed-returns-clause-opened
open_composed-returns-clause-opened t c =
    λ x. record {
      own = c.in_ok-variables.variables.items;
      is = c.in_ok-inner.ensures.kept;
      inside_is =
          composed_inside (code_of c.args.scope.now) c.args.position _ (here c.args.state.now) c.args.wanted
          (here c.go_inside.new.state) c.in_ok-inner.inner
          (here c.walk_callee.new.state) c.requires.can c.in_ok-variables.ensures.follows
          c.in_ok-variables.ensures.live (expr_view c.args.callee.now) x c.in_ok-variables.ensures.opened
          c.in_ok-variables.ensures.number c.in_ok-inner.ensures.variable c.in_ok-inner.ensures.place;
    }

pub open_after-walk_parts-requires : goal.open_after-walk_parts-requires
open_after-walk_parts-requires t c =
    let same = ap length c.deref.ensures.value in
    let count = length-map c.args.parts.now.items expr_view in
    let e : suc (length (map expr_view c.args.parts.now.items)) ≡ c.len-count.result + 1 = omega
    (arith, count, c.len-count.ensures) in (
      first_of (omega (arith, c.decreases), search (rules, the_lemmas, c.decreases), search rules),
      (
        c.requires.can,
        (
          subst (FormedOp (op_view c.args.op.now)) e c.requires.formed.0,
          (
            subst (λ xs. AllFormed (exprs_of (map expr_view xs))) (sym c.deref.ensures.value) c.requires.formed.1,
            (omega (arith, same, c.len-count.ensures), c.requires.wanted),
          ),
        ),
      ),
    )

pub open_after-returns-in_err-variables-clause-stopped : goal.open_after-returns-in_err-variables-clause-stopped
open_after-returns-in_err-variables-clause-stopped t c = λ b e y.
    let p = err_from_is_err_and c.from_residual.result c.from_residual.ensures.1 in
    subst (λ xs. Stuck Wanted (code_of c.args.scope.now) (one c.args.wanted) below
    (listed (Strict (op_view c.args.op.now) (exprs_of (map expr_view xs ++ y ∷ []))) c.args.position)
    (here c.args.state.now) (here c.walk_parts.new.state)
    (bad_view b)) c.deref.ensures.value
    (c.in_err-variables.ensures.stopped b (other_error _ _ (rw (p.1, p.2) at e)) (y ∷ [])
    (let same = ap length c.deref.ensures.value in omega (arith, same, c.len-count.ensures)))

pub open_after-returns-clause-opened : goal.open_after-returns-clause-opened
open_after-returns-clause-opened t c =
    let outside_ = here c.walk_parts.new.state in
    let m = length-map c.args.parts.now.items expr_view in
    let count : length (map expr_view c.args.parts.now.items) ≡ c.len-count.result = omega
    (arith, m, c.len-count.ensures) in
    let e : suc (length (map expr_view c.args.parts.now.items)) ≡ c.len-count.result + 1 = omega (arith, count) in
    let formed = subst (FormedOp (op_view c.args.op.now)) e c.requires.formed.0 in
    let number = c.in_ok-variables.ensures.number ∙ ap (known_count (op_view c.args.op.now) (c.len-count.result + 1))
    (let d = ap length c.deref.ensures.value in let k : length c.deref.result.now ≡ c.len-count.result
    = omega (arith, d, c.len-count.ensures) in k) in
    record {
      own = c.in_ok-variables.variables.items;
      is = c.in_ok-inner.ensures.kept;
      inside_is =
          after_inside (code_of c.args.scope.now) c.args.position _ (here c.args.state.now) c.args.wanted
          (here c.go_inside.new.state) c.in_ok-inner.inner outside_
          c.requires.can c.in_ok-variables.ensures.follows c.in_ok-variables.ensures.live (op_view c.args.op.now)
          (map expr_view c.args.parts.now.items) c.len-count.result count
          (strict_op c.args.op.now) formed
          (subst (λ xs. OpOpens (code_of c.args.scope.now) c.args.wanted (op_view c.args.op.now)
          (c.len-count.result + 1) c.args.position (map expr_view xs)
          c.in_ok-variables.variables.items (here c.args.state.now) outside_)
          c.deref.ensures.value c.in_ok-variables.ensures.opened)
          number (enough_at (op_view c.args.op.now) c.len-count.result _ formed number) c.in_ok-inner.ensures.variable
          c.in_ok-inner.ensures.place;
    }

pub open_decided-returns-in_err-operands-clause-stopped : goal.open_decided-returns-in_err-operands-clause-stopped
open_decided-returns-in_err-operands-clause-stopped t c = λ b e x y.
    let p = err_from_is_err_and c.from_residual.result c.from_residual.ensures.1 in
    decided_unbegun (code_of c.args.scope.now) c.args.wanted c.args.place c.args.position x
    (expr_view c.args.left.now) y (here c.args.state.now) (here c.begin_logical.new.state)
    (bad_view b) (c.in_err-operands.ensures.stops b (other_error _ _ (rw (p.1, p.2) at e)) (code_of c.args.scope.now))

pub open_decided-walk_part-requires : goal.open_decided-walk_part-requires
open_decided-walk_part-requires t c =
    let b = c.in_ok-operands.ensures.begins (code_of c.args.scope.now) in (
      first_of (omega (arith, c.decreases), search (rules, the_lemmas, c.decreases), search rules),
      (
        can_then (code_of c.args.scope.now) (code_of c.args.scope.now) (here c.args.state.now)
            (here c.begin_logical.new.state) refl c.requires.can b.follows,
        (c.requires.formed, b.live.0),
      ),
    )

pub open_decided-returns-in_err-walk_part-clause-stopped : goal.open_decided-returns-in_err-walk_part-clause-stopped
open_decided-returns-in_err-walk_part-clause-stopped t c = λ b e x y.
    let b0 = c.in_ok-operands.ensures.begins (code_of c.args.scope.now) in
    let p = err_from_is_err_and c.from_residual-in_err-walk_part.result c.from_residual-in_err-walk_part.ensures.1 in
    left_stuck (code_of c.args.scope.now) c.args.wanted c.args.place c.args.position x (expr_view c.args.left.now)
    y c.in_ok-operands.operands.left
    c.in_ok-operands.operands.right (here c.args.state.now) (here c.begin_logical.new.state) c.requires.can.ready b0
    (here c.walk_part.new.state) (bad_view b)
    (c.in_err-walk_part.ensures.stopped b (other_error _ _ (rw (p.1, p.2) at e)))

pub open_decided-returns-clause-opened : goal.open_decided-returns-clause-opened
open_decided-returns-clause-opened t c =
    let b0 = c.in_ok-operands.ensures.begins (code_of c.args.scope.now) in
    let l = c.in_ok-operands.operands.left in
    let r = c.in_ok-operands.operands.right in
    let outside_ = here c.walk_part.new.state in
    let w = c.in_ok-walk_part.ensures.walked in
    λ x. record {
      own = c.new.result.items;
      is = c.in_ok-keep.ensures;
      inside_is =
          decided_inside (code_of c.args.scope.now) c.args.position c.new.result.items (here c.args.state.now)
          c.args.wanted (here c.enter.new.self) r c.args.place x
          (expr_view c.args.left.now) outside_ c.new.ensures.items c.requires.can
          (follows_on (here c.args.state.now) (here c.begin_logical.new.state) outside_ b0.follows w.follows)
          (decided_opens (code_of c.args.scope.now) c.args.wanted c.args.place c.args.position x
          (expr_view c.args.left.now) (expr_view c.args.left.now) l r (here c.args.state.now)
          (here c.begin_logical.new.state) c.requires.can.ready b0 outside_ w)
          (still_live (here c.begin_logical.new.state) outside_ r w.follows b0.live.1.0) c.in_ok-enter.ensures;
    }
