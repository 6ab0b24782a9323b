-- One more group is told: `all_of`, `marks_are`. The order is the one that is computed: `is_the_order`.
use Rattle.std.proofs.lemmas.List.{length-map}
use Rattle.std.proofs.Common.{◌<◌, [], length, map, sym, ap, ◌∙◌, subst, arith}
use Rattle.std.specs.List.{All}
use Rattle.decl_groups.specs.Groups.{plain}
use Rattle.decl_groups.specs.InOrder as computed
use Rattle.decl_groups.proofs.Computed.{is_the_order}
use Rattle.decl_groups.proofs.Standing.{once_told, itself_told}
use Rattle.decl_groups.specs.View.{members_of}
use Rattle.decl_groups.specs.Groups.{IsOrder}
use Rattle.decl_groups.proofs.Telling.{none_told, no_marks, all_of, marks_are, of_first, of_rest, all_told}
use Rattle.decl_groups.specs.declared.grouping.Group.{Group}
use Rattle.decl_groups.proofs.Within.{members_within, uses_within}
use Rattle.std.proofs.Common.{ℕ, Vec, Global}
use Rattle.decl_groups.proofs.grouping.ordered_groups.Goals as goal

abbrev Row : Type 0
Row = Vec ℕ Global

pub loop-members-init : goal.loop-members-init
loop-members-init c =
    let uses = c.args.uses.now in
    let given = c.into_iter-members-iterator.ensures.into_iter_gives.0 in
    record {
      all = none_told c.in_ok-told.told.items (plain c.into_iter-members-iterator.result.rest.items) c.in_ok-told.ensures.items;
      marks = no_marks (plain uses) c.in_ok-told.told.items c.in_ok-told.ensures.items;
      within = subst (All (λ group. All (λ i. i < length uses) group.items)) (sym given) (members_within uses c.in_ok-order.order.items c.in_ok-order.ensures);
    }

pub is_recursive-is_recursive-requires : goal.is_recursive-is_recursive-requires
is_recursive-is_recursive-requires c =
    let uses = c.args.uses.now in
    subst (All (λ i. i < length uses)) (sym c.deref.ensures.value)
    (of_first (λ group. All (λ i. i < length uses) group.items) c.loop-members.members-iterator.rest.items c.next.new.self.rest.items c.in-Some.members c.loop-members.invariant.within c.in-Some.ensures.steps.0)

pub loop-members-preserved : goal.loop-members-preserved
loop-members-preserved c =
    let uses = c.args.uses.now in
    let group : Group = record { members = c.in-Some.members; is_recursive = c.is_recursive-is_recursive.result } in
    let left = c.loop-members.members-iterator.rest.items in
    let rest = c.next.new.self.rest.items in
    let is = c.in-Some.ensures.steps.0 in
    let pushed = c.in_ok-push.ensures.items in
    let mark = c.is_recursive-is_recursive.ensures ∙ ap (computed.is_recursive (plain uses)) c.deref.ensures.value in
    record {
      all = rw pushed (all_of c.loop-members.told.items group left rest (plain c.into_iter-members-iterator.result.rest.items) c.loop-members.invariant.all is);
      marks = rw pushed (marks_are (plain uses) c.loop-members.told.items group c.loop-members.invariant.marks mark);
      within = of_rest (λ g. All (λ i. i < length uses) g.items) left rest c.in-Some.members c.loop-members.invariant.within is;
    }

pub returns-clause-members : goal.returns-clause-members
returns-clause-members c =
    let uses = c.args.uses.now in
    let left = c.loop-members.members-iterator.rest in
    let given = c.into_iter-members-iterator.ensures.into_iter_gives.0 in
    all_told c.loop-members.told.items left.items (plain c.into_iter-members-iterator.result.rest.items) c.loop-members.invariant.all (omega (arith, left.ok, c.in-None.ensures.steps.0))
    ∙ ap plain given ∙ sym (is_the_order (plain uses) (uses_within uses c.requires.places) (plain c.in_ok-order.order.items) c.in_ok-order.ensures)

pub returns-clause-marks : goal.returns-clause-marks
returns-clause-marks c =
    let uses = c.args.uses.now in
    let left = c.loop-members.members-iterator.rest in
    let given = c.into_iter-members-iterator.ensures.into_iter_gives.0 in
    c.loop-members.invariant.marks
    ∙ ap (map (computed.is_recursive (plain uses)))
    (all_told c.loop-members.told.items left.items (plain c.into_iter-members-iterator.result.rest.items) c.loop-members.invariant.all (omega (arith, left.ok, c.in-None.ensures.steps.0))
    ∙ ap plain given ∙ sym (is_the_order (plain uses) (uses_within uses c.requires.places) (plain c.in_ok-order.order.items) c.in_ok-order.ensures))

pub returns-clause-itself : goal.returns-clause-itself
returns-clause-itself c = λ i l.
    let uses = c.args.uses.now in
    let left = c.loop-members.members-iterator.rest in
    let given = c.into_iter-members-iterator.ensures.into_iter_gives.0 in
    let same =
    all_told c.loop-members.told.items left.items (plain c.into_iter-members-iterator.result.rest.items) c.loop-members.invariant.all (omega (arith, left.ok, c.in-None.ensures.steps.0))
    ∙ ap plain given in
    itself_told (plain uses) (uses_within uses c.requires.places) c.loop-members.told.items c.loop-members.invariant.marks
    (subst (IsOrder (plain uses) []) (sym same) c.in_ok-order.ensures) i
    (omega (arith, l, length-map uses (λ (x : Row). x.items)))

pub returns-clause-once : goal.returns-clause-once
returns-clause-once c =
    let uses = c.args.uses.now in
    let left = c.loop-members.members-iterator.rest in
    let given = c.into_iter-members-iterator.ensures.into_iter_gives.0 in
    let same =
    all_told c.loop-members.told.items left.items (plain c.into_iter-members-iterator.result.rest.items) c.loop-members.invariant.all (omega (arith, left.ok, c.in-None.ensures.steps.0))
    ∙ ap plain given in
    once_told (plain uses) (members_of c.loop-members.told.items)
    (subst (IsOrder (plain uses) []) (sym same) c.in_ok-order.ensures)

pub returns-clause-order : goal.returns-clause-order
returns-clause-order c =
    let uses = c.args.uses.now in
    let left = c.loop-members.members-iterator.rest in
    let given = c.into_iter-members-iterator.ensures.into_iter_gives.0 in
    let same =
    all_told c.loop-members.told.items left.items (plain c.into_iter-members-iterator.result.rest.items) c.loop-members.invariant.all (omega (arith, left.ok, c.in-None.ensures.steps.0))
    ∙ ap plain given in
    subst (IsOrder (plain uses) []) (sym same) c.in_ok-order.ensures
