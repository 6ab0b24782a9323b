-- One step after another, from the last on: `onto_nothing`, `onto_last`, `onto_refused`.
use Rattle.std.proofs.Common.{List, Some, sym, ap, ◌∙◌}
use Rattle.interface.specs.declared.step.Step.{Step}
use Rattle.interface.specs.declared.opened.Opened.{Opened}
use Rattle.interface.specs.Opened.{stack_view}
use Rattle.interface.proofs.Onto.{built_onto, onto_nothing, onto_last, onto_refused}
use Rattle.interface.proofs.Stacks.{taken_is, taken_none}
use Rattle.interface.proofs.rebuilding.opened_of.Goals as goal

pub loop-step-init : goal.loop-step-init
loop-step-init c = ap (λ (items : List Opened). built_onto c.args.steps.items (Some (stack_view items))) c.new-stack.ensures.items ∙ onto_nothing c.args.steps.items

pub loop-step-preserved : goal.loop-step-preserved
loop-step-preserved c =
    let added = c.in_ok-add_step.ensures ∙ taken_is c.in_ok-add_step.field-0 (stack_view c.add_step.new.stack.items) c.if-not-branch.false in
    ap (built_onto c.pop.new.self.items) (sym added) ∙ sym (onto_last c.pop.new.self.items c.in-Some.step (Some (stack_view c.loop-step.stack.items)))
    ∙ ap (λ (ss : List Step). built_onto ss (Some (stack_view c.loop-step.stack.items))) (sym c.in-Some.ensures.items) ∙ c.loop-step.invariant

pub returns-then-not-branch : goal.returns-then-not-branch
returns-then-not-branch c =
    let refused = c.in_ok-add_step.ensures ∙ taken_none c.in_ok-add_step.field-0 (stack_view c.add_step.new.stack.items) c.if-not-branch.true in
    sym c.loop-step.invariant ∙ ap (λ (ss : List Step). built_onto ss (Some (stack_view c.loop-step.stack.items))) c.in-Some.ensures.items
    ∙ onto_last c.pop.new.self.items c.in-Some.step (Some (stack_view c.loop-step.stack.items)) ∙ ap (built_onto c.pop.new.self.items) refused ∙ onto_refused c.pop.new.self.items
