use Rattle.std.proofs.Common.{◌∷◌, ◌++◌, [], Some, None, ap, ◌∙◌}
use Rattle.elm_canon.proofs.Views.{anything_pattern}
use Rattle.pattern_check.specs.Built.{stack_view}
use Rattle.pattern_check.proofs.Building.{build_step, stack_push, made_step}
use Rattle.pattern_check.proofs.build.built.Goals as goal

pub loop-part-preserved-in_ok-push-in-None : goal.loop-part-preserved-in_ok-push-in-None
loop-part-preserved-in_ok-push-in-None c =
    build_step c.loop-part.parts.items c.pop.new.self.items None c.loop-part.stack.items c.push.new.self.items
    (c.in-Some.ensures.items ∙ ap (λ z. c.pop.new.self.items ++ z ∷ []) c.in-None.is)
    (ap (λ z. stack_view z []) c.in_ok-push-in-None.ensures.items ∙ stack_push c.loop-part.stack.items _ []
    ∙ ap (λ z. z ∷ stack_view c.loop-part.stack.items []) anything_pattern)
    ∙ c.loop-part.invariant

pub loop-part-preserved : goal.loop-part-preserved
loop-part-preserved c =
    build_step c.loop-part.parts.items c.pop.new.self.items (Some c.in-Some-part.start) c.loop-part.stack.items c.push-in-Some-part.new.self.items
    (c.in-Some.ensures.items ∙ ap (λ z. c.pop.new.self.items ++ z ∷ []) c.in-Some-part.is)
    (made_step c.in-Some-part.start c.loop-part.stack.items c.taken.new.stack.items c.push-in-Some-part.new.self.items
    c.in_ok-fields-in-Some-part.fields.items c.in_ok-make-in-Some-part.field-0 c.arity.result c.arity.ensures
    c.in_ok-fields-in-Some-part.ensures.taken c.in_ok-fields-in-Some-part.ensures.left c.in_ok-make-in-Some-part.ensures
    c.in_ok-push-in-Some-part.ensures.items)
    ∙ c.loop-part.invariant
