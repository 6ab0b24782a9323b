-- The variables of the type, and then its parts over them: `constructed`, `not_constructed`.
use Rattle.std.proofs.Common.{subst}
use Rattle.elm_type.specs.View.{type_view, scheme_view}
use Rattle.infer_steps.specs.View.{here}
use Rattle.infer_types.specs.Functions.{FunctionWritten}
use Rattle.infer_types.proofs.Shaping.{constructed}
use Rattle.infer_types.proofs.instances.constructor.Goals as goal

pub returns-clause-made : goal.returns-clause-made
returns-clause-made c =
    constructed (here c.args.state.now) (here c.of_kinds.new.state) (here c.write_parts.new.state) c.args.position
    (scheme_view c.args.scheme.now) c.args.arity
    c.in-Ok.variables.items c.in_ok-parts.parts.result c.in_ok-parts.parts.parameters.items c.requires.written
    (rw c.deref.ensures.value at c.in-Ok.ensures.made)
    (subst (λ vs. FunctionWritten vs c.args.arity (type_view c.args.scheme.now.ty) (here c.of_kinds.new.state)
    (here c.write_parts.new.state) c.in_ok-parts.parts.result
    c.in_ok-parts.parts.parameters.items) c.deref-2.ensures.value c.in_ok-parts.ensures)
