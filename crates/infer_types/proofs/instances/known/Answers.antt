use Rattle.elm_type.specs.View.{scheme_view}
use Rattle.infer_steps.specs.View.{here}
use Rattle.infer_types.proofs.Instancing.{scheme_ready}
use Rattle.infer_types.proofs.instances.known.Goals as goal

pub instance-requires-clause-ready : goal.instance-requires-clause-ready
instance-requires-clause-ready c =
    scheme_ready (here c.args.state.now).depth (here c.args.state.now).store (scheme_view c.args.scheme.now)
    c.requires.written
