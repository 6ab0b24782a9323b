-- Names that are given in turn: `constants_more`.
use Rattle.std.proofs.Common.{◌++◌, ◌∙◌, ap}
use Rattle.elm_type.specs.Nodes.{leaves}
use Rattle.elm_type.specs.Naming.{constant_names}
use Rattle.elm_type.proofs.Names.{constants_more}
use Rattle.elm_type.proofs.naming.constant_names.Goals as goal

pub loop-node-preserved : goal.loop-node-preserved
loop-node-preserved c =
    c.in_ok-put_constant.ensures
    ∙ (ap (λ xs. xs ++ constant_names (leaves c.node-item.result)) c.loop-node.invariant
    ∙ constants_more c.args.nodes.now c.loop-node.node-index c.node-item.result c.loop-node-test.true c.node-item.is)
