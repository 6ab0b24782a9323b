-- What is kept is the meaning, if there is one.
use Rattle.std.proofs.Common.{◌≡◌, Some, ap}
use Rattle.std.specs.Prelude.{option_map}
use Rattle.std.proofs.lemmas.Result.{IfOk-weaker}
use Rattle.elm_tree.specs.View.{type_view}
use Rattle.elm_tree.specs.Turns.{tokens_view}
use Rattle.elm_canon.specs.View.{annotation_view}
use Rattle.canon_env.specs.Naming.{World, IsWorld}
use Rattle.canon_env.specs.Types.{type_of}
use Rattle.canon_module.proofs.Outcome.{kept, where_made}
use Rattle.canon_module.proofs.walk.annotate.Goals as goal

pub returns-clause-meaning : goal.returns-clause-meaning
returns-clause-meaning c =
    kept
    (λ o. (w : World) → IsWorld c.args.world.now w → option_map annotation_view o
    ≡ Some (type_of w (type_view (tokens_view c.args.tokens.now) c.args.written.now)))
    c.keep.new.self c.keep.result c.annotation.result c.keep.ensures
    (IfOk-weaker c.annotation.result _ _ (λ t told w is. ap Some (told w is)) c.annotation.ensures.meaning)

pub returns-clause-faults : goal.returns-clause-faults
returns-clause-faults c = where_made _ _ c.keep.result c.annotation.result c.keep.ensures c.annotation.ensures.faults
