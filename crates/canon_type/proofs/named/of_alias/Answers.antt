-- Nothing stands for anything in an alias without parameters: `closed_type`.
use Rattle.std.proofs.Common.{◌∙◌, arith}
use Rattle.std.proofs.lemmas.Result.{IfOk-weaker}
use Rattle.elm_tree.specs.View.{long_view}
use Rattle.elm_tree.specs.Turns.{tokens_view}
use Rattle.elm_canon.specs.View.{annotation_view, types_view}
use Rattle.canon_type.proofs.Meanings.{closed_type, closed_faults}
use Rattle.canon_type.proofs.named.of_alias.Goals as goal

pub returns-then-len-eq0-clause-meaning : goal.returns-then-len-eq0-clause-meaning
returns-then-len-eq0-clause-meaning c =
    let alias = c.args.alias.now in
    IfOk-weaker c.copy.result _ _
    (λ t e. e ∙ closed_type alias.parameters.items (types_view c.args.arguments.items) (annotation_view alias.body) (omega arith))
    c.copy.ensures

pub returns-then-len-eq0-clause-faults : goal.returns-then-len-eq0-clause-faults
returns-then-len-eq0-clause-faults c =
    let alias = c.args.alias.now in
    IfOk-weaker c.copy.result _ _
    (λ t e. closed_faults alias.parameters.items (types_view c.args.arguments.items) (annotation_view alias.body)
    (long_view (tokens_view c.args.tokens.now) c.args.word) c.args.findings.now.items (omega arith))
    c.copy.ensures
