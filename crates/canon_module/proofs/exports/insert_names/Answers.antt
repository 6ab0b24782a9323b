-- One name more in a set: `any_next`.
use Rattle.std.proofs.Common.{take, ◌||◌, arith, sym, ap, ◌∙◌}
use Rattle.std.proofs.Math.Bool.{or_assoc}
use Rattle.indexmap.specs.IndexSet.{contains}
use Rattle.elm_canon.specs.Names.{same_name}
use Rattle.canon_env.specs.Exposing.{is_among}
use Rattle.canon_env.proofs.Filtering.{take_next, any_next}
use Rattle.canon_module.proofs.exports.insert_names.Goals as goal

pub loop-name-preserved : goal.loop-name-preserved
loop-name-preserved c = λ x.
    let i = c.loop-name.name-index in
    let y = c.name-item.result in
    let old = contains same_name c.args.names.now x in
    c.in_ok-insert.ensures x ∙ ap (λ b. b || same_name x y) (c.loop-name.invariant x)
    ∙ or_assoc old (is_among x (take i c.args.more.now)) (same_name x y)
    ∙ ap (λ b. old || b) (any_next (same_name x) (take i c.args.more.now) y
    ∙ ap (is_among x) (sym (take_next c.args.more.now i y (omega arith) c.name-item.is)))
