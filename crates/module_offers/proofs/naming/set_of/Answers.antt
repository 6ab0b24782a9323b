-- Lists, one item after the other: `take_next`, `any_next`.
use Rattle.std.proofs.Common.{take, ◌||◌, arith, sym, ap, ◌∙◌}
use Rattle.std.specs.List.{list_any}
use Rattle.elm_canon.specs.Names.{same_name}
use Rattle.canon_env.proofs.Filtering.{take_next, any_next}
use Rattle.module_offers.proofs.naming.set_of.Goals as goal

pub loop-name-preserved : goal.loop-name-preserved
loop-name-preserved c = λ x.
    let i = c.loop-name.name-index in
    let y = c.name-item.result in
    c.in_ok-insert.ensures x ∙ ap (λ b. b || same_name x y) (c.loop-name.invariant x)
    ∙ any_next (same_name x) (take i c.args.names.now) y
    ∙ ap (list_any (same_name x)) (sym (take_next c.args.names.now i y (omega arith) c.name-item.is))
