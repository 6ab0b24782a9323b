-- The order is that of all of the definitions.
use Rattle.std.proofs.Common.{map, ap, ◌∙◌, subst}
use Rattle.std.proofs.lemmas.List.{length-map}
use Rattle.std.proofs.lemmas.Result.{IfOk-weaker}
use Rattle.decl_groups.specs.Groups.{plain}
use Rattle.canon_expr.specs.Blocks.{groups_in}
use Rattle.canon_expr.specs.Kept.{IsOrderOf, made_view}
use Rattle.canon_expr.proofs.Meaning.{on_ok}
use Rattle.canon_expr.proofs.gathering.Gathered.finish.Goals as goal

pub returns-clause-groups : goal.returns-clause-groups
returns-clause-groups c =
    let uses = c.args.self.uses.items in
    let ordered = subst (λ us. IsOrderOf c.in_ok-order.order (plain us)) (c.deref.ensures.value ∙ c.end-uses.ensures.uses) c.in_ok-order.ensures in
    IfOk-weaker c.groups_of.result _ _
    (λ v e. e (plain uses) ordered ∙ ap (λ ms. groups_in (plain uses) (map made_view ms)) c.end-uses.ensures.made)
    c.groups_of.ensures

pub returns-clause-log : goal.returns-clause-log
returns-clause-log c =
    let uses = c.args.self.uses.items in
    let ordered = subst (λ us. IsOrderOf c.in_ok-order.order (plain us)) (c.deref.ensures.value ∙ c.end-uses.ensures.uses) c.in_ok-order.ensures in
    on_ok c.groups_of.result
    (λ w. c.in_ok-note_reaching.ensures w (plain uses) ordered (length-map uses _ ∙ c.requires.all))
