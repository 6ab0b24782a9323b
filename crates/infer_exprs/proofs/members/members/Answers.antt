use Rattle.std.proofs.Common.{arith, length, get_or, subst, ◌∙◌, ◌≡◌}
use Rattle.std.proofs.lemmas.List.{get_or_default}
use Rattle.infer_parts.proofs.Rows.{seen_all}
use Rattle.infer_exprs.proofs.Grouping.{StandAt, inside_at, stand_next, type_group}
use Rattle.infer_exprs.proofs.members.members.Goals as goal

pub index-definition-requires : goal.index-definition-requires
index-definition-requires c =
    let h = inside_at (length c.args.order.now.definitions.items) c.args.order.now.groups.items c.args.number
    c.index-numbers.result.now c.deref-at-items.result.now c.loop-at.at-index 0 c.requires.inside c.requires.number
    c.index-numbers.ensures c.deref-at-items.ensures.value c.loop-at-test.true in
    omega (arith, h)

pub loop-at-preserved : goal.loop-at-preserved
loop-at-preserved c =
    let ns = c.deref-at-items.result.now in
    let k = c.loop-at.at-index in
    let i = get_or ns k 0 in
    stand_next c.args.order.now.definitions.items c.loop-at.members.items c.push.new.self.items ns k i c.same.result
    c.index-definition.result.now c.loop-at.invariant c.loop-at-test.true
    (get_or_default ns k 0 i c.loop-at-test.true)
    (inside_at (length c.args.order.now.definitions.items) c.args.order.now.groups.items c.args.number
    c.index-numbers.result.now ns k 0 c.requires.inside c.requires.number c.index-numbers.ensures
    c.deref-at-items.ensures.value c.loop-at-test.true)
    (c.same.ensures ∙ c.index-definition.ensures) c.in_ok-push.ensures.items

pub returns : goal.returns
returns c gs is simple =
    let ns = c.deref-at-items.result.now in
    let e : c.loop-at.at-index ≡ length ns = omega (arith, c.loop-at-test.false, c.loop-at.auto.at-index-end) in
    type_group gs c.args.order.now c.args.number c.index-numbers.result.now c.loop-at.members.items is simple
    c.requires.number c.index-numbers.ensures
    (subst (StandAt c.args.order.now.definitions.items c.loop-at.members.items)
    (seen_all c.loop-at.at-index ns e ∙ c.deref-at-items.ensures.value) c.loop-at.invariant)
