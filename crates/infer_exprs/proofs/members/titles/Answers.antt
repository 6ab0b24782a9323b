use Rattle.std.proofs.Common.{arith, length, subst, ◌≡◌}
use Rattle.std.specs.List.{AllZip}
use Rattle.infer_parts.proofs.Rows.{seen_all}
use Rattle.infer_exprs.proofs.Grouping.{TitleFound, titles_all, title_next}
use Rattle.infer_exprs.proofs.members.titles.Goals as goal

pub loop-member-preserved : goal.loop-member-preserved
loop-member-preserved c =
    title_next c.loop-member.titles.items c.push.new.self.items c.args.members.now c.loop-member.member-index
    c.in-Some.title c.member-item.result c.loop-member.invariant c.loop-member-test.true c.member-item.is c.in-Some.is
    c.in_ok-push-in-Some.ensures.items

pub returns : goal.returns
returns c gs ds are =
    let e : c.loop-member.member-index ≡ length c.args.members.now =
    omega (arith, c.loop-member-test.false, c.loop-member.auto.member-index-end) in
    titles_all gs c.loop-member.titles.items c.args.members.now ds
    (subst (AllZip TitleFound c.loop-member.titles.items) (seen_all c.loop-member.member-index c.args.members.now e)
    c.loop-member.invariant) are
