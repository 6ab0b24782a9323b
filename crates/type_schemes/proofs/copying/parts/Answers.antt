use Rattle.std.proofs.Common.{length, sym, ◌∙◌}
use Rattle.type_schemes.proofs.Parting.{made_more, made_all}
use Rattle.type_schemes.proofs.Reading.{map_twice}
use Rattle.type_schemes.proofs.Working.{same_list}
use Rattle.type_schemes.specs.Copies.{copied}
use Rattle.type_schemes.specs.View.{part_view}
use Rattle.type_walks.specs.Frozen.{IsBefore}
use Rattle.type_schemes.proofs.TypeThawingReading.{viewed_or}
use Rattle.type_schemes.proofs.copying.parts.Goals as goal

pub part-requires : goal.part-requires
part-requires c = viewed_or part_view (IsBefore (length c.args.copies.now)) c.args.parts.now c.loop-each.each-index _ c.loop-each-test.true c.requires

pub loop-each-preserved : goal.loop-each-preserved
loop-each-preserved c =
    made_more (λ v. v) (λ p. copied c.args.copies.now (part_view p)) c.loop-each.variables.items c.push.new.self.items c.part.result c.args.parts.now c.loop-each.each-index _
    c.loop-each-test.true c.loop-each.invariant c.in_ok-push.ensures.items c.part.ensures

pub returns : goal.returns
returns c =
    sym (same_list c.loop-each.variables.items)
    ∙ (made_all (λ v. v) (λ p. copied c.args.copies.now (part_view p)) c.loop-each.variables.items c.args.parts.now c.loop-each.each-index c.loop-each-test.false c.loop-each.invariant
    ∙ map_twice (copied c.args.copies.now) part_view c.args.parts.now)
