use Rattle.std.proofs.Common.{◌∙◌, sym}
use Rattle.type_store.proofs.Lookups.{contains_hit, contains_miss}
use Rattle.type_store.proofs.lookup.is_in.Goals as goal

pub returns-then-same_name : goal.returns-then-same_name
returns-then-same_name c = contains_hit c.args.name.now c.args.names.now c.loop-other.other-index c.other-item.result c.loop-other-test.true c.other-item.is (sym c.same_name.ensures ∙ c.if-same_name.true)

pub loop-other-preserved : goal.loop-other-preserved
loop-other-preserved c = contains_miss c.args.name.now c.args.names.now c.loop-other.other-index c.other-item.result c.loop-other-test.true c.other-item.is (sym c.same_name.ensures ∙ c.if-same_name.false) c.loop-other.invariant
