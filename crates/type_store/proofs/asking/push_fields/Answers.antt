use Rattle.std.proofs.Common.{◌∙◌, ap}
use Rattle.type_store.specs.View.{ask_view, work_view}
use Rattle.type_store.proofs.Pushing.{fields_push}
use Rattle.std.proofs.lemmas.List.{map_push}
use Rattle.type_store.proofs.asking.push_fields.Goals as goal

pub loop-index-preserved : goal.loop-index-preserved
loop-index-preserved c = record {
  pushed = fields_push (work_view c.args.work.now.items) (work_view c.loop-index.work.items) (work_view c.push.new.self.items) c.args.first.now c.args.second.now c.loop-index.index _ _ c.loop-index-test.true c.requires c.loop-index.invariant.pushed
      (ap work_view c.in_ok-push.ensures.items ∙ map_push ask_view c.loop-index.work.items _);
}
