use Rattle.std.proofs.Common.{◌∙◌, ap}
use Rattle.type_store.specs.View.{ask_view, work_view}
use Rattle.type_store.proofs.Undoing.{sames_push}
use Rattle.std.proofs.lemmas.List.{map_push}
use Rattle.type_store.proofs.asking.push_sames.Goals as goal

pub loop-index-preserved : goal.loop-index-preserved
loop-index-preserved c = record {
  pushed = sames_push (work_view c.args.work.now.items) (work_view c.loop-index.work.items) (work_view c.push.new.self.items) c.args.first.now c.args.second.now c.loop-index.index 0 c.loop-index-test.true c.requires c.loop-index.invariant.pushed
      (ap work_view c.in_ok-push.ensures.items ∙ map_push ask_view c.loop-index.work.items _);
}
