-- A search ends at rest: `at_rest`.
use Rattle.type_store.proofs.Searches.{at_rest}
use Rattle.type_store.proofs.cycle.CycleSearch.rest.Goals as goal

pub returns : goal.returns
returns c =
    let q = c.requires in
    let f = c.forget_done.ensures in
    let g = c.forget_path.ensures in
    let x = c.args.self.now in
    record {
      marks = at_rest x.marks.items c.forget_done.new.marks.items c.forget_path.new.marks.items x.path.items c.deref-2.result.now x.done.items c.deref.result.now
          c.deref-2.ensures.value c.deref.ensures.value q.on_path q.done_at f.forgotten f.others g.forgotten g.others;
      path = c.clear-2.ensures.items;
      done = c.clear.ensures.items;
    }
