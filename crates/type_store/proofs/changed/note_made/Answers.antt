use Rattle.std.proofs.Common.{arith}
use Rattle.type_store.proofs.Noting.{pushed_within, pushed_kept, pushed_made}
use Rattle.type_store.proofs.changed.note_made.Goals as goal

pub loop-place-preserved : goal.loop-place-preserved
loop-place-preserved c =
    let old = c.loop-place.changed.items in
    let new = c.push.new.self.items in
    let e = c.in_ok-push.ensures.items in
    record {
      within = pushed_within c.args.to c.in_ok-number.number old new e c.loop-place.invariant.within (omega (arith, c.in_ok-number.ensures, c.loop-place-test.true));
      kept = λ v q. pushed_kept c.in_ok-number.number old new e v (c.loop-place.invariant.kept v q);
      made = pushed_made c.args.from c.loop-place.place c.in_ok-number.number old new e c.in_ok-number.ensures c.loop-place.invariant.made;
    }
