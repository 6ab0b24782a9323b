use Rattle.std.proofs.Common.{◌≡◌, ◌+◌, suc, None, sym, ap, subst, ◌∙◌, arith}
use Rattle.pattern_check.specs.Search.{look_found, look_work, task_found, task_work, next_found, next_work, frames_found}
use Rattle.pattern_check.specs.Search.{frames_work, frame_work, IsDone}
use Rattle.pattern_check.proofs.Searching.{nothing_found, split_found, work_push}
use Rattle.pattern_check.proofs.search.search.Goals.{in-Nothing, in-Split+in_ok-push-in-Split}
use Rattle.pattern_check.proofs.search.search.Goals as goal

pub loop-next-smaller : goal.loop-next-smaller
loop-next-smaller c =
    let n : next_work c.loop-next.next ≡ suc (task_work c.in-Some.task) = ap next_work c.in-Some.is in
    elim c.match-branch-2.branch [
      | in-Nothing w ↦
          let f : frames_work c.match-branch-2.frames.items ≡ frames_work c.loop-next.frames.items = ap (λ z. frames_work z.items) w.frames-is in
          omega (arith, n, f, c.in_ok-next.ensures.light)
      | in-Split+in_ok-push-in-Split w ↦
          let f : frames_work c.match-branch-2.frames.items ≡ frames_work w.push.new.self.items = ap (λ z. frames_work z.items) w.frames-is in
          let p : frames_work w.push.new.self.items ≡ frames_work c.loop-next.frames.items + frame_work w.in-Split.frame =
          ap frames_work w.in_ok-push-in-Split.ensures.items ∙ work_push c.loop-next.frames.items w.in-Split.frame in
          let k : look_work c.in_ok-opens.field-0 ≡ frame_work w.in-Split.frame = ap look_work w.in-Split.is in
          omega (arith, n, f, p, k, c.in_ok-opens.ensures.light, c.in_ok-next.ensures.light)
    ]

pub loop-next-preserved : goal.loop-next-preserved
loop-next-preserved c =
    let total = task_found c.args.task in
    let e : frames_found c.loop-next.frames.items (task_found c.in-Some.task) ≡ total =
    ap (λ z. frames_found c.loop-next.frames.items (next_found z)) (sym c.in-Some.is) ∙ c.loop-next.invariant.found in
    let r = frames_found c.advance.new.frames.items (next_found c.in_ok-next.next) in
    let found : r ≡ total =
    elim c.match-branch-2.branch [
      | in-Nothing w ↦
          nothing_found c.loop-next.frames.items (task_found c.in-Some.task) total r e
          (sym (ap look_found w.in-Nothing.is) ∙ c.in_ok-opens.ensures.found)
          (c.in_ok-next.ensures.found ∙ ap (λ z. frames_found z.items None) w.frames-is)
      | in-Split+in_ok-push-in-Split w ↦
          split_found c.loop-next.frames.items w.push.new.self.items w.in-Split.frame (task_found c.in-Some.task) total r e
          (sym (ap look_found w.in-Split.is) ∙ c.in_ok-opens.ensures.found) w.in_ok-push-in-Split.ensures.items
          (c.in_ok-next.ensures.found ∙ ap (λ z. frames_found z.items None) w.frames-is)
    ] in
    record { found = found; done = c.in_ok-next.ensures.done }

pub returns : goal.returns
returns c =
    let d = subst (λ z. IsDone z c.loop-next.frames.items) c.in_default.is c.loop-next.invariant.done in
    sym (ap (λ z. frames_found z None) d)
    ∙ ap (λ z. frames_found c.loop-next.frames.items (next_found z)) (sym c.in_default.is)
    ∙ c.loop-next.invariant.found
