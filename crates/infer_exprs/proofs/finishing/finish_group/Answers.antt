use Rattle.std.proofs.Common.{subst, ap, ◌∙◌}
use Rattle.std.proofs.lemmas.Result.{on_ok_weaker}
use Rattle.infer_steps.specs.Leaving.{without}
use Rattle.infer_steps.specs.View.{here, code_of}
use Rattle.infer_exprs.specs.Finished.{GroupWalked}
use Rattle.infer_exprs.proofs.Closed.{inferred_defined, without_both}
use Rattle.infer_exprs.proofs.finishing.finish_group.Goals as goal

pub returns-in_ok-more-in-Some : goal.returns-in_ok-more-in-Some
returns-in_ok-more-in-Some c =
    on_ok_weaker c.push_all.result (λ h code g i old walked. (
    let w = subst (λ o. GroupWalked code (code_of c.args.scope.now) g i o old (here c.args.state.now)) c.in-Some.is
    walked
    in
    let after = code_of c.close_group.new.scope in
    let es = c.args.entered.now.items in
    let more = c.in_ok-more-in-Some.more.items in
    record {
      defined =
          inferred_defined code after g i old (here c.close_group.new.state) w.inferred
          (c.in_ok-more-in-Some.ensures.closed code g i old w.left w.done);
      left =
          ap (λ l. without l after) h
          ∙ (without_both es more after ∙ ap (without es) (c.in_ok-more-in-Some.ensures.entered ∙ w.left));
    })) c.push_all.ensures
