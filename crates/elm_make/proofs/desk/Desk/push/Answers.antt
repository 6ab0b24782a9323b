-- The module's own is not pushed.
use Rattle.std.proofs.Common.{refl, sym, ◌∙◌}
use Rattle.std.proofs.lemmas.Bool.{false≢true}
use Rattle.elm_make.proofs.desk.Desk.push.Goals as goal

pub returns-then-is_own-clause-pushed : goal.returns-then-is_own-clause-pushed
returns-then-is_own-clause-pushed c = record {
  blocked = λ h. refl;
  pushed = λ e. absurd (false≢true (sym e ∙ sym c.is_own.ensures ∙ c.if-is_own.true));
}

pub returns-clause-pushed : goal.returns-clause-pushed
returns-clause-pushed c = record { blocked = λ h. h; pushed = λ e. (refl, c.in_ok-push.ensures.pushed) }
