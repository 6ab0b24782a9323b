use Rattle.std.proofs.Common.{◌∷◌, [], map, refl, sym, ap, ◌∙◌, arith}
use Rattle.std.proofs.lemmas.List.{map-append}
use Rattle.infer_steps.specs.View.{code_of}
use Rattle.infer_steps.specs.Leaving.{without}
use Rattle.infer_steps.proofs.Scoping.{without_more, without_none, none_left}
use Rattle.infer_exprs.specs.Reading.{reading_view, with_readings}
use Rattle.infer_exprs.proofs.Scoping.{readings_more}
use Rattle.infer_exprs.proofs.declare.enter_readings.Goals as goal

pub loop-last-init : goal.loop-last-init
loop-last-init c = record {
  scope = refl;
  entered = ap (λ es. without es (code_of c.args.scope.now)) c.new-entered.ensures.items ∙ without_none
      (code_of c.args.scope.now);
}

pub loop-last-preserved : goal.loop-last-preserved
loop-last-preserved c =
    let code = code_of c.loop-last.scope in
    let rest = c.pop.new.self.items in
    record {
      scope =
          ap (with_readings (map reading_view rest)) c.in_ok-one.ensures.scope
          ∙ sym (readings_more (map reading_view rest) (reading_view c.in-Some.last ∷ []) code)
          ∙ ap (λ l. with_readings l code) (sym (map-append reading_view rest (c.in-Some.last ∷ [])))
          ∙ ap (λ l. with_readings (map reading_view l) code) (sym c.in-Some.ensures.items)
          ∙ c.loop-last.invariant.scope;
      entered =
          ap (λ es. without es (code_of c.enter.new.self)) c.in_ok-push.ensures.items
          ∙ without_more c.loop-last.entered.items (c.in_ok-one.one ∷ []) (code_of c.enter.new.self)
          ∙ ap (without c.loop-last.entered.items) c.in_ok-one.ensures.entered
          ∙ c.loop-last.invariant.entered;
    }

pub returns : goal.returns
returns c = record {
  scope =
      ap (λ l. with_readings (map reading_view l) (code_of c.loop-last.scope))
      (sym (none_left c.loop-last.rest.items (omega (arith, c.loop-last.rest.ok.0, c.in_default.ensures.cases.0))))
      ∙ c.loop-last.invariant.scope;
  entered = c.loop-last.invariant.entered;
}
