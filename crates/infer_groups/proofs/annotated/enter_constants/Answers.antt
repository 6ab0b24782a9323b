use Rattle.std.proofs.Common.{◌≡◌, ◌+◌, ◌-◌, ◌++◌, ◌∷◌, [], length, take, get_or, sym, ap, ◌∙◌, arith}
use Rattle.std.proofs.lemmas.List.{length-take-le, get_or_default}
use Rattle.std.specs.List.{slice_index_or}
use Rattle.infer_steps.specs.View.{code_of}
use Rattle.infer_steps.specs.Leaving.{without_constant}
use Rattle.infer_steps.proofs.Scoping.{constants_more as left_more, constants_none}
use Rattle.infer_groups.proofs.Entering.{take_next}
use Rattle.infer_groups.proofs.Members.{take_all}
use Rattle.infer_groups.specs.Given.{with_slots}
use Rattle.infer_groups.proofs.Built.{slots_more, slots_none}
use Rattle.infer_groups.proofs.annotated.enter_constants.Goals as goal

pub loop-done-init : goal.loop-done-init
loop-done-init c =
    let names = c.args.names.now in
    let slots = c.args.slots.now in
    record {
      scope =
          ap (λ n. with_slots (take n names) (take n slots) (code_of c.args.scope.now))
          (let e : length names - 0 ≡ length names = omega arith in e)
          ∙ ap (λ l. with_slots l (take (length names) slots) (code_of c.args.scope.now)) (take_all names)
          ∙ ap (λ n. with_slots names (take n slots) (code_of c.args.scope.now)) (sym c.requires)
          ∙ ap (λ l. with_slots names l (code_of c.args.scope.now)) (take_all slots);
      entered =
          ap (λ es. without_constant es (code_of c.args.scope.now)) c.new-entered.ensures.items ∙ constants_none
          (code_of c.args.scope.now);
    }

pub loop-done-preserved : goal.loop-done-preserved
loop-done-preserved c =
    let names = c.args.names.now in
    let slots = c.args.slots.now in
    let code = code_of c.loop-done.scope in
    let i = length names - (c.loop-done.done + 1) in
    let x = c.index-names-at.result in
    let v = slice_index_or slots (length names - 1 - c.loop-done.done) 0 in
    let e : length names - 1 - c.loop-done.done ≡ i = omega arith in
    let more : i + 1 ≡ length names - c.loop-done.done = omega arith in
    let same : length (take i slots) ≡ length (take i names) =
    length-take-le i slots (omega (arith, c.requires)) ∙ sym (length-take-le i names (omega arith)) in
    record {
      scope =
          ap (with_slots (take i names) (take i slots)) c.in_ok-one.ensures.scope
          ∙ sym (slots_more (take i names) (take i slots) x v code same)
          ∙ ap (λ l. with_slots l (take i slots ++ v ∷ []) code)
          (sym (take_next names i x (omega arith) (c.index-names-at.is ∙ ap (λ n. get_or names n x) e)))
          ∙ ap (λ l. with_slots (take (i + 1) names) l code)
          (sym (take_next slots i v (omega (arith, c.requires))
          (ap (λ n. get_or slots n 0) e ∙ get_or_default slots i 0 v (omega (arith, c.requires)))))
          ∙ ap (λ n. with_slots (take n names) (take n slots) code) more
          ∙ c.loop-done.invariant.scope;
      entered =
          ap (λ es. without_constant es (code_of c.enter_constant.new.self)) c.in_ok-push.ensures.items
          ∙ left_more c.loop-done.entered.items (c.in_ok-one.one ∷ []) (code_of c.enter_constant.new.self)
          ∙ ap (without_constant c.loop-done.entered.items) c.in_ok-one.ensures.entered
          ∙ c.loop-done.invariant.entered;
    }

pub returns : goal.returns
returns c =
    let names = c.args.names.now in
    let slots = c.args.slots.now in
    record {
      scope =
          sym (slots_none names slots (code_of c.loop-done.scope))
          ∙ ap (λ n. with_slots (take n names) (take n slots) (code_of c.loop-done.scope))
          (let e : 0 ≡ length names - c.loop-done.done = omega (arith, c.loop-done-test.false) in e)
          ∙ c.loop-done.invariant.scope;
      entered = c.loop-done.invariant.entered;
    }
