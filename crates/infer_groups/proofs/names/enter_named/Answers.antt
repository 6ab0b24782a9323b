use Rattle.std.proofs.Common.{◌≡◌, ◌+◌, ◌-◌, ◌∷◌, [], length, take, get_or, sym, ap, ◌∙◌, arith}
use Rattle.std.proofs.lemmas.List.{map-append}
use Rattle.infer_steps.specs.View.{code_of}
use Rattle.infer_steps.specs.Leaving.{without}
use Rattle.infer_steps.proofs.Scoping.{without_more, without_none}
use Rattle.infer_groups.specs.Members.{with_named}
use Rattle.infer_groups.specs.Names.{named_view, named_views}
use Rattle.infer_groups.proofs.Entering.{named_more, take_next}
use Rattle.infer_groups.proofs.Members.{take_none, take_all}
use Rattle.infer_groups.proofs.names.enter_named.Goals as goal

pub loop-done-init : goal.loop-done-init
loop-done-init c =
    let names = c.args.names.now in
    record {
      scope =
          ap (λ n. with_named (named_views (take n names)) (code_of c.args.scope.now))
          (let e : length names - 0 ≡ length names = omega arith in e)
          ∙ ap (λ l. with_named (named_views l) (code_of c.args.scope.now)) (take_all names);
      entered = ap (λ es. without es (code_of c.args.scope.now)) c.new-entered.ensures.items ∙ without_none
          (code_of c.args.scope.now);
    }

pub loop-done-preserved : goal.loop-done-preserved
loop-done-preserved c =
    let names = c.args.names.now in
    let code = code_of c.loop-done.scope in
    let i = length names - (c.loop-done.done + 1) in
    let x = c.index-names-names.result in
    record {
      scope =
          ap (with_named (named_views (take i names))) c.in_ok-one.ensures.scope
          ∙ sym (named_more (named_views (take i names)) (named_view x) code)
          ∙ ap (λ l. with_named l code) (sym (map-append named_view (take i names) (x ∷ [])))
          ∙ ap (λ l. with_named (named_views l) code)
          (sym (take_next names i x (omega arith)
          (c.index-names-names.is ∙ ap (λ n. get_or names n x)
          (let e : length names - 1 - c.loop-done.done ≡ i = omega arith in e))))
          ∙ ap (λ n. with_named (named_views (take n names)) code)
          (let e : i + 1 ≡ length names - c.loop-done.done = omega arith in e)
          ∙ c.loop-done.invariant.scope;
      entered =
          ap (λ es. without es (code_of c.enter.new.self)) c.in_ok-push.ensures.items
          ∙ without_more c.loop-done.entered.items (c.in_ok-one.one ∷ []) (code_of c.enter.new.self)
          ∙ ap (without c.loop-done.entered.items) c.in_ok-one.ensures.entered
          ∙ c.loop-done.invariant.entered;
    }

pub returns : goal.returns
returns c =
    let names = c.args.names.now in
    record {
      scope =
          ap (λ l. with_named (named_views l) (code_of c.loop-done.scope)) (sym (take_none names))
          ∙ ap (λ n. with_named (named_views (take n names)) (code_of c.loop-done.scope))
          (let e : 0 ≡ length names - c.loop-done.done = omega (arith, c.loop-done-test.false) in e)
          ∙ c.loop-done.invariant.scope;
      entered = c.loop-done.invariant.entered;
    }
