-- The last name that is left is bound before those in front of it: `with_names-append`, `without-append`.
use Rattle.std.proofs.Common.{◌≡◌, ◌-◌, ◌++◌, ◌∷◌, [], length, map, take, get_or, refl, sym, ap, ◌∙◌, arith}
use Rattle.std.proofs.Common.{length-append}
use Rattle.std.proofs.lemmas.List.{map-append}
use Rattle.elm_tree.specs.View.{word_view}
use Rattle.elm_tree.specs.Turns.{tokens_view}
use Rattle.canon_env.specs.Locals.{with_names}
use Rattle.canon_expr.specs.Scope.{locals_of, without}
use Rattle.canon_expr.proofs.Scoping.{with_names-append, with_names-nothing, without-append, without-nothing}
use Rattle.canon_expr.proofs.Scoping.{front_and_last, none_left}
use Rattle.canon_expr.proofs.scope.Scope.enter.Goals as goal

pub loop-rest-preserved : goal.loop-rest-preserved
loop-rest-preserved c =
    let view = word_view (tokens_view c.args.tokens.now) in
    let rest = c.loop-rest.rest.now in
    let front = take (length rest - 1) rest in
    let last = get_or rest (length rest - 1) (record { index = 0 }) in
    let whole : front ++ last ∷ [] ≡ rest = front_and_last rest (record { index = 0 }) (omega (arith, c.in-len1-up.len_at_least)) in
    let now = locals_of c.enter_one.new.self in
    let before = locals_of c.loop-rest.self in
    record {
      names =
          ap (with_names (map view front)) c.in_ok-enter_one.ensures.names
          ∙ sym (with_names-append (map view front) (view last ∷ []) before)
          ∙ ap (λ ws. with_names ws before) (sym (map-append view front (last ∷ [])) ∙ ap (map view) whole)
          ∙ c.loop-rest.invariant.names;
      within = omega (arith, simp length-append at (ap length whole), c.loop-rest.invariant.within);
      entered =
          ap (λ es. without es now) c.in_ok-put.ensures
          ∙ without-append c.loop-rest.entered.items (c.in_ok-enter_one.field-0 ∷ []) now
          ∙ ap (without c.loop-rest.entered.items) c.in_ok-enter_one.ensures.entered
          ∙ c.loop-rest.invariant.entered;
    }

pub loop-rest-init : goal.loop-rest-init
loop-rest-init c = record {
  names = refl;
  within = omega arith;
  entered = ap (λ es. without es (locals_of c.args.self.now)) c.new-entered.ensures.items ∙ without-nothing (locals_of c.args.self.now);
}

pub returns-clause-names : goal.returns-clause-names
returns-clause-names c =
    sym (with_names-nothing (locals_of c.loop-rest.self))
    ∙ ap (λ ws. with_names (map (word_view (tokens_view c.args.tokens.now)) ws) (locals_of c.loop-rest.self))
    (sym (none_left c.loop-rest.rest.now c.in_default.len_below))
    ∙ c.loop-rest.invariant.names
