-- One name more, and what is found is a declaration: `all_within`.
use Rattle.std.proofs.Common.{◌<◌, ◌++◌, [], ◌∷◌, length, take, sym, ap, ◌∙◌, subst, arith}
use Rattle.std.specs.List.{filter_map, All}
use Rattle.std.proofs.lemmas.List.Elements.{filter_map-append}
use Rattle.canon_env.proofs.Filtering.{take_next}
use Rattle.canon_module.specs.TopUses.{used_number}
use Rattle.canon_module.proofs.Numbering.{all_within}
use Rattle.canon_module.proofs.numbers.Numbers.used.Goals as goal

pub loop-name-preserved : goal.loop-name-preserved
loop-name-preserved c = λ each is.
    let f = used_number c.args.home.now each in
    let i = c.loop-name.name-index in
    let x = c.name-item.result in
    c.in_ok-push_used.ensures each is ∙ ap (λ l. l ++ filter_map f (x ∷ [])) (c.loop-name.invariant each is)
    ∙ sym (ap (filter_map f) (take_next c.args.names.now i x (omega arith) c.name-item.is)
    ∙ filter_map-append f (take i c.args.names.now) (x ∷ []))

pub returns-clause-within : goal.returns-clause-within
returns-clause-within c = λ each is.
    subst (All (λ j. j < length each)) (sym (c.loop-name.invariant each is))
    (all_within c.args.home.now each (take c.loop-name.name-index c.args.names.now))
