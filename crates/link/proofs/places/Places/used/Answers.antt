-- One name more, and what is found is a place: `all_within`.
use Rattle.std.proofs.Common.{◌≡◌, ◌<◌, ◌++◌, [], ◌∷◌, length, take, Some, None, sym, ap, ◌∙◌, subst, arith, append-nil}
use Rattle.std.specs.List.{filter_map, cons_option, All}
use Rattle.std.proofs.lemmas.List.{take_all}
use Rattle.std.proofs.lemmas.List.Elements.{filter_map-append}
use Rattle.canon_env.proofs.Filtering.{take_next}
use Rattle.link.specs.Reached.{place_of}
use Rattle.link.proofs.Numbering.{all_within}
use Rattle.link.proofs.places.Places.used.Goals as goal

pub loop-name-preserved : goal.loop-name-preserved
loop-name-preserved c = λ each is.
    let i = c.loop-name.name-index in
    let x = c.name-item.result in
    c.in_ok-push_used.ensures each is ∙ ap (λ js. js ++ filter_map (place_of each) (x ∷ [])) (c.loop-name.invariant
    each is)
    ∙ sym (filter_map-append (place_of each) (take i c.args.names.now) (x ∷ []))
    ∙ ap (filter_map (place_of each)) (sym (take_next c.args.names.now i x (omega arith) c.name-item.is))

pub returns-clause-used : goal.returns-clause-used
returns-clause-used c = λ each is.
    c.loop-name.invariant each is ∙ ap (filter_map (place_of each)) (take_all c.loop-name.name-index c.args.names.now
    (omega arith))

pub returns-clause-within : goal.returns-clause-within
returns-clause-within c = λ each is.
    subst (All (λ j. j < length each))
    (sym (c.loop-name.invariant each is ∙ ap (filter_map (place_of each)) (take_all c.loop-name.name-index
    c.args.names.now (omega arith))))
    (all_within each c.args.names.now)
