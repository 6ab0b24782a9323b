-- One place more: `filter_map-append`.
use Rattle.std.proofs.Common.{arith, ◌++◌, [], ◌∷◌, take, get_or, sym, ap, ◌∙◌}
use Rattle.std.specs.List.{filter_map}
use Rattle.std.proofs.lemmas.List.{take_more}
use Rattle.std.proofs.lemmas.List.Elements.{filter_map-append}
use Rattle.canon_expr.specs.Binding.{binder_of}
use Rattle.std.proofs.lemmas.List.{take_all}
use Rattle.canon_expr.proofs.binders.Binders.among.Goals as goal

pub loop-place-preserved : goal.loop-place-preserved
loop-place-preserved c = λ each binds.
    let f = binder_of each in
    let places = c.args.places.now in
    let i = c.loop-place.place-index in
    let place = get_or places i (record { row = 0; column = 0 }) in
    c.in_ok-push_binder.ensures each binds
    ∙ ap (λ l. l ++ filter_map f (place ∷ [])) (c.loop-place.invariant each binds)
    ∙ sym (ap (filter_map f) (take_more places i (record { row = 0; column = 0 }) c.loop-place-test.true)
    ∙ filter_map-append f (take i places) (place ∷ []))

pub returns : goal.returns
returns c = λ each binds.
    c.loop-place.invariant each binds
    ∙ ap (filter_map (binder_of each)) (take_all c.loop-place.place-index c.args.places.now (omega arith))
