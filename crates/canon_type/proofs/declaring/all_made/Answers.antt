-- One alias more.
use Rattle.std.proofs.Common.{[], ◌∷◌, ◌++◌, take, arith, sym, ap, ◌∙◌}
use Rattle.std.specs.Prelude.{filter_map}
use Rattle.std.proofs.lemmas.List.Elements.{filter_map-append}
use Rattle.canon_env.proofs.Filtering.{take_next}
use Rattle.canon_type.specs.CanonAliasesKept.{made_view}
use Rattle.std.proofs.lemmas.List.{take_all}
use Rattle.canon_type.proofs.declaring.all_made.Goals as goal

pub loop-one-preserved : goal.loop-one-preserved
loop-one-preserved c =
    let made = c.args.made.now in
    let i = c.loop-one.one-index in
    let m = c.one-item.result in
    c.in_ok-push_made.ensures ∙ ap (λ z. z ++ filter_map made_view (m ∷ [])) c.loop-one.invariant
    ∙ sym (ap (filter_map made_view) (take_next made i m (omega arith) c.one-item.is)
    ∙ filter_map-append made_view (take i made) (m ∷ []))

pub returns : goal.returns
returns c =
    c.loop-one.invariant ∙ ap (filter_map made_view) (take_all c.loop-one.one-index c.args.made.now (omega arith))
