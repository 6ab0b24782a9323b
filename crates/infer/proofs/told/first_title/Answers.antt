use Rattle.std.proofs.Common.{◌<◌, Some, get_or, length, sym, ap, ◌∙◌, subst, arith}
use Rattle.std.proofs.lemmas.Option.{slice_get-get_or}
use Rattle.infer_order.specs.Order.{TitleIs}
use Rattle.infer_order.specs.declared.order.Definition.{Definition}
use Rattle.infer.proofs.Adding.{found_at, first_is}
use Rattle.infer.proofs.told.first_title.Goals as goal

pub returns-in-len1-up : goal.returns-in-len1-up
returns-in-len1-up c gs ds rest d are e =
    let xs = c.args.definitions.now in
    let group = c.args.group.now in
    let n = get_or group 0 0 in
    let x = c.index-definitions-first.result in
    let inside : n < length xs = c.requires 0 0 (omega (arith, c.in-len1-up.len_at_least)) in
    let f = found_at gs xs ds n x are (slice_get-get_or xs n x inside ∙ ap Some (sym c.index-definitions-first.is)) in
    subst (λ (y : Definition). TitleIs y.title d) c.index-definitions-first.is
    (subst (TitleIs x.title) (first_is ds group d f.definition rest c.in-len1-up.len_at_least f.at e) f.is.title)
