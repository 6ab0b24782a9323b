use Rattle.std.proofs.Common.{◌≡◌, ◌++◌, map, ap, ◌∙◌, subst}
use Rattle.std.specs.Prelude.{slice_get, option_map}
use Rattle.std.specs.List.{filter_map}
use Rattle.std.proofs.lemmas.Result.{on_ok_weaker}
use Rattle.elm_canon.specs.View.{annotation_view}
use Rattle.elm_canon.specs.declared.reference.Ref.{Ref}
use Rattle.elm_type.specs.Types.{Scheme}
use Rattle.elm_type.specs.Schemes.{rename}
use Rattle.type_items.specs.Annotations.{annotation_scheme}
use Rattle.infer_order.specs.Order.{TitleIs}
use Rattle.infer.specs.Names.{names_of}
use Rattle.infer.specs.Told.{told_views}
use Rattle.infer.proofs.Adding.{first_written}
use Rattle.infer.proofs.told.tell_annotated.Goals as goal

pub returns-in_ok-scheme-in-Some-annotation : goal.returns-in_ok-scheme-in-Some-annotation
returns-in_ok-scheme-in-Some-annotation c =
    let old = told_views c.args.told.now.items in
    on_ok_weaker c.tell_all.result
    (λ h gs ds a titled are first. (
    let picked = filter_map (slice_get ds) c.args.group.now in
    let same : annotation_view c.in-Some-annotation.annotation ≡ a =
    first_written picked c.in-Some.title a (annotation_view c.in-Some-annotation.annotation)
    (λ d rest e. subst (λ o. TitleIs o d) c.in-Some.is (c.first_title.ensures gs ds rest d are e))
    (ap (option_map annotation_view) c.in-Some-annotation.is) first in
    h gs ds titled are
    ∙ ap (λ (s : Scheme). old ++ map (λ (x : Ref). (x, s)) (names_of picked))
    (c.in_ok-scheme-in-Some-annotation.ensures ∙ ap (λ t. rename (annotation_scheme t)) same))) c.tell_all.ensures
