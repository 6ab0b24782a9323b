-- One declaration more: `one_found`.
use Rattle.std.proofs.Common.{◌++◌, [], ◌∷◌, map, take, sym, ap, ◌∙◌, arith, append_assoc}
use Rattle.std.specs.Prelude.{option_to_list}
use Rattle.std.specs.List.{filter_map}
use Rattle.std.proofs.lemmas.List.Elements.{filter_map-append}
use Rattle.elm_canon.specs.View.{declaration_view}
use Rattle.emit_program.specs.Programs.{core_view}
use Rattle.canon_env.proofs.Filtering.{map_next}
use Rattle.link.specs.Cores.{core_of}
use Rattle.link.proofs.Alone.{one_found}
use Rattle.link.proofs.split.push_cores.Goals as goal

pub loop-declaration-preserved : goal.loop-declaration-preserved
loop-declaration-preserved c =
    let i = c.loop-declaration.declaration-index in
    let ds = c.args.declarations.now in
    let d = c.declaration-item.result in
    let old = map core_view c.args.core_names.now.items in
    let before = map declaration_view (take i ds) in
    c.in_ok-push_core.ensures
    ∙ ap (λ p. map core_view c.loop-declaration.core_names.items ++ option_to_list p) c.core_of.ensures
    ∙ ap (λ cs. map core_view c.loop-declaration.core_names.items ++ cs) (one_found (declaration_view d))
    ∙ ap (λ cs. cs ++ filter_map core_of (declaration_view d ∷ [])) c.loop-declaration.invariant
    ∙ append_assoc old (filter_map core_of before) (filter_map core_of (declaration_view d ∷ []))
    ∙ ap (λ cs. old ++ cs) (sym (filter_map-append core_of before (declaration_view d ∷ []))
    ∙ ap (filter_map core_of) (sym (map_next declaration_view ds i d (omega arith) c.declaration-item.is)))
