-- Lists and filters, one item after the other: `map_map_next`, `any_next`.
use Rattle.std.proofs.Common.{map, take, ◌||◌, arith, sym, ap, ◌∙◌}
use Rattle.std.proofs.Math.Bool.{or_assoc}
use Rattle.indexmap.specs.IndexSet.{contains}
use Rattle.elm_canon.specs.Names.{same_name}
use Rattle.elm_canon.specs.View.{union_declaration_view}
use Rattle.canon_env.specs.Exposing.{is_among}
use Rattle.canon_env.proofs.Filtering.{map_map_next, any_next}
use Rattle.canon_env.proofs.exposing.insert_unions.Goals as goal

pub loop-union-preserved : goal.loop-union-preserved
loop-union-preserved c = λ x.
    let i = c.loop-union.union-index in
    let y = c.union-item.result in
    let before = contains same_name c.args.names.now x in
    let names = map (λ d. d.name) (map (λ d. union_declaration_view d.value) (take i c.args.unions.now)) in
    c.in_ok-insert.ensures x
    ∙ ap (λ d. contains same_name c.loop-union.names x || same_name x d.name) c.deref.ensures
    ∙ ap (λ b. b || same_name x y.value.name) (c.loop-union.invariant x)
    ∙ or_assoc before (is_among x names) (same_name x y.value.name)
    ∙ ap (λ b. before || b)
    (any_next (same_name x) names y.value.name
    ∙ ap (is_among x) (sym (map_map_next (λ d. d.name) (λ d. union_declaration_view d.value) c.args.unions.now i y (omega arith)
    c.union-item.is)))
