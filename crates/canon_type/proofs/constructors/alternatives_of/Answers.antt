-- One constructor more: `alternatives_next`.
use Rattle.std.proofs.Common.{◌≡◌, ◌+◌, length, map, take, arith, sym, ◌∙◌}
use Rattle.std.proofs.lemmas.List.{length-map, length-take-le}
use Rattle.elm_tree.specs.View.{type_view, constructor_view}
use Rattle.elm_tree.specs.Turns.{tokens_view}
use Rattle.canon_env.proofs.Filtering.{map_next}
use Rattle.canon_type.proofs.Making.{made, count_types, alternatives_next}
use Rattle.canon_type.proofs.constructors.alternatives_of.Goals as goal

pub loop-place-preserved : goal.loop-place-preserved
loop-place-preserved c =
    let tokens = tokens_view c.args.tokens.now in
    let view = constructor_view tokens in
    let cs = c.args.constructors.now in
    let i = c.loop-place.place in
    let k = c.index-constructors-place.result in
    let all : c.len.result ≡ length k.arguments.items = omega (arith, c.len.ensures, k.arguments.ok) in
    alternatives_next c.args.home.now c.args.union.now (map view (take i cs)) (map view (take (i + 1) cs)) (view k) i
    c.loop-place.alternatives.items c.push.new.self.items
    (record { name = c.in_ok-word_name.field-0; tag = c.tag_of.result; arity = c.len.result })
    (length-map (take i cs) view ∙ length-take-le i cs (omega (arith, c.in-Ok.ensures)))
    (map_next view cs i k (omega (arith, c.in-Ok.ensures)) c.index-constructors-place.is) c.loop-place.invariant
    c.in_ok-push.ensures.items
    (made c.args.home.now c.args.union.now i (view k) c.in_ok-word_name.field-0 c.tag_of.result c.len.result
    c.in_ok-word_name.ensures c.tag_of.ensures
    (all ∙ sym (length-map k.arguments.items (type_view tokens))
    ∙ sym (count_types (map (type_view tokens) k.arguments.items))))
