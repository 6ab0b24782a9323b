-- One part more: `number_more`.
use Rattle.std.proofs.Common.{◌≡◌, ◌+◌, ◌-◌, ◌<◌, length, map, drop, ap, ◌∙◌, arith}
use Rattle.std.specs.List.{position_from}
use Rattle.std.specs.Str.{bytes_eq}
use Rattle.project_parts.specs.Modules.{name_of}
use Rattle.project_parts.specs.View.{part_view, number_at}
use Rattle.project_parts.proofs.Rows.{number_more, from_start}
use Rattle.project_parts.proofs.graph.numbers_of.Goals as goal

pub loop-place-preserved : goal.loop-place-preserved
loop-place-preserved c =
    let parts = c.args.parts.now in
    let k = c.loop-place.place - 1 in
    let l : k < length parts = omega arith in
    let up : k + 1 ≡ c.loop-place.place = omega arith in
    number_more (number_at c.loop-place.numbers) (number_at c.note.new.numbers) parts k c.loop-place.place
    c.index-parts-place.result l up c.index-parts-place.is c.in_ok-note.ensures c.loop-place.invariant

pub returns : goal.returns
returns c = λ x.
    let parts = c.args.parts.now in
    let z : c.loop-place.place ≡ 0 = omega arith in
    c.loop-place.invariant x
    ∙ ap (λ n. position_from (bytes_eq x) n (map name_of (map part_view (drop n parts)))) z
    ∙ from_start x (map name_of (map part_view parts))
