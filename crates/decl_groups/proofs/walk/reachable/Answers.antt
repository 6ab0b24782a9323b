-- The walk begins with the start, goes on along the uses of what waits, and ends when nothing waits: `walk_start`,
-- `walk_step`, `walk_end`.
use Rattle.std.proofs.Common.{◌≡◌, ◌<◌, ◌∷◌, [], length, false, subst, sym, ap, ◌∙◌, arith}
use Rattle.std.proofs.lemmas.List.{length-map}
use Rattle.std.specs.List.{All}
use Rattle.std.proofs.Math.ListN.{replicate}
use Rattle.decl_groups.specs.Groups.{plain}
use Rattle.decl_groups.proofs.Within.{uses_within}
use Rattle.decl_groups.specs.Walk.{Notes}
use Rattle.decl_groups.proofs.Walking.{walk_start, walk_step, walk_end, popped_within, none_left, row_at, row_within}
use Rattle.decl_groups.proofs.walk.reachable.Goals as goal

pub loop-place-init : goal.loop-place-init
loop-place-init c =
    let uses = c.args.uses.now in
    let same : length (plain uses) ≡ length uses = length-map uses (λ v. v.items) in
    walk_start (plain uses) c.args.start c.in_ok-marks.marks.items
    (c.in_ok-marks.ensures.items_if_clones_equal (λ y e. e) ∙ ap (λ n. replicate n false) (sym same))
    (omega (arith, c.in_ok-marks.ensures.len, same))
    (subst (λ w. Notes (c.args.start ∷ []) c.in_ok-marks.marks.items w c.note.new.marks.items c.note.new.waiting.items)
    c.new-waiting.ensures.items c.in_ok-note.ensures.notes)

pub bounds-uses-place : goal.bounds-uses-place
bounds-uses-place c =
    popped_within c.args.uses.now c.args.start c.in-Some.place c.loop-place.marks.items c.loop-place.waiting.items
    c.pop.new.self.items c.loop-place.invariant c.in-Some.ensures.items

pub note_all-requires : goal.note_all-requires
note_all-requires c =
    let uses = c.args.uses.now in
    let row = c.index-uses-place.result in
    let within = popped_within uses c.args.start c.in-Some.place c.loop-place.marks.items c.loop-place.waiting.items
    c.pop.new.self.items c.loop-place.invariant c.in-Some.ensures.items in
    subst (λ n. All (λ j. j < n) c.deref.result.now)
    (sym (c.loop-place.invariant.count ∙ length-map uses (λ v. v.items)))
    (subst (All (λ j. j < length uses)) (sym c.deref.ensures.value)
    (row_within uses c.in-Some.place row within c.index-uses-place.is c.requires.places))

pub loop-place-preserved : goal.loop-place-preserved
loop-place-preserved c =
    let uses = c.args.uses.now in
    let within = popped_within uses c.args.start c.in-Some.place c.loop-place.marks.items c.loop-place.waiting.items
    c.pop.new.self.items c.loop-place.invariant c.in-Some.ensures.items in
    walk_step (plain uses) c.args.start c.in-Some.place c.loop-place.invariant c.in-Some.ensures.items
    (subst (λ ps. Notes ps c.loop-place.marks.items c.pop.new.self.items c.note_all.new.marks.items
    c.note_all.new.waiting.items)
    (c.deref.ensures.value ∙ sym (row_at uses c.in-Some.place c.index-uses-place.result within c.index-uses-place.is))
    c.in_ok-note_all.ensures.notes)

pub returns : goal.returns
returns c =
    let uses = c.args.uses.now in
    walk_end (plain uses) c.args.start c.loop-place.marks.items c.loop-place.waiting.items (uses_within uses
    c.requires.places)
    c.loop-place.invariant (none_left c.loop-place.waiting.items (omega (arith, c.in_default.ensures.cases.0)))
