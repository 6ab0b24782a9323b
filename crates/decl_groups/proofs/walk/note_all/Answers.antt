-- One place more: `notes_then`.
use Rattle.std.proofs.Common.{◌∷◌, [], take, get_or, subst, sym, arith}
use Rattle.std.proofs.lemmas.List.{take_more}
use Rattle.decl_groups.specs.Walk.{Notes}
use Rattle.decl_groups.proofs.Walking.{notes_then}
use Rattle.decl_groups.proofs.walk.note_all.Goals as goal

pub loop-place-preserved : goal.loop-place-preserved
loop-place-preserved c =
    let ps = c.args.places.now in
    let i = c.loop-place.place-index in
    subst (λ qs. Notes qs c.args.marks.now.items c.args.waiting.now.items c.note.new.marks.items
    c.note.new.waiting.items)
    (sym (take_more ps i 0 (omega arith)))
    (notes_then (take i ps) (get_or ps i 0 ∷ []) c.loop-place.invariant c.in_ok-note.ensures.notes)
