-- A place that was not marked, and one that was: `note_new`, `note_old`.
use Rattle.std.proofs.Common.{◌∷◌, [], true, get_or, subst, sym, ap, ◌∙◌}
use Rattle.std.specs.Prelude.{slice_set}
use Rattle.decl_groups.specs.Walk.{Notes}
use Rattle.decl_groups.proofs.Walking.{note_new}
use Rattle.decl_groups.proofs.walk.note.Goals as goal

pub returns-in_ok-push-clause-notes : goal.returns-in_ok-push-clause-notes
returns-in_ok-push-clause-notes c =
    let ms = c.args.marks.now.items in
    subst (Notes (c.args.place ∷ []) ms c.args.waiting.now.items (slice_set ms c.args.place true))
    (sym c.in_ok-push.ensures.items)
    (note_new c.args.place ms c.args.waiting.now.items c.requires
    (ap (get_or ms c.args.place) (sym c.if-not-index.true) ∙ sym c.index.ensures ∙ c.if-not-index.true))
