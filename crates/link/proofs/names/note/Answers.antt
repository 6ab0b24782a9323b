-- A name of a module goes last, unless it is there: as the set says.
use Rattle.std.proofs.Common.{[], ◌∷◌, sym, ap, ◌∙◌}
use Rattle.elm_canon.specs.declared.reference.Ref.{Ref}
use Rattle.link.specs.Names.{top_names, noted}
use Rattle.link.proofs.names.note.Goals as goal

pub returns-in_ok-insert-in-Top : goal.returns-in_ok-insert-in-Top
returns-in_ok-insert-in-Top c =
    c.in_ok-insert-in-Top.ensures.keys
    ∙ ap (λ z. noted c.args.seen.now.keys (z ∷ [])) c.in_ok-pair_of-in-Top.ensures
    ∙ ap (λ (r : Ref). noted c.args.seen.now.keys (top_names (r ∷ []))) (sym c.in-Top.is)
