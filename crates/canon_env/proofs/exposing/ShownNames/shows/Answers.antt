-- A name that is exposed is looked up in the set of its kind: values, types, or unions for `T(..)`.
use Rattle.std.proofs.Common.{sym, ap, ◌∙◌}
use Rattle.canon_env.specs.Exposing.{shows_named}
use Rattle.canon_env.proofs.exposing.ShownNames.shows.Goals as goal

pub returns-in-Value : goal.returns-in-Value
returns-in-Value c = λ s h.
    c.contains.ensures ∙ h.values c.in-Value.name
    ∙ sym (ap (shows_named c.args.home.now s c.args.text.now) c.in-Value.is)

pub returns-in-OpenType : goal.returns-in-OpenType
returns-in-OpenType c = λ s h.
    c.contains-in-OpenType.ensures ∙ h.unions c.in-OpenType.name
    ∙ sym (ap (shows_named c.args.home.now s c.args.text.now) c.in-OpenType.is)
