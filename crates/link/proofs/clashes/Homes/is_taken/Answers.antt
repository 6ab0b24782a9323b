-- The first module of a name stays, and a new name has this one: `home_known`, `home_new`.
use Rattle.std.proofs.Common.{◌≡◌, Some, if◌then◌else◌, sym, ap, ◌∙◌}
use Rattle.std.specs.Prelude.{is_some}
use Rattle.std.specs.Option.{option_copied}
use Rattle.elm_canon.specs.Names.{same_name}
use Rattle.link.specs.Link.{first_home}
use Rattle.link.proofs.Numbering.{home_known, home_new}
use Rattle.link.proofs.clashes.Homes.is_taken.Goals as goal

pub returns-in-Some-clause-homes : goal.returns-in-Some-clause-homes
returns-in-Some-clause-homes c = λ before was x.
    was x ∙ home_known before c.args.home.now c.args.name.now
    (ap is_some (sym (was c.args.name.now) ∙ sym c.get.ensures.value ∙ ap option_copied c.in-Some.is)) x

pub returns-in_ok-insert-in-None-clause-homes : goal.returns-in_ok-insert-in-None-clause-homes
returns-in_ok-insert-in-None-clause-homes c = λ before was x.
    c.in_ok-insert-in-None.ensures.updates.0 x
    ∙ ap (λ o. if same_name c.in_ok-clone-in-None.field-0 x then Some c.in_ok-clone-in-None-2.field-0 else o) (was x)
    ∙ ap (λ z. if same_name z x then Some c.in_ok-clone-in-None-2.field-0 else first_home before x)
    c.in_ok-clone-in-None.ensures.cases
    ∙ ap (λ z. if same_name c.args.name.now x then Some z else first_home before x)
    c.in_ok-clone-in-None-2.ensures.cases
    ∙ home_new before c.args.home.now c.args.name.now
    (ap is_some (sym (was c.args.name.now) ∙ sym c.get.ensures.value ∙ ap option_copied c.in-None.is)) x
