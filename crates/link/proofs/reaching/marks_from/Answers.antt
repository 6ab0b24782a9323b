-- What a start reaches, and nothing where there is none: `none_marked`.
use Rattle.std.proofs.Common.{◌≡◌, ◌<◌, Some, None, false, length, map, subst, sym, ap, ◌∙◌}
use Rattle.std.specs.Prelude.{IfSome}
use Rattle.std.specs.List.{range_with_len}
use Rattle.std.proofs.lemmas.List.{length-map}
use Rattle.decl_groups.specs.Groups.{plain}
use Rattle.decl_groups.specs.InOrder.{reaches}
use Rattle.link.specs.Reached.{reaches_from}
use Rattle.link.proofs.Numbering.{none_marked}
use Rattle.link.proofs.reaching.marks_from.Goals as goal

pub returns-in_ok-marks-in-Some : goal.returns-in_ok-marks-in-Some
returns-in_ok-marks-in-Some c =
    let uses = c.args.uses.now in
    c.in_ok-marks-in-Some.ensures
    ∙ ap (λ n. map (reaches (plain uses) c.in-Some.start) (range_with_len 0 n)) (length-map uses (λ v. v.items))
    ∙ ap (λ o. map (reaches_from (plain uses) o) (range_with_len 0 (length uses))) (sym c.in-Some.is)

pub returns-in_ok-marks-in-None : goal.returns-in_ok-marks-in-None
returns-in_ok-marks-in-None c =
    let uses = c.args.uses.now in
    c.in_ok-marks-in-None.ensures.items_if_clones_equal (λ y e. e) ∙ none_marked 0 (length uses)
    ∙ ap (λ o. map (reaches_from (plain uses) o) (range_with_len 0 (length uses))) (sym c.in-None.is)
