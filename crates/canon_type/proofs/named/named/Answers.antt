-- By what the name means: `found`.
use Rattle.std.proofs.Common.{refl, sym, ap, ◌∙◌}
use Rattle.std.proofs.lemmas.Result.{on_ok_weaker}
use Rattle.elm_tree.specs.View.{long_view}
use Rattle.elm_tree.specs.Turns.{tokens_view}
use Rattle.elm_canon.specs.View.{types_view}
use Rattle.canon_env.specs.Found.{Nothing, Several, found_by, meant_by}
use Rattle.canon_env.specs.Shown.{type_meaning_view}
use Rattle.canon_env.specs.Space.{found_view, entry_view}
use Rattle.canon_type.proofs.Meanings.{found, nothing_faults, several_faults, one_faults}
use Rattle.canon_type.proofs.named.named.Goals as goal

pub returns-in-None-clause-faults : goal.returns-in-None-clause-faults
returns-in-None-clause-faults c =
    let x = long_view (tokens_view c.args.tokens.now) c.args.word in
    let long = c.in_ok-long.long in
    on_ok_weaker c.no_type.result
    (λ e w h. nothing_faults w x (types_view c.args.arguments.items) c.args.findings.now.items c.no_type.new.findings.items _
    (found w x Nothing long.qualifier long.name
    (ap (λ r. found_by type_meaning_view (found_view r)) (sym c.in-None.is)
    ∙ c.type_named.ensures w.own w.imported h.own h.imported)
    c.in_ok-long.ensures.qualifier c.in_ok-long.ensures.name)
    e refl)
    c.no_type.ensures.faults

pub returns-in-Some-Several-clause-faults : goal.returns-in-Some-Several-clause-faults
returns-in-Some-Several-clause-faults c =
    let x = long_view (tokens_view c.args.tokens.now) c.args.word in
    let long = c.in_ok-long.long in
    on_ok_weaker c.no_type-in-Some-Several.result
    (λ e w h. several_faults w x (types_view c.args.arguments.items) c.args.findings.now.items
    c.no_type-in-Some-Several.new.findings.items _
    (found w x Several long.qualifier long.name
    (ap (λ r. found_by type_meaning_view (entry_view r)) (sym c.in-Some-Several.field-0-is)
    ∙ ap (λ r. found_by type_meaning_view (found_view r)) (sym c.in-Some-Several.is)
    ∙ c.type_named.ensures w.own w.imported h.own h.imported)
    c.in_ok-long.ensures.qualifier c.in_ok-long.ensures.name)
    e refl)
    c.no_type-in-Some-Several.ensures.faults

pub returns-in-Some-One-clause-faults : goal.returns-in-Some-One-clause-faults
returns-in-Some-One-clause-faults c =
    let x = long_view (tokens_view c.args.tokens.now) c.args.word in
    let long = c.in_ok-long.long in
    on_ok_weaker c.of_meaning.result
    (λ e w h. one_faults w x (types_view c.args.arguments.items) c.args.findings.now.items
    c.of_meaning.new.findings.items (meant_by type_meaning_view c.in-Some-One.meant)
    (found w x _ long.qualifier long.name
    (ap (λ r. found_by type_meaning_view (entry_view r)) (sym c.in-Some-One.field-0-is)
    ∙ ap (λ r. found_by type_meaning_view (found_view r)) (sym c.in-Some-One.is)
    ∙ c.type_named.ensures w.own w.imported h.own h.imported)
    c.in_ok-long.ensures.qualifier c.in_ok-long.ensures.name)
    e)
    c.of_meaning.ensures.faults
