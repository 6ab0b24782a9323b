-- By what the name of the constructor means: `found`.
use Rattle.std.proofs.Common.{◌≡◌, sym, ap, ◌∙◌}
use Rattle.elm_tree.specs.View.{long_view}
use Rattle.elm_tree.specs.Turns.{tokens_view}
use Rattle.canon_env.specs.Found.{One, found_by, meant_by}
use Rattle.canon_env.specs.Space.{found_view, entry_view}
use Rattle.canon_env.specs.Shown.{maker_meaning_view}
use Rattle.canon_env.specs.Naming.{maker_found}
use Rattle.canon_expr.proofs.Finding.{found}
use Rattle.canon_expr.proofs.Meaning.{on_ok}
use Rattle.canon_expr.proofs.Marking.{on_ok_both}
use Rattle.canon_expr.proofs.Using.{maker_found_one, maker_several, maker_nothing}
use Rattle.canon_expr.proofs.uses.maker_at.Goals as goal

pub returns-in-Some-One-clause-log : goal.returns-in-Some-One-clause-log
returns-in-Some-One-clause-log c = on_ok c.maker_of.result (λ w h.
    let x = long_view (tokens_view c.args.tokens.now) c.args.word in
    let one : One (meant_by maker_meaning_view c.in-Some-One.meant) ≡ maker_found w x =
    sym (ap (λ r. found_by maker_meaning_view (found_view r)) c.in-Some-One.is
    ∙ ap (λ e. found_by maker_meaning_view (entry_view e)) c.in-Some-One.field-0-is)
    ∙ found w x (found_by maker_meaning_view (found_view c.maker.result)) c.in_ok-long.long c.in_ok-long.ensures
    (c.maker.ensures w.own w.imported h.own h.imported) in
    maker_found_one w c.args.log.now x (meant_by maker_meaning_view c.in-Some-One.meant) one)

pub returns-in-Some-Several-clause-log : goal.returns-in-Some-Several-clause-log
returns-in-Some-Several-clause-log c = on_ok_both c.no_maker.result (λ noted used w h.
    let x = long_view (tokens_view c.args.tokens.now) c.args.word in
    maker_several w c.args.log.now c.no_maker.new.log x
    (sym (ap (λ r. found_by maker_meaning_view (found_view r)) c.in-Some-Several.is
    ∙ ap (λ e. found_by maker_meaning_view (entry_view e)) c.in-Some-Several.field-0-is)
    ∙ found w x (found_by maker_meaning_view (found_view c.maker.result)) c.in_ok-long.long c.in_ok-long.ensures
    (c.maker.ensures w.own w.imported h.own h.imported))
    noted used)
    c.no_maker.ensures.findings c.no_maker.ensures.uses

pub returns-in-None-clause-log : goal.returns-in-None-clause-log
returns-in-None-clause-log c = on_ok_both c.no_maker-in-None.result (λ noted used w h.
    let x = long_view (tokens_view c.args.tokens.now) c.args.word in
    maker_nothing w c.args.log.now c.no_maker-in-None.new.log x
    (sym (ap (λ r. found_by maker_meaning_view (found_view r)) c.in-None.is)
    ∙ found w x (found_by maker_meaning_view (found_view c.maker.result)) c.in_ok-long.long c.in_ok-long.ensures
    (c.maker.ensures w.own w.imported h.own h.imported))
    noted used)
    c.no_maker-in-None.ensures.findings c.no_maker-in-None.ensures.uses
