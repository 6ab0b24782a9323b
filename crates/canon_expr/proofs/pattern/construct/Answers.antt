-- By what the name of the constructor means: `found`.
use Rattle.std.proofs.Common.{◌≡◌, ◌++◌, length, sym, ap, ◌∙◌, arith}
use Rattle.std.proofs.lemmas.Result.{IfOk-weaker, on_ok_weaker}
use Rattle.elm_base.specs.declared.fault.Code.TheVariants.{UnknownConstructor}
use Rattle.elm_tree.specs.View.{long_view}
use Rattle.elm_tree.specs.Turns.{tokens_view}
use Rattle.elm_canon.specs.View.{pattern_view, patterns_view}
use Rattle.canon_env.specs.Found.{One, found_by, meant_by}
use Rattle.canon_env.specs.Space.{found_view, entry_view}
use Rattle.canon_env.specs.Shown.{maker_meaning_view, OfUnion}
use Rattle.canon_env.specs.Sites.{match_faults, unless_one}
use Rattle.canon_env.specs.Naming.{maker_found}
use Rattle.canon_expr.proofs.Meaning.{on_ok}
use Rattle.canon_expr.proofs.Finding.{found, nothing_means, several_means, record_means, union_means, union_faults}
use Rattle.canon_expr.proofs.pattern.construct.Goals as goal

pub returns-in_ok-note_arity-in-OfUnion-clause-meaning : goal.returns-in_ok-note_arity-in-OfUnion-clause-meaning
returns-in_ok-note_arity-in-OfUnion-clause-meaning c = IfOk-weaker c.union_pattern.result _ _ (λ p e w h.
    let x = long_view (tokens_view c.args.tokens.now) c.args.word in
    let m = c.in-Some-One.meant in
    let one : One (meant_by maker_meaning_view m) ≡ maker_found w x =
    sym (ap (λ r. found_by maker_meaning_view (found_view r)) c.in-Some-One.is
    ∙ ap (λ e. found_by maker_meaning_view (entry_view e)) c.in-Some-One.field-0-is)
    ∙ found w x (found_by maker_meaning_view (found_view c.maker.result)) c.in_ok-long.long c.in_ok-long.ensures
    (c.maker.ensures w.own w.imported h.own h.imported) in
    let is : One (record { home = m.home; meaning = OfUnion c.in-OfUnion.union c.in-OfUnion.alternative }) ≡ maker_found w x =
    sym (ap (λ n. One (record { home = m.home; meaning = maker_meaning_view n })) c.in-OfUnion.is) ∙ one in
    union_means w x (patterns_view c.args.parts.items) m.home c.in-OfUnion.union c.in-OfUnion.alternative _ is e)
    c.union_pattern.ensures

pub returns-in_ok-note_arity-in-OfUnion-clause-findings : goal.returns-in_ok-note_arity-in-OfUnion-clause-findings
returns-in_ok-note_arity-in-OfUnion-clause-findings c = on_ok c.union_pattern.result (λ w h.
    let x = long_view (tokens_view c.args.tokens.now) c.args.word in
    let m = c.in-Some-One.meant in
    let one : One (meant_by maker_meaning_view m) ≡ maker_found w x =
    sym (ap (λ r. found_by maker_meaning_view (found_view r)) c.in-Some-One.is
    ∙ ap (λ e. found_by maker_meaning_view (entry_view e)) c.in-Some-One.field-0-is)
    ∙ found w x (found_by maker_meaning_view (found_view c.maker.result)) c.in_ok-long.long c.in_ok-long.ensures
    (c.maker.ensures w.own w.imported h.own h.imported) in
    let is : One (record { home = m.home; meaning = OfUnion c.in-OfUnion.union c.in-OfUnion.alternative }) ≡ maker_found w x =
    sym (ap (λ n. One (record { home = m.home; meaning = maker_meaning_view n })) c.in-OfUnion.is) ∙ one in
    let old = c.args.log.now.findings.items in
    let many : c.len.result ≡ length c.args.parts.items = omega (arith, c.len.ensures, c.args.parts.ok.0) in
    c.in_ok-note_arity-in-OfUnion.ensures.findings c.in-OfUnion.union
    ∙ ap (λ n. old ++ match_faults x n (OfUnion c.in-OfUnion.union c.in-OfUnion.alternative)) many
    ∙ ap (λ fs. old ++ fs)
    (union_faults w x (length c.args.parts.items) m.home c.in-OfUnion.union c.in-OfUnion.alternative is))

pub returns-in_ok-note_arity-in-OfUnion-clause-uses : goal.returns-in_ok-note_arity-in-OfUnion-clause-uses
returns-in_ok-note_arity-in-OfUnion-clause-uses c = on_ok c.union_pattern.result c.in_ok-note_arity-in-OfUnion.ensures.uses

pub returns-in-OfRecord-clause-meaning : goal.returns-in-OfRecord-clause-meaning
returns-in-OfRecord-clause-meaning c = IfOk-weaker c.no_pattern.result _ _ (λ p e w h.
    let x = long_view (tokens_view c.args.tokens.now) c.args.word in
    let m = c.in-Some-One.meant in
    let one : One (meant_by maker_meaning_view m) ≡ maker_found w x =
    sym (ap (λ r. found_by maker_meaning_view (found_view r)) c.in-Some-One.is
    ∙ ap (λ e. found_by maker_meaning_view (entry_view e)) c.in-Some-One.field-0-is)
    ∙ found w x (found_by maker_meaning_view (found_view c.maker.result)) c.in_ok-long.long c.in_ok-long.ensures
    (c.maker.ensures w.own w.imported h.own h.imported) in
    ap pattern_view e ∙ record_means w x (patterns_view c.args.parts.items) m.home _
    (sym (ap (λ n. One (record { home = m.home; meaning = maker_meaning_view n })) c.in-OfRecord.is) ∙ one))
    c.no_pattern.ensures.meaning

pub returns-in-OfRecord-clause-findings : goal.returns-in-OfRecord-clause-findings
returns-in-OfRecord-clause-findings c = on_ok_weaker c.no_pattern.result (λ e w h.
    let x = long_view (tokens_view c.args.tokens.now) c.args.word in
    let m = c.in-Some-One.meant in
    let one : One (meant_by maker_meaning_view m) ≡ maker_found w x =
    sym (ap (λ r. found_by maker_meaning_view (found_view r)) c.in-Some-One.is
    ∙ ap (λ e. found_by maker_meaning_view (entry_view e)) c.in-Some-One.field-0-is)
    ∙ found w x (found_by maker_meaning_view (found_view c.maker.result)) c.in_ok-long.long c.in_ok-long.ensures
    (c.maker.ensures w.own w.imported h.own h.imported) in
    let old = c.args.log.now.findings.items in
    let n = length c.args.parts.items in
    e ∙ ap (λ f. old ++ unless_one UnknownConstructor x f (match_faults x n))
    (sym (ap (λ n. One (record { home = m.home; meaning = maker_meaning_view n })) c.in-OfRecord.is) ∙ one))
    c.no_pattern.ensures.findings

pub returns-in-Some-Several-clause-meaning : goal.returns-in-Some-Several-clause-meaning
returns-in-Some-Several-clause-meaning c = IfOk-weaker c.no_pattern-in-Some-Several.result _ _ (λ p e w h.
    let x = long_view (tokens_view c.args.tokens.now) c.args.word in
    ap pattern_view e ∙ several_means w x (patterns_view c.args.parts.items)
    (sym (ap (λ r. found_by maker_meaning_view (found_view r)) c.in-Some-Several.is
    ∙ ap (λ e. found_by maker_meaning_view (entry_view e)) c.in-Some-Several.field-0-is)
    ∙ found w x (found_by maker_meaning_view (found_view c.maker.result)) c.in_ok-long.long c.in_ok-long.ensures
    (c.maker.ensures w.own w.imported h.own h.imported)))
    c.no_pattern-in-Some-Several.ensures.meaning

pub returns-in-Some-Several-clause-findings : goal.returns-in-Some-Several-clause-findings
returns-in-Some-Several-clause-findings c = on_ok_weaker c.no_pattern-in-Some-Several.result (λ e w h.
    let x = long_view (tokens_view c.args.tokens.now) c.args.word in
    let old = c.args.log.now.findings.items in
    let n = length c.args.parts.items in
    e ∙ ap (λ f. old ++ unless_one UnknownConstructor x f (match_faults x n))
    (sym (ap (λ r. found_by maker_meaning_view (found_view r)) c.in-Some-Several.is
    ∙ ap (λ e. found_by maker_meaning_view (entry_view e)) c.in-Some-Several.field-0-is)
    ∙ found w x (found_by maker_meaning_view (found_view c.maker.result)) c.in_ok-long.long c.in_ok-long.ensures
    (c.maker.ensures w.own w.imported h.own h.imported)))
    c.no_pattern-in-Some-Several.ensures.findings

pub returns-in-None-clause-meaning : goal.returns-in-None-clause-meaning
returns-in-None-clause-meaning c = IfOk-weaker c.no_pattern-in-None.result _ _ (λ p e w h.
    let x = long_view (tokens_view c.args.tokens.now) c.args.word in
    ap pattern_view e ∙ nothing_means w x (patterns_view c.args.parts.items)
    (sym (ap (λ r. found_by maker_meaning_view (found_view r)) c.in-None.is)
    ∙ found w x (found_by maker_meaning_view (found_view c.maker.result)) c.in_ok-long.long c.in_ok-long.ensures
    (c.maker.ensures w.own w.imported h.own h.imported)))
    c.no_pattern-in-None.ensures.meaning

pub returns-in-None-clause-findings : goal.returns-in-None-clause-findings
returns-in-None-clause-findings c = on_ok_weaker c.no_pattern-in-None.result (λ e w h.
    let x = long_view (tokens_view c.args.tokens.now) c.args.word in
    let old = c.args.log.now.findings.items in
    let n = length c.args.parts.items in
    e ∙ ap (λ f. old ++ unless_one UnknownConstructor x f (match_faults x n))
    (sym (ap (λ r. found_by maker_meaning_view (found_view r)) c.in-None.is)
    ∙ found w x (found_by maker_meaning_view (found_view c.maker.result)) c.in_ok-long.long c.in_ok-long.ensures
    (c.maker.ensures w.own w.imported h.own h.imported)))
    c.no_pattern-in-None.ensures.findings
