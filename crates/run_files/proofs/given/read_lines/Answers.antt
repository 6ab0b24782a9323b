-- What a line gives, and lines one after the other: `bad_line`, `unknown_line`, `good_line`, `no_line`.
use Rattle.std.proofs.Common.{◌+◌, ◌∷◌, [], map, sym, ap, ◌∙◌, subst, arith}
use Rattle.std.proofs.lemmas.List.{map-append}
use Rattle.js_code.specs.View.{field_view, fields_of}
use Rattle.js_code.specs.Ports.{names_of}
use Rattle.run_files.specs.View.{input_view}
use Rattle.run_files.specs.Lines.{IsReadTo}
use Rattle.run_files.proofs.Inputs.{bad_line, unknown_line, good_line, no_line}
use Rattle.run_files.proofs.given.read_lines.Goals as goal

pub returns-in-Bad : goal.returns-in-Bad
returns-in-Bad c =
    bad_line (names_of (fields_of (map field_view c.args.ins.now))) c.args.text.now (map input_view c.loop-line.inputs.items) c.loop-line.row c.in-Some.line.now c.loop-line.rest.now c.in-Some.behind.now c.in_ok-read_line.field-0 c.loop-line.invariant.0 c.in-Some.ensures.lines c.in_ok-read_line.ensures c.in-Bad.is

pub returns-in-Unknown : goal.returns-in-Unknown
returns-in-Unknown c =
    unknown_line (names_of (fields_of (map field_view c.args.ins.now))) c.args.text.now (map input_view c.loop-line.inputs.items) c.loop-line.row c.in-Some.line.now c.loop-line.rest.now c.in-Some.behind.now c.in_ok-read_line.field-0 c.in-Unknown.port c.loop-line.invariant.0 c.in-Some.ensures.lines c.in_ok-read_line.ensures c.in-Unknown.is

pub loop-line-preserved : goal.loop-line-preserved
loop-line-preserved c =
    let ports = names_of (fields_of (map field_view c.args.ins.now)) in
    let read = good_line ports c.args.text.now (map input_view c.loop-line.inputs.items) c.loop-line.row c.in-Some.line.now c.loop-line.rest.now c.in-Some.behind.now c.in_ok-read_line.field-0 c.in-Good.input c.loop-line.invariant.0 c.in-Some.ensures.lines c.in_ok-read_line.ensures c.in-Good.is in
    (subst (λ done. IsReadTo ports c.args.text.now done (c.loop-line.row + 1) c.in-Some.behind.now) (sym (ap (λ items. map input_view items) c.in_ok-push-in-Good.ensures.items ∙ map-append input_view c.loop-line.inputs.items (c.in-Good.input ∷ []))) read, let shorter = c.in-Some.ensures.shorter in omega arith)

pub returns : goal.returns
returns c =
    no_line (names_of (fields_of (map field_view c.args.ins.now))) c.args.text.now (map input_view c.loop-line.inputs.items) c.loop-line.row c.loop-line.rest.now c.loop-line.invariant.0 c.in_default.ensures.lines
