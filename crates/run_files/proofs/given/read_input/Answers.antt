-- What a line gives, and lines one after the other: `not_utf8`, `good_input`, `some_in`.
use Rattle.std.proofs.Common.{◌≡◌, ◌<◌, length, Some, option_map, sym, ap, ◌∙◌, arith}
use Rattle.wire_value.specs.View.{wire_view}
use Rattle.elm_base.specs.Units.{text_units}
use Rattle.std.proofs.lemmas.Grind.{common_steps}
use Rattle.run_files.proofs.Inputs.{not_utf8, good_input, some_in}
use Rattle.run_files.proofs.given.read_input.Goals as goal

pub returns-in_default-from_utf8 : goal.returns-in_default-from_utf8
returns-in_default-from_utf8 c = not_utf8 c.args.line.now c.in-Some.port.now c.in-Some.json.now c.in-Some.ensures c.in_default-from_utf8.ensures.cases.0

pub returns : goal.returns
returns c =
    let same : c.in-Ok.port.now ≡ c.in-Some.port.now = c.in-Ok.ensures.cases.0 in
    let some : 0 < length c.in-Some.port.now = some_in c.in-Ok.port.now c.in-Some.port.now same (let no = c.if-is_empty.false in let told = c.if-is_empty.ensures in grind (arith, common_steps)) in
    ap (λ p. Some (p, wire_view c.in-Some-2.value)) (c.in_ok-port.ensures ∙ ap text_units same)
    ∙ good_input c.args.line.now c.in-Some.port.now c.in-Some.json.now (wire_view c.in-Some-2.value) c.in-Some.ensures c.in-Ok.ensures.cases.1 some (sym (ap (λ found. option_map wire_view found) c.in-Some-2.is) ∙ c.in_ok-value.ensures)
