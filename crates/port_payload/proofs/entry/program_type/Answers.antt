-- The flags are (), or cross a port, or not: `unit_is`, `flags_end`.
use Rattle.std.proofs.Common.{◌≡◌, map, true, false, if◌then◌else◌, option_map, drop, sym, ap, ◌∙◌}
use Rattle.elm_canon.specs.View.{payload_view}
use Rattle.elm_meaning.specs.Run.{AnyFlags}
use Rattle.elm_type.specs.View.{kind_view}
use Rattle.elm_type.specs.Text.{type_text, utf8}
use Rattle.port_payload.specs.EntryTypePayloads.{flags_payload}
use Rattle.port_payload.specs.Entry.{is_unit, with_payload, text_of, IsProgram, HasFlags}
use Rattle.port_payload.specs.Fronts.{first_is, is_unit_node}
use Rattle.port_payload.proofs.Lasting.{unit_is, flags_end}
use Rattle.port_payload.proofs.entry.program_type.Goals as goal

pub returns-then-is_unit : goal.returns-then-is_unit
returns-then-is_unit c = λ t e.
    let ks = map kind_view c.args.scheme.now.kinds.items in
    let ns = c.args.scheme.now.ty.nodes.items in
    let unit : is_unit t ≡ true = sym (unit_is ns t c.args.scheme.now.ty.spelled e)
    ∙ sym (c.is_unit.ensures ∙ ap (λ ms. first_is is_unit_node (drop 1 ms)) c.deref.ensures.value)
    ∙ c.if-is_unit.true in
    ap (λ b. if b then IsProgram AnyFlags else with_payload (text_of ks t) (flags_payload t)) (sym unit)

pub returns-in-Some : goal.returns-in-Some
returns-in-Some c = λ t e.
    let ks = map kind_view c.args.scheme.now.kinds.items in
    let ns = c.args.scheme.now.ty.nodes.items in
    let f = flags_end ns t c.args.scheme.now.ty.spelled e in
    let unit : is_unit t ≡ false = sym (unit_is ns t c.args.scheme.now.ty.spelled e)
    ∙ sym (c.is_unit.ensures ∙ ap (λ ms. first_is is_unit_node (drop 1 ms)) c.deref.ensures.value)
    ∙ c.if-is_unit.false in
    ap (with_payload (text_of ks t)) (ap (option_map payload_view) (sym c.in-Some.is)
    ∙ c.in_ok-payload.ensures t f.0 (ap (drop 1) c.deref-2.ensures.value ∙ f.1))
    ∙ ap (λ b. if b then IsProgram AnyFlags else with_payload (text_of ks t) (flags_payload t)) (sym unit)

pub returns-in_ok-type_text-in-None : goal.returns-in_ok-type_text-in-None
returns-in_ok-type_text-in-None c = λ t e.
    let ks = map kind_view c.args.scheme.now.kinds.items in
    let ns = c.args.scheme.now.ty.nodes.items in
    let f = flags_end ns t c.args.scheme.now.ty.spelled e in
    let unit : is_unit t ≡ false = sym (unit_is ns t c.args.scheme.now.ty.spelled e)
    ∙ sym (c.is_unit.ensures ∙ ap (λ ms. first_is is_unit_node (drop 1 ms)) c.deref.ensures.value)
    ∙ c.if-is_unit.false in
    ap HasFlags (c.in_ok-type_text-in-None.ensures ∙ ap (λ s. utf8 (type_text s)) (c.in_ok-flags-in-None.ensures t e))
    ∙ ap (with_payload (text_of ks t)) (ap (option_map payload_view) (sym c.in-None.is)
    ∙ c.in_ok-payload.ensures t f.0 (ap (drop 1) c.deref-2.ensures.value ∙ f.1))
    ∙ ap (λ b. if b then IsProgram AnyFlags else with_payload (text_of ks t) (flags_payload t)) (sym unit)
