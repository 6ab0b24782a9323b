-- The first node tells whether it is a program: `program_is`.
use Rattle.std.proofs.Common.{sym, ap, ◌∙◌}
use Rattle.elm_type.specs.View.{scheme_view, type_view}
use Rattle.port_payload.specs.Entry.{entry_type, entry_by, flags_in, IsNoProgram}
use Rattle.port_payload.specs.Fronts.{first_is, is_program_node}
use Rattle.port_payload.proofs.Lasting.{program_is, some_of, none_of}
use Rattle.port_payload.proofs.entry.entry_type.Goals as goal

pub program_type-requires : goal.program_type-requires
program_type-requires c =
    some_of (flags_in (type_view c.args.scheme.now.ty))
    (sym (program_is c.args.scheme.now.ty.nodes.items c.args.scheme.now.ty.spelled)
    ∙ sym (c.is_program.ensures ∙ ap (first_is is_program_node) c.deref.ensures.value) ∙ c.if-is_program.true)

pub returns-in_ok-entry : goal.returns-in_ok-entry
unfolding entry_type
returns-in_ok-entry c =
    let s = some_of (flags_in (type_view c.args.scheme.now.ty))
    (sym (program_is c.args.scheme.now.ty.nodes.items c.args.scheme.now.ty.spelled)
    ∙ sym (c.is_program.ensures ∙ ap (first_is is_program_node) c.deref.ensures.value) ∙ c.if-is_program.true) in
    c.in_ok-entry.ensures s.0 s.1 ∙ ap (entry_by (scheme_view c.args.scheme.now)) (sym s.1)

pub returns-in_ok-type_text : goal.returns-in_ok-type_text
unfolding entry_type
returns-in_ok-type_text c =
    let n = none_of (flags_in (type_view c.args.scheme.now.ty))
    (sym (program_is c.args.scheme.now.ty.nodes.items c.args.scheme.now.ty.spelled)
    ∙ sym (c.is_program.ensures ∙ ap (first_is is_program_node) c.deref.ensures.value) ∙ c.if-is_program.false) in
    ap IsNoProgram c.in_ok-type_text.ensures ∙ ap (entry_by (scheme_view c.args.scheme.now)) (sym n)
