-- The nodes of tasks: `writes_one`, `row_written`.
use Rattle.std.proofs.Common.{◌∷◌, ◌++◌, [], ◌∙◌, ap, length, map}
use Rattle.elm_type.specs.Spelling.{record_node, spell}
use Rattle.elm_type.specs.View.{end_view}
use Rattle.type_schemes.specs.Reading.{read_in}
use Rattle.type_schemes.specs.Bases.{type_in}
use Rattle.type_schemes.specs.Rows.{older_in}
use Rattle.type_schemes.specs.declared.writing.Task.TheVariants.{Part}
use Rattle.type_schemes.proofs.TypeSchemesNodes.{writes_one, row_written, known_fields}
use Rattle.type_schemes.proofs.writing.write_record.Goals as goal

pub returns : goal.returns
returns c =
    writes_one c.args.store.now (older_in c.args.order.now) (type_in c.args.store.now (older_in c.args.order.now))
    (record_node (length c.in_ok-row.row.fields.items) (end_view c.in_ok-row.row.end))
    (map Part c.in_ok-row.row.fields.items)
    (spell (read_in c.args.store.now (older_in c.args.order.now) c.args.variable)) c.args.writer.now _
    (row_written c.args.store.now (older_in c.args.order.now) c.args.variable c.in_ok-row.row.fields.items
    (end_view c.in_ok-row.row.end) c.in_ok-row.ensures)
    (c.in_ok-push.ensures.items ∙ ap (λ n. c.args.writer.now.nodes.items ++ n ∷ []) c.in_ok-record_node.ensures)
    c.in_ok-push_fields.ensures
    (known_fields c.args.store.now (older_in c.args.order.now) c.in_ok-row.row.fields.items c.in_ok-row.ensures.known)
