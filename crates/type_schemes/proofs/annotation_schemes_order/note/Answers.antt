-- One name more: `absent_by`, `table_more`.
use Rattle.std.proofs.Common.{◌≡◌, ◌∷◌, ◌++◌, [], ◌∙◌, ap, sym, subst, length, cond, Some, arith, rules}
use Rattle.std.specs.Prelude.{is_some}
use Rattle.std.specs.Str.{bytes_eq}
use Rattle.std.specs.HashMap as hash
use Rattle.type_schemes.specs.Names.{IsTable}
use Rattle.type_schemes.proofs.Numbering.{absent_by, table_more}
use Rattle.type_schemes.proofs.annotation_schemes_order.note.Goals as goal

pub returns-clause-table : goal.returns-clause-table
returns-clause-table c =
    let absent = absent_by c.args.name.now c.args.order.now.names.items c.contains_key.result
    (c.contains_key.ensures ∙ ap is_some (c.requires c.args.name.now)) c.if-contains_key.false in
    let key : c.in_ok-clone.field-0 ≡ c.args.name.now = search rules in
    let last : c.in_ok-clone-2.field-0 ≡ c.args.name.now = search rules in
    let count : c.in-Ok.number ≡ length c.args.order.now.names.items = omega
    (arith, c.in-Ok.ensures, c.len.ensures, c.args.order.now.names.ok.0) in
    subst (IsTable c.insert.new.self) (sym
    (c.in_ok-push.ensures.items ∙ ap (λ n. c.args.order.now.names.items ++ n ∷ []) last))
    (table_more c.args.name.now c.args.order.now.names.items absent c.args.order.now.numbers c.insert.new.self
    c.requires
    (λ q. c.in_ok-insert.ensures.updates.0 q
    ∙ (ap (λ k. cond (bytes_eq k q) (Some c.in-Ok.number) (hash.get bytes_eq c.args.order.now.numbers q)) key
    ∙ ap (λ n. cond (bytes_eq c.args.name.now q) (Some n) (hash.get bytes_eq c.args.order.now.numbers q)) count)))
