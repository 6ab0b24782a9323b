-- What is cut off, turned round: `turned`, `turned_left`.
use Rattle.std.proofs.Common.{◌≡◌, ◌-◌, length, map, take, drop, ap, ◌∙◌, arith}
use Rattle.std.specs.Prelude.{reverse}
use Rattle.type_store.specs.View.{field_view}
use Rattle.infer_types.proofs.Stacks.{turned, turned_left, map_take, map_drop}
use Rattle.infer_types.proofs.stack.take_parts.Goals as goal

pub returns-clause-taken : goal.returns-clause-taken
returns-clause-taken c =
    let stack = c.args.stack.now.items in
    let left : c.saturating_sub-left.result ≡ length stack - c.args.count = omega
    (arith, c.len.ensures, c.saturating_sub-left.ensures) in
    ap (map field_view) (c.reverse.ensures.items ∙
    (ap reverse (c.in_ok-parts.ensures.tail ∙ ap (λ k. drop k stack) left) ∙ turned c.args.count stack))
    ∙ map_take field_view c.args.count (reverse stack)

pub returns-clause-left : goal.returns-clause-left
returns-clause-left c =
    let stack = c.args.stack.now.items in
    let left : c.saturating_sub-left.result ≡ length stack - c.args.count = omega
    (arith, c.len.ensures, c.saturating_sub-left.ensures) in
    ap (λ xs. map field_view (reverse xs)) (c.in_ok-parts.ensures.items ∙ ap (λ k. take k stack) left)
    ∙ (ap (map field_view) (turned_left c.args.count stack) ∙ map_drop field_view c.args.count (reverse stack))
