-- One union more.
use Rattle.std.proofs.Common.{sym, ap, ◌∙◌, arith}
use Rattle.elm_canon.specs.View.{union_declaration_view}
use Rattle.core_modules.specs.Signs.{union_spelled, same_signs, signs_view}
use Rattle.core_modules.proofs.Any.{is_here, is_later}
use Rattle.core_modules.proofs.unions.has_spelled.Goals as goal

pub returns-then-is_union : goal.returns-then-is_union
returns-then-is_union c =
    is_here (λ u. same_signs (union_spelled u) (signs_view c.args.signs.now)) (λ u. union_declaration_view u.value)
    c.args.unions.now c.loop-union.union-index c.union-item.result (omega arith) c.union-item.is _
    c.loop-union.invariant
    (ap (λ v. same_signs (union_spelled (union_declaration_view v)) (signs_view c.args.signs.now)) (sym c.deref.ensures)
    ∙ sym c.is_union.ensures ∙ c.if-is_union.true)

pub loop-union-preserved : goal.loop-union-preserved
loop-union-preserved c =
    is_later (λ u. same_signs (union_spelled u) (signs_view c.args.signs.now)) (λ u. union_declaration_view u.value)
    c.args.unions.now c.loop-union.union-index c.union-item.result (omega arith) c.union-item.is _
    c.loop-union.invariant
    (ap (λ v. same_signs (union_spelled (union_declaration_view v)) (signs_view c.args.signs.now)) (sym c.deref.ensures)
    ∙ sym c.is_union.ensures ∙ c.if-is_union.false)
