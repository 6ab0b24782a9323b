-- What the program keeps of a callee.
use Rattle.std.specs.Prelude.{map}
use Rattle.elm_canon.specs.View.{expr_view}
use Rattle.canon_expr.specs.Callees.{Callee, Maker, Plain}
use Rattle.canon_expr.specs.Callees as plain
use Rattle.canon_expr.specs.declared.callee.Head.{Head}
use Rattle.canon_expr.specs.declared.callee.Head.TheVariants as head
use Rattle.canon_expr.specs.declared.callee.Callee as program

abbrev pub head_view : Head → plain.Head
head_view (head.Maker place home x u c) = Maker place home x u c
head_view (head.Plain e) = Plain (expr_view e.value)

abbrev pub callee_view : program.Callee → Callee
callee_view c = record { head = head_view c.head; arguments = map expr_view c.arguments.items }
