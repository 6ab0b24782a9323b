use Rattle.std.proofs.Common.{List, Some, subst, sym}
use Rattle.elm_base.specs.declared.fault.Fault.{Fault}
use Rattle.elm_lexer.specs.View.{IfFault}
use Rattle.elm_parser.specs.Parsed.{HasTextFault}
use Rattle.module_made.specs.Made.{Made, Bad, unread}
use Rattle.module_compile.proofs.phases.unread.Goals as goal

pub returns-in_ok-text_faults-in-Fault : goal.returns-in_ok-text_faults-in-Fault
returns-in_ok-text_faults-in-Fault c = λ a text h.
    subst (λ (fs : List Fault). Made a c.args.path.now (Some text) (Bad fs))
    (sym c.in_ok-text_faults-in-Fault.ensures)
    (unread (subst (λ e. IfFault e (HasTextFault text)) c.in-Fault.is h))
