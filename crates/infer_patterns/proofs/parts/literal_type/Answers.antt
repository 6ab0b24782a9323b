-- By what the literal is.
use Rattle.std.proofs.Common.{sym, subst}
use Rattle.std.proofs.lemmas.Result.{IfOk-weaker}
use Rattle.elm_canon.specs.declared.tree.Literal.{Literal}
use Rattle.type_items.specs.Patterns.{literal_type}
use Rattle.infer_steps.specs.View.{here}
use Rattle.infer_steps.specs.Made.{IsMade, Just}
use Rattle.infer_patterns.proofs.parts.literal_type.Goals as goal

pub returns-in-Int : goal.returns-in-Int
returns-in-Int c =
    IfOk-weaker c.int.result _ _
    (λ v h. subst (λ (l : Literal). IsMade (here c.args.state.now) (here c.int.new.state) v (Just (literal_type l)))
    (sym c.in-Int.is) h) c.int.ensures

pub returns-in-Char : goal.returns-in-Char
returns-in-Char c =
    IfOk-weaker c.char.result _ _
    (λ v h. subst (λ (l : Literal). IsMade (here c.args.state.now) (here c.char.new.state) v (Just (literal_type l)))
    (sym c.in-Char.is) h) c.char.ensures

pub returns-in-Text : goal.returns-in-Text
returns-in-Text c =
    IfOk-weaker c.text.result _ _
    (λ v h. subst (λ (l : Literal). IsMade (here c.args.state.now) (here c.text.new.state) v (Just (literal_type l)))
    (sym c.in-Text.is) h) c.text.ensures
