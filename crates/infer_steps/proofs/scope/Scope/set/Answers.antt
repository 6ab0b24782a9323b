-- One name is set: `local_set`, `top_set`.
use Rattle.std.proofs.Common.{◌≡◌, Option, refl, sym, ap, ◌∙◌}
use Rattle.std.specs.Prelude.{option_map}
use Rattle.std.proofs.lemmas.Result.{IfOk-weaker, on_ok_weaker}
use Rattle.indexmap.specs.IndexMap.{get}
use Rattle.elm_canon.specs.Names.{same_name}
use Rattle.infer_steps.specs.Codes.{stands_for}
use Rattle.infer_steps.specs.Keys.{same_pair}
use Rattle.infer_steps.specs.View.{meaning_view, names_of, code_of}
use Rattle.infer_steps.specs.declared.scope.Meaning.{Meaning}
use Rattle.infer_steps.proofs.Scoping.{local_set, top_set}
use Rattle.infer_steps.proofs.scope.Scope.set.Goals as goal

pub returns-in-Local-clause-scope : goal.returns-in-Local-clause-scope
returns-in-Local-clause-scope c =
    let old = c.args.self.now in
    on_ok_weaker c.exchange.result
    (λ h. local_set old (record old { locals = c.exchange.new.names }) c.in-Local.local c.in-Local.local c.args.meaning
    refl h refl refl refl
    ∙ ap (λ x. stands_for x (option_map meaning_view c.args.meaning) (code_of old)) (sym c.in-Local.is))
    c.exchange.ensures.put

pub returns-in-Local-clause-outer : goal.returns-in-Local-clause-outer
unfolding names_of
returns-in-Local-clause-outer c =
    IfOk-weaker c.exchange.result
    (λ (o : Option Meaning). o ≡ get same_name c.args.self.now.locals c.in-Local.local)
    (λ (o : Option Meaning). option_map meaning_view o ≡ names_of c.args.self.now c.args.name.now)
    (λ o e. ap (option_map meaning_view) e ∙ ap (names_of c.args.self.now) (sym c.in-Local.is))
    c.exchange.ensures.outer

pub returns-in-Top-clause-scope : goal.returns-in-Top-clause-scope
returns-in-Top-clause-scope c =
    let old = c.args.self.now in
    on_ok_weaker c.exchange_top.result
    (λ h. top_set old (record old { tops = c.exchange_top.new.names }) c.in-Top.home c.in-Top.top
    (c.in-Top.home, c.in-Top.top) c.args.meaning refl h refl refl refl
    ∙ ap (λ x. stands_for x (option_map meaning_view c.args.meaning) (code_of old)) (sym c.in-Top.is))
    c.exchange_top.ensures.put

pub returns-in-Top-clause-outer : goal.returns-in-Top-clause-outer
unfolding names_of
returns-in-Top-clause-outer c =
    IfOk-weaker c.exchange_top.result
    (λ (o : Option Meaning). o ≡ get same_pair c.args.self.now.tops (c.in-Top.home, c.in-Top.top))
    (λ (o : Option Meaning). option_map meaning_view o ≡ names_of c.args.self.now c.args.name.now)
    (λ o e. ap (option_map meaning_view) e ∙ ap (names_of c.args.self.now) (sym c.in-Top.is))
    c.exchange_top.ensures.outer
