-- The key is the name: `found_is`.
use Rattle.std.proofs.Common.{◌≡◌, Option, sym, ap, ◌∙◌}
use Rattle.std.specs.Borrow.{Bor}
use Rattle.std.specs.Prelude.{option_map}
use Rattle.std.proofs.lemmas.Result.{IfOk-weaker}
use Rattle.indexmap.specs.IndexMap.{get}
use Rattle.infer_steps.specs.Keys.{same_pair}
use Rattle.infer_steps.specs.View.{meaning_view, names_of}
use Rattle.infer_steps.specs.declared.scope.Meaning.{Meaning}
use Rattle.infer_steps.proofs.Scoping.{found_is}
use Rattle.infer_steps.proofs.scope.Scope.find.Goals as goal

pub returns-in-Top : goal.returns-in-Top
unfolding names_of
returns-in-Top c =
    IfOk-weaker c.find_top.result
    (λ (o : Option (Bor Meaning)). option_map (λ x. x.now) o
    ≡ get same_pair c.args.self.now.tops (c.in-Top.home, c.in-Top.top))
    (λ (o : Option (Bor Meaning)). option_map (λ x. meaning_view x.now) o ≡ names_of c.args.self.now c.args.name.now)
    (λ o e. found_is o ∙ ap (option_map meaning_view) e ∙ ap (names_of c.args.self.now) (sym c.in-Top.is))
    c.find_top.ensures
