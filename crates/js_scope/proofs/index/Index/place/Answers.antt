-- The place that the table holds for a name is the place of its binding.
use Rattle.std.proofs.Common.{◌∙◌, ap, sym, List, ℕ}
use Rattle.std.specs.Prelude.{unwrap_or}
use Rattle.js_tree.specs.Tree.{Top, Local}
use Rattle.js_tree.specs.Postorder.{name_view}
use Rattle.js_scope.specs.Index.{place_in}
use Rattle.js_scope.proofs.index.Index.place.Goals as goal

pub returns-in-Top : goal.returns-in-Top
returns-in-Top c =
    let index = c.args.self.now in
    c.unwrap_or.ensures
    ∙ (ap (λ o. unwrap_or o 0) (c.copied.ensures ∙ c.get.ensures.value)
    ∙ (ap (λ (m : List ℕ). place_in index (Top m c.as_slice-in-Top.result.now)) c.as_slice.ensures
    ∙ (ap (λ (x : List ℕ). place_in index (Top c.in-Top.module x)) c.as_slice-in-Top.ensures ∙ ap (λ n. place_in index (name_view n)) (sym c.in-Top.is))))

pub returns-in-Local : goal.returns-in-Local
returns-in-Local c =
    let index = c.args.self.now in
    c.unwrap_or-in-Local.ensures
    ∙ (ap (λ o. unwrap_or o 0) (c.copied-in-Local.ensures ∙ c.get-in-Local.ensures.value)
    ∙ (ap (λ (x : List ℕ). place_in index (Local x)) c.as_slice-in-Local.ensures ∙ ap (λ n. place_in index (name_view n)) (sym c.in-Local.is)))
