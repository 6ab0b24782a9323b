use Rattle.std.proofs.Common.{◌≡◌, ◌++◌, ◌∙◌, ℕ, ap}
use Rattle.std.specs.Prelude.{codes}
use Rattle.std.specs.declared.alloc.Global.{Global}
use Rattle.std.specs.declared.vec.Vec.{Vec}
use Rattle.std.proofs.lemmas.Result.{IfOk-weaker}
use Rattle.elm_type.specs.Types.{Name}
use Rattle.elm_type.specs.View.{scheme_view, type_view}
use Rattle.elm_type.specs.Text.{text_in, leaf_name}
use Rattle.elm_type.specs.declared.frame.Around.TheVariants.{Alone}
use Rattle.infer.specs.Texts.{SaysParts}
use Rattle.infer.proofs.texts.scheme_text.Goals as goal

pub returns : goal.returns
returns c =
    let l = type_view c.in_ok-parts.parts.left in
    let r = type_view c.in_ok-parts.parts.right in
    let names = c.deref.result.now in
    IfOk-weaker c.parts_text.result
    (λ (text : Vec ℕ Global). text.items
    ≡ text_in (leaf_name names) Alone l ++ codes " /= " ++ text_in (leaf_name names) Alone r)
    (λ (text : Vec ℕ Global). SaysParts (scheme_view c.args.scheme.now) text.items)
    (λ text e. record {
      left = l;
      right = r;
      pair = c.in_ok-parts.ensures;
      says =
          e
          ∙ ap (λ ns. text_in (leaf_name ns) Alone l ++ codes " /= " ++ text_in (leaf_name ns) Alone r)
          (c.deref.ensures.value ∙ c.in_ok-names.ensures);
    }) c.parts_text.ensures
