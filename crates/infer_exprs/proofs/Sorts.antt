-- Kinds of type groups, by their first definition.
use Rattle.std.proofs.Common.{◌≡◌, ℕ, zero, suc, ◌≤◌, List, [], ◌∷◌, length, Some, None, inl, inr, true, false}
use Rattle.std.proofs.Common.{refl}
use Rattle.std.proofs.Common.{sym, ap, ◌∙◌, subst, arith}
use Rattle.std.specs.Prelude.{slice_get, Option, is_some}
use Rattle.std.specs.Borrow.{Bor}
use Rattle.std.specs.List.{AllByRecursion}
use Rattle.elm_canon.specs.Tree.{Annotation, Group, Together, Constant, Destructure}
use Rattle.elm_canon.specs.View.{title_view}
use Rattle.elm_canon.specs.declared.tree.Title.{Title}
use Rattle.type_items.specs.Definitions as plain
use Rattle.infer_order.specs.Spots.{in_group, has_titles}
use Rattle.infer_order.specs.Order.{TitleIs, IsTitled, AreDefinitions}
use Rattle.infer_order.specs.declared.order.Definition.{Definition}
use Rattle.infer_exprs.specs.Members.{HasTitle, StandAlone}
use Rattle.infer_exprs.specs.First.{IsAnnotated, IsPattern, AreInferred}
use Rattle.infer_exprs.proofs.Grouping.{some_same}

pub no_first : (gs : List Group) (group : List plain.Definition) → AreDefinitions gs [] group → AreInferred [] group
no_first gs [] h = record { inferred = refl; titled = tt }
no_first gs (d ∷ ds) h = absurd h

module _ (gs : List Group) (x : Definition) (xs : List Definition) where
  pub annotated : (group : List plain.Definition) (title : Bor Title) (t : Annotation)
      → AreDefinitions gs (x ∷ xs) group
      → x.title ≡ Some title → (title_view title.now).annotation ≡ Some t
      → IsAnnotated gs group x.group x.function x.place t
  annotated [] title t h e a = absurd h
  annotated (d ∷ ds) title t h e a =
      let named : IsTitled (title_view title.now) d = subst (λ o. TitleIs o d) e h.0.title in
      record {
        definition = d;
        rest = ds;
        is = refl;
        at = h.0.at;
        titled = sym h.0.kind ∙ ap is_some e;
        written = h.0.place;
        annotation = ap (λ (y : plain.Definition). y.annotation) named.is ∙ a;
      }

  pub inferred : (group : List plain.Definition) (title : Bor Title) → AreDefinitions gs (x ∷ xs) group
      → StandAlone (x ∷ xs) → x.title ≡ Some title → (title_view title.now).annotation ≡ None
      → AreInferred (x ∷ xs) group
  inferred [] title h s e a = absurd h
  inferred (d ∷ ds) title h s e a =
      let named : IsTitled (title_view title.now) d = subst (λ o. TitleIs o d) e h.0.title in
      record { inferred = ap (λ (y : plain.Definition). y.annotation) named.is ∙ a; titled = all_titled s }
    where
      only_one : (ys : List Definition) → length (x ∷ ys) ≤ 1 → AllByRecursion HasTitle ys
      only_one [] l = tt
      only_one (y ∷ ys) l = absurd (omega (arith, l))

      all_titled : StandAlone (x ∷ xs) → AllByRecursion HasTitle (x ∷ xs)
      all_titled (inl few) = (ap is_some e, only_one xs few)
      all_titled (inr each) = each

  pub pattern : (group : List plain.Definition) → AreDefinitions gs (x ∷ xs) group → StandAlone (x ∷ xs)
      → x.title ≡ None → IsPattern gs group x.group x.place
  pattern [] h s e = absurd h
  pattern (d ∷ ds) h s e = found (slice_get gs x.group) refl
    where
      untitled : has_titles (slice_get gs x.group) ≡ false
      untitled = sym h.0.kind ∙ ap is_some e

      no_more : (ys : List Definition) (es : List plain.Definition) → length (x ∷ ys) ≤ 1 → AreDefinitions gs ys es
          → es ≡ []
      no_more [] [] l k = refl
      no_more [] (y ∷ ys) l k = absurd k
      no_more (y ∷ ys) es l k = absurd (omega (arith, l))

      single : StandAlone (x ∷ xs) → ds ≡ []
      single (inl few) = no_more xs ds few h.1
      single (inr each) = absurd (let t : true ≡ false = sym each.0 ∙ ap is_some e in cc)

      only : (g : Group) (i : ℕ) → has_titles (Some g) ≡ false → in_group (Some g) i ≡ Some d
          → slice_get gs x.group ≡ Some g
          → IsPattern gs (d ∷ ds) x.group x.place
      only (Together fs) i t at there = absurd cc
      only (Constant title e) i t at there = absurd cc
      only (Destructure q e) zero t at there =
          let same = some_same _ d at in
          record {
            pattern = q;
            value = e;
            at = there;
            is = ap (λ (l : List plain.Definition). d ∷ l) (single s)
                ∙ ap (λ (y : plain.Definition). y ∷ []) (sym same);
            starts = h.0.place ∙ ap (λ (y : plain.Definition). y.place) (sym same);
          }
      only (Destructure q e) (suc i) t at there = absurd cc

      found : (o : Option Group) → slice_get gs x.group ≡ o → IsPattern gs (d ∷ ds) x.group x.place
      found None there =
          absurd (let t : has_titles None ≡ false = subst (λ o. has_titles o ≡ false) there untitled in cc)
      found (Some g) there =
          only g x.function (subst (λ o. has_titles o ≡ false) there untitled)
          (subst (λ o. in_group o x.function ≡ Some d) there h.0.at) there
