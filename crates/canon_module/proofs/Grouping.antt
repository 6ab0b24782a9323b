-- Groups of declarations.
use Rattle.std.proofs.Common.{◌≡◌, List, [], ◌∷◌, length, map, refl, sym, ap, ◌∙◌}
use Rattle.std.proofs.lemmas.List.{length-map}
use Rattle.elm_canon.specs.Tree as canon
use Rattle.canon_expr.specs.Blocks.{functions_in, group_of}
use Rattle.canon_expr.proofs.Taking.{many_together}
use Rattle.canon_module.specs.Items.{Item, PortItem, ValueItem, made_by, grouped}

-- of two declarations or more, or of none, the functions are together
pub many_grouped : (is : List Item) → (length is ≡ 1 → ⊥) →
    canon.Define (canon.Together (functions_in (map made_by is))) ∷ [] ≡ grouped is
many_grouped is h = ap (map canon.Define) (many_together (map made_by is) (λ e. h (sym (length-map is made_by) ∙ e))) ∙ by is h
  where
    by : (is : List Item) → (length is ≡ 1 → ⊥) →
        map canon.Define (group_of (map made_by is)) ≡ grouped is
    by [] h = refl
    by (PortItem r k ∷ []) h = absurd (h refl)
    by (PortItem r k ∷ i ∷ is) h = refl
    by (ValueItem m ∷ is) h = refl
