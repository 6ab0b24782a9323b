-- No constant is of a place below: it stays so.
use Rattle.std.proofs.Common.{◌≡◌, ℕ, List, false, inl, inr, sym, subst}
use Rattle.std.specs.Prelude.{◌⊎◌}
use Rattle.std.specs.List.{Contains}
use Rattle.elm_canon.specs.Tree.{Annotation}
use Rattle.elm_type.specs.Types.{Rigid}
use Rattle.type_items.specs.Items.{child}
use Rattle.type_store.specs.Solutions.{constants_of}
use Rattle.type_walks.specs.Regions.{below}
use Rattle.type_schemes.specs.Constants.{rigids}
use Rattle.infer_steps.specs.Codes.{Code, State}
use Rattle.infer_steps.specs.Ready.{Follows}
use Rattle.infer_groups.specs.Defined.{IsClear, at_child, inside}
use Rattle.infer_groups.specs.Annotated.{own_names, its_own, ConstantsOpen}
use Rattle.infer_groups.proofs.Opening.{below_child, owned_place, not_below_itself}

-- later, at the same place
pub clear_later : (old new : State) → IsClear old → Follows old new → IsClear new
clear_later old new clear f = record {
  each = λ r h. subst (λ p. below p r.place ≡ false) (sym f.place) (clear.each r (f.later.constants r h));
}

-- at a child
pub clear_child : (s : State) (i : ℕ) → IsClear s → IsClear (at_child s i)
clear_child s i clear = record { each = λ r h. below_child s.place i r.place (clear.each r h) }

pub clear_inside : (s : State) (i : ℕ) → IsClear s → IsClear (inside s i)
clear_inside s i clear = record { each = λ r h. below_child s.place i r.place (clear.each r h) }

-- inside a definition, whose constants are of its own place
pub clear_opened : (code : Code) (annotation : Annotation) (i : ℕ) (vs : List ℕ) (old mid : State)
    → ConstantsOpen code annotation i vs old mid
    → IsClear mid
clear_opened code annotation i vs old mid open_ = record { each = λ r h. go r (open_.opens.known r h) }
  where
    go : (r : Rigid) → Contains (constants_of old.store) r ⊎ Contains
        (rigids (its_own code annotation (child old.place i) vs)) r
        → below mid.place r.place ≡ false
    go r (inl h) =
        subst (λ p. below p r.place ≡ false) (sym open_.place) (below_child old.place i r.place (open_.clear.each r h))
    go r (inr h) =
        subst (λ p. below p r.place ≡ false) (sym open_.place)
        (subst (λ p. below (child old.place i) p ≡ false)
        (sym (owned_place (child old.place i) annotation (own_names code annotation) vs r h))
        (not_below_itself (child old.place i)))
