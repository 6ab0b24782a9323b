-- Types of annotations, with their variables in order, can be written into a store: they have no constants.
use Rattle.std.proofs.Common.{◌≡◌, ℕ, List, [], ◌∷◌, map, length, false, Some, None, refl, sym, ap, ◌∙◌}
use Rattle.std.proofs.Common.{subst}
use Rattle.std.specs.List.{AllByRecursion}
use Rattle.std.proofs.lemmas.List.{length-map}
use Rattle.elm_type.specs.Types.{variables, Leaf, Free, Fixed, Kind, kind_at, Scheme}
use Rattle.elm_type.specs.Schemes.{appearing, placed, rename}
use Rattle.type_items.proofs.Orders.{OfLeaf, variables_renamed}
use Rattle.type_items.proofs.Members.{Member}
use Rattle.type_items.proofs.Renaming.{members, new_kind}
use Rattle.type_constructs.proofs.Renamed.{Keeps, formed_same}
use Rattle.type_constructs.proofs.Orders.{place_below}
use Rattle.infer_steps.specs.Ready.{IsBelow, IsWritten}

abbrev pub IsFree : Leaf ℕ → Type 0
IsFree (Free i) = Unit {0}
IsFree (Fixed r) = ⊥

abbrev pub AllFree : List (Leaf ℕ) → Type 0
AllFree ls = AllByRecursion IsFree ls

all_free : (n : ℕ) (ls : List (Leaf ℕ)) → AllByRecursion (IsBelow n) ls → AllFree ls
all_free n [] h = tt
all_free n (Free i ∷ ls) h = (tt, all_free n ls h.1)
all_free n (Fixed r ∷ ls) h = absurd h.0

module _ (s : Scheme) where
  abbrev order : List ℕ
  order = appearing s

  each_below : (ls : List (Leaf ℕ)) → AllFree ls → AllByRecursion (OfLeaf (Member order)) ls
      → AllByRecursion (IsBelow (length order)) (map (placed order) ls)
  each_below [] f h = tt
  each_below (Free i ∷ ls) f h = (place_below order i h.0, each_below ls f.1 h.1)
  each_below (Fixed r ∷ ls) f h = absurd f.0

  each_kept : (ls : List (Leaf ℕ)) → AllFree ls → AllByRecursion (OfLeaf (Member order)) ls
      → AllByRecursion (Keeps s.kinds (rename s).kinds (placed order)) ls
  each_kept [] f h = tt
  each_kept (Free i ∷ ls) f h = (ap (λ (k : Kind). k.lacks) (new_kind s i h.0), each_kept ls f.1 h.1)
  each_kept (Fixed r ∷ ls) f h = absurd f.0

  pub written_renamed : IsWritten s.kinds s → IsWritten (rename s).kinds (rename s)
  written_renamed w =
      let free = all_free (length s.kinds) (variables s.type) w.below in
      record {
        below =
            subst (λ n. AllByRecursion (IsBelow n) (variables (rename s).type))
            (sym (length-map order (kind_at s.kinds)))
            (subst (AllByRecursion (IsBelow (length order))) (sym (variables_renamed (placed order) s.type))
            (each_below (variables s.type) free (members s)));
        formed =
            formed_same s.kinds (rename s).kinds (placed order) s.type (each_kept (variables s.type) free (members s))
            ∙ w.formed;
      }
