-- Whether one of a list is such, item by item.
use Rattle.std.proofs.Common.{◌≡◌, List, map, Bool, true, false, ◌||◌, sym, ap, ◌∙◌, ℕ, ◌+◌, ◌<◌, length}
use Rattle.std.proofs.Common.{drop, get_or}
use Rattle.std.specs.List.{list_any}
use Rattle.std.proofs.lemmas.List.{at_drop_more}

module _ {A B : Type 0} (p : B → Bool) (g : A → B) (xs : List A) (i : ℕ) (x : A) (h : i < length xs)
    (is : x ≡ get_or xs i x) where
  opened : list_any p (map g (drop i xs)) ≡ (p (g x) || list_any p (map g (drop (i + 1) xs)))
  opened =
      at_drop_more (λ zs. list_any p (map g zs)) xs i x h
      ∙ ap (λ z. p (g z) || list_any p (map g (drop (i + 1) xs))) (sym is)

  pub is_here : (all : Bool) → list_any p (map g (drop i xs)) ≡ all → p (g x) ≡ true → true ≡ all
  is_here all e h = sym (ap (λ b. b || list_any p (map g (drop (i + 1) xs))) h) ∙ sym opened ∙ e

  pub is_later : (all : Bool) → list_any p (map g (drop i xs)) ≡ all → p (g x) ≡ false →
      list_any p (map g (drop (i + 1) xs)) ≡ all
  is_later all e h = sym (ap (λ b. b || list_any p (map g (drop (i + 1) xs))) h) ∙ sym opened ∙ e
