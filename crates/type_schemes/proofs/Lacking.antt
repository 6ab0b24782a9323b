-- The fields beside a variable, each once.
use Rattle.std.proofs.Common.{◌≡◌, ℕ, suc, ◌+◌, ◌<◌, List, [], ◌∷◌, ◌++◌, map, length, drop, get_or, reverse, Bool}
use Rattle.std.proofs.Common.{true, false, cond, sym, ap, ◌∙◌}
use Rattle.std.proofs.Common.{add-one, drop-cons}
use Rattle.std.specs.Str.{bytes_eq}
use Rattle.elm_type.specs.Types.{Name}
use Rattle.type_items.specs.Annotations.{once}
use Rattle.type_schemes.specs.Kinds.{Pair, pair_view, fields_beside, noted, noted_beside}
use Rattle.type_schemes.specs.declared.beside.Beside.{Beside}
use Rattle.type_schemes.proofs.Numbering.{once_step}

module _ (a : Name) where
  beside_step : (p : Pair) (ps : List Pair) (xs after : List Name) → after ≡ noted_beside a p xs
      → after ++ once (fields_beside a ps) (reverse after) ≡ xs ++ once (fields_beside a (p ∷ ps)) (reverse xs)
  beside_step p ps xs after e = go (bytes_eq a p.0) e
    where
      go : (b : Bool) → after ≡ cond b (noted p.1 xs) xs
          → after ++ once (fields_beside a ps) (reverse after) ≡ xs ++ once (cond b (p.1 ∷ []) [] ++ fields_beside a ps)
          (reverse xs)
      go true h = once_step xs after p.1 (fields_beside a ps) h
      go false h = ap (λ ys. ys ++ once (fields_beside a ps) (reverse ys)) h

  -- on the way: what is left of the pairs
  pub beside_on : (bs : List Beside) (xs after all : List Name) (i : ℕ) (b : Beside) → i < length bs → b ≡ get_or bs i b
      → after ≡ noted_beside a (pair_view b) xs → xs ++ once (fields_beside a (map pair_view (drop i bs))) (reverse xs)
      ≡ all
      → after ++ once (fields_beside a (map pair_view (drop (i + 1) bs))) (reverse after) ≡ all
  beside_on bs xs after all i b l is e h =
      let d : drop i bs ≡ b ∷ drop (i + 1) bs =
      drop-cons bs i b l ∙ (ap (λ m. m ∷ drop (suc i) bs) (sym is) ∙ ap (λ j. b ∷ drop j bs) (sym (add-one i))) in
      beside_step (pair_view b) (map pair_view (drop (i + 1) bs)) xs after e
      ∙ (ap (λ ms. xs ++ once (fields_beside a (map pair_view ms)) (reverse xs)) (sym d) ∙ h)
