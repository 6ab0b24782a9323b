-- Outgoing ports, which the reader has in their order and the machine in reverse.
use Rattle.std.proofs.Common.{◌≡◌, ℕ, List, [], ◌∷◌, ◌++◌, reverse, refl, ap, ◌∙◌}
use Rattle.std.proofs.lemmas.List.{reverse-append}
use Rattle.js_tree.specs.Automaton.{reversed_onto}

onto-append : (xs ys zs : List (List ℕ)) → reversed_onto (xs ++ ys) zs ≡ reversed_onto ys (reversed_onto xs zs)
onto-append [] ys zs = refl
onto-append (x ∷ xs) ys zs = onto-append xs ys (x ∷ zs)

onto_reversed : (xs zs : List (List ℕ)) → reversed_onto (reverse xs) zs ≡ xs ++ zs
onto_reversed [] zs = refl
onto_reversed (x ∷ xs) zs =
    ap (λ (r : List (List ℕ)). reversed_onto r zs) (reverse-append (x ∷ []) xs) ∙ (onto-append (reverse xs) (x ∷ []) zs ∙ ap (λ (r : List (List ℕ)). let row : List (List ℕ) = x ∷ r in row) (onto_reversed xs zs))

pub outs_whole : (xs : List (List ℕ)) (o : List ℕ) → reversed_onto (o ∷ reverse xs) [] ≡ xs ++ o ∷ []
outs_whole xs o = onto_reversed xs (o ∷ [])
