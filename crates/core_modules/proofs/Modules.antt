-- Four or five modules more at the end: `four_more`, `five_more`.
use Rattle.std.proofs.Common.{◌≡◌, List, [], ◌∷◌, ◌++◌, ap, ◌∙◌, append_assoc}

pub four_more : {A : Type 0} (old a b c d : List A) (x y z w : A) → a ≡ old ++ x ∷ [] → b ≡ a ++ y ∷ [] →
    c ≡ b ++ z ∷ [] → d ≡ c ++ w ∷ [] → d ≡ old ++ x ∷ y ∷ z ∷ w ∷ []
four_more old a b c d x y z w one two three four =
    four
    ∙ ap (λ v. v ++ w ∷ [])
    (three
    ∙ ap (λ v. v ++ z ∷ []) (two ∙ ap (λ v. v ++ y ∷ []) one ∙ append_assoc old (x ∷ []) (y ∷ []))
    ∙ append_assoc old (x ∷ y ∷ []) (z ∷ []))
    ∙ append_assoc old (x ∷ y ∷ z ∷ []) (w ∷ [])

pub five_more : {A : Type 0} (old a b c d e : List A) (x y z w v : A) → a ≡ old ++ x ∷ [] → b ≡ a ++ y ∷ [] →
    c ≡ b ++ z ∷ [] → d ≡ c ++ w ∷ [] → e ≡ d ++ v ∷ [] → e ≡ old ++ x ∷ y ∷ z ∷ w ∷ v ∷ []
five_more old a b c d e x y z w v one two three four five =
    five ∙ ap (λ u. u ++ v ∷ []) (four_more old a b c d x y z w one two three four)
    ∙ append_assoc old (x ∷ y ∷ z ∷ w ∷ []) (v ∷ [])
