-- Paths below a folder.
use Rattle.std.proofs.Common.{◌≡◌, ◌≢◌, ℕ, List, [], ◌∷◌, ◌++◌, inl, inr, eqb, length, Option, Some, None, true, false}
use Rattle.std.proofs.Common.{refl, ap, ◌∙◌, sym, append_assoc}
use Rattle.std.specs.Prelude.{◌↔◌}
use Rattle.std.proofs.lemmas.Bool.Decides.{eqb_tells}
use Rattle.std.proofs.lemmas.List.{append_cancel_left}
use Rattle.project_file.specs.Paths.{after, below, inside}

eqb_same : (c : ℕ) → eqb c c ≡ true
eqb_same c = elim (eqb_tells c c) [ inl t ↦ t.0 | inr f ↦ absurd (f.1 refl) ]

pub after-front : (front rest : List ℕ) → after front (front ++ rest) ≡ Some rest
after-front [] rest = refl
after-front (c ∷ cs) rest = rw (eqb_same c) (after-front cs rest)

pub front-after : (front text rest : List ℕ) → after front text ≡ Some rest → text ≡ front ++ rest
front-after [] text rest e = cc
front-after (c ∷ cs) [] rest e = absurd (cc)
front-after (c ∷ cs) (d ∷ ds) rest e =
    elim (eqb_tells c d) [ inl t ↦ (let more = front-after cs ds rest (rw t.0 at e) in cc) | inr f ↦ (let none = rw f.0 at e in absurd (cc)) ]

-- where the text does not begin with the front
pub no_front : (front text : List ℕ) → ((rest : List ℕ) → text ≢ front ++ rest) → after front text ≡ None
no_front front text lacks = go (after front text) refl
  where
    go : (found : Option (List ℕ)) → after front text ≡ found → after front text ≡ None
    go None e = e
    go (Some rest) e = absurd (lacks rest (front-after front text rest e))

-- what stands before, a slash and the rest
pub below_found : (folder path middle rest : List ℕ) → path ≡ folder ++ middle → middle ≡ 47 ∷ rest → eqb (length folder) 0 ≡ false → Some rest ≡ below folder path
below_found [] path middle rest p m some = absurd (cc)
below_found (c ∷ cs) path middle rest p m some =
    sym (ap (after ((c ∷ cs) ++ 47 ∷ [])) (p ∙ ap (λ t. (c ∷ cs) ++ t) m ∙ sym (append_assoc (c ∷ cs) (47 ∷ []) rest)) ∙ after-front ((c ∷ cs) ++ 47 ∷ []) rest)

-- the path does not begin with the folder
pub no_folder : (folder path : List ℕ) → ((rest : List ℕ) → path ≢ folder ++ rest) → None ≡ below folder path
no_folder [] path lacks = absurd (lacks path refl)
no_folder (c ∷ cs) path lacks =
    sym (no_front ((c ∷ cs) ++ 47 ∷ []) path (λ rest e. lacks (47 ∷ rest) (e ∙ append_assoc (c ∷ cs) (47 ∷ []) rest)))

-- no slash stands after the folder
pub no_slash : (folder path middle : List ℕ) → path ≡ folder ++ middle → ((rest : List ℕ) → middle ≢ 47 ∷ rest) → eqb (length folder) 0 ≡ false → None ≡ below folder path
no_slash [] path middle p lacks some = absurd (cc)
no_slash (c ∷ cs) path middle p lacks some =
    sym (no_front ((c ∷ cs) ++ 47 ∷ []) path (λ rest e.
    lacks rest (append_cancel_left (c ∷ cs) middle (47 ∷ rest) (sym p ∙ e ∙ append_assoc (c ∷ cs) (47 ∷ []) rest))))

pub below_law : (folder path rest : List ℕ) → (below folder path ≡ Some rest) ↔ (path ≡ inside folder rest)
below_law [] path rest = (λ e. cc, λ e. cc)
below_law (c ∷ cs) path rest = (
  λ e. front-after ((c ∷ cs) ++ 47 ∷ []) path rest e ∙ append_assoc (c ∷ cs) (47 ∷ []) rest,
  λ e. ap (after ((c ∷ cs) ++ 47 ∷ [])) (e ∙ sym (append_assoc (c ∷ cs) (47 ∷ []) rest)) ∙ after-front ((c ∷ cs) ++ 47 ∷ []) rest,
)
