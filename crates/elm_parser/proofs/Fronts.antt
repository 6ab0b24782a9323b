-- The longest front of tokens that begins a text: there is one, and all of the tokens are it where they are a text.
use Rattle.std.proofs.Common.{◌≡◌, ℕ, List, [], ◌∷◌, ◌++◌, inl, inr, refl, sym, ◌∙◌, ap, subst, append_assoc}
use Rattle.std.proofs.Common.{append-nil}
use Rattle.std.proofs.lemmas.List.{append_cancel_left}
use Rattle.parse_machine.specs.declared.table.Symbol.TheVariants.{Part}
use Rattle.parse_machine.specs.declared.table.Step.{Step}
use Rattle.parse_machine.specs.declared.table.Token.{Token}
use Rattle.parse_machine.specs.Grammar.{Tree, Spells, IsViable, IsLongest, IsReading, IsFront}
use Rattle.elm_grammar.specs.Table.{elm}
use Rattle.elm_parser.proofs.Standings.{Compared, compared}

further : (n c : ℕ) (front other z : List Token) (u : Token) → other ≡ front ++ u ∷ z →
    IsViable elm (Part n ∷ []) c other → IsViable elm (Part n ∷ []) c (front ++ u ∷ [])
further n c front other z u f (x, more, d) = (
  x,
  z ++ more,
  subst (λ v. Spells elm (Part n ∷ []) c x v)
      (ap (λ v. v ++ more) f ∙ append_assoc front (u ∷ z) more ∙ sym (append_assoc front (u ∷ []) (z ++ more))) d,
)

pub one_front : (n c : ℕ) (ts front at other others : List Token) → IsLongest elm (Part n ∷ []) c ts front at →
    IsLongest elm (Part n ∷ []) c ts other others → (front ≡ other) × (at ≡ others)
one_front n c ts front at other others h k = by (compared front at other others place)
  where
    place : front ++ at ≡ other ++ others
    place = sym h.place ∙ k.place

    both : front ≡ other → (front ≡ other) × (at ≡ others)
    both e = (e, append_cancel_left other at others (ap (λ z. z ++ at) (sym e) ∙ place))

    longer : (z : List Token) → front ≡ other ++ z → front ≡ other
    longer [] f = f ∙ append-nil other
    longer (u ∷ z) f =
        absurd (k.no_further u (z ++ at)
        (sym (append_cancel_left other ((u ∷ z) ++ at) others
        (sym (append_assoc other (u ∷ z) at) ∙ ap (λ v. v ++ at) (sym f) ∙ place)))
        (further n c other front z u f h.viable))

    by : Compared front at other → (front ≡ other) × (at ≡ others)
    by (inl (z, f)) = both (longer z f)
    by (inr (u, z, more, f, g)) = absurd (h.no_further u more g (further n c front other z u f k.viable))

-- a text is its own longest front
pub whole_front : (n c : ℕ) (ts : List Token) (x : Tree) → Spells elm (Part n ∷ []) c x ts →
    IsLongest elm (Part n ∷ []) c ts ts []
whole_front n c ts x d = record {
  place = sym (append-nil ts);
  viable = (x, [], subst (λ z. Spells elm (Part n ∷ []) c x z) (sym (append-nil ts)) d);
  no_further = λ t more e v. cc;
}

-- and so is the longest front
pub front_front : (n c : ℕ) (ts front at : List Token) → IsLongest elm (Part n ∷ []) c ts front at →
    IsLongest elm (Part n ∷ []) c front front []
front_front n c ts front at h = record { place = sym (append-nil front); viable = h.viable; no_further = λ t more e v. cc }

abbrev pub reading_front : (n c : ℕ) (ts : List Token) (steps : List Step) → IsReading elm (Part n ∷ []) c ts steps →
    IsFront elm (Part n ∷ []) c ts [] steps
reading_front n c ts steps r = record { front = ts; longest = whole_front n c ts r.tree r.spells; reading = r }
