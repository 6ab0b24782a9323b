-- Texts of patterns, worked out.
use Rattle.std.specs.Prelude.{◌≡◌, pos, negsuc, [], ◌∷◌, ◌++◌, codes}
use Rattle.elm_canon.specs.Unions.{Union, Declared}
use Rattle.elm_canon.specs.Tree.{Pattern, Anything, Exactly, Construct, NoPattern, patterns_of}
use Rattle.elm_canon.specs.declared.unions.Alternative.{Alternative}
use Rattle.elm_canon.specs.declared.unions.Tag.TheVariants.{Number}
use Rattle.elm_canon.specs.declared.tree.Literal.TheVariants.{Int, Char, Text}
use Rattle.pattern_check.specs.Examples.{empty, item, pair, unit}
use Rattle.pattern_check.specs.Text.{pattern_text}

abbrev just_alternative : Alternative
just_alternative = record { name = codes "Just"; tag = Number (pos 0); arity = 1 }

abbrev nothing_alternative : Alternative
nothing_alternative = record { name = codes "Nothing"; tag = Number (pos 1); arity = 0 }

abbrev maybes : Union
maybes = Declared (codes "Maybe") (codes "Maybe") (just_alternative ∷ nothing_alternative ∷ [])

abbrev just : Pattern → Pattern
just p = Construct maybes just_alternative (patterns_of (p ∷ []))

abbrev nothing : Pattern
nothing = Construct maybes nothing_alternative NoPattern

pub record TextExamples : Type 0 where
  pub anything : pattern_text Anything ≡ codes "_"
  pub of_unit : pattern_text unit ≡ codes "()"
  pub an_item : pattern_text (item Anything Anything) ≡ codes "_ :: _"
  pub two_items : pattern_text (item Anything (item nothing empty)) ≡ codes "_ :: Nothing :: []"
  pub list_in_list : pattern_text (item (item Anything Anything) Anything) ≡ codes "(_ :: _) :: _"
  pub in_pair : pattern_text (pair (just Anything) empty) ≡ codes "( Just _, [] )"
  pub argument : pattern_text (just (just (pair Anything nothing))) ≡ codes "Just (Just ( _, Nothing ))"
  pub list_argument : pattern_text (just (item (just Anything) Anything)) ≡ codes "Just (Just _ :: _)"
  pub numbers : pattern_text (pair (Exactly (Int (pos 10))) (Exactly (Int (negsuc 0)))) ≡ codes "( 10, -1 )"
  pub character : pattern_text (Exactly (Char (39 ∷ []))) ≡ 39 ∷ 92 ∷ 39 ∷ 39 ∷ []
  pub text : pattern_text (Exactly (Text (97 ∷ 39 ∷ 34 ∷ 10 ∷ []))) ≡ 34 ∷ 97 ∷ 39 ∷ 92 ∷ 34 ∷ 92 ∷ 110 ∷ 34 ∷ []
  pub control : pattern_text (Exactly (Text (31 ∷ []))) ≡ 34 ∷ (codes "\\u{001F}" ++ 34 ∷ [])
