-- What a read text guarantees of its patterns: the names that they bind can be spelled, their literals are exact, and a
-- tuple has fewer than 2 ^ 32 parts.
use Rattle.std.specs.Prelude.{◌≡◌, ◌<◌, List, [], ◌∷◌, true}
use Rattle.elm_tree.specs.Tree.{Word, Pattern, Anything, Named, As, Exactly, Construct, ConsPattern, ListPattern}
use Rattle.elm_tree.specs.Tree.{TuplePattern, FieldsPattern, Patterns, NoPattern, MorePattern}
use Rattle.canon_env.specs.Imports.{name_of}
use Rattle.canon_env.specs.Patterns.{literal_of, count_of}
use Rattle.elm_canon.specs.Spelled.{is_word, is_exact_literal}

abbrev pub IsSpelledWord : Word → Type 0
IsSpelledWord x = is_word (name_of x) ≡ true

abbrev pub AreSpelledWords : List Word → Type 0
AreSpelledWords [] = Unit {0}
AreSpelledWords (x ∷ xs) = IsSpelledWord x × AreSpelledWords xs

abbrev mutual
  pub IsSpelledPattern : Pattern → Type 0
  IsSpelledPattern (Anything p) = Unit {0}
  IsSpelledPattern (Named x) = IsSpelledWord x
  IsSpelledPattern (As p a x) = IsSpelledPattern a × IsSpelledWord x
  IsSpelledPattern (Exactly p l) = is_exact_literal (literal_of l) ≡ true
  IsSpelledPattern (Construct x ps) = AreSpelledPatterns ps
  IsSpelledPattern (ConsPattern p ps) = AreSpelledPatterns ps
  IsSpelledPattern (ListPattern p ps) = AreSpelledPatterns ps
  IsSpelledPattern (TuplePattern p ps) = (count_of ps < 4294967296) × AreSpelledPatterns ps
  IsSpelledPattern (FieldsPattern p xs) = AreSpelledWords xs

  pub AreSpelledPatterns : Patterns → Type 0
  AreSpelledPatterns NoPattern = Unit {0}
  AreSpelledPatterns (MorePattern a ps) = IsSpelledPattern a × AreSpelledPatterns ps
