-- Patterns of records name each field once.
use Rattle.elm_canon.specs.Tree.{Pattern, Anything, Named, As, Exactly, Construct, FieldsOf, LocatedPattern, Patterns}
use Rattle.elm_canon.specs.Tree.{NoPattern, MorePattern}
use Rattle.infer_steps.specs.Records.{AreDistinct}

abbrev mutual
  pub FieldsOnce : Pattern → Type 0
  FieldsOnce Anything = Unit {0}
  FieldsOnce (Named x) = Unit {0}
  FieldsOnce (As p x) = FieldsOnce p
  FieldsOnce (Exactly l) = Unit {0}
  FieldsOnce (Construct u c ps) = EachFieldsOnce ps
  FieldsOnce (FieldsOf xs) = AreDistinct xs
  FieldsOnce (LocatedPattern pos p) = FieldsOnce p

  pub EachFieldsOnce : Patterns → Type 0
  EachFieldsOnce NoPattern = Unit {0}
  EachFieldsOnce (MorePattern p ps) = FieldsOnce p × EachFieldsOnce ps
