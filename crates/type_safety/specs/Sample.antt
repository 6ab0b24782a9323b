-- An expression of which the law of expressions speaks: `let x = 5 in x`.
use Rattle.std.specs.Prelude.{pos, [], Bool, true, false, None, codes}
use Rattle.elm_base.specs.declared.position.Pos.{Pos}
use Rattle.elm_canon.specs.declared.reference.Ref.{Ref}
use Rattle.elm_canon.specs.declared.reference.Ref.TheVariants.{Local, Top}
use Rattle.elm_canon.specs.declared.tree.Literal.TheVariants.{Int}
use Rattle.elm_canon.specs.Tree.{Title, Expr, Is, NameOf, Let, NoGroup, MoreGroup, Constant}
use Rattle.elm_meaning.specs.Values.{Nil}
use Rattle.elm_type.specs.Types.{int_type}
use Rattle.type_items.specs.Scopes.{Scope}
use Rattle.type_items.specs.Uses.{used}
use Rattle.type_items.specs.Expressions.{items}
use Rattle.type_items.specs.Solutions.{Solves}
use Rattle.typed_values.specs.Simple.{Without, Simple}
use Rattle.typed_values.specs.Typed.{Fits}
use Rattle.typed_values.specs.Sample.{sample, sample_frame}

abbrev pub sample_place : Pos
sample_place = record { row = 1; column = 5 }

abbrev pub sample_title : Title
sample_title = record { name = Local (codes "x"); place = sample_place; annotation = None }

abbrev pub sample_expression : Expr
sample_expression = Let (MoreGroup (Constant sample_title (Is (Int (pos 5)))) NoGroup) (NameOf (Local (codes "x")))

abbrev pub sample_scope : Scope
sample_scope = record { known = sample.known []; names = []; constants = [] }

-- names of modules
abbrev pub sample_hidden : Ref → Bool
sample_hidden (Local x) = false
sample_hidden (Top m x) = true

-- what the law asks
pub record SampleMeets : Type 0 where
  pub simple : Simple sample sample_expression
  pub free : Without sample_hidden (used sample_expression)
  pub fits : Fits sample Nil sample_hidden sample_scope sample_frame
  pub solves : Solves sample_frame.values (items sample_expression sample_scope sample_place [] int_type)
