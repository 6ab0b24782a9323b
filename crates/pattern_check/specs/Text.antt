-- The text of a pattern, by its UTF-16 units, as Elm writes patterns: `_`, `_ :: _`, `Just _`, `( _, [] )`, `"a"`.
use Rattle.std.specs.Prelude.{ℕ, zero, suc, ℤ, pos, negsuc, List, [], ◌∷◌, ◌++◌, Bool, true, false, ◌||◌, ◌&&◌, ◌==◌}
use Rattle.std.specs.Prelude.{nat_lt, nat_le, if◌then◌else◌, codes, decimal}
use Rattle.elm_base.specs.Quoted.{hex4}
use Rattle.elm_canon.specs.Names.{Name}
use Rattle.elm_canon.specs.Unions.{Union, TupleUnion, ListUnion, Declared}
use Rattle.elm_canon.specs.declared.unions.Alternative.{Alternative}
use Rattle.elm_canon.specs.declared.tree.Literal.{Literal}
use Rattle.elm_canon.specs.declared.tree.Literal.TheVariants as literal
use Rattle.elm_canon.specs.Tree as plain
use Rattle.pattern_check.specs.declared.text.Around.{Around}
use Rattle.pattern_check.specs.declared.text.Around.TheVariants.{Alone, Item, Argument}

-- ---- literals

abbrev pub int_text : ℤ → Name
int_text (pos n) = decimal n
int_text (negsuc n) = 45 ∷ decimal (suc n)

-- 0 to 1F, and 7F to 9F
abbrev pub is_control : ℕ → Bool
is_control u = nat_lt u 32 || (nat_le 127 u && nat_lt u 160)

-- a unit between two such quotes. A \ stands before the quote and before \. Ends of lines and tabs are \n, \r and \t.
-- Any other control character is \u and its number in base 16, in braces
abbrev pub unit_text : ℕ → ℕ → Name
unit_text quote u =
    if u == quote || u == 92 then 92 ∷ u ∷ []
    else (if u == 10 then codes "\\n"
    else (if u == 13 then codes "\\r"
    else (if u == 9 then codes "\\t" else (if is_control u then codes "\\u{" ++ (hex4 u ++ codes "}") else u ∷ []))))

abbrev pub units_text : ℕ → List ℕ → Name
units_text quote [] = []
units_text quote (u ∷ us) = unit_text quote u ++ units_text quote us

abbrev pub quoted_text : ℕ → List ℕ → Name
quoted_text quote us = quote ∷ (units_text quote us ++ quote ∷ [])

-- `-1`, `'a'`, `"abc"`
abbrev pub literal_text : Literal → Name
literal_text (literal.Int n) = int_text n
literal_text (literal.Char us) = quoted_text 39 us
literal_text (literal.Text us) = quoted_text 34 us

-- ---- brackets

abbrev pub bracketed : Bool → Name → Name
bracketed true t = codes "(" ++ t ++ codes ")"
bracketed false t = t

-- p :: q, and p as x, are in brackets before :: and as an argument
abbrev pub is_bracketed : Around → Bool
is_bracketed Alone = false
is_bracketed Item = true
is_bracketed Argument = true

-- a constructor with so many fields is in brackets as an argument, if it has any
abbrev pub is_applied : Around → ℕ → Bool
is_applied Argument (suc n) = true
is_applied Argument zero = false
is_applied Alone n = false
is_applied Item n = false

abbrev pub by_count : {A : Type 0} → ℕ → A → A → A
by_count zero none some = none
by_count (suc n) none some = some

-- ---- patterns

-- a constructor, given the texts of its fields as arguments, as parts of a tuple and as items
abbrev pub construct_text : Around → Union → Alternative → (arguments parts items : Name) → Name
construct_text around (TupleUnion n) a arguments parts items =
    by_count a.arity (codes "()") (codes "( " ++ parts ++ codes " )")
construct_text around ListUnion a arguments parts items =
    by_count a.arity (codes "[]") (bracketed (is_bracketed around) items)
construct_text around (Declared m x cs) a arguments parts items =
    bracketed (is_applied around a.arity) (a.name ++ arguments)

abbrev pub more_fields_text : List Name → Name
more_fields_text [] = []
more_fields_text (x ∷ xs) = codes ", " ++ x ++ more_fields_text xs

abbrev pub fields_text : List Name → Name
fields_text [] = codes "{}"
fields_text (x ∷ xs) = codes "{ " ++ x ++ more_fields_text xs ++ codes " }"

unfoldable mutual
  pub text_in : Around → plain.Pattern → Name
  text_in around plain.Anything = codes "_"
  text_in around (plain.Named x) = x
  text_in around (plain.As p x) = bracketed (is_bracketed around) (text_in Item p ++ codes " as " ++ x)
  text_in around (plain.Exactly l) = literal_text l
  text_in around (plain.Construct u a ps) =
      construct_text around u a (arguments_text ps) (parts_text ps) (items_text ps)
  text_in around (plain.FieldsOf xs) = fields_text xs
  text_in around (plain.LocatedPattern place p) = text_in around p

  -- each after a blank
  pub arguments_text : plain.Patterns → Name
  arguments_text plain.NoPattern = []
  arguments_text (plain.MorePattern p ps) = codes " " ++ text_in Argument p ++ arguments_text ps

  pub parts_text : plain.Patterns → Name
  parts_text plain.NoPattern = []
  parts_text (plain.MorePattern p ps) = text_in Alone p ++ more_parts_text ps

  pub more_parts_text : plain.Patterns → Name
  more_parts_text plain.NoPattern = []
  more_parts_text (plain.MorePattern p ps) = codes ", " ++ text_in Alone p ++ more_parts_text ps

  -- an item and the rest
  pub items_text : plain.Patterns → Name
  items_text plain.NoPattern = []
  items_text (plain.MorePattern p ps) = text_in Item p ++ rest_text ps

  pub rest_text : plain.Patterns → Name
  rest_text plain.NoPattern = []
  rest_text (plain.MorePattern p ps) = codes " :: " ++ text_in Alone p ++ rest_text ps

abbrev pub pattern_text : plain.Pattern → Name
pattern_text p = text_in Alone p
