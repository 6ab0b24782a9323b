-- What a pattern binds of a value, if it matches. (Elm guide: pattern matching.) Parts are looked at from left to
-- right, up to the first that does not match. A value of another kind or union than the pattern has no rule.
use Rattle.std.specs.Prelude.{List, [], ◌∷◌, Bool, false, if◌then◌else◌, ◌&&◌, ◌||◌, ◌==◌, Option, Some, None}
use Rattle.std.specs.Str.{bytes_eq}
use Rattle.runs.specs.Ends.{End, Val, Crashed, OutOfFuel, Unsafe, Stuck, then_do}
use Rattle.runs.specs.Numbers.{is_number}
use Rattle.elm_canon.specs.Names.{Name}
use Rattle.elm_canon.specs.declared.reference.Ref.TheVariants.{Local}
use Rattle.elm_canon.specs.declared.unions.Tag.{Tag}
use Rattle.elm_canon.specs.declared.unions.Alternative.{Alternative}
use Rattle.elm_canon.specs.Unions.{alternatives}
use Rattle.elm_canon.specs.declared.tree.Literal.{Literal}
use Rattle.elm_canon.specs.declared.tree.Literal.TheVariants as literal
use Rattle.elm_canon.specs.Tree.{Pattern, Anything, Named, As, Exactly, Construct, FieldsOf, LocatedPattern, Patterns}
use Rattle.elm_canon.specs.Tree.{NoPattern, MorePattern}
use Rattle.elm_meaning.specs.Values.{Value, IntV, TextV, TagV, RecordV, Values, NoValue, MoreValue, FieldValues, Env, Bind}
use Rattle.elm_meaning.specs.Values.{count_of, field_in}
use Rattle.elm_meaning.specs.Seen.{same_tag}

abbrev pub is_literal : Literal → Value → End Bool
is_literal (literal.Int n) (IntV m) = Val (is_number m n)
is_literal (literal.Char s) (TextV t) = Val (bytes_eq t s)
is_literal (literal.Text s) (TextV t) = Val (bytes_eq t s)
is_literal _ _ = Stuck

-- a value of that tag with these fields is one of that constructor, or of one of several
abbrev pub is_of : Tag → Values → Alternative → Bool
is_of tag vs a = same_tag tag a.tag && (count_of vs == a.arity)

abbrev pub is_of_one : Tag → Values → List Alternative → Bool
is_of_one tag vs [] = false
is_of_one tag vs (a ∷ others) = is_of tag vs a || is_of_one tag vs others

-- what follows in the environment, if the pattern matched
abbrev pub and_match : End (Option Env) → (Env → End (Option Env)) → End (Option Env)
and_match (Val (Some env)) go = go env
and_match end go = end

-- each of the fields under its name
abbrev pub bind_fields : List Name → FieldValues → Env → End (Option Env)
bind_fields [] fs env = Val (Some env)
bind_fields (x ∷ xs) fs env = then_do (field_in x fs) (λ v. bind_fields xs fs (Bind (Local x) v env))

-- the environment with the names of the pattern, or None if it does not match
abbrev mutual
  pub matches : Pattern → Value → Env → End (Option Env)
  matches Anything v env = Val (Some env)
  matches (Named x) v env = Val (Some (Bind (Local x) v env))
  matches (As p x) v env = and_match (matches p v env) (λ inner. Val (Some (Bind (Local x) v inner)))
  matches (Exactly l) v env = then_do (is_literal l v) (λ same. Val (if same then Some env else None))
  matches (Construct union a ps) (TagV tag vs) env =
      if is_of_one tag vs (alternatives union) then (if is_of tag vs a then matches_all ps vs env else Val None)
      else Stuck
  matches (Construct union a ps) v env = Stuck
  matches (FieldsOf xs) (RecordV fs) env = bind_fields xs fs env
  matches (FieldsOf xs) v env = Stuck
  matches (LocatedPattern place p) v env = matches p v env

  pub matches_all : Patterns → Values → Env → End (Option Env)
  matches_all NoPattern NoValue env = Val (Some env)
  matches_all (MorePattern p ps) (MoreValue v vs) env = and_match (matches p v env) (λ inner. matches_all ps vs inner)
  matches_all _ _ env = Stuck

-- by whether a pattern matched
abbrev pub on_match : {A : Type 0} → End (Option Env) → (Env → End A) → End A → End A
on_match (Val (Some env)) go other = go env
on_match (Val None) go other = other
on_match (Crashed t) go other = Crashed t
on_match OutOfFuel go other = OutOfFuel
on_match Unsafe go other = Unsafe
on_match Stuck go other = Stuck
