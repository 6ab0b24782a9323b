-- What patterns bind.
use Rattle.std.proofs.Common.{List, [], ◌∷◌, ◌++◌, Bool, true, false, Option, Some, None, subst}
use Rattle.std.specs.Prelude.{if◌then◌else◌}
use Rattle.runs.specs.Ends.{End, Val, Crashed, OutOfFuel, Unsafe, Stuck, then_do}
use Rattle.elm_canon.specs.Names.{Name}
use Rattle.elm_canon.specs.declared.reference.Ref.{Ref}
use Rattle.elm_canon.specs.declared.reference.Ref.TheVariants.{Local}
use Rattle.elm_canon.specs.Unions.{alternatives}
use Rattle.elm_canon.specs.Tree.{Pattern, Anything, Named, As, Exactly, Construct, FieldsOf, LocatedPattern, Patterns}
use Rattle.elm_canon.specs.Tree.{NoPattern, MorePattern}
use Rattle.elm_canon.specs.Proper.{bound_by, all_bound_by, locals}
use Rattle.elm_meaning.specs.Values.{Value, IntV, TextV, TagV, RecordV, CloV, KnownV, WireV, Values, NoValue, MoreValue}
use Rattle.elm_meaning.specs.Values.{FieldValues, Env, Bind, field_in}
use Rattle.elm_meaning.specs.Match.{is_literal, is_of, is_of_one, and_match, bind_fields, matches, matches_all}
use Rattle.emit_laws.specs.Binding.{Binds, no_more, one_more, BindsItsNames, BindTheirNames}

-- if there is an environment, the names were bound
abbrev Bound : List Ref → Env → End (Option Env) → Type 0
Bound rs env (Val (Some after)) = Binds rs env after
Bound rs env (Val None) = Unit {0}
Bound rs env (Crashed t) = Unit {0}
Bound rs env OutOfFuel = Unit {0}
Bound rs env Unsafe = Unit {0}
Bound rs env Stuck = Unit {0}

binds_all : {rs ss : List Ref} {before between after : Env} → Binds rs before between → Binds ss between after → Binds (rs ++ ss) before after
binds_all no_more k = k
binds_all (one_more h) k = one_more (binds_all h k)

behind : (rs ss : List Ref) (before between : Env) (o : End (Option Env)) → Binds rs before between → Bound ss between o → Bound (rs ++ ss) before o
behind rs ss before between (Val (Some after)) h k = binds_all h k
behind rs ss before between (Val None) h k = tt
behind rs ss before between (Crashed t) h k = tt
behind rs ss before between OutOfFuel h k = tt
behind rs ss before between Unsafe h k = tt
behind rs ss before between Stuck h k = tt

and_bound : (rs ss : List Ref) (env : Env) (o : End (Option Env)) (go : Env → End (Option Env)) → Bound rs env o → ((inner : Env) → Bound ss inner (go inner)) → Bound (rs ++ ss) env (and_match o go)
and_bound rs ss env (Val (Some inner)) go h k = behind rs ss env inner (go inner) h (k inner)
and_bound rs ss env (Val None) go h k = tt
and_bound rs ss env (Crashed t) go h k = tt
and_bound rs ss env OutOfFuel go h k = tt
and_bound rs ss env Unsafe go h k = tt
and_bound rs ss env Stuck go h k = tt

then_bound : {A : Type 0} (rs : List Ref) (env : Env) (o : End A) (go : A → End (Option Env)) → ((x : A) → Bound rs env (go x)) → Bound rs env (then_do o go)
then_bound rs env (Val x) go k = k x
then_bound rs env (Crashed t) go k = tt
then_bound rs env OutOfFuel go k = tt
then_bound rs env Unsafe go k = tt
then_bound rs env Stuck go k = tt

one_bound : (r : Ref) (rs : List Ref) (v : Value) (env : Env) (o : End (Option Env)) → Bound rs (Bind r v env) o → Bound (r ∷ rs) env o
one_bound r rs v env (Val (Some after)) h = one_more h
one_bound r rs v env (Val None) h = tt
one_bound r rs v env (Crashed t) h = tt
one_bound r rs v env OutOfFuel h = tt
one_bound r rs v env Unsafe h = tt
one_bound r rs v env Stuck h = tt

if_bound : (rs : List Ref) (env : Env) (b : Bool) (one other : End (Option Env)) → Bound rs env one → Bound rs env other → Bound rs env (if b then one else other)
if_bound rs env true one other h k = h
if_bound rs env false one other h k = k

fields_bound : (xs : List Name) (fs : FieldValues) (env : Env) → Bound (locals xs) env (bind_fields xs fs env)
fields_bound [] fs env = no_more
fields_bound (x ∷ xs) fs env =
    then_bound (locals (x ∷ xs)) env (field_in x fs) (λ v. bind_fields xs fs (Bind (Local x) v env))
    (λ v. one_bound (Local x) (locals xs) v env (bind_fields xs fs (Bind (Local x) v env)) (fields_bound xs fs (Bind (Local x) v env)))

literal_bound : (b : Bool) (env : Env) → Bound [] env (Val (if b then Some env else None))
literal_bound true env = no_more
literal_bound false env = tt

mutual
  pub matches_bound : (p : Pattern) (v : Value) (env : Env) → Bound (bound_by p) env (matches p v env)
  matches_bound Anything v env = no_more
  matches_bound (Named x) v env = one_more no_more
  matches_bound (As p x) v env =
      and_bound (bound_by p) (Local x ∷ []) env (matches p v env) (λ inner. Val (Some (Bind (Local x) v inner)))
      (matches_bound p v env) (λ inner. one_more no_more)
  matches_bound (Exactly l) v env =
      then_bound [] env (is_literal l v) (λ same. Val (if same then Some env else None)) (λ same. literal_bound same env)
  matches_bound (Construct union a ps) (TagV tag vs) env =
      if_bound (all_bound_by ps) env (is_of_one tag vs (alternatives union)) (if is_of tag vs a then matches_all ps vs env else Val None) Stuck
      (if_bound (all_bound_by ps) env (is_of tag vs a) (matches_all ps vs env) (Val None) (all_bound ps vs env) tt) tt
  matches_bound (Construct union a ps) (IntV n) env = tt
  matches_bound (Construct union a ps) (TextV t) env = tt
  matches_bound (Construct union a ps) (RecordV fs) env = tt
  matches_bound (Construct union a ps) (CloV inner qs e) env = tt
  matches_bound (Construct union a ps) (KnownV f vs) env = tt
  matches_bound (Construct union a ps) (WireV w) env = tt
  matches_bound (FieldsOf xs) (RecordV fs) env = fields_bound xs fs env
  matches_bound (FieldsOf xs) (IntV n) env = tt
  matches_bound (FieldsOf xs) (TextV t) env = tt
  matches_bound (FieldsOf xs) (TagV tag vs) env = tt
  matches_bound (FieldsOf xs) (CloV inner qs e) env = tt
  matches_bound (FieldsOf xs) (KnownV f vs) env = tt
  matches_bound (FieldsOf xs) (WireV w) env = tt
  matches_bound (LocatedPattern place p) v env = matches_bound p v env

  pub all_bound : (ps : Patterns) (vs : Values) (env : Env) → Bound (all_bound_by ps) env (matches_all ps vs env)
  all_bound NoPattern NoValue env = no_more
  all_bound NoPattern (MoreValue v vs) env = tt
  all_bound (MorePattern p ps) NoValue env = tt
  all_bound (MorePattern p ps) (MoreValue v vs) env =
      and_bound (bound_by p) (all_bound_by ps) env (matches p v env) (λ inner. matches_all ps vs inner)
      (matches_bound p v env) (λ inner. all_bound ps vs inner)

pub binds_its_names : BindsItsNames
binds_its_names p v before after e = subst (Bound (bound_by p) before) e (matches_bound p v before)

pub bind_their_names : BindTheirNames
bind_their_names ps vs before after e = subst (Bound (all_bound_by ps) before) e (all_bound ps vs before)
