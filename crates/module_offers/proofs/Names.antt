-- Names of functions, one after another.
use Rattle.std.proofs.Common.{◌≡◌, ℕ, suc, ◌+◌, ◌<◌, List, ◌∷◌, length, map, drop, get_or, Bool, true, false, sym, ap}
use Rattle.std.proofs.Common.{◌∙◌, arith, drop-cons}
use Rattle.std.specs.Prelude.{◌&&◌, ◌||◌, if◌then◌else◌}
use Rattle.std.specs.Str.{bytes_eq}
use Rattle.std.proofs.lemmas.Bool.{false≢true}
use Rattle.elm_canon.proofs.Views.{function}
use Rattle.elm_canon.specs.Names.{same_name, same_ref}
use Rattle.elm_canon.specs.Tree.{functions_of}
use Rattle.elm_canon.specs.View.{function_view}
use Rattle.elm_canon.specs.declared.reference.Ref.{Ref}
use Rattle.elm_canon.specs.declared.reference.Ref.TheVariants.{Top}
use Rattle.elm_canon.specs.declared.tree.Function.{Function}
use Rattle.elm_canon.specs.Proper.{among, function_names}
use Rattle.canon_env.proofs.Adding.{same_name-sym}
use Rattle.canon_env.specs.Exposing.{is_among}
use Rattle.interface.specs.Interface.{value_view}
use Rattle.interface.specs.declared.value.Value.{Value}

-- texts are compared either way
pub turned : (x y : List ℕ) → bytes_eq x y ≡ same_name y x
turned x y = same_name-sym x y

pub same_top : (home f m x : List ℕ) → (bytes_eq m home && bytes_eq x f) ≡ same_ref (Top home f) (Top m x)
same_top home f m x = ap (λ b. b && bytes_eq x f) (turned m home) ∙ ap (λ b. same_name home m && b) (turned x f)

-- ---- functions

abbrev pub is_among_all : Ref → List Function → Bool
is_among_all r fs = among r (function_names (functions_of (map function_view fs)))

drop_at : {A : Type 0} (xs : List A) (i : ℕ) (x : A) → i < length xs → x ≡ get_or xs i x →
    drop i xs ≡ x ∷ drop (i + 1) xs
drop_at xs i x h is =
    let next : suc i ≡ i + 1 = omega arith in
    drop-cons xs i x h ∙ (ap (λ z. z ∷ drop (suc i) xs) (sym is) ∙ ap (λ n. x ∷ drop n xs) next)

-- the function at a place, and those after it
pub at_function : (r : Ref) (fs : List Function) (i : ℕ) (f : Function) → i < length fs → f ≡ get_or fs i f →
    is_among_all r (drop i fs)
    ≡ (if same_ref r f.title.name then true else is_among_all r (drop (i + 1) fs))
at_function r fs i f h is =
    ap (is_among_all r) (drop_at fs i f h is)
    ∙ ap (λ v. among r (function_names (functions_of (v ∷ map function_view (drop (i + 1) fs))))) (function f)

pub is_here : (b a all : Bool) → (if b then true else a) ≡ all → b ≡ true → true ≡ all
is_here true a all e h = e
is_here false a all e h = absurd (false≢true h)

pub is_later : (b a all : Bool) → (if b then true else a) ≡ all → b ≡ false → a ≡ all
is_later true a all e h = absurd (false≢true (sym h))
is_later false a all e h = e

-- ---- values

abbrev pub is_named_by : List ℕ → List Value → Bool
is_named_by x vs = is_among x (map (λ v. v.name) (map value_view vs))

-- the value at a place, and those after it
pub at_value : (x : List ℕ) (vs : List Value) (i : ℕ) (v : Value) → i < length vs → v ≡ get_or vs i v →
    is_named_by x (drop i vs) ≡ (bytes_eq v.name x || is_named_by x (drop (i + 1) vs))
at_value x vs i v h is =
    ap (is_named_by x) (drop_at vs i v h is)
    ∙ ap (λ b. b || is_named_by x (drop (i + 1) vs)) (sym (turned v.name x))

pub is_this : (b a all : Bool) → (b || a) ≡ all → b ≡ true → true ≡ all
is_this true a all e h = e
is_this false a all e h = absurd (false≢true h)

pub is_another : (b a all : Bool) → (b || a) ≡ all → b ≡ false → a ≡ all
is_another true a all e h = absurd (false≢true (sym h))
is_another false a all e h = e
