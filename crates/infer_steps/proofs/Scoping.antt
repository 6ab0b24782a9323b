-- The code's scope as names come and go.
use Rattle.std.proofs.Common.{◌≡◌, ℕ, ◌<◌, List, [], ◌∷◌, ◌++◌, length, Bool, true, false, Option, Some, None, refl, sym, ap, ◌∙◌, arith}
use Rattle.std.specs.Prelude.{◌&&◌, if◌then◌else◌, option_map}
use Rattle.std.specs.Str.{bytes_eq}
use Rattle.std.proofs.Math.Path.{fun_ext}
use Rattle.std.proofs.lemmas.Slice.Eq.{bytes_eq-Decides}
use Rattle.std.specs.Borrow.{Bor}
use Rattle.indexmap.specs.IndexMap.{get}
use Rattle.elm_canon.specs.Names.{same_name, same_ref}
use Rattle.elm_canon.specs.declared.reference.Ref.{Ref}
use Rattle.elm_canon.specs.declared.reference.Ref.TheVariants.{Local, Top}
use Rattle.elm_type.specs.Types.{Name}
use Rattle.infer_steps.specs.Codes as codes
use Rattle.infer_steps.specs.Codes.{Code, stands_for, constant_is}
use Rattle.infer_steps.specs.Keys.{same_pair}
use Rattle.infer_steps.specs.View.{known_view, meaning_view, names_of, constants_of, code_of}
use Rattle.infer_steps.specs.Leaving.{left, without, left_constant, without_constant}
use Rattle.infer_steps.specs.declared.scope.Meaning.{Meaning}
use Rattle.infer_steps.specs.declared.scope.Scope.{Scope}
use Rattle.infer_steps.specs.declared.scope.Entered.{Entered}
use Rattle.infer_steps.specs.declared.scope.EnteredConstant.{EnteredConstant}

-- ---- names

pub one_name : (x y : Name) → same_name x y ≡ true → x ≡ y
one_name x y e = (bytes_eq-Decides x y).0 e

same_itself : (x : Name) → same_name x x ≡ true
same_itself x = (bytes_eq-Decides x x).1 refl

pub same_back : (x y : Name) → same_name x y ≡ same_name y x
same_back x y = go (same_name x y) (same_name y x) refl refl
  where
    go : (a b : Bool) → same_name x y ≡ a → same_name y x ≡ b → a ≡ b
    go true true e f = refl
    go false false e f = refl
    go true false e f = absurd (let s : x ≡ y = one_name x y e in let t : same_name y x ≡ true = ap (λ z. same_name z x) (sym s) ∙ same_itself x in cc)
    go false true e f = absurd (let s : y ≡ x = one_name y x f in let t : same_name x y ≡ true = ap (λ z. same_name z y) (sym s) ∙ same_itself y in cc)

pair_back : (a b c d : Name) → (same_name a b && same_name c d) ≡ (same_name b a && same_name d c)
pair_back a b c d = ap (λ z. z && same_name c d) (same_back a b) ∙ ap (λ z. same_name b a && z) (same_back c d)

and_left : (a b : Bool) → (a && b) ≡ true → a ≡ true
and_left true b e = refl
and_left false b e = e

and_right : (a b : Bool) → (a && b) ≡ true → b ≡ true
and_right true b e = e
and_right false b e = absurd cc

pub one_ref : (x y : Ref) → same_ref x y ≡ true → x ≡ y
one_ref (Local x) (Local y) e = ap Local (one_name x y e)
one_ref (Local x) (Top n y) e = absurd cc
one_ref (Top m x) (Local y) e = absurd cc
one_ref (Top m x) (Top n y) e =
    ap (λ k. Top k x) (one_name m n (and_left (same_name m n) (same_name x y) e))
    ∙ ap (Top n) (one_name x y (and_right (same_name m n) (same_name x y) e))

chosen : {X Y : Type 0} (f : X → Y) (b : Bool) (o p : Option X) → option_map f (if b then o else p) ≡ (if b then option_map f o else option_map f p)
chosen f true o p = refl
chosen f false o p = refl

-- ---- one name is set

pub local_set : (old new : Scope) (x k : Name) (o : Option Meaning) → k ≡ x
    → ((n : Name) → get same_name new.locals n ≡ (if same_name k n then o else get same_name old.locals n))
    → new.tops ≡ old.tops → new.constants ≡ old.constants → new.known ≡ old.known
    → code_of new ≡ stands_for (Local x) (option_map meaning_view o) (code_of old)
unfolding names_of constants_of
local_set old new x k o same put tops constants known = λ i. record {
  known = known_view (known i);
  names = fun_ext at i;
  constants = λ a. get same_name (constants i) a;
}
  where
    at : (y : Ref) → names_of new y ≡ (if same_ref y (Local x) then option_map meaning_view o else names_of old y)
    at (Local y) =
        ap (option_map meaning_view) (put y)
        ∙ (chosen meaning_view (same_name k y) o (get same_name old.locals y)
        ∙ ap (λ b. if b then option_map meaning_view o else option_map meaning_view (get same_name old.locals y))
        (ap (λ z. same_name z y) same ∙ same_back x y))
    at (Top m y) = ap (λ t. option_map meaning_view (get same_pair t (m, y))) tops

pub top_set : (old new : Scope) (m x : Name) (k : Name × Name) (o : Option Meaning) → k ≡ (m, x)
    → ((n : Name × Name) → get same_pair new.tops n ≡ (if same_pair k n then o else get same_pair old.tops n))
    → new.locals ≡ old.locals → new.constants ≡ old.constants → new.known ≡ old.known
    → code_of new ≡ stands_for (Top m x) (option_map meaning_view o) (code_of old)
unfolding names_of constants_of
top_set old new m x k o same put locals constants known = λ i. record {
  known = known_view (known i);
  names = fun_ext at i;
  constants = λ a. get same_name (constants i) a;
}
  where
    at : (y : Ref) → names_of new y ≡ (if same_ref y (Top m x) then option_map meaning_view o else names_of old y)
    at (Local y) = ap (λ t. option_map meaning_view (get same_name t y)) locals
    at (Top n y) =
        ap (option_map meaning_view) (put (n, y))
        ∙ (chosen meaning_view (same_pair k (n, y)) o (get same_pair old.tops (n, y))
        ∙ ap (λ b. if b then option_map meaning_view o else option_map meaning_view (get same_pair old.tops (n, y)))
        (ap (λ z. same_pair z (n, y)) same ∙ pair_back m n x y))

-- ---- names go again

-- what a name stood for before it stands for again
pub set_again : (code : Code) (x : Ref) (m o : Option codes.Meaning) → o ≡ code.names x → stands_for x o (stands_for x m code) ≡ code
set_again code x m o was = λ i. record { known = code.known; names = fun_ext at i; constants = code.constants }
  where
    by : (y : Ref) (b : Bool) → same_ref y x ≡ b → (if b then o else (if b then m else code.names y)) ≡ code.names y
    by y true e = was ∙ ap code.names (sym (one_ref y x e))
    by y false e = refl

    at : (y : Ref) → (if same_ref y x then o else (if same_ref y x then m else code.names y)) ≡ code.names y
    at y = by y (same_ref y x) refl

pub entered_again : (code new : Code) (e : Entered) (x : Ref) (m : codes.Meaning) → e.name ≡ x → option_map meaning_view e.outer ≡ code.names x
    → new ≡ stands_for x (Some m) code → without (e ∷ []) new ≡ code
unfolding without
entered_again code new e x m named was is =
    ap (λ z. stands_for z (option_map meaning_view e.outer) new) named
    ∙ (ap (stands_for x (option_map meaning_view e.outer)) is ∙ set_again code x (Some m) (option_map meaning_view e.outer) was)

pub one_left : (e : Entered) (code new : Code) → new ≡ stands_for e.name (option_map meaning_view e.outer) code → new ≡ without (e ∷ []) code
unfolding without
one_left e code new is = is

pub without_none : (code : Code) → without [] code ≡ code
unfolding without
without_none code = refl

pub without_more : (es fs : List Entered) (code : Code) → without (es ++ fs) code ≡ without es (without fs code)
unfolding without
without_more [] fs code = refl
without_more (e ∷ es) fs code = ap (left e) (without_more es fs code)

-- ---- variables of annotations

pub constant_set : (old new : Scope) (x k : Name) (o : Option ℕ) → k ≡ x
    → ((n : Name) → get same_name new.constants n ≡ (if same_name k n then o else get same_name old.constants n))
    → new.locals ≡ old.locals → new.tops ≡ old.tops → new.known ≡ old.known
    → code_of new ≡ constant_is x o (code_of old)
unfolding names_of constants_of
constant_set old new x k o same put locals tops known = λ i. record {
  known = known_view (known i);
  names = fun_ext at i;
  constants = fun_ext (λ b. put b ∙ ap (λ c. if c then o else get same_name old.constants b) (ap (λ z. same_name z b) same ∙ same_back x b)) i;
}
  where
    at : (y : Ref) → names_of new y ≡ names_of old y
    at (Local y) = ap (λ t. option_map meaning_view (get same_name t y)) locals
    at (Top n y) = ap (λ t. option_map meaning_view (get same_pair t (n, y))) tops

constant_again : (code : Code) (x : Name) (m o : Option ℕ) → o ≡ code.constants x
    → constant_is x o (constant_is x m code) ≡ code
constant_again code x m o was = λ i. record { known = code.known; names = code.names; constants = fun_ext at i }
  where
    by : (y : Name) (b : Bool) → bytes_eq y x ≡ b → (if b then o else (if b then m else code.constants y)) ≡ code.constants y
    by y true e = was ∙ ap code.constants (sym (one_name y x e))
    by y false e = refl

    at : (y : Name) → (if bytes_eq y x then o else (if bytes_eq y x then m else code.constants y)) ≡ code.constants y
    at y = by y (bytes_eq y x) refl

pub constant_entered : (code new : Code) (e : EnteredConstant) (x : Name) (v : ℕ) → e.name ≡ x → e.outer ≡ code.constants x
    → new ≡ constant_is x (Some v) code → without_constant (e ∷ []) new ≡ code
unfolding without_constant
constant_entered code new e x v named was is =
    ap (λ z. constant_is z e.outer new) named
    ∙ (ap (constant_is x e.outer) is ∙ constant_again code x (Some v) e.outer was)

pub constant_left : (e : EnteredConstant) (code new : Code) → new ≡ constant_is e.name e.outer code → new ≡ without_constant (e ∷ []) code
unfolding without_constant
constant_left e code new is = is

pub constants_none : (code : Code) → without_constant [] code ≡ code
unfolding without_constant
constants_none code = refl

pub constants_more : (es fs : List EnteredConstant) (code : Code) → without_constant (es ++ fs) code ≡ without_constant es (without_constant fs code)
unfolding without_constant
constants_more [] fs code = refl
constants_more (e ∷ es) fs code = ap (left_constant e) (constants_more es fs code)

pub none_left : {X : Type 0} → (xs : List X) → length xs < 1 → xs ≡ []
none_left [] h = refl
none_left (x ∷ xs) h = absurd (omega arith)

-- what a name is found to be
pub found_is : (r : Option (Bor Meaning)) → option_map (λ x. meaning_view x.now) r ≡ option_map meaning_view (option_map (λ x. x.now) r)
found_is None = refl
found_is (Some m) = refl
