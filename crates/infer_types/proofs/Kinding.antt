-- Kinds that are asked of variables, one after the other.
use Rattle.std.proofs.Common.{◌≡◌, ℕ, zero, suc, ◌+◌, ◌<◌, ◌≤◌, List, [], ◌∷◌, ◌++◌, length, map, take, drop, get_or}
use Rattle.std.proofs.Common.{Option, Some, None, refl, sym, ap, ◌∙◌, subst, arith, append-nil, append_assoc}
use Rattle.std.specs.List.{AllZip}
use Rattle.std.specs.Map.{lookup}
use Rattle.std.specs.Str.{bytes_eq}
use Rattle.std.proofs.lemmas.List.{take_more}
use Rattle.elm_base.specs.declared.position.Pos.{Pos}
use Rattle.elm_type.specs.Types.{Name, variable, Rigid, Fixed, Kind}
use Rattle.elm_type.specs.Ground.{lacks_all}
use Rattle.type_items.specs.Items.{Item, class_items, lack_items}
use Rattle.type_items.specs.Scopes.{Constants}
use Rattle.type_items.specs.Definitions.{constant_items}
use Rattle.type_store.specs.Shape.{IsStore}
use Rattle.type_walks.specs.Regions.{Region, none}
use Rattle.type_walks.specs.Links.{Links, Live, AreLive}
use Rattle.type_walks.specs.Walks.{Around, Walk}
use Rattle.type_walks.proofs.Walking.{rests}
use Rattle.type_constructs.specs.Passing.{NoSizes}
use Rattle.type_constructs.specs.Failing.{Bad, Fails}
use Rattle.type_constructs.proofs.Passing.{passes_plain}
use Rattle.type_constructs.proofs.Parts.{zip_both}
use Rattle.type_constructs.proofs.Sizes.{class_sizes, kind_sizes, sizes_both}
use Rattle.type_walks.specs.TypeStepsLaws.{Lacking}
use Rattle.infer_steps.specs.Codes.{Code, State}
use Rattle.infer_steps.specs.Ready.{Follows}
use Rattle.infer_steps.specs.Means.{MeansConstant}
use Rattle.infer_steps.specs.Asked.{AsksLacks, RefusesLacks}
use Rattle.infer_steps.proofs.Stepping.{follows_itself, follows_on, still_live}
use Rattle.infer_steps.proofs.Lacking.{both_walks, fails_later}
use Rattle.infer_steps.specs.Operators.{AsksClassItems}
use Rattle.infer_types.specs.Asking.{AsksKind, RefusesKind, AsksName, RefusesName, items_of}
use Rattle.infer_types.specs.Asking.{AsksAround, RefusesAround}

-- ---- of one variable

module _ (old one new : State) (pos : Pos) (v : ℕ) (k : Kind) (class : AsksClassItems old one pos v k.class) where
  pub kind_asked : AsksLacks one new pos v k.lacks → AsksKind old new pos v k
  kind_asked lacks = record {
    follows = follows_on old one new class.follows lacks.follows;
    lacking = record { each = λ σ f. (lacks.back σ f).1 };
    walk = λ a links t e live has. (
        let w = class.walk a links t e live has in
        let z = lacks.walk a links t (e ∙ sym class.follows.depth) (w.live live) has in
        both_walks a (class_items pos t k.class) (lack_items pos t k.lacks) old.store one.store new.store links links
        links live w z);
  }

  pub kind_refused : (bad : Bad) → RefusesLacks one new pos v k.lacks bad → RefusesKind old new pos v k bad
  kind_refused bad refuses = record {
    fails = λ a links Q t rest e live has. (
        let w = class.walk a links t e live has in
        subst (λ l. Fails a old.store links Q l bad new.store)
        (sym (append_assoc (class_items pos t k.class) (lack_items pos t k.lacks) rest))
        (fails_later a Q (class_items pos t k.class) (lack_items pos t k.lacks ++ rest) old.store one.store new.store
        links links bad w
        (passes_plain a old.store links none (class_items pos t k.class) (class_sizes pos t k.class))
        (refuses.fails a links Q t rest (e ∙ sym class.follows.depth) (w.live live) has)));
  }

-- ---- of the variables of annotations around

module _ (code : Code) (pos : Pos) (x : Name) (k : Kind) where
  none_asked : (s : State) (a : Around) (links : Links) (o : Option Rigid) → MeansConstant links None o
      → Walk a none (constant_items pos o k) s.store links s.store links
  none_asked s a links None h = rests a s.store links
  none_asked s a links (Some r) h = absurd h

  pub no_name : (s : State) → IsStore s.store → code.constants x ≡ None → AsksName code s s pos x k
  no_name s whole none = record {
    follows = follows_itself s whole;
    lacking = λ v is. (let both : None ≡ Some v = sym none ∙ is in absurd cc);
    walk = λ a links around e live means.
        none_asked s a links (lookup (bytes_eq x) around)
        (subst (λ o. MeansConstant links o (lookup (bytes_eq x) around)) none (means x));
  }

  module _ (old new : State) (v : ℕ) (some : code.constants x ≡ Some v) where
    same_variable : (w : ℕ) → code.constants x ≡ Some w → v ≡ w
    same_variable w is = ap (λ o. value_or o v) (sym some ∙ is)
      where
        value_or : Option ℕ → ℕ → ℕ
        value_or None d = d
        value_or (Some y) d = y

    one_asked : AsksKind old new pos v k → (a : Around) (links : Links) (o : Option Rigid) → a.depth ≡ old.depth
        → AreLive a.depth old.store links
        → MeansConstant links (Some v) o → Walk a none (constant_items pos o k) old.store links new.store links
    one_asked asks a links None e live h = absurd h
    one_asked asks a links (Some r) e live h = asks.walk a links (variable (Fixed r)) e live h

    pub name_asked : AsksKind old new pos v k → AsksName code old new pos x k
    name_asked asks = record {
      follows = asks.follows;
      lacking = λ w is. subst (λ u. Lacking new.store u k.lacks) (same_variable w is) asks.lacking;
      walk = λ a links around e live means.
          one_asked asks a links (lookup (bytes_eq x) around) e live
          (subst (λ o. MeansConstant links o (lookup (bytes_eq x) around)) some (means x));
    }

    one_refused : (bad : Bad) → RefusesKind old new pos v k bad → (a : Around) (links : Links) (Q : Region)
        (o : Option Rigid) (rest : List Item) → a.depth ≡ old.depth
        → AreLive a.depth old.store links → MeansConstant links (Some v) o → Fails a old.store links Q
        (constant_items pos o k ++ rest) bad new.store
    one_refused bad refuses a links Q None rest e live h = absurd h
    one_refused bad refuses a links Q (Some r) rest e live h =
        refuses.fails a links Q (variable (Fixed r)) rest e live h

    pub name_refused : (bad : Bad) → RefusesKind old new pos v k bad → RefusesName code old new pos x k bad
    name_refused bad refuses = record {
      fails = λ a links around Q rest e live means.
          one_refused bad refuses a links Q (lookup (bytes_eq x) around) rest e live
          (subst (λ c. MeansConstant links c (lookup (bytes_eq x) around)) some (means x));
    }

-- ---- one more

constant_sizes : (pos : Pos) (o : Option Rigid) (k : Kind) → NoSizes (constant_items pos o k)
constant_sizes pos None k = tt
constant_sizes pos (Some r) k = kind_sizes pos (variable (Fixed r)) k

pub items_sizes : (pos : Pos) (around : Constants) (xs : List Name) (ks : List Kind)
    → NoSizes (items_of pos around xs ks)
items_sizes pos around [] ks = tt
items_sizes pos around (x ∷ xs) [] = tt
items_sizes pos around (x ∷ xs) (k ∷ ks) =
    sizes_both (constant_items pos (lookup (bytes_eq x) around) k) (items_of pos around xs ks)
    (constant_sizes pos (lookup (bytes_eq x) around) k)
    (items_sizes pos around xs ks)

items_before : (pos : Pos) (around : Constants) (xs ys : List Name) (ks ls : List Kind) → length ks ≡ length xs
    → items_of pos around (xs ++ ys) (ks ++ ls) ≡ items_of pos around xs ks ++ items_of pos around ys ls
items_before pos around [] ys [] ls e = refl
items_before pos around [] ys (k ∷ ks) ls e = absurd (omega (arith, e))
items_before pos around (x ∷ xs) ys [] ls e = absurd (omega (arith, e))
items_before pos around (x ∷ xs) ys (k ∷ ks) ls e =
    ap (λ l. constant_items pos (lookup (bytes_eq x) around) k ++ l)
    (items_before pos around xs ys ks ls (omega (arith, e)))
    ∙ sym (append_assoc (constant_items pos (lookup (bytes_eq x) around) k) (items_of pos around xs ks)
    (items_of pos around ys ls))

pub nothing_asked : (code : Code) (pos : Pos) (s : State) → IsStore s.store → AsksAround code s s pos [] []
nothing_asked code pos s whole = record {
  follows = follows_itself s whole;
  lacking = tt;
  walk = λ a links around e live means. rests a s.store links;
}

module _ (code : Code) (old u new : State) (pos : Pos) (xs : List Name) (ks : List Kind) (x : Name) (k : Kind)
    (many : length ks ≡ length xs)
    (one : AsksAround code old u pos xs ks) where
  still : (live : (y : Name) (v : ℕ) → code.constants y ≡ Some v → Live u.depth u.store v) → Follows u new
      → (ys : List Name) (ls : List Kind)
      → AllZip (λ y (l : Kind). (v : ℕ) → code.constants y ≡ Some v → Lacking u.store v l.lacks) ys ls
      → AllZip (λ y (l : Kind). (v : ℕ) → code.constants y ≡ Some v → Lacking new.store v l.lacks) ys ls
  still live f [] [] h = tt
  still live f [] (l ∷ ls) h = h
  still live f (y ∷ ys) [] h = h
  still live f (y ∷ ys) (l ∷ ls) h = (
    λ v is. record {
      each = λ σ g. (
          let r = f.back σ g in
          ap (lacks_all l.lacks) (r.agree.types v (live y v is)) ∙ (h.0 v is).each r.values r.fit);
    },
    still live f ys ls h.1,
  )

  pub one_more_asked : ((y : Name) (v : ℕ) → code.constants y ≡ Some v → Live u.depth u.store v)
      → AsksName code u new pos x k
      → AsksAround code old new pos (xs ++ x ∷ []) (ks ++ k ∷ [])
  one_more_asked live two = record {
    follows = follows_on old u new one.follows two.follows;
    lacking =
        zip_both (λ y (l : Kind). (v : ℕ) → code.constants y ≡ Some v → Lacking new.store v l.lacks) xs (x ∷ []) ks
        (k ∷ [])
        (still live two.follows xs ks one.lacking) (two.lacking, tt);
    walk = λ a links around e there means. (
        let w = one.walk a links around e there means in
        let z = two.walk a links around (e ∙ sym one.follows.depth) (w.live there) means in
        subst (λ l. Walk a none l old.store links new.store links)
        (sym (items_before pos around xs (x ∷ []) ks (k ∷ []) many ∙ ap (λ l. items_of pos around xs ks ++ l)
        (append-nil (constant_items pos (lookup (bytes_eq x) around) k))))
        (both_walks a (items_of pos around xs ks) (constant_items pos (lookup (bytes_eq x) around) k) old.store u.store
        new.store links links links there w z));
  }

  pub around_refused : (ys : List Name) (ls : List Kind) (bad : Bad) → RefusesName code u new pos x k bad
      → RefusesAround code old new pos (xs ++ x ∷ ys) (ks ++ k ∷ ls) bad
  around_refused ys ls bad refuses = record {
    fails = λ a links around Q rest e there means. (
        let w = one.walk a links around e there means in
        let o = lookup (bytes_eq x) around in
        let first = items_of pos around xs ks in
        let stops = refuses.fails a links around Q (items_of pos around ys ls ++ rest) (e ∙ sym one.follows.depth)
        (w.live there) means in
        subst (λ l. Fails a old.store links Q l bad new.store)
        (ap (λ l. first ++ l) (sym (append_assoc (constant_items pos o k) (items_of pos around ys ls) rest))
        ∙ (sym (append_assoc first (constant_items pos o k ++ items_of pos around ys ls) rest)
        ∙ ap (λ l. l ++ rest) (sym (items_before pos around xs (x ∷ ys) ks (k ∷ ls) many))))
        (fails_later a Q first (constant_items pos o k ++ (items_of pos around ys ls ++ rest)) old.store u.store
        new.store links links bad w
        (passes_plain a old.store links none first (items_sizes pos around xs ks)) stops));
  }

-- ---- in a loop

split_at : {X : Type 0} (xs : List X) (i : ℕ) (x : X) → i < length xs → x ≡ get_or xs i x
    → xs ≡ take i xs ++ x ∷ drop (suc i) xs
split_at [] i x l is = absurd (omega (arith, l))
split_at (y ∷ xs) zero x l is = ap (λ z. z ∷ xs) (sym is)
split_at (y ∷ xs) (suc i) x l is = ap (λ zs. y ∷ zs) (split_at xs i x (omega (arith, l)) is)

took : {X : Type 0} (i : ℕ) (xs : List X) → i ≤ length xs → length (take i xs) ≡ i
took zero xs l = refl
took (suc i) [] l = absurd (omega (arith, l))
took (suc i) (x ∷ xs) l = ap suc (took i xs (omega (arith, l)))

module _ (code : Code) (old u new : State) (pos : Pos) (xs : List Name) (ks : List Kind) (i : ℕ) (x : Name) (k : Kind)
    (many : length ks ≡ length xs) (l : i < length xs)
    (named : x ≡ get_or xs i x) (kind : k ≡ get_or ks i k) (one : AsksAround code old u pos (take i xs) (take i ks))
  where
    as_many : length (take i ks) ≡ length (take i xs)
    as_many = took i ks (omega (arith, l, many)) ∙ sym (took i xs (omega (arith, l)))

    pub asked_next : ((y : Name) (v : ℕ) → code.constants y ≡ Some v → Live old.depth old.store v)
        → AsksName code u new pos x k
        → AsksAround code old new pos (take (i + 1) xs) (take (i + 1) ks)
    asked_next live two =
        subst (λ ys. AsksAround code old new pos ys (take (i + 1) ks))
        (sym (take_more xs i x l ∙ ap (λ y. take i xs ++ y ∷ []) (sym named)))
        (subst (λ ls. AsksAround code old new pos (take i xs ++ x ∷ []) ls)
        (sym (take_more ks i k (omega (arith, l, many)) ∙ ap (λ y. take i ks ++ y ∷ []) (sym kind)))
        (one_more_asked code old u new pos (take i xs) (take i ks) x k as_many one
        (λ y v is. still_live old u v one.follows (live y v is)) two))

    pub refused_at : (bad : Bad) → RefusesName code u new pos x k bad → RefusesAround code old new pos xs ks bad
    refused_at bad refuses =
        subst (λ ys. RefusesAround code old new pos ys ks bad) (sym (split_at xs i x l named))
        (subst (λ ls. RefusesAround code old new pos (take i xs ++ x ∷ drop (suc i) xs) ls bad)
        (sym (split_at ks i k (omega (arith, l, many)) kind))
        (around_refused code old u new pos (take i xs) (take i ks) x k as_many one (drop (suc i) xs) (drop (suc i) ks)
        bad
        refuses))

pub at_view : {X Y : Type 0} (f : X → Y) (xs : List X) (i : ℕ) (x : X) → x ≡ get_or xs i x
    → f x ≡ get_or (map f xs) i (f x)
at_view f [] i x e = refl
at_view f (y ∷ xs) zero x e = ap f e
at_view f (y ∷ xs) (suc i) x e = at_view f xs i x e

pub take_all : {X : Type 0} (n : ℕ) (xs : List X) → length xs ≤ n → take n xs ≡ xs
take_all zero [] h = refl
take_all zero (x ∷ xs) h = absurd (omega (arith, h))
take_all (suc n) [] h = refl
take_all (suc n) (x ∷ xs) h = ap (λ ys. x ∷ ys) (take_all n xs (omega (arith, h)))
