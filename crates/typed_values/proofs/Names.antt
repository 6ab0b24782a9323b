-- Names, what is hidden, and looking names up.
use Rattle.std.proofs.Common.{◌≡◌, List, [], ◌∷◌, ◌++◌, Bool, true, false, cond, Option, Some, ◌⊎◌, inl, inr, refl, sym, ap, ◌∙◌}
use Rattle.std.specs.Prelude.{◌||◌, ◌&&◌}
use Rattle.std.specs.List.{AllByRecursion}
use Rattle.std.specs.Map.{lookup}
use Rattle.std.specs.Option.{option_or}
use Rattle.std.proofs.lemmas.Slice.Eq.{bytes_eq-Decides}
use Rattle.elm_canon.specs.Names.{same_name, same_ref}
use Rattle.elm_canon.specs.declared.reference.Ref.{Ref}
use Rattle.elm_canon.specs.declared.reference.Ref.TheVariants.{Local, Top}
use Rattle.type_items.specs.Items.{Item}
use Rattle.type_items.specs.Scopes.{Entry, Entries}
use Rattle.type_items.specs.Solutions.{Solves}
use Rattle.typed_values.specs.Frames.{Frame}

pub yes_or_no : (b : Bool) → (b ≡ true) ⊎ (b ≡ false)
yes_or_no true = inl refl
yes_or_no false = inr refl

pub not_both : {X : Type 0} (b : Bool) → b ≡ true → b ≡ false → X
not_both b e f = absurd (let w : true ≡ false = sym e ∙ f in cc)

and_yes : (a b : Bool) → a ≡ true → b ≡ true → (a && b) ≡ true
and_yes a b e f = ap (λ c. c && b) e ∙ f

and_left : (a b : Bool) → (a && b) ≡ true → a ≡ true
and_left true b e = refl
and_left false b e = e

and_right : (a b : Bool) → (a && b) ≡ true → b ≡ true
and_right true b e = e
and_right false b e = absurd (let f : false ≡ true = e in cc)

pub not_or : (b c : Bool) → (b || c) ≡ false → (b ≡ false) × (c ≡ false)
not_or true c e = absurd (let w : true ≡ false = e in cc)
not_or false c e = (refl, e)

pub or_not : (b c : Bool) → b ≡ false → c ≡ false → (b || c) ≡ false
or_not b c e f = ap (λ d. d || c) e ∙ f

pub ref_itself : (x : Ref) → same_ref x x ≡ true
ref_itself (Local x) = (bytes_eq-Decides x x).1 refl
ref_itself (Top m x) = and_yes (same_name m m) (same_name x x) ((bytes_eq-Decides m m).1 refl) ((bytes_eq-Decides x x).1 refl)

pub same_refs : (x y : Ref) → same_ref x y ≡ true → x ≡ y
same_refs (Local x) (Local y) e = ap (λ z. Local z) ((bytes_eq-Decides x y).0 e)
same_refs (Local x) (Top n y) e = absurd (let f : false ≡ true = e in cc)
same_refs (Top m x) (Local y) e = absurd (let f : false ≡ true = e in cc)
same_refs (Top m x) (Top n y) e =
    let p : m ≡ n = (bytes_eq-Decides m n).0 (and_left (same_name m n) (same_name x y) e) in
    let q : x ≡ y = (bytes_eq-Decides x y).0 (and_right (same_name m n) (same_name x y) e) in
    cc

-- ---- what a name is found to be, among names or else elsewhere

abbrev pub found : Ref → Entries → Option Entry → Option Entry
found x names other = option_or (lookup (same_ref x) names) other

pub skip : (y x : Ref) (entry : Entry) (names : Entries) (other : Option Entry) → same_ref y x ≡ false
    → found y ((x, entry) ∷ names) other ≡ found y names other
skip y x entry names other e = ap (λ b. option_or (cond b (Some entry) (lookup (same_ref y) names)) other) e

pub first : (x : Ref) (entry : Entry) (names : Entries) (other : Option Entry) → found x ((x, entry) ∷ names) other ≡ Some entry
first x entry names other = ap (λ b. option_or (cond b (Some entry) (lookup (same_ref x) names)) other) (ref_itself x)

-- ---- lists of facts

pub all_left : {X : Type 0} (P : X → Type 0) (xs ys : List X) → AllByRecursion P (xs ++ ys) → AllByRecursion P xs
all_left P [] ys h = tt
all_left P (x ∷ xs) ys h = (h.0, all_left P xs ys h.1)

pub all_right : {X : Type 0} (P : X → Type 0) (xs ys : List X) → AllByRecursion P (xs ++ ys) → AllByRecursion P ys
all_right P [] ys h = h
all_right P (x ∷ xs) ys h = all_right P xs ys h.1

pub solves_left : (f : Frame) (is js : List Item) → Solves f.values (is ++ js) → Solves f.values is
solves_left f is js h = all_left _ is js h

pub solves_right : (f : Frame) (is js : List Item) → Solves f.values (is ++ js) → Solves f.values js
solves_right f is js h = all_right _ is js h
