-- The tests that comparisons are made of.
use Rattle.std.proofs.Common.{◌≡◌, ℕ, List, [], ◌∷◌, Bool, true, false, ℤ, pos, negsuc, ◌&&◌, refl, sym, ap, ◌∙◌, eqb-true, eq-eqb}
use Rattle.std.specs.Prelude.{Decides}
use Rattle.std.specs.Bool.{one_answer}
use Rattle.std.specs.Ordering.{nat_cmp, int_cmp, is_eq}
use Rattle.std.specs.Cmp.{signed_Decides, unsigned_ties}
use Rattle.std.specs.Cmp.Lexicographic.{slice_cmp, lists_ties}
use Rattle.std.specs.Str.{bytes_eq}
use Rattle.std.proofs.lemmas.Slice.Eq.{bytes_eq-Decides}
use Rattle.runs.specs.Numbers.{is_number}
use Rattle.elm_canon.specs.Names.{Name}
use Rattle.elm_canon.specs.declared.unions.Tag.{Tag}
use Rattle.elm_canon.specs.declared.unions.Tag.TheVariants.{Number, Truth, Blank}
use Rattle.elm_meaning.specs.Seen.{Seens, NoSeen, MoreSeen, same_bool, same_tag, same_kind, same_count}
use Rattle.elm_meaning.specs.Equal.{same_names}

pub not_true : {X : Type 0} → false ≡ true → X
not_true e = absurd (let w : false ≡ true = e in cc)

pub left_so : (a b : Bool) → (a && b) ≡ true → a ≡ true
left_so true b e = refl
left_so false b e = e

pub right_so : (a b : Bool) → (a && b) ≡ true → b ≡ true
right_so true b e = e
right_so false b e = not_true e

pub both_so : (a b : Bool) → a ≡ true → b ≡ true → (a && b) ≡ true
both_so a b e f = ap (λ (x : Bool). x && b) e ∙ f

-- ---- numbers and texts

pub number_Decides : (m n : ℤ) → Decides (is_number m n) (m ≡ n)
number_Decides (pos a) (pos b) = (λ e. ap pos (eqb-true a b e), λ e. eq-eqb a b cc)
number_Decides (pos a) (negsuc b) = (λ e. not_true e, λ e. absurd cc)
number_Decides (negsuc a) (pos b) = (λ e. not_true e, λ e. absurd cc)
number_Decides (negsuc a) (negsuc b) = (λ e. ap negsuc (eqb-true a b e), λ e. eq-eqb a b cc)

-- what decides x ≡ y decides y ≡ x
pub turned : {X : Type 0} (test : X → X → Bool) → ((x y : X) → Decides (test x y) (x ≡ y)) → (x y : X) → test x y ≡ test y x
turned test decides x y =
    one_answer (test x y) (test y x) (decides x y) (λ e. sym ((decides y x).0 e), λ e. (decides y x).1 (sym e))

pub number_by_order : (m n : ℤ) → is_number m n ≡ is_eq (int_cmp m n)
number_by_order m n = one_answer (is_number m n) (is_eq (int_cmp m n)) (number_Decides m n) (signed_Decides m n)

pub text_by_order : (s t : List ℕ) → bytes_eq s t ≡ is_eq (slice_cmp nat_cmp s t)
text_by_order s t = lists_ties nat_cmp unsigned_ties s t

pub name_itself : (x : Name) → bytes_eq x x ≡ true
name_itself x = (bytes_eq-Decides x x).1 refl

pub names_itself : (xs : List Name) → same_names xs xs ≡ true
names_itself [] = refl
names_itself (x ∷ xs) = both_so (bytes_eq x x) (same_names xs xs) (name_itself x) (names_itself xs)

pub names_same : (xs ys : List Name) → same_names xs ys ≡ true → xs ≡ ys
names_same [] [] e = refl
names_same [] (y ∷ ys) e = not_true e
names_same (x ∷ xs) [] e = not_true e
names_same (x ∷ xs) (y ∷ ys) e =
    let f : x ≡ y = (bytes_eq-Decides x y).0 (left_so (bytes_eq x y) (same_names xs ys) e) in
    let g : xs ≡ ys = names_same xs ys (right_so (bytes_eq x y) (same_names xs ys) e) in
    cc

pub names_Decides : (xs ys : List Name) → Decides (same_names xs ys) (xs ≡ ys)
names_Decides xs ys = (names_same xs ys, λ e. ap (λ zs. same_names xs zs) (sym e) ∙ names_itself xs)

-- ---- tags

pub bool_Decides : (a b : Bool) → Decides (same_bool a b) (a ≡ b)
bool_Decides true true = (λ e. refl, λ e. refl)
bool_Decides true false = (λ e. not_true e, λ e. absurd cc)
bool_Decides false true = (λ e. not_true e, λ e. absurd cc)
bool_Decides false false = (λ e. refl, λ e. refl)

pub tag_same : (s t : Tag) → same_tag s t ≡ true → s ≡ t
tag_same (Number m) (Number n) e = ap (λ z. Number z) ((number_Decides m n).0 e)
tag_same (Number m) (Truth b) e = not_true e
tag_same (Number m) Blank e = not_true e
tag_same (Truth a) (Number n) e = not_true e
tag_same (Truth a) (Truth b) e = ap (λ z. Truth z) ((bool_Decides a b).0 e)
tag_same (Truth a) Blank e = not_true e
tag_same Blank (Number n) e = not_true e
tag_same Blank (Truth b) e = not_true e
tag_same Blank Blank e = refl

pub tag_itself : (t : Tag) → same_tag t t ≡ true
tag_itself (Number n) = (number_Decides n n).1 refl
tag_itself (Truth true) = refl
tag_itself (Truth false) = refl
tag_itself Blank = refl

pub tag_Decides : (s t : Tag) → Decides (same_tag s t) (s ≡ t)
tag_Decides s t = (tag_same s t, λ e. ap (λ u. same_tag s u) (sym e) ∙ tag_itself s)

pub kind_turned : (s t : Tag) → same_kind s t ≡ same_kind t s
kind_turned (Number m) (Number n) = refl
kind_turned (Number m) (Truth b) = refl
kind_turned (Number m) Blank = refl
kind_turned (Truth a) (Number n) = refl
kind_turned (Truth a) (Truth b) = refl
kind_turned (Truth a) Blank = refl
kind_turned Blank (Number n) = refl
kind_turned Blank (Truth b) = refl
kind_turned Blank Blank = refl

-- ---- counts

pub count_itself : (xs : Seens) → same_count xs xs ≡ true
count_itself NoSeen = refl
count_itself (MoreSeen x xs) = count_itself xs

pub count_turned : (xs ys : Seens) → same_count xs ys ≡ same_count ys xs
count_turned NoSeen NoSeen = refl
count_turned NoSeen (MoreSeen y ys) = refl
count_turned (MoreSeen x xs) NoSeen = refl
count_turned (MoreSeen x xs) (MoreSeen y ys) = count_turned xs ys

pub count_chain : (xs ys zs : Seens) → same_count xs ys ≡ true → same_count ys zs ≡ true → same_count xs zs ≡ true
count_chain NoSeen NoSeen zs e f = f
count_chain NoSeen (MoreSeen y ys) zs e f = not_true e
count_chain (MoreSeen x xs) NoSeen zs e f = not_true e
count_chain (MoreSeen x xs) (MoreSeen y ys) NoSeen e f = f
count_chain (MoreSeen x xs) (MoreSeen y ys) (MoreSeen z zs) e f = count_chain xs ys zs e f
