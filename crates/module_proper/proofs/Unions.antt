-- Unions that are written have constructors of their own: each has its own tag, all of one kind.
use Rattle.std.proofs.Common.{◌≡◌, ℕ, zero, suc, ◌<◌, ◌≤◌, List, [], ◌∷◌, map, length, Bool, true, false, pos, negsuc}
use Rattle.std.proofs.Common.{refl, sym, ap, ◌∙◌, subst, ⊎_elim, arith}
use Rattle.std.specs.Prelude.{◌&&◌, ◌||◌, ◌==◌, if◌then◌else◌, not, nat_eq, nat_lt, ◌+◌, codes}
use Rattle.std.specs.List.{Contains, list_all, enumerate_from}
use Rattle.std.proofs.lemmas.Bool.Decides.{nat_tests}
use Rattle.std.proofs.Common.{eq-eqb}
use Rattle.decl_groups.proofs.Basics.{no_member, first_member, later_member, member_cases}
use Rattle.decl_groups.proofs.Reaching.{and_both, or_first, or_second}
use Rattle.elm_tree.specs.Tree.{Declaration, Value, Port, Union, Alias, ConstructorOf}
use Rattle.elm_canon.specs.Names.{Name}
use Rattle.elm_canon.specs.Unions as union
use Rattle.elm_canon.specs.Unions.{Declared}
use Rattle.elm_canon.specs.declared.unions.Tag.{Tag}
use Rattle.elm_canon.specs.declared.unions.Tag.TheVariants.{Number, Truth}
use Rattle.elm_canon.specs.declared.unions.Alternative.{Alternative}
use Rattle.canon_env.specs.Imports.{name_of}
use Rattle.canon_env.specs.Naming.{World}
use Rattle.canon_type.specs.Unions.{is_type, type_count, unions_in, union_of}
use Rattle.elm_canon.specs.Constructors.{same_tag, same_kind, same_truth, is_exact_tag, is_exact_alternative, has_tag}
use Rattle.elm_canon.specs.Constructors.{are_apart, is_one_of, is_constructor}
use Rattle.canon_proper.specs.Rows.{AreConstructors, AreUnions}
use Rattle.module_proper.specs.Counted.{HaveFewer, AllHaveFew}

-- ---- tags by place

pub record IsTagging (f : ℕ → Tag) (limit : ℕ) : Type 0 where
  pub apart : (i j : ℕ) → i < j → j < limit → same_tag (f i) (f j) ≡ false
  pub itself : (i : ℕ) → same_tag (f i) (f i) ≡ true
  pub kind : (i j : ℕ) → same_kind (f i) (f j) ≡ true
  pub exact : (i : ℕ) → i < limit → is_exact_tag (f i) ≡ true

differ : (i j : ℕ) → i < j → nat_eq i j ≡ false
differ i j l = grind (arith, nat_tests)

is_below : (i n : ℕ) → i < n → nat_lt i n ≡ true
is_below i n l = grind (arith, nat_tests)

numbers : IsTagging (λ i. Number (pos i)) 9007199254740991
numbers = record {
  apart = λ i j l m. differ i j l;
  itself = λ i. eq-eqb i i refl;
  kind = λ i j. refl;
  exact = λ i l. grind (arith, nat_tests);
}

negatives : IsTagging (λ i. Number (negsuc i)) 9007199254740991
negatives = record {
  apart = λ i j l m. differ i j l;
  itself = λ i. eq-eqb i i refl;
  kind = λ i j. refl;
  exact = λ i l. is_below i 9007199254740991 l;
}

not_first : (j : ℕ) → nat_eq (suc j) 0 ≡ false
not_first j = grind (arith, nat_tests)

truths : IsTagging (λ i. Truth (nat_eq i 0)) 2
truths = record {
  apart = other;
  itself = λ i. same (nat_eq i 0);
  kind = λ i j. refl;
  exact = λ i l. refl;
}
  where
    same : (b : Bool) → same_truth b b ≡ true
    same true = refl
    same false = refl

    other : (i j : ℕ) → i < j → j < 2 → same_truth (nat_eq i 0) (nat_eq j 0) ≡ false
    other zero zero l m = absurd (omega (arith, l))
    other zero (suc j) l m = not_first j
    other (suc i) j l m = absurd (omega (arith, l, m))

-- ---- constructors with such tags

abbrev tagged : (ℕ → Tag) → ℕ × ConstructorOf → Alternative
tagged f c = record { name = name_of c.1.name; tag = f c.0; arity = type_count c.1.fields }

abbrev all_tagged : (ℕ → Tag) → ℕ → List ConstructorOf → List Alternative
all_tagged f k cs = map (tagged f) (enumerate_from k cs)

-- those whose tags are no numbers have no fields
abbrev ArePlain : (ℕ → Tag) → List ConstructorOf → Type 0
ArePlain f [] = Unit {0}
ArePlain f (c ∷ cs) =
    ((i : ℕ) → (same_kind (f i) (Number (pos 0)) || type_count c.fields == 0) ≡ true) × ArePlain f cs

one_of : (a : Alternative) (cs : List Alternative) → Contains cs a → same_tag a.tag a.tag ≡ true →
    is_one_of a cs ≡ true
one_of a [] m s = absurd (no_member a m)
one_of a (c ∷ cs) m s =
    ⊎_elim
    (λ e. or_first (same_tag a.tag c.tag && (a.arity == c.arity)) (is_one_of a cs)
    (subst (λ (b : Alternative). (same_tag a.tag b.tag && (a.arity == b.arity)) ≡ true) (sym e)
    (and_both (same_tag a.tag a.tag) (a.arity == a.arity) s (eq-eqb a.arity a.arity refl))))
    (λ n. or_second (same_tag a.tag c.tag && (a.arity == c.arity)) (is_one_of a cs) (one_of a cs n s))
    (member_cases c a cs m)

all_are : (u : union.Union) (cs : List Alternative) → ((c : Alternative) → Contains cs c → is_constructor u c ≡ true) →
    AreConstructors u cs
all_are u [] f = tt
all_are u (c ∷ cs) f = (f c (first_member c cs), all_are u cs (λ a m. f a (later_member c a cs m)))

-- a tag of some place, and few fields
abbrev IsOf : (ℕ → Tag) → Alternative → Type 0
IsOf f a = (i : ℕ) × (a.tag ≡ f i) × (a.arity < 4294967296)

each_of : (f : ℕ → Tag) (k : ℕ) (cs : List ConstructorOf) → HaveFewer 4294967296 cs → (a : Alternative) →
    Contains (all_tagged f k cs) a → IsOf f a
each_of f k [] h a m = absurd (no_member a m)
each_of f k (c ∷ cs) h a m =
    ⊎_elim (λ e. subst (IsOf f) e (k, refl, h.0)) (λ n. each_of f (k + 1) cs h.1 a n)
    (member_cases (tagged f (k, c)) a (all_tagged f (k + 1) cs) m)

module _ (f : ℕ → Tag) (limit : ℕ) (t : IsTagging f limit) where
  no_tag : (i k : ℕ) (cs : List ConstructorOf) → i < k → k + length cs ≤ limit →
      has_tag (f i) (all_tagged f k cs) ≡ false
  no_tag i k [] l m = refl
  no_tag i k (c ∷ cs) l m =
      ap (λ b. b || has_tag (f i) (all_tagged f (k + 1) cs)) (t.apart i k l (omega arith))
      ∙ no_tag i (k + 1) cs (omega arith) (omega arith)

  tags_apart : (k : ℕ) (cs : List ConstructorOf) → k + length cs ≤ limit → ArePlain f cs →
      are_apart (all_tagged f k cs) ≡ true
  tags_apart k [] m p = refl
  tags_apart k (c ∷ cs) m p =
      and_both (is_exact_alternative (tagged f (k, c))) _
      (and_both (is_exact_tag (f k)) _ (t.exact k (omega arith)) (p.0 k))
      (and_both (not (has_tag (f k) (all_tagged f (k + 1) cs))) (are_apart (all_tagged f (k + 1) cs))
      (ap not (no_tag k (k + 1) cs (omega arith) (omega arith))) (tags_apart (k + 1) cs (omega arith) p.1))

  one_kind : (i k : ℕ) (cs : List ConstructorOf) →
      list_all (λ (b : Alternative). same_kind (f i) b.tag) (all_tagged f k cs) ≡ true
  one_kind i k [] = refl
  one_kind i k (c ∷ cs) =
      and_both (same_kind (f i) (f k)) (list_all (λ (b : Alternative). same_kind (f i) b.tag) (all_tagged f (k + 1) cs))
      (t.kind i k) (one_kind i (k + 1) cs)

  tagged_are : (home x : Name) (cs : List ConstructorOf) → length cs ≤ limit → ArePlain f cs →
      HaveFewer 4294967296 cs → AreConstructors (Declared home x (all_tagged f 0 cs)) (all_tagged f 0 cs)
  tagged_are home x cs m p h =
      all_are (Declared home x (all_tagged f 0 cs)) (all_tagged f 0 cs)
      (λ a n.
      let o = each_of f 0 cs h a n in
      let all = all_tagged f 0 cs in
      and_both (are_apart all && list_all (λ (b : Alternative). same_kind a.tag b.tag) all)
      (is_one_of a all && nat_lt a.arity 4294967296)
      (and_both (are_apart all) (list_all (λ (b : Alternative). same_kind a.tag b.tag) all)
      (tags_apart 0 cs (omega arith) p)
      (subst (λ z. list_all (λ (b : Alternative). same_kind z b.tag) all ≡ true) (sym o.1) (one_kind o.0 0 cs)))
      (and_both (is_one_of a all) (nat_lt a.arity 4294967296)
      (one_of a all n (subst (λ z. same_tag z z ≡ true) (sym o.1) (t.itself o.0)))
      (is_below a.arity 4294967296 o.2)))

-- ---- the tags of unions

abbrev tags : Bool → Bool → ℕ → Tag
tags a b i = if a then Truth (nat_eq i 0) else (if b then Number (negsuc i) else Number (pos i))

number_plain : (b : Bool) (cs : List ConstructorOf) → ArePlain (λ i. tags false b i) cs
number_plain b [] = tt
number_plain true (c ∷ cs) = ((λ i. refl), number_plain true cs)
number_plain false (c ∷ cs) = ((λ i. refl), number_plain false cs)

no_fields : (n : ℕ) → n < 1 → (n == 0) ≡ true
no_fields zero l = refl
no_fields (suc n) l = absurd (omega (arith, l))

truth_plain : (b : Bool) (cs : List ConstructorOf) → HaveFewer 1 cs → ArePlain (λ i. tags true b i) cs
truth_plain b [] h = tt
truth_plain b (c ∷ cs) h = ((λ i. no_fields (type_count c.fields) h.0), truth_plain b cs h.1)

by_tags : (home x : Name) (cs : List ConstructorOf) (a b : Bool) → length cs ≤ 9007199254740991 →
    HaveFewer 4294967296 cs → (a ≡ true → (length cs ≤ 2) × HaveFewer 1 cs) →
    AreConstructors (Declared home x (all_tagged (λ i. tags a b i) 0 cs)) (all_tagged (λ i. tags a b i) 0 cs)
by_tags home x cs true b m h few =
    tagged_are (λ i. tags true b i) 2 truths home x cs (few refl).0 (truth_plain b cs (few refl).1) h
by_tags home x cs false true m h few =
    tagged_are (λ i. tags false true i) 9007199254740991 negatives home x cs m (number_plain true cs) h
by_tags home x cs false false m h few =
    tagged_are (λ i. tags false false i) 9007199254740991 numbers home x cs m (number_plain false cs) h

pub unions_are : (home : Name) (w : World) (ds : List Declaration) → AllHaveFew home ds →
    AreUnions (map (union_of home w) (unions_in ds))
unions_are home w [] f = tt
unions_are home w (Value d ∷ ds) f = unions_are home w ds f.1
unions_are home w (Port x t ∷ ds) f = unions_are home w ds f.1
unions_are home w (Alias x ps t ∷ ds) f = unions_are home w ds f.1
unions_are home w (Union x ps cs ∷ ds) f = (
  by_tags home (name_of x) cs (is_type (codes "Basics") (codes "Bool") home (name_of x))
      (is_type (codes "Dict") (codes "Dict") home (name_of x)) f.0.many f.0.fields f.0.truths,
  unions_are home w ds f.1,
)
