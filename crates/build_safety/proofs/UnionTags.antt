-- The constructors of a union, by their numbers: `unions_tagged`.
use Rattle.std.proofs.Common.{◌≡◌, ℕ, zero, suc, pos, negsuc, ◌+◌, ◌<◌, ◌≤◌, List, [], ◌∷◌, map, length, Bool, true, false}
use Rattle.std.proofs.Common.{◌⊎◌, inl, inr, codes, refl, sym, ap, ◌∙◌, subst, arith, eqb-true, if◌then◌else◌}
use Rattle.std.specs.Prelude.{nat_eq}
use Rattle.std.specs.List.{zip, enumerate_from}
use Rattle.elm_tree.specs.Tree as tree
use Rattle.elm_tree.specs.Tree.{Declaration, Value, Port, Union, Alias, TypeTrees, ConstructorOf}
use Rattle.elm_canon.specs.Names.{Name}
use Rattle.elm_canon.specs.Tree.{UnionDeclaration}
use Rattle.elm_canon.specs.declared.unions.Tag.{Tag}
use Rattle.elm_canon.specs.declared.unions.Tag.TheVariants.{Number, Truth}
use Rattle.elm_type.specs.Types.{ElmType}
use Rattle.elm_meaning.specs.Seen.{same_tag, same_kind}
use Rattle.canon_env.specs.Imports.{name_of}
use Rattle.canon_env.specs.Naming.{World}
use Rattle.canon_env.specs.Types.{types_of}
use Rattle.canon_type.specs.Unions.{is_type, tag_of, type_count, alternative_of, fields_of, unions_in, union_of}
use Rattle.canon_module.specs.Resolve.{world_of}
use Rattle.module_proper.specs.Counted.{HaveFewer, AllHaveFew}
use Rattle.typed_values.specs.World.{Constructor, Among, is_negative}
use Rattle.told_modules.specs.Schemes.{types_in, constructor_of}
use Rattle.build_safety.specs.BuildWorlds.{constructors}
use Rattle.build_safety.specs.UnionTags.{AreTagged, UnionsAreTagged}

-- ---- tags by numbers

-- the truth values are two
abbrev IsLow : Name → Name → ℕ → Type 0
IsLow m x i = is_type (codes "Basics") (codes "Bool") m x ≡ true → i < 2

one_truth : (i j : ℕ) → i < 2 → j < 2 → same_tag (Truth (nat_eq i 0)) (Truth (nat_eq j 0)) ≡ true → i ≡ j
one_truth zero zero l k e = refl
one_truth zero (suc zero) l k e = absurd cc
one_truth zero (suc (suc j)) l k e = absurd (omega (arith, k))
one_truth (suc zero) zero l k e = absurd cc
one_truth (suc (suc i)) j l k e = absurd (omega (arith, l))
one_truth (suc zero) (suc zero) l k e = refl
one_truth (suc zero) (suc (suc j)) l k e = absurd (omega (arith, k))

module _ (m x : Name) where
  one_number : (i j : ℕ) → IsLow m x i → IsLow m x j → same_tag (tag_of m x i) (tag_of m x j) ≡ true → i ≡ j
  one_number i j l k e =
      by (is_type (codes "Basics") (codes "Bool") m x) (is_type (codes "Dict") (codes "Dict") m x) l k e
    where
      by : (b c : Bool) → (b ≡ true → i < 2) → (b ≡ true → j < 2) →
          same_tag (if b then Truth (nat_eq i 0) else (if c then Number (negsuc i) else Number (pos i)))
          (if b then Truth (nat_eq j 0) else (if c then Number (negsuc j) else Number (pos j))) ≡ true → i ≡ j
      by true c f g h = one_truth i j (f refl) (g refl) h
      by false true f g h = eqb-true i j h
      by false false f g h = eqb-true i j h

  all_alike : (i j : ℕ) → same_kind (tag_of m x i) (tag_of m x j) ≡ true
  all_alike i j = by (is_type (codes "Basics") (codes "Bool") m x) (is_type (codes "Dict") (codes "Dict") m x)
    where
      by : (b c : Bool) →
          same_kind (if b then Truth (nat_eq i 0) else (if c then Number (negsuc i) else Number (pos i)))
          (if b then Truth (nat_eq j 0) else (if c then Number (negsuc j) else Number (pos j))) ≡ true
      by true c = refl
      by false true = refl
      by false false = refl

  one_sign : (i j : ℕ) → is_negative (tag_of m x i) ≡ is_negative (tag_of m x j)
  one_sign i j = by (is_type (codes "Basics") (codes "Bool") m x) (is_type (codes "Dict") (codes "Dict") m x)
    where
      by : (b c : Bool) →
          is_negative (if b then Truth (nat_eq i 0) else (if c then Number (negsuc i) else Number (pos i)))
          ≡ is_negative (if b then Truth (nat_eq j 0) else (if c then Number (negsuc j) else Number (pos j)))
      by true c = refl
      by false true = refl
      by false false = refl

  -- a tag is a number, or a truth value
  number_or : (i n : ℕ) → (is_type (codes "Basics") (codes "Bool") m x ≡ true → n ≡ 0) →
      (same_kind (tag_of m x i) (Number (pos 0)) ≡ true) ⊎ (n ≡ 0)
  number_or i n f =
      by (is_type (codes "Basics") (codes "Bool") m x) (is_type (codes "Dict") (codes "Dict") m x) f
    where
      by : (b c : Bool) → (b ≡ true → n ≡ 0) →
          (same_kind (if b then Truth (nat_eq i 0) else (if c then Number (negsuc i) else Number (pos i)))
          (Number (pos 0)) ≡ true) ⊎ (n ≡ 0)
      by true c g = inr (g refl)
      by false true g = inl refl
      by false false g = inl refl

-- ---- the constructors of a union in turn

field_count : {X : Type 0} (of : Name → ElmType X) (w : World) (ts : TypeTrees) →
    length (types_in of (types_of w ts)) ≡ type_count ts
field_count of w tree.NoType = refl
field_count of w (tree.MoreType t ts) = ap suc (field_count of w ts)

none_left : {X : Type 0} (xs : List X) → length xs ≡ 0 → xs ≡ []
none_left [] e = refl
none_left (x ∷ xs) e = absurd (omega (arith, e))

module _ (home x : Name) (w : World) (u : UnionDeclaration) where
  abbrev listed : ℕ → List ConstructorOf → List Constructor
  listed n cs =
      map (constructor_of home u) (zip (map (alternative_of home x) (enumerate_from n cs)) (map (fields_of w) cs))

  record IsNumbered (n : ℕ) (cs : List ConstructorOf) (k : Constructor) : Type 0 where
    number : ℕ
    least : n ≤ number
    most : number < n + length cs
    tag_is : k.alternative.tag ≡ tag_of home x number
    counted : length k.fields ≡ k.alternative.arity
    few : HaveFewer 1 cs → length k.fields ≡ 0

  numbered : (n : ℕ) (cs : List ConstructorOf) (k : Constructor) → Among k (listed n cs) → IsNumbered n cs k
  numbered n [] k a = absurd a
  numbered n (c ∷ cs) k (inl e) =
      let first = constructor_of home u (alternative_of home x (n, c), fields_of w c) in
      let count : length first.fields ≡ type_count c.fields = field_count _ w c.fields in
      subst (IsNumbered n (c ∷ cs)) (sym e)
      (record {
        number = n;
        least = omega arith;
        most = omega arith;
        tag_is = refl;
        counted = count;
        few = λ f. let l = f.0 in omega (arith, count, l);
      })
  numbered n (c ∷ cs) k (inr a) =
      let h = numbered (n + 1) cs k a in record {
        number = h.number;
        least = (let l = h.least in omega (arith, l));
        most = (let l = h.most in omega (arith, l));
        tag_is = h.tag_is;
        counted = h.counted;
        few = λ f. h.few f.1;
      }

  told_apart : (n : ℕ) (cs : List ConstructorOf) →
      (is_type (codes "Basics") (codes "Bool") home x ≡ true → n + length cs ≤ 2) → (k l : Constructor) →
      Among k (listed n cs) → Among l (listed n cs) → same_tag k.alternative.tag l.alternative.tag ≡ true → k ≡ l
  told_apart n [] few k l a b e = absurd a
  told_apart n (c ∷ cs) few k l (inl f) (inl g) e = f ∙ sym g
  told_apart n (c ∷ cs) few k l (inl f) (inr b) e =
      let h = numbered (n + 1) cs l b in
      let same = one_number home x n h.number (λ t. let z = few t in omega (arith, z))
      (λ t. let z = few t in let y = h.most in omega (arith, z, y))
      (ap (λ (z : Constructor). same_tag z.alternative.tag (tag_of home x h.number)) (sym f)
      ∙ ap (same_tag k.alternative.tag) (sym h.tag_is) ∙ e) in
      let y = h.least in
      absurd (omega (arith, same, y))
  told_apart n (c ∷ cs) few k l (inr a) (inl g) e =
      let h = numbered (n + 1) cs k a in
      let same = one_number home x h.number n (λ t. let z = few t in let y = h.most in omega (arith, z, y))
      (λ t. let z = few t in omega (arith, z))
      (ap (λ (z : Tag). same_tag z (tag_of home x n)) (sym h.tag_is)
      ∙ ap (λ (z : Constructor). same_tag k.alternative.tag z.alternative.tag) (sym g) ∙ e) in
      let y = h.least in
      absurd (omega (arith, same, y))
  told_apart n (c ∷ cs) few k l (inr a) (inr b) e =
      told_apart (n + 1) cs (λ t. let z = few t in omega (arith, z)) k l a b e

  pub tagged : (cs : List ConstructorOf) →
      (is_type (codes "Basics") (codes "Bool") home x ≡ true → (length cs ≤ 2) × HaveFewer 1 cs) →
      AreTagged (listed 0 cs)
  tagged cs few = record {
    counted = λ k a. (numbered 0 cs k a).counted;
    told = told_apart 0 cs (λ t. let z = (few t).0 in omega (arith, z));
    alike = λ k l a b.
        ap (λ (z : Tag). same_kind z l.alternative.tag) (numbered 0 cs k a).tag_is
        ∙ ap (same_kind (tag_of home x (numbered 0 cs k a).number)) (numbered 0 cs l b).tag_is
        ∙ all_alike home x (numbered 0 cs k a).number (numbered 0 cs l b).number;
    bare = λ k a. bare_one k (numbered 0 cs k a);
    signs = λ k l a b.
        ap is_negative (numbered 0 cs k a).tag_is
        ∙ one_sign home x (numbered 0 cs k a).number (numbered 0 cs l b).number
        ∙ ap is_negative (sym (numbered 0 cs l b).tag_is);
  }
    where
      either : (k : Constructor) (h : IsNumbered 0 cs k) →
          (same_kind (tag_of home x h.number) (Number (pos 0)) ≡ true) ⊎ (length k.fields ≡ 0) →
          (same_kind k.alternative.tag (Number (pos 0)) ≡ true) ⊎ (k.fields ≡ [])
      either k h (inl e) = inl (ap (λ (z : Tag). same_kind z (Number (pos 0))) h.tag_is ∙ e)
      either k h (inr e) = inr (none_left k.fields e)

      bare_one : (k : Constructor) → IsNumbered 0 cs k →
          (same_kind k.alternative.tag (Number (pos 0)) ≡ true) ⊎ (k.fields ≡ [])
      bare_one k h = either k h (number_or home x h.number (length k.fields) (λ t. h.few (few t).1))

-- ---- the module

each_tagged : (home : Name) (w : World) (ds : List Declaration) → AllHaveFew home ds → (u : UnionDeclaration) →
    Among u (map (union_of home w) (unions_in ds)) → AreTagged (constructors home u)
each_tagged home w [] f u a = absurd a
each_tagged home w (Value d ∷ ds) f u a = each_tagged home w ds f.1 u a
each_tagged home w (Port y t ∷ ds) f u a = each_tagged home w ds f.1 u a
each_tagged home w (Alias y ps t ∷ ds) f u a = each_tagged home w ds f.1 u a
each_tagged home w (Union y ps cs ∷ ds) f u (inl e) =
    let first = union_of home w (record { name = y; parameters = ps; constructors = cs }) in
    subst (λ z. AreTagged (constructors home z)) (sym e) (tagged home (name_of y) w first cs f.0.truths)
each_tagged home w (Union y ps cs ∷ ds) f u (inr a) = each_tagged home w ds f.1 u a

pub unions_tagged : UnionsAreTagged
unions_tagged s t m is read u a =
    each_tagged s.home (world_of s t.declarations m) t.declarations read.few u
    (subst (Among u) is.types.unions a)
