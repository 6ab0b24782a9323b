-- There is one first bad item at most, and none where all is typable.
use Rattle.std.proofs.Common.{◌≡◌, ℕ, List, [], ◌∷◌, ◌++◌, map, refl, sym, ap, ◌∙◌, subst, arith}
use Rattle.std.specs.Prelude.{codes}
use Rattle.elm_base.specs.declared.position.Pos.{Pos}
use Rattle.elm_base.specs.declared.fault.Code.{Code}
use Rattle.elm_type.specs.Types.{Name, ElmType, tuple, variables, size, Leaf, Scheme}
use Rattle.elm_type.specs.Naming.{names_of, given, constant_names}
use Rattle.elm_type.specs.Text.{text_in, leaf_name}
use Rattle.elm_type.specs.declared.frame.Around.TheVariants.{Alone}
use Rattle.type_items.specs.Items.{Place, Wanted, Item, Same, InClass, Lacks, Keeps, Small, place_of}
use Rattle.type_items.specs.Solutions.{Values, Solves, Solution}
use Rattle.type_items.specs.Faults.{IsSmall, IsLarge, Typable, part_text, IsPairText, IsClassText, IsFault, FirstBad}
use Rattle.type_items.specs.Uniqueness.{SameScheme, NeverBoth, OneFault}
use Rattle.type_items.proofs.Sizes.{one_size}
use Rattle.type_items.proofs.Ordered.{one_scheme}

-- ---- what is solved is solved up to each item

front_solved : (values : Values) (before : List Item) (i : Item) (after : List Item) → Solves values (before ++ i ∷ after)
    → Solves values (before ++ i ∷ [])
front_solved values [] i after h = (h.0, tt)
front_solved values (j ∷ before) i after h = (h.0, front_solved values before i after h.1)

front : (before : List Item) (i : Item) (after : List Item) → Solution (before ++ i ∷ after) → Solution (before ++ i ∷ [])
front before i after s = record { values = s.values; ground = s.ground; solves = front_solved s.values before i after s.solves }

not_large : (p : Place) (items : List Item) (t : Wanted) → IsSmall p items t → IsLarge p items t → ⊥
not_large p items t a b =
    let e : size a.scheme.type ≡ size b.scheme.type = one_size p items t a.scheme b.scheme a.principal b.principal in
    omega (arith, e, a.small, b.large)

no_fault : (p : Place) (before : List Item) (i : Item) (after : List Item) (code : Code) (detail : Name) → Typable p (before ++ i ∷ after)
    → IsFault p before i code detail → ⊥
no_fault p before (Same pos t u) after code detail h f = f.0.1.never (front before (Same pos t u) after h.solution)
no_fault p before (InClass pos t c) after code detail h f = f.0.1.never (front before (InClass pos t c) after h.solution)
no_fault p before (Lacks pos t x) after code detail h f = f.0.1.never (front before (Lacks pos t x) after h.solution)
no_fault p before (Keeps pos r ts) after code detail h f = f.0.1.never (front before (Keeps pos r ts) after h.solution)
no_fault p before (Small pos t) after code detail h f = not_large p before t (h.small before after pos t refl) f.1

pub never_both : NeverBoth
never_both p items code pos detail h f =
    no_fault p f.before f.bad f.after code detail (subst (Typable p) f.split h) f.fault

-- ---- texts

abbrev named : List Name → ElmType (Leaf ℕ) → Name
named names t = text_in (leaf_name names) Alone t

same_text : (s u : Scheme) (t v : ElmType (Leaf ℕ)) → SameScheme s u → t ≡ v → part_text s t ≡ part_text u v
same_text s u t v m e =
    let names : names_of s ≡ names_of u =
    ap (λ cs. given cs (constant_names (variables s.type))) m.classes
    ∙ ap (λ k. given (map (λ j. j.class) u.kinds) (constant_names (variables k))) m.type in
    ap (λ ns. named ns t) names ∙ ap (named (names_of u)) e

one_pair : (p : Place) (items : List Item) (t u : Wanted) (x y : Name) → IsPairText p items t u x → IsPairText p items t u y → x ≡ y
one_pair p items t u x y a b =
    let m = one_scheme p items (tuple (t ∷ u ∷ [])) a.scheme b.scheme a.principal b.principal a.ordered b.ordered in
    let pairs : tuple (a.left ∷ a.right ∷ []) ≡ tuple (b.left ∷ b.right ∷ []) = sym a.pair ∙ (m.type ∙ b.pair) in
    let left : a.left ≡ b.left = cc in
    let right : a.right ≡ b.right = cc in
    a.says
    ∙ (ap (λ k. k ++ codes " /= " ++ part_text a.scheme a.right) (same_text a.scheme b.scheme a.left b.left m left)
    ∙ (ap (λ k. part_text b.scheme b.left ++ codes " /= " ++ k) (same_text a.scheme b.scheme a.right b.right m right) ∙ sym b.says))

one_class : (p : Place) (items : List Item) (t : Wanted) (c x y : Name) → IsClassText p items t c x → IsClassText p items t c y → x ≡ y
one_class p items t c x y a b =
    let m = one_scheme p items t a.scheme b.scheme a.principal b.principal a.ordered b.ordered in
    a.says
    ∙ (ap (λ k. k ++ codes " is not " ++ c) (same_text a.scheme b.scheme a.scheme.type b.scheme.type m m.type) ∙ sym b.says)

same_fault : (p : Place) (before : List Item) (i : Item) (code other : Code) (detail text : Name) → IsFault p before i code detail
    → IsFault p before i other text → (code ≡ other) × (detail ≡ text)
same_fault p before (Same pos t u) code other detail text a b = (a.0.0 ∙ sym b.0.0, one_pair p before t u detail text a.1 b.1)
same_fault p before (InClass pos t c) code other detail text a b = (a.0.0 ∙ sym b.0.0, one_class p before t _ detail text a.1 b.1)
same_fault p before (Lacks pos t x) code other detail text a b = (a.0.0 ∙ sym b.0.0, a.1 ∙ sym b.1)
same_fault p before (Keeps pos r ts) code other detail text a b = (a.0.0 ∙ sym b.0.0, a.1 ∙ sym b.1)
same_fault p before (Small pos t) code other detail text a b = (a.0 ∙ sym b.0, a.2 ∙ sym b.2)

-- ---- of two items of a list one stands before the other, or they are one

pub data Places (b c : List Item) (i j : Item) : Type 0 where
  one : b ≡ c → i ≡ j → Places b c i j
  earlier : (r : List Item) → c ≡ b ++ i ∷ r → Places b c i j
  later : (r : List Item) → b ≡ c ++ j ∷ r → Places b c i j

after_one : (k l : Item) (b c : List Item) (i j : Item) → k ≡ l → Places b c i j → Places (k ∷ b) (l ∷ c) i j
after_one k l b c i j e (one d f) = one (ap (λ h. h ∷ b) e ∙ ap (λ rest. l ∷ rest) d) f
after_one k l b c i j e (earlier r d) = earlier r (ap (λ h. h ∷ c) (sym e) ∙ ap (λ rest. k ∷ rest) d)
after_one k l b c i j e (later r d) = later r (ap (λ h. h ∷ b) e ∙ ap (λ rest. l ∷ rest) d)

placed : (b c x y : List Item) (i j : Item) → b ++ i ∷ x ≡ c ++ j ∷ y → Places b c i j
placed [] [] x y i j e = (let f : i ≡ j = cc in one refl f)
placed [] (l ∷ c) x y i j e = (let f : i ≡ l = cc in earlier c (ap (λ h. h ∷ c) (sym f)))
placed (k ∷ b) [] x y i j e = (let f : k ≡ j = cc in later b (ap (λ h. h ∷ b) f))
placed (k ∷ b) (l ∷ c) x y i j e =
    let f : k ≡ l = cc in
    let rest : b ++ i ∷ x ≡ c ++ j ∷ y = cc in
    after_one k l b c i j f (placed b c x y i j rest)

at_places : (p : Place) (items : List Item) (code other : Code) (pos place : Pos) (detail text : Name)
    → (f : FirstBad p items code pos detail) → (g : FirstBad p items other place text) → Places f.before g.before f.bad g.bad
    → (code ≡ other) × (pos ≡ place) × (detail ≡ text)
at_places p items code other pos place detail text f g (one d e) =
    let moved : IsFault p g.before g.bad code detail =
    subst (λ i. IsFault p g.before i code detail) e (subst (λ b. IsFault p b f.bad code detail) d f.fault) in
    let same = same_fault p g.before g.bad code other detail text moved g.fault in
    (same.0, sym f.here ∙ (ap place_of e ∙ g.here), same.1)
at_places p items code other pos place detail text f g (earlier r d) =
    absurd (no_fault p f.before f.bad r code detail (subst (Typable p) d g.fine) f.fault)
at_places p items code other pos place detail text f g (later r d) =
    absurd (no_fault p g.before g.bad r other text (subst (Typable p) d f.fine) g.fault)

pub one_fault : OneFault
one_fault p items code other pos place detail text f g =
    at_places p items code other pos place detail text f g
    (placed f.before g.before f.after g.after f.bad g.bad (sym f.split ∙ g.split))
