-- The walk over parts writes the patterns that they make.
use Rattle.std.proofs.Common.{◌≡◌, ℕ, zero, suc, ◌-◌, ◌<◌, List, [], ◌∷◌, ◌++◌, Bool, true, false, Some, None}
use Rattle.std.proofs.Common.{map, take, drop, reverse, codes, refl, sym, ap, ◌∙◌, arith, append_assoc, append-nil}
use Rattle.std.proofs.lemmas.List.{reverse-append}
use Rattle.std.proofs.lemmas.Bool.{false≢true}
use Rattle.std.specs.Prelude.{option_map, is_some}
use Rattle.elm_canon.specs.Names.{Name}
use Rattle.elm_canon.specs.Unions.{TupleUnion, ListUnion, Declared}
use Rattle.elm_canon.specs.Tree as plain
use Rattle.elm_canon.specs.Tree.{patterns_of}
use Rattle.elm_canon.specs.View.{pattern_view}
use Rattle.elm_canon.specs.declared.tree.Pattern.{Pattern}
use Rattle.pattern_check.specs.Counted.{missing_list}
use Rattle.pattern_check.specs.Missing.{missing}
use Rattle.pattern_check.specs.Shapes.{Head, Literally, OtherLiteral, Constructor, arity_of}
use Rattle.pattern_check.specs.Flat.{Part}
use Rattle.pattern_check.specs.Built.{head_pattern, made, unlisted}
use Rattle.pattern_check.specs.Text.{literal_text, bracketed, is_bracketed, is_applied, by_count, text_in, arguments_text}
use Rattle.pattern_check.specs.Text.{parts_text, items_text, pattern_text}
use Rattle.pattern_check.specs.Written.{closing_text, kind_text, pending, rest, separator_of, around_of, next_of}
use Rattle.pattern_check.specs.Written.{form_of, kind_of, bracket_start, bracket_end, opening_of, closing_of, label_text}
use Rattle.pattern_check.specs.Written.{begin_text, left_of}
use Rattle.pattern_check.specs.declared.text.Around.{Around}
use Rattle.pattern_check.specs.declared.text.Around.TheVariants.{Alone}
use Rattle.pattern_check.specs.declared.text.Kind.{Kind}
use Rattle.pattern_check.specs.declared.text.Kind.TheVariants.{Arguments, Parts, MoreParts, Items, MoreItems}
use Rattle.pattern_check.specs.declared.text.Closing.{Closing}
use Rattle.pattern_check.specs.declared.text.Closing.TheVariants.{Nothing, TupleEnd}
use Rattle.pattern_check.specs.declared.text.Rest.{Rest}
use Rattle.pattern_check.proofs.Checked.{missing_patterns}
use Rattle.pattern_check.proofs.Reporting.{first_pattern, reported, reported_missing}

pub reverse_push : (rs : List Rest) (r : Rest) → reverse (rs ++ r ∷ []) ≡ r ∷ reverse rs
reverse_push rs r = reverse-append rs (r ∷ [])

-- ---- one pattern

in_brackets : (b : Bool) (t : Name) → bracketed b t ≡ (bracket_start b ++ []) ++ (t ++ closing_text (bracket_end b))
in_brackets true t = refl
in_brackets false t = sym (append-nil t)

with_name : (b : Bool) (x t : Name) → bracketed b (x ++ t) ≡ (bracket_start b ++ x) ++ (t ++ closing_text (bracket_end b))
with_name true x t = ap (λ z. 40 ∷ z) (append_assoc x t (codes ")"))
with_name false x t = ap (λ z. x ++ z) (sym (append-nil t))

tuple_begun : (around : Around) (n : ℕ) (qs : List plain.Pattern) →
    by_count n (codes "()") (codes "( " ++ parts_text (patterns_of (take n qs)) ++ codes " )")
    ≡ (by_count n (codes "()") (codes "( ") ++ []) ++ (parts_text (patterns_of (take n qs)) ++ closing_text (by_count n Nothing TupleEnd))
unfolding text_in
tuple_begun around zero qs = refl
tuple_begun around (suc n) qs = refl

list_begun : (b : Bool) (n : ℕ) (qs : List plain.Pattern) →
    by_count n (codes "[]") (bracketed b (items_text (patterns_of (take n qs))))
    ≡ (by_count n (codes "[]") (bracket_start b) ++ []) ++ (items_text (patterns_of (take n qs)) ++ closing_text (by_count n Nothing (bracket_end b)))
unfolding text_in
list_begun b zero qs = refl
list_begun b (suc n) qs = in_brackets b (items_text (patterns_of (take (suc n) qs)))

begun : (around : Around) (h : Head) (qs : List plain.Pattern) →
    text_in around (head_pattern h (take (arity_of h) qs))
    ≡ (opening_of around (form_of h) (arity_of h) ++ label_text h)
    ++ (kind_text (kind_of (form_of h)) (patterns_of (take (arity_of h) qs)) ++ closing_text (closing_of around (form_of h) (arity_of h)))
unfolding text_in
begun around (Literally l) qs = sym (append-nil (literal_text l))
begun around OtherLiteral qs = refl
begun around (Constructor (TupleUnion n) a) qs = tuple_begun around a.arity qs
begun around (Constructor ListUnion a) qs = list_begun (is_bracketed around) a.arity qs
begun around (Constructor (Declared m x cs) a) qs =
    with_name (is_applied around a.arity) a.name (arguments_text (patterns_of (take a.arity qs)))

-- ---- the next pattern

next_text : (k : Kind) (q : plain.Pattern) (ps : plain.Patterns) →
    kind_text k (plain.MorePattern q ps) ≡ (separator_of k ++ text_in (around_of k) q) ++ kind_text (next_of k) ps
unfolding text_in
next_text Arguments q ps = refl
next_text Parts q ps = refl
next_text MoreParts q ps = refl
next_text Items q ps = refl
next_text MoreItems q ps = refl

regroup : (s o k c m x : Name) → ((s ++ (o ++ (k ++ c))) ++ m) ++ x ≡ (s ++ o) ++ (k ++ (c ++ (m ++ x)))
regroup [] [] [] [] m x = refl
regroup [] [] [] (a ∷ c) m x = ap (λ z. a ∷ z) (regroup [] [] [] c m x)
regroup [] [] (a ∷ k) c m x = ap (λ z. a ∷ z) (regroup [] [] k c m x)
regroup [] (a ∷ o) k c m x = ap (λ z. a ∷ z) (regroup [] o k c m x)
regroup (a ∷ s) o k c m x = ap (λ z. a ∷ z) (regroup s o k c m x)

-- where the next pattern is begun so, and some patterns are left of it
next_pending : (k : Kind) (n m : ℕ) (c : Closing) (rs : List Rest) (q : plain.Pattern) (ps : List plain.Pattern) (o : Name) (j : Kind) (d : Closing) →
    text_in (around_of k) q ≡ o ++ (kind_text j (patterns_of (take m ps)) ++ closing_text d) →
    pending (rest k (suc n) c ∷ rs) (q ∷ drop m ps) ≡ (separator_of k ++ o) ++ pending (rest j m d ∷ rest (next_of k) n c ∷ rs) ps
unfolding pending
next_pending k n m c rs q ps o j d e =
    let more = kind_text (next_of k) (patterns_of (take n (drop m ps))) in
    let others = closing_text c ++ pending rs (drop n (drop m ps)) in
    ap (λ z. z ++ others) (next_text k q (patterns_of (take n (drop m ps))))
    ∙ ap (λ z. ((separator_of k ++ z) ++ more) ++ others) e
    ∙ regroup (separator_of k) o (kind_text j (patterns_of (take m ps))) (closing_text d) more others

part_pending : (k : Kind) (n : ℕ) (c : Closing) (rs : List Rest) (part : Part) (ps : List plain.Pattern) →
    pending (rest k (suc n) c ∷ rs) (made part ps)
    ≡ (separator_of k ++ begin_text (around_of k) part) ++ pending (left_of (around_of k) part ∷ rest (next_of k) n c ∷ rs) ps
unfolding text_in
part_pending k n c rs None ps = next_pending k n 0 c rs plain.Anything ps (codes "_") Parts Nothing refl
part_pending k n c rs (Some h) ps =
    next_pending k n (arity_of h) c rs (head_pattern h (take (arity_of h) ps)) ps
    (opening_of (around_of k) (form_of h) (arity_of h) ++ label_text h) (kind_of (form_of h))
    (closing_of (around_of k) (form_of h) (arity_of h)) (begun (around_of k) h ps)

less_one : (n : ℕ) → 0 < n → n ≡ suc (n - 1)
less_one n l = omega (arith, l)

pub part_step : (top : Rest) (part : Part) (ps : List plain.Pattern) (old mid new : List Rest) (t u v : Name) → 0 < top.left →
    u ≡ t ++ separator_of top.kind → v ≡ u ++ begin_text (around_of top.kind) part →
    mid ≡ rest (next_of top.kind) (top.left - 1) top.closing ∷ old → new ≡ left_of (around_of top.kind) part ∷ mid →
    v ++ pending new ps ≡ t ++ pending (top ∷ old) (made part ps)
unfolding pending
part_step top part ps old mid new t u v l e f g h =
    let s = separator_of top.kind in
    let b = begin_text (around_of top.kind) part in
    let n = top.left - 1 in
    let all = left_of (around_of top.kind) part ∷ rest (next_of top.kind) n top.closing ∷ old in
    let is : new ≡ all = h ∙ ap (λ z. left_of (around_of top.kind) part ∷ z) g in
    ap (λ z. z ++ pending new ps) (f ∙ ap (λ z. z ++ b) e ∙ append_assoc t s b)
    ∙ append_assoc t (s ++ b) (pending new ps)
    ∙ ap (λ z. t ++ ((s ++ b) ++ pending z ps)) is
    ∙ ap (λ z. t ++ z) (sym (part_pending top.kind n top.closing old part ps))
    ∙ ap (λ m. t ++ pending (rest top.kind m top.closing ∷ old) (made part ps)) (sym (less_one top.left l))

-- ---- the end of a rest

nothing_left : (k : Kind) → kind_text k plain.NoPattern ≡ []
unfolding text_in
nothing_left Arguments = refl
nothing_left Parts = refl
nothing_left MoreParts = refl
nothing_left Items = refl
nothing_left MoreItems = refl

take_none : (n : ℕ) → take {A = plain.Pattern} n [] ≡ []
take_none zero = refl
take_none (suc n) = refl

drop_none : (n : ℕ) → drop {A = plain.Pattern} n [] ≡ []
drop_none zero = refl
drop_none (suc n) = refl

closed : (top : Rest) (rs : List Rest) (ps : List plain.Pattern) → take top.left ps ≡ [] → drop top.left ps ≡ ps →
    pending (top ∷ rs) ps ≡ closing_text top.closing ++ pending rs ps
unfolding pending
closed top rs ps e f =
    ap (λ z. kind_text top.kind (patterns_of z) ++ (closing_text top.closing ++ pending rs (drop top.left ps))) e
    ∙ ap (λ z. z ++ (closing_text top.closing ++ pending rs (drop top.left ps))) (nothing_left top.kind)
    ∙ ap (λ z. closing_text top.closing ++ pending rs z) f

close_step : (top : Rest) (old new : List Rest) (ps : List plain.Pattern) (t u : Name) → old ≡ new ++ top ∷ [] →
    u ≡ t ++ closing_text top.closing → take top.left ps ≡ [] → drop top.left ps ≡ ps →
    u ++ pending (reverse new) ps ≡ t ++ pending (reverse old) ps
close_step top old new ps t u e f g h =
    ap (λ z. z ++ pending (reverse new) ps) f ∙ append_assoc t (closing_text top.closing) (pending (reverse new) ps)
    ∙ ap (λ z. t ++ z) (sym (closed top (reverse new) ps g h))
    ∙ ap (λ z. t ++ pending z ps) (sym (ap reverse e ∙ reverse_push new top))

-- where it has no parts left
pub close_done : (top : Rest) (old new : List Rest) (ps : List plain.Pattern) (t u : Name) → old ≡ new ++ top ∷ [] →
    u ≡ t ++ closing_text top.closing → top.left ≡ 0 → u ++ pending (reverse new) ps ≡ t ++ pending (reverse old) ps
close_done top old new ps t u e f z =
    close_step top old new ps t u e f (ap (λ n. take n ps) z) (ap (λ n. drop n ps) z)

-- where no part is left at all
pub close_short : (top : Rest) (old new : List Rest) (t u : Name) → old ≡ new ++ top ∷ [] →
    u ≡ t ++ closing_text top.closing → u ++ pending (reverse new) [] ≡ t ++ pending (reverse old) []
close_short top old new t u e f = close_step top old new [] t u e f (take_none top.left) (drop_none top.left)

-- ---- the whole

pub whole_text : (q : plain.Pattern) (ps : List plain.Pattern) → pending (rest Parts 1 Nothing ∷ []) (q ∷ ps) ≡ pattern_text q
unfolding pending text_in
whole_text q ps = append-nil (text_in Alone q ++ []) ∙ append-nil (text_in Alone q)

pub all_written : (rs : List Rest) (ps : List plain.Pattern) (t whole : Name) → rs ≡ [] → t ++ pending (reverse rs) ps ≡ whole → t ≡ whole
unfolding pending
all_written rs ps t whole e h = sym (append-nil t) ∙ ap (λ z. t ++ pending (reverse z) ps) (sym e) ∙ h

-- the text of the missing pattern
pub written_missing : (ps : List Pattern) (parts : List Part) → missing_list ps ≡ Some parts →
    Some (pending (rest Parts 1 Nothing ∷ []) (unlisted parts [])) ≡ option_map pattern_text (missing (map pattern_view ps))
written_missing ps parts h =
    by parts (ap reported (sym h) ∙ reported_missing ps) (sym (missing_patterns ps) ∙ ap is_some h)
  where
    by : (parts : List Part) → first_pattern (unlisted parts []) ≡ missing (map pattern_view ps) →
        is_some (missing (map pattern_view ps)) ≡ true →
        Some (pending (rest Parts 1 Nothing ∷ []) (unlisted parts [])) ≡ option_map pattern_text (missing (map pattern_view ps))
    by [] e t = absurd (false≢true (ap is_some e ∙ t))
    by (None ∷ more) e t = ap Some (whole_text plain.Anything (unlisted more [])) ∙ ap (option_map pattern_text) e
    by (Some h ∷ more) e t =
        ap Some (whole_text (head_pattern h (take (arity_of h) (unlisted more []))) (drop (arity_of h) (unlisted more [])))
        ∙ ap (option_map pattern_text) e
