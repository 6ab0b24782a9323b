-- Modules under their names.
use Rattle.std.proofs.Common.{◌≡◌, ◌≢◌, ℕ, ◌+◌, ◌≤◌, List, [], ◌∷◌, ◌++◌, length, map, Some, None, Bool, true, false, get_or, ◌⊎◌, inl, inr, ⊎_elim}
use Rattle.std.proofs.Common.{if◌then◌else◌, refl, sym, ap, ◌∙◌, subst, arith, append_assoc, append-nil}
use Rattle.std.specs.Prelude.{◌↔◌}
use Rattle.std.specs.Cmp.Lexicographic.{slice_cmp}
use Rattle.std.specs.List.{All, Contains, IsDistinct}
use Rattle.std.specs.List.Sorted.{IsPermutation, IsSorted, IsStrictlySortedBy}
use Rattle.std.specs.Ordering.{nat_cmp, is_lt, is_eq, ordering_reverse}
use Rattle.std.specs.declared.cmp.Ordering.{Ordering}
use Rattle.std.specs.declared.cmp.Ordering.TheVariants.{Less, Equal, Greater}
use Rattle.std.specs.Str.{bytes_eq}
use Rattle.std.specs.Map.{keys_of, lookup}
use Rattle.std.proofs.lemmas.List.{length-map}
use Rattle.std.proofs.lemmas.List.Elements.{All-nil, All-cons, All-head, All-tail, Contains-append_left}
use Rattle.std.proofs.lemmas.List.Elements.{Contains-append_right, Contains-append_cases}
use Rattle.std.proofs.lemmas.List.Sorted.{All-permutation, Contains-permutation, IsPermutation-sym, length_permutation}
use Rattle.std.proofs.lemmas.Slice.Eq.{bytes_eq-Decides}
use Rattle.std.proofs.lemmas.Bool.{false_from_ne_true, false≢true}
use Rattle.std.proofs.lemmas.Cmp.{nat_list_cmp_total}
use Rattle.std.proofs.lemmas.Map.Keys.{apart_from_distinct, sorted_from_all_adjacent}
use Rattle.std.proofs.lemmas.Map.Text.{is_eq-slice_cmp}
use Rattle.indexmap.specs.IndexMap.{IndexMap, insert_entry}
use Rattle.indexmap.proofs.CallerLemmas.{insert_entry-new}
use Rattle.decl_groups.proofs.Basics.{no_member, first_member, later_member, member_cases, member_map, map_member}
use Rattle.import_graph.specs.Modules as walk
use Rattle.import_graph.specs.Modules.{AreApart, sources}
use Rattle.import_graph.specs.ModuleWalkView.{module_view, source_view}
use Rattle.import_graph.specs.declared.walk.Module.{Module}
use Rattle.import_graph.specs.Graph.{names_of}
use Rattle.import_graph.specs.ModuleGraphView.{IsOf}

abbrev pub Entry : Type 0
Entry = List ℕ × Module

abbrev pub entry_of : Module → Entry
entry_of m = (m.name, m)

abbrev pub entries_of : List Module → List Entry
entries_of ms = map entry_of ms

abbrev pub plain_of : List Entry → List walk.Module
plain_of es = map (λ e. module_view e.1) es

abbrev pub IsNamed : Entry → Type 0
IsNamed e = e.0 ≡ e.1.name

abbrev pub AreGivenApart : List Module → Type 0
AreGivenApart ms = AreApart (sources (map module_view ms))

-- of all modules these are in, and those are left
pub record Kept (es : List Entry) (left all : List Module) : Type 0 where
  pub named : All IsNamed es
  pub few : length es + length left ≤ length all
  pub among : (x : walk.Module) → Contains (plain_of es ++ map module_view left) x → Contains (map module_view all) x
  pub names : (name : List ℕ) → Contains (names_of (map module_view all)) name
      → Contains (keys_of es ++ names_of (map module_view left)) name
  pub same : AreGivenApart all → es ++ entries_of left ≡ entries_of all

pub none_in : (es : List Entry) (all : List Module) → es ≡ [] → Kept es all all
none_in es all e = record {
  named = subst (All IsNamed) (sym e) (All-nil IsNamed);
  few = omega (arith, ap length e);
  among = λ x c. subst (λ xs. Contains (plain_of xs ++ map module_view all) x) e c;
  names = λ name c. subst (λ xs. Contains (keys_of xs ++ names_of (map module_view all)) name) (sym e) c;
  same = λ a. ap (λ xs. xs ++ entries_of all) e;
}

-- ---- one more goes in

named_after : (m : Module) (es : List Entry) → All IsNamed es → All IsNamed (insert_entry bytes_eq es m.name m)
named_after m [] a = All-cons IsNamed (entry_of m) [] refl (All-nil IsNamed)
named_after m (e ∷ es) a = at (bytes_eq m.name e.0) (bytes_eq-Decides m.name e.0).0 (named_after m es (All-tail IsNamed e es a))
  where
    at : (b : Bool) → (b ≡ true → m.name ≡ e.0) → All IsNamed (insert_entry bytes_eq es m.name m) → All IsNamed (if b then (e.0, m) ∷ es else e ∷ insert_entry bytes_eq es m.name m)
    at true h more = All-cons IsNamed (e.0, m) es (sym (h refl)) (All-tail IsNamed e es a)
    at false h more = All-cons IsNamed e (insert_entry bytes_eq es m.name m) (All-head IsNamed e es a) more

one_more : (m : Module) (es : List Entry) → length (insert_entry bytes_eq es m.name m) ≤ length es + 1
one_more m [] = omega arith
one_more m (e ∷ es) = at (bytes_eq m.name e.0) (one_more m es)
  where
    at : (b : Bool) → length (insert_entry bytes_eq es m.name m) ≤ length es + 1 → length (if b then (e.0, m) ∷ es else e ∷ insert_entry bytes_eq es m.name m) ≤ length (e ∷ es) + 1
    at true l = omega arith
    at false l = omega (arith, l)

-- a module of the entries was there, or is the one that went in
one_among : (m : Module) (es : List Entry) (x : walk.Module) → Contains (plain_of (insert_entry bytes_eq es m.name m)) x
    → Contains (plain_of es) x ⊎ (module_view m ≡ x)
one_among m [] x c = ⊎_elim inr (λ k. absurd (no_member x k)) (member_cases (module_view m) x [] c)
one_among m (e ∷ es) x c = at (bytes_eq m.name e.0) (one_among m es x) c
  where
    at : (b : Bool)
        → (Contains (plain_of (insert_entry bytes_eq es m.name m)) x → Contains (plain_of es) x ⊎ (module_view m ≡ x))
        → Contains (plain_of (if b then (e.0, m) ∷ es else e ∷ insert_entry bytes_eq es m.name m)) x
        → Contains (plain_of (e ∷ es)) x ⊎ (module_view m ≡ x)
    at true f c =
        ⊎_elim inr (λ k. inl (later_member (module_view e.1) x (plain_of es) k))
        (member_cases (module_view m) x (plain_of es) c)
    at false f c =
        ⊎_elim (λ h. inl (subst (Contains (plain_of (e ∷ es))) h (first_member (module_view e.1) (plain_of es))))
        (λ k. ⊎_elim (λ l. inl (later_member (module_view e.1) x (plain_of es) l)) inr (f k))
        (member_cases (module_view e.1) x (plain_of (insert_entry bytes_eq es m.name m)) c)

-- each name that was there stays
names_stay : (m : Module) (es : List Entry) (name : List ℕ) → Contains (keys_of es) name
    → Contains (keys_of (insert_entry bytes_eq es m.name m)) name
names_stay m [] name c = absurd (no_member name c)
names_stay m (e ∷ es) name c = at (bytes_eq m.name e.0) (names_stay m es name)
  where
    at : (b : Bool) → (Contains (keys_of es) name → Contains (keys_of (insert_entry bytes_eq es m.name m)) name)
        → Contains (keys_of (if b then (e.0, m) ∷ es else e ∷ insert_entry bytes_eq es m.name m)) name
    at true f = c
    at false f =
        let rest = keys_of (insert_entry bytes_eq es m.name m) in
        ⊎_elim (λ h. subst (Contains (e.0 ∷ rest)) h (first_member e.0 rest)) (λ k. later_member e.0 name rest (f k))
        (member_cases e.0 name (keys_of es) c)

-- and the one that went in has its own
name_in : (m : Module) (es : List Entry) → Contains (keys_of (insert_entry bytes_eq es m.name m)) m.name
name_in m [] = first_member m.name []
name_in m (e ∷ es) = at (bytes_eq m.name e.0) (bytes_eq-Decides m.name e.0).0 (name_in m es)
  where
    at : (b : Bool) → (b ≡ true → m.name ≡ e.0) → Contains (keys_of (insert_entry bytes_eq es m.name m)) m.name
        → Contains (keys_of (if b then (e.0, m) ∷ es else e ∷ insert_entry bytes_eq es m.name m)) m.name
    at true h c = subst (Contains (e.0 ∷ keys_of es)) (sym (h refl)) (first_member e.0 (keys_of es))
    at false h c = later_member e.0 m.name (keys_of (insert_entry bytes_eq es m.name m)) c

abbrev first_or : Module → List Entry → Module
first_or d [] = d
first_or d (z ∷ zs) = z.1

-- a module of the entries is one of all
later_one : (es rest : List Entry) (m : Module) (all : List Module) → es ++ entry_of m ∷ rest ≡ entries_of all → Contains (sources (map module_view all)) (source_view m)
later_one [] rest m [] e = absurd (cc)
later_one [] rest m (y ∷ ys) e =
    let h : m ≡ y = ap (first_or m) e in
    subst (Contains (sources (map module_view (y ∷ ys)))) (ap source_view (sym h)) (first_member (source_view y) (sources (map module_view ys)))
later_one (x ∷ es) rest m [] e = absurd (cc)
later_one (x ∷ es) rest m (y ∷ ys) e =
    let t : es ++ entry_of m ∷ rest ≡ entries_of ys = cc in
    later_member (source_view y) (source_view m) (sources (map module_view ys)) (later_one es rest m ys t)

-- none of the entries before one has its name
none_before : (es rest : List Entry) (m : Module) (all : List Module) → es ++ entry_of m ∷ rest ≡ entries_of all → AreGivenApart all → lookup (bytes_eq m.name) es ≡ None
none_before [] rest m all e a = refl
none_before (x ∷ es) rest m [] e a = absurd (cc)
none_before (x ∷ es) rest m (y ∷ ys) e a =
    let head : x ≡ entry_of y = cc in
    let tail : es ++ entry_of m ∷ rest ≡ entries_of ys = cc in
    let other : y.name ≢ m.name = a.0 (source_view m) (later_one es rest m ys tail) in
    let no : bytes_eq m.name x.0 ≡ false = false_from_ne_true _ (λ t. other (sym (ap (λ (z : Entry). z.0) head) ∙ sym ((bytes_eq-Decides m.name x.0).0 t))) in
    ap (λ b. if b then Some x.1 else lookup (bytes_eq m.name) es) no ∙ none_before es rest m ys tail a.1

module _ {S : Type 0} where
  pub one_put : (m : IndexMap (List ℕ) Module S) (new : List Entry) (key : List ℕ) (one : Module) (left rest all : List Module) → Kept m.entries left all → left ≡ one ∷ rest → key ≡ one.name
      → new ≡ insert_entry bytes_eq m.entries key one → Kept new rest all
  one_put m new key one left rest all k is same e =
      let put : new ≡ insert_entry bytes_eq m.entries one.name one = e ∙ ap (λ x. insert_entry bytes_eq m.entries x one) same in
      record {
        named = subst (All IsNamed) (sym put) (named_after one m.entries k.named);
        few = omega (arith, k.few, ap length put, one_more one m.entries, ap length is);
        among = λ x c.
            let old = plain_of m.entries in
            let views : map module_view left ≡ module_view one ∷ map module_view rest = ap (map module_view) is in
            let was = λ (d : Contains (module_view one ∷ map module_view rest) x).
            k.among x (Contains-append_right old (map module_view left) x (subst (λ xs. Contains xs x) (sym views) d)) in
            ⊎_elim
            (λ d. ⊎_elim (λ l. k.among x (Contains-append_left old (map module_view left) x l))
            (λ e. was (subst (Contains (module_view one ∷ map module_view rest)) e
            (first_member (module_view one) (map module_view rest))))
            (one_among one m.entries x (subst (λ es. Contains (plain_of es) x) put d)))
            (λ d. was (later_member (module_view one) x (map module_view rest) d))
            (Contains-append_cases (plain_of new) (map module_view rest) x c);
        names = λ name c.
            let others = names_of (map module_view rest) in
            let views : names_of (map module_view left) ≡ one.name ∷ others =
            ap (λ ms. names_of (map module_view ms)) is in
            let here = λ (d : Contains (keys_of (insert_entry bytes_eq m.entries one.name one)) name).
            Contains-append_left (keys_of new) others name (subst (λ es. Contains (keys_of es) name) (sym put) d) in
            ⊎_elim (λ d. here (names_stay one m.entries name d))
            (λ d. ⊎_elim
            (λ e. here (subst (Contains (keys_of (insert_entry bytes_eq m.entries one.name one))) e
            (name_in one m.entries)))
            (λ l. Contains-append_right (keys_of new) others name l)
            (member_cases one.name name others (subst (λ xs. Contains xs name) views d)))
            (Contains-append_cases (keys_of m.entries) (names_of (map module_view left)) name (k.names name c));
        same = λ a.
            let now : m.entries ++ entry_of one ∷ entries_of rest ≡ entries_of all = ap (λ xs. m.entries ++ entries_of xs) (sym is) ∙ k.same a in
            let last = insert_entry-new bytes_eq m one.name one (none_before m.entries (entries_of rest) one all now a) in
            ap (λ xs. xs ++ entries_of rest) (put ∙ last) ∙ append_assoc m.entries (entry_of one ∷ []) (entries_of rest) ∙ now;
      }

all_in : (es : List Entry) (left all : List Module) → Kept es left all → length left ≡ 0 → AreGivenApart all → es ≡ entries_of all
all_in es [] all k l a = sym (append-nil es) ∙ k.same a
all_in es (x ∷ left) all k l a = absurd (omega (arith, l))

-- ---- in another order

plain_entries : (ms : List Module) → plain_of (entries_of ms) ≡ map module_view ms
plain_entries [] = refl
plain_entries (m ∷ ms) = ap (λ x. module_view m ∷ x) (plain_entries ms)

same_modules : (es : List Entry) (all : List Module) → es ≡ entries_of all → plain_of es ≡ map module_view all
same_modules es all e = ap plain_of e ∙ plain_entries all

reordered : (es fs : List Entry) (all : List Module) → es ≡ entries_of all → IsPermutation es fs → (x : walk.Module) → Contains (plain_of fs) x ↔ Contains (map module_view all) x
reordered es fs all e p x = (
  (λ c.
      let r = map_member (λ (y : Entry). module_view y.1) fs x c in
      let there = Contains-permutation fs es r.0 (IsPermutation-sym es fs p) r.1 in
      subst (λ xs. Contains xs x) (same_modules es all e) (subst (Contains (plain_of es)) r.2 (member_map (λ (y : Entry). module_view y.1) es r.0 there))),
  (λ c.
      let r = map_member (λ (y : Entry). module_view y.1) es x (subst (λ xs. Contains xs x) (sym (same_modules es all e)) c) in
      subst (Contains (plain_of fs)) r.2 (member_map (λ (y : Entry). module_view y.1) fs r.0 (Contains-permutation es fs r.0 p r.1))),
)

pub reordered_named : (es fs : List Entry) → IsPermutation es fs → All IsNamed es → All IsNamed fs
reordered_named es fs p a = All-permutation IsNamed es fs p a

reordered_few : (es fs : List Entry) (left all : List Module) → IsPermutation es fs → Kept es left all → length (plain_of fs) ≤ length (map module_view all)
reordered_few es fs left all p k =
    omega (arith, length-map fs (λ (y : Entry). module_view y.1), length_permutation es fs p, length-map all module_view, k.few)

reordered_among : (es fs : List Entry) (left all : List Module) → IsPermutation es fs → Kept es left all
    → (x : walk.Module) → Contains (plain_of fs) x → Contains (map module_view all) x
reordered_among es fs left all p k x c =
    let r = map_member (λ (y : Entry). module_view y.1) fs x c in
    let there = Contains-permutation fs es r.0 (IsPermutation-sym es fs p) r.1 in
    k.among x (Contains-append_left (plain_of es) (map module_view left) x
    (subst (Contains (plain_of es)) r.2 (member_map (λ (y : Entry). module_view y.1) es r.0 there)))

no_names : (left : List Module) (name : List ℕ) → length left ≡ 0 → Contains (names_of (map module_view left)) name → ⊥
no_names [] name l c = no_member name c
no_names (m ∷ left) name l c = omega (arith, l)

-- the keys are the names
pub keys_are : (es : List Entry) → All IsNamed es → keys_of es ≡ names_of (plain_of es)
keys_are [] a = refl
keys_are (e ∷ es) a =
    ap (λ x. x ∷ keys_of es) (All-head IsNamed e es a) ∙ ap (λ xs. e.1.name ∷ xs) (keys_are es (All-tail IsNamed e es a))

reordered_names : (es fs : List Entry) (left all : List Module) → length left ≡ 0 → IsPermutation es fs → Kept es left all
    → (name : List ℕ) → Contains (names_of (map module_view all)) name → Contains (names_of (plain_of fs)) name
reordered_names es fs left all l p k name c =
    ⊎_elim
    (λ d.
    let names : keys_of es ≡ names_of (plain_of es) = keys_are es k.named in
    let m = map_member (λ (y : walk.Module). y.source.name) (plain_of es) name (subst (λ xs. Contains xs name) names d) in
    let r = map_member (λ (y : Entry). module_view y.1) es m.0 m.1 in
    let there = member_map (λ (y : Entry). module_view y.1) fs r.0 (Contains-permutation es fs r.0 p r.1) in
    subst (Contains (names_of (plain_of fs))) m.2
    (member_map (λ (y : walk.Module). y.source.name) (plain_of fs) m.0 (subst (Contains (plain_of fs)) r.2 there)))
    (λ d. absurd (no_names left name l d))
    (Contains-append_cases (keys_of es) (names_of (map module_view left)) name (k.names name c))

-- ---- in ascending order

decided : (a b : List ℕ) → is_lt (slice_cmp nat_cmp b a) ≡ false → bytes_eq a b ≡ false → slice_cmp nat_cmp a b ≡ Less
decided a b s d = at (slice_cmp nat_cmp a b) refl
  where
    at : (o : Ordering) → slice_cmp nat_cmp a b ≡ o → o ≡ Less
    at Less e = refl
    at Equal e = absurd (false≢true (sym d ∙ sym (is_eq-slice_cmp a b) ∙ ap is_eq e))
    at Greater e = absurd (false≢true (sym s ∙ ap is_lt (nat_list_cmp_total.antisymm b a ∙ ap ordering_reverse e)))

ascending : (ks : List (List ℕ)) → IsSorted (slice_cmp nat_cmp) ks → IsDistinct bytes_eq ks → IsStrictlySortedBy (slice_cmp nat_cmp) ks
ascending ks s d =
    sorted_from_all_adjacent nat_list_cmp_total ks []
    (λ k l. decided (get_or ks k []) (get_or ks (k + 1) []) (s k [] (omega arith) l) (apart_from_distinct bytes_eq ks k (k + 1) [] d (omega arith) l))

pub all_told : (es fs : List Entry) (left all given : List Module) → all ≡ given → length left ≡ 0 → Kept es left all → IsPermutation es fs → IsSorted (slice_cmp nat_cmp) (keys_of fs)
    → IsDistinct bytes_eq (keys_of fs) → IsOf (map module_view given) (plain_of fs)
all_told es fs left all given g l k p s d =
    subst (λ ms. IsOf (map module_view ms) (plain_of fs)) g (record {
      ascend = subst (IsStrictlySortedBy (slice_cmp nat_cmp)) (keys_are fs (reordered_named es fs p k.named)) (ascending (keys_of fs) s d);
      few = reordered_few es fs left all p k;
      among = reordered_among es fs left all p k;
      names = reordered_names es fs left all l p k;
      same = λ a. reordered es fs all (all_in es left all k l a) p;
    })
