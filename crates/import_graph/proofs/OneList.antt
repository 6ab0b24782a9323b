-- An entry reaches one list of modules, or too many.
use Rattle.std.proofs.Common.{◌≡◌, ℕ, suc, ◌≤◌, List, [], ◌∷◌, ◌⊎◌, inl, inr, ⊎_elim, length, Option, Some, None}
use Rattle.std.proofs.Common.{refl, sym, ap, ◌∙◌, subst, arith}
use Rattle.std.specs.List.{Contains}
use Rattle.std.specs.Ordering.{nat_cmp}
use Rattle.std.specs.Cmp.Lexicographic.{slice_cmp}
use Rattle.std.specs.declared.cmp.Ordering.TheVariants.{Less, Greater}
use Rattle.std.specs.Ordering.{ordering_reverse}
use Rattle.std.proofs.lemmas.Cmp.{nat_list_cmp_total}
use Rattle.std.proofs.lemmas.List.{length-map}
use Rattle.std.proofs.lemmas.List.Elements.{All-contains, All-from_recursion}
use Rattle.std.proofs.lemmas.Map.Keys.{sorted_head, sorted_tail}
use Rattle.decl_groups.proofs.Basics.{no_member, first_member, later_member, member_cases, member_map, map_member}
use Rattle.import_graph.specs.Entry.{IsEntry}
use Rattle.import_graph.specs.Modules.{Setting, Word, Source, Module, sources, AreApart, Imports, IsReached, IsWhole, imports_found, AreTooMany}
use Rattle.import_graph.specs.Graph.{names_of, Ascend, AreModules}
use Rattle.import_graph.specs.Laws.{IsDetermined}
use Rattle.import_graph.proofs.OneEntry.{one_entry}

-- ---- lists in ascending order of names

abbrev is_below : Module → Module → Type 0
is_below m n = slice_cmp nat_cmp m.source.name n.source.name ≡ Less

not_both_below : (m n : Module) → is_below m n → is_below n m → ⊥
not_both_below m n a b =
    let flip = nat_list_cmp_total.antisymm m.source.name n.source.name in
    let e : Less ≡ Greater = sym a ∙ flip ∙ ap ordering_reverse b in cc

not_below_itself : (m : Module) → is_below m m → ⊥
not_below_itself m a = not_both_below m m a a

below_later : (m : Module) (ms : List Module) → Ascend (m ∷ ms) → (x : Module) → Contains ms x → is_below m x
below_later m ms a x c =
    All-contains (λ y. slice_cmp nat_cmp m.source.name y ≡ Less) (names_of ms) x.source.name
    (All-from_recursion (λ y. slice_cmp nat_cmp m.source.name y ≡ Less) (names_of ms) (sorted_head (slice_cmp nat_cmp) m.source.name (names_of ms) a))
    (member_map (λ (y : Module). y.source.name) ms x c)

same_list : (ms ns : List Module) → Ascend ms → Ascend ns → ((x : Module) → Contains ms x → Contains ns x) → ((x : Module) → Contains ns x → Contains ms x) → ms ≡ ns
same_list [] [] a b f g = refl
same_list [] (n ∷ ns) a b f g = absurd (no_member n (g n (first_member n ns)))
same_list (m ∷ ms) [] a b f g = absurd (no_member m (f m (first_member m ms)))
same_list (m ∷ ms) (n ∷ ns) a b f g =
    ap (λ x. x ∷ ms) heads ∙ ap (λ xs. n ∷ xs) (same_list ms ns (sorted_tail (slice_cmp nat_cmp) m.source.name (names_of ms) a) (sorted_tail (slice_cmp nat_cmp) n.source.name (names_of ns) b) there back)
  where
    heads : m ≡ n
    heads =
        ⊎_elim (λ e. sym e) (λ k. ⊎_elim (λ e. e) (λ l. absurd (not_both_below n m (below_later n ns b m k) (below_later m ms a n l))) (member_cases m n ms (g n (first_member n ns))))
        (member_cases n m ns (f m (first_member m ms)))

    there : (x : Module) → Contains ms x → Contains ns x
    there x c =
        let l = below_later m ms a x c in
        ⊎_elim (λ e. absurd (not_below_itself m (subst (λ y. is_below m y) (sym (heads ∙ e)) l))) (λ k. k)
        (member_cases n x ns (f x (later_member m x ms c)))

    back : (x : Module) → Contains ns x → Contains ms x
    back x c =
        let l = below_later n ns b x c in
        ⊎_elim (λ e. absurd (not_below_itself n (subst (λ y. is_below n y) (sym (sym heads ∙ e)) l))) (λ k. k)
        (member_cases m x ms (g x (later_member n x ns c)))

-- ---- the modules that an entry reaches

module _ (has_imports : List ℕ → List Word → Type 0) (one : IsDetermined has_imports) where
  one_imports : (text : Option (List ℕ)) (m n : Source) (words others : List Word) → m.text ≡ text → n.text ≡ text
      → Imports has_imports m words → Imports has_imports n others → words ≡ others
  one_imports text m n words others e f a b =
      at text (subst (λ t. Imports has_imports (with_text m t) words) e a) (subst (λ t. Imports has_imports (with_text n t) others) f b)
    where
      with_text : Source → Option (List ℕ) → Source
      with_text x t = record { name = x.name; path = x.path; text = t }

      at : (t : Option (List ℕ)) → Imports has_imports (with_text m t) words → Imports has_imports (with_text n t) others → words ≡ others
      at None a b = a ∙ sym b
      at (Some t) a b = one t words others a b

  pub same_module : (s : Setting) (x y : Module) → x.source ≡ y.source → IsWhole has_imports s x → IsWhole has_imports s y → x ≡ y
  same_module s x y e a b =
      let words = one_imports y.source.text x.source y.source a.0 b.0 (ap (λ z. z.text) e) refl a.1 b.1 in
      let imports : x.imports ≡ y.imports = a.2 ∙ ap (imports_found s) words ∙ sym b.2 in
      ap (λ z. record { source = z; imports = x.imports }) e ∙ ap (λ z. record { source = y.source; imports = z }) imports

  module_there : (s : Setting) (written : List ℕ) (ms ns : List Module) → AreModules has_imports s written ms → AreModules has_imports s written ns
      → (x : Module) → Contains ms x → Contains ns x
  module_there s written ms ns a b x c =
      let entry = one_entry s written a.entry b.entry a.is_entry b.is_entry in
      let reached = (a.members x.source).0 (member_map (λ (m : Module). m.source) ms x c) in
      let found = map_member (λ (m : Module). m.source) ns x.source ((b.members x.source).1 (subst (λ m. IsReached has_imports s m x.source) entry reached)) in
      let e = same_module s found.0 x found.2 (All-contains (IsWhole has_imports s) ns found.0 b.imports found.1) (All-contains (IsWhole has_imports s) ms x a.imports c) in
      subst (Contains ns) e found.1

  pub one_list : (s : Setting) (written : List ℕ) (ms ns : List Module) → AreModules has_imports s written ms → AreModules has_imports s written ns → ms ≡ ns
  one_list s written ms ns a b =
      same_list ms ns a.numbered.ascend b.numbered.ascend (module_there s written ms ns a b) (module_there s written ns ms b a)

-- ---- too many

-- without one member
one_less : (ys : List Source) (x : Source) → Contains ys x → (zs : List Source) × (length ys ≡ suc (length zs)) × ((z : Source) → Contains ys z → (z ≡ x) ⊎ Contains zs z)
one_less [] x c = absurd (no_member x c)
one_less (y ∷ ys) x c =
    ⊎_elim (λ e. (ys, refl, λ z d. ⊎_elim (λ h. inl (sym h ∙ e)) inr (member_cases y z ys d)))
    (λ k. let r = one_less ys x k in (y ∷ r.0, ap suc r.1, λ z d. ⊎_elim (λ h. inr (subst (Contains (y ∷ r.0)) h (first_member y r.0))) (λ l. ⊎_elim inl (λ m. inr (later_member y z r.0 m)) (r.2 z l)) (member_cases y z ys d)))
    (member_cases y x ys c)

no_more : (xs ys : List Source) → AreApart xs → ((x : Source) → Contains xs x → Contains ys x) → length xs ≤ length ys
no_more [] ys a f = omega arith
no_more (x ∷ xs) ys a f =
    let r = one_less ys x (f x (first_member x xs)) in
    let l = no_more xs r.0 a.1 (λ z c. ⊎_elim (λ e. absurd (a.0 z c (ap (λ m. m.name) (sym e)))) (λ k. k) (r.2 z (f z (later_member x z xs c)))) in
    omega (arith, r.1, l)

pub not_too_many : (has_imports : List ℕ → List Word → Type 0) (s : Setting) (written : List ℕ) (entry : Source) (ms : List Module) →
    AreModules has_imports s written ms → IsEntry s written entry → AreTooMany has_imports s entry → ⊥
not_too_many has_imports s written entry ms a e t =
    let same = one_entry s written entry a.entry e a.is_entry in
    let l = no_more t.some (sources ms) t.apart (λ x c. (a.members x).1 (subst (λ m. IsReached has_imports s m x) same (t.sound x c))) in
    omega (arith, l, length-map ms (λ (m : Module). m.source), a.numbered.few, t.many)
