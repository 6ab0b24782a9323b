-- The modules that a link takes, one after another.
use Rattle.std.proofs.Common.{◌≡◌, ℕ, ◌+◌, ◌<◌, ◌≤◌, List, [], ◌∷◌, ◌++◌, length, get_or, drop, map, Option, Some, None}
use Rattle.std.proofs.Common.{refl, sym, ap, ◌∙◌}
use Rattle.std.specs.Prelude.{option_map}
use Rattle.std.specs.List.{zip}
use Rattle.std.proofs.lemmas.List.{append_assoc, append-nil, drop_more, drop_all, map_push}
use Rattle.link.specs.Link as linked
use Rattle.link.specs.View as taken_view
use Rattle.link.specs.declared.part.Part as taken_part
use Rattle.module_compile.specs.declared.made.Made.{Made}
use Rattle.module_made.specs.Made.{Value, Good, Bad, Blocked}
use Rattle.project_parts.specs.Modules.{Part, home_of}
use Rattle.project_parts.specs.Outcomes.{linked_part, linked_parts}
use Rattle.elm_make.specs.ProjectCompileView.{value_view}
use Rattle.project_parts.specs.declared.parts.Part as program
use Rattle.project_parts.specs.View.{part_view}

-- ---- one module

taken : (p : Part) (v : Value) (zs : List (Part × Value)) (q : linked.Part) → linked_part p v ≡ Some q
    → linked_parts ((p, v) ∷ zs) ≡ option_map (λ qs. q ∷ qs) (linked_parts zs)
taken p (Good i f) zs q e =
    let w : record { name = home_of p; path = p.module_.source.path; fragment = f } ≡ q = cc in
    ap (λ r. option_map (λ qs. r ∷ qs) (linked_parts zs)) w
taken p (Bad fs) zs q e = absurd (let w : None ≡ Some q = e in cc)
taken p Blocked zs q e = absurd (let w : None ≡ Some q = e in cc)

left_out : (p : Part) (v : Value) (zs : List (Part × Value)) → linked_part p v ≡ None
    → linked_parts ((p, v) ∷ zs) ≡ None
left_out p (Good i f) zs e =
    absurd (let w : Some (record { name = home_of p; path = p.module_.source.path; fragment = f }) ≡ None = e in cc)
left_out p (Bad fs) zs e = refl
left_out p Blocked zs e = refl

-- ---- the modules so far, and the others

abbrev pub after : List linked.Part → Option (List linked.Part) → Option (List linked.Part)
after qs o = option_map (λ rs. qs ++ rs) o

after_one : (qs : List linked.Part) (q : linked.Part) (o : Option (List linked.Part))
    → after qs (option_map (λ rs. q ∷ rs) o) ≡ after (qs ++ q ∷ []) o
after_one qs q None = refl
after_one qs q (Some rs) = ap Some (sym (append_assoc qs (q ∷ []) rs))

after_none : (o : Option (List linked.Part)) → o ≡ after [] o
after_none None = refl
after_none (Some rs) = refl

module _ (xs : List program.Part) (ys : List (Option Made)) where
  -- what is linked of the modules from a number on
  abbrev pub from : ℕ → Option (List linked.Part)
  from n = linked_parts (zip (map part_view (drop n xs)) (map value_view (drop n ys)))

  -- the modules after the one of a number
  abbrev others : ℕ → List (Part × Value)
  others n = zip (map part_view (drop (n + 1) xs)) (map value_view (drop (n + 1) ys))

  from_is : (n : ℕ) (d : program.Part) (e : Option Made) → n < length xs → n < length ys
      → from n ≡ linked_parts ((part_view (get_or xs n d), value_view (get_or ys n e))
      ∷ zip (map part_view (drop (n + 1) xs)) (map value_view (drop (n + 1) ys)))
  from_is n d e l k =
      ap (λ zs. linked_parts (zip (map part_view zs) (map value_view (drop n ys)))) (drop_more xs n d l)
      ∙ ap (λ zs. linked_parts (zip (map part_view (get_or xs n d ∷ drop (n + 1) xs)) (map value_view zs)))
      (drop_more ys n e k)

  pub start : linked_parts (zip (map part_view xs) (map value_view ys)) ≡ after [] (from 0)
  start = after_none (from 0)

  pub one_more : (n : ℕ) (d : program.Part) (e : Option Made) (qs : List linked.Part) (q : linked.Part) → n < length xs
      → n < length ys → linked_part (part_view (get_or xs n d)) (value_view (get_or ys n e)) ≡ Some q
      → linked_parts (zip (map part_view xs) (map value_view ys)) ≡ after qs (from n)
      → linked_parts (zip (map part_view xs) (map value_view ys)) ≡ after (qs ++ q ∷ []) (from (n + 1))
  one_more n d e qs q l k t h =
      h ∙ ap (after qs) (from_is n d e l k ∙ taken (part_view (get_or xs n d)) (value_view (get_or ys n e)) (others n) q t)
      ∙ after_one qs q (from (n + 1))

  pub one_out : (n : ℕ) (d : program.Part) (e : Option Made) (qs : List linked.Part) → n < length xs → n < length ys
      → linked_part (part_view (get_or xs n d)) (value_view (get_or ys n e)) ≡ None
      → linked_parts (zip (map part_view xs) (map value_view ys)) ≡ after qs (from n)
      → linked_parts (zip (map part_view xs) (map value_view ys)) ≡ None
  one_out n d e qs l k t h =
      h ∙ ap (after qs) (from_is n d e l k ∙ left_out (part_view (get_or xs n d)) (value_view (get_or ys n e)) (others n) t)

  pub all_taken : (n : ℕ) (qs : List linked.Part) → length xs ≤ n
      → linked_parts (zip (map part_view xs) (map value_view ys)) ≡ after qs (from n)
      → linked_parts (zip (map part_view xs) (map value_view ys)) ≡ Some qs
  all_taken n qs l h =
      h
      ∙ ap (λ zs. after qs (linked_parts (zip (map part_view zs) (map value_view (drop n ys))))) (drop_all n xs l)
      ∙ ap Some (append-nil qs)

  -- ---- as the program takes them

  abbrev pub Taking : List taken_part.Part → ℕ → Type 0
  Taking ls n = linked_parts (zip (map part_view xs) (map value_view ys)) ≡ after (map taken_view.part_view ls) (from n)

  value_at : (n : ℕ) (p : program.Part) (v : Option Made) → p ≡ get_or xs n p → v ≡ get_or ys n v
      → linked_part (part_view (get_or xs n p)) (value_view (get_or ys n v)) ≡ linked_part (part_view p) (value_view v)
  value_at n p v e f =
      ap (λ x. linked_part (part_view x) (value_view (get_or ys n v))) (sym e)
      ∙ ap (λ y. linked_part (part_view p) (value_view y)) (sym f)

  pub taking_more : (n : ℕ) (p : program.Part) (v : Option Made) (o : Option taken_part.Part) (one : taken_part.Part)
      (ls ms : List taken_part.Part) → n < length xs → n < length ys → p ≡ get_or xs n p → v ≡ get_or ys n v
      → option_map taken_view.part_view o ≡ linked_part (part_view p) (value_view v) → o ≡ Some one → ms ≡ ls ++ one ∷
      []
      → Taking ls n → Taking ms (n + 1)
  taking_more n p v o one ls ms l k e f is some more h =
      let t : linked_part (part_view (get_or xs n p)) (value_view (get_or ys n v)) ≡ Some (taken_view.part_view one) =
      value_at n p v e f ∙ (sym is ∙ ap (option_map taken_view.part_view) some) in
      one_more n p v (map taken_view.part_view ls) (taken_view.part_view one) l k t h
      ∙ ap (λ qs. after qs (from (n + 1))) (sym
      (ap (map taken_view.part_view) more ∙ map_push taken_view.part_view ls one))

  pub taking_out : (n : ℕ) (p : program.Part) (v : Option Made) (o : Option taken_part.Part) (ls : List taken_part.Part)
      → n < length xs → n < length ys → p ≡ get_or xs n p → v ≡ get_or ys n v
      → option_map taken_view.part_view o ≡ linked_part (part_view p) (value_view v) → o ≡ None → Taking ls n
      → None ≡ linked_parts (zip (map part_view xs) (map value_view ys))
  taking_out n p v o ls l k e f is none h =
      sym (one_out n p v (map taken_view.part_view ls) l k
      (value_at n p v e f ∙ (sym is ∙ ap (option_map taken_view.part_view) none)) h)

  pub taking_all : (n : ℕ) (ls : List taken_part.Part) → length xs ≤ n → Taking ls n
      → Some (map taken_view.part_view ls) ≡ linked_parts (zip (map part_view xs) (map value_view ys))
  taking_all n ls l h = sym (all_taken n (map taken_view.part_view ls) l h)
