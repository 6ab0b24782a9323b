-- More rows: what names mean by rows, where rows are put at the end.
use Rattle.std.proofs.Common.{◌≡◌, List, [], ◌∷◌, ◌++◌, Bool, true, false, ◌&&◌, if◌then◌else◌, map, filter, refl, sym}
use Rattle.std.proofs.Common.{ap, ◌∙◌, append_assoc, append-nil}
use Rattle.std.specs.List.{list_all}
use Rattle.std.proofs.lemmas.List.Folds.{list_all-append}
use Rattle.std.proofs.lemmas.List.Elements.{filter-append}
use Rattle.std.proofs.Math.Bool.{and-true}
use Rattle.elm_canon.specs.Names.{Name, same_name}
use Rattle.canon_env.specs.Found.{Row, Found, Nothing, One, Several, meant, is_written, found_in, find, own_or, look}
use Rattle.canon_env.specs.Found.{row_of, rows_of, meant_by, found_by, named_by}
use Rattle.canon_env.specs.Space.{found_at, added, added_all, Tells}
use Rattle.canon_env.specs.declared.found.Meant.{Meant}
use Rattle.canon_env.specs.declared.found.Named.{Named}
use Rattle.canon_env.specs.declared.space.Space.{Space}

module _ {M : Type 0} where
  -- one row more
  found_push : (rs : List (Row M)) (r : Row M) → found_in (rs ++ r ∷ []) ≡ added (found_in rs) (meant r)
  found_push [] r = refl
  found_push (a ∷ before) r =
      ap (λ b. if b then One (meant a) else Several)
      (list_all-append (λ s. same_name a.home s.home) before (r ∷ [])
      ∙ ap (λ b. list_all (λ s. same_name a.home s.home) before && b) (and-true (same_name a.home r.home)))
      ∙ by (list_all (λ s. same_name a.home s.home) before)
    where
      by : (all : Bool) → (if all && same_name a.home r.home then One (meant a) else Several)
          ≡ added (if all then One (meant a) else Several) (meant r)
      by true = refl
      by false = refl

  -- rows with another qualifier
  others_pass : (before : List (Row M)) (q x q' home : Name) (ns : List (Named M)) → same_name q q' ≡ false →
      found_in (before ++ filter (is_written q x) (rows_of q' home ns)) ≡ found_in before
  others_pass before q x q' home [] e = ap found_in (append-nil before)
  others_pass before q x q' home (n ∷ ns) e =
      ap (λ b. found_in (before ++ (if b && same_name x n.name then row_of q' home n ∷ filter (is_written q x) (rows_of q' home ns)
      else filter (is_written q x) (rows_of q' home ns)))) e
      ∙ others_pass before q x q' home ns e

  -- rows with the qualifier
  each_counts : (before : List (Row M)) (q x q' home : Name) (ns : List (Named M)) → same_name q q' ≡ true →
      found_in (before ++ filter (is_written q x) (rows_of q' home ns)) ≡ added_all (found_in before) x home ns
  each_counts before q x q' home [] e = ap found_in (append-nil before)
  each_counts before q x q' home (n ∷ ns) e =
      ap (λ b. found_in (before ++ (if b && same_name x n.name then row_of q' home n ∷ filter (is_written q x) (rows_of q' home ns)
      else filter (is_written q x) (rows_of q' home ns)))) e
      ∙ by (same_name x n.name) (λ rs. each_counts rs q x q' home ns e)
    where
      by : (b : Bool) → ((rs : List (Row M)) →
          found_in (rs ++ filter (is_written q x) (rows_of q' home ns)) ≡ added_all (found_in rs) x home ns) →
          found_in (before ++ (if b then row_of q' home n ∷ filter (is_written q x) (rows_of q' home ns)
          else filter (is_written q x) (rows_of q' home ns)))
          ≡ added_all (if b then added (found_in before) (record { home = home; meaning = n.meaning })
          else found_in before) x home ns
      by true more =
          ap found_in (sym (append_assoc before (row_of q' home n ∷ []) (filter (is_written q x) (rows_of q' home ns))))
          ∙ more (before ++ row_of q' home n ∷ [])
          ∙ ap (λ f. added_all f x home ns) (found_push before (row_of q' home n))
      by false more = more before

module _ {M N : Type 0} (f : M → N) where
  added_by : (found : Found M) (m : Meant M) → found_by f (added found m) ≡ added (found_by f found) (meant_by f m)
  added_by Nothing m = refl
  added_by (One a) m = by (same_name a.home m.home)
    where
      by : (b : Bool) → found_by f (if b then One a else Several) ≡ (if b then One (meant_by f a) else Several)
      by true = refl
      by false = refl
  added_by Several m = refl

  added_all_by : (found : Found M) (x home : Name) (ns : List (Named M)) →
      found_by f (added_all found x home ns) ≡ added_all (found_by f found) x home (map (named_by f) ns)
  added_all_by found x home [] = refl
  added_all_by found x home (n ∷ ns) =
      added_all_by (if same_name x n.name then added found (record { home = home; meaning = n.meaning }) else found) x home ns
      ∙ ap (λ g. added_all g x home (map (named_by f) ns)) (by (same_name x n.name))
    where
      by : (b : Bool) →
          found_by f (if b then added found (record { home = home; meaning = n.meaning }) else found)
          ≡ (if b then added (found_by f found) (record { home = home; meaning = f n.meaning }) else found_by f found)
      by true = added_by found (record { home = home; meaning = n.meaning })
      by false = refl

  -- a space to which names of a module are added
  pub tells_all : (old new : Space M) (rows : List (Row N)) (q' home : Name) (ns : List (Named M)) →
      ((q x : Name) → found_at new q x
      ≡ (if same_name q q' then added_all (found_at old q x) x home ns else found_at old q x)) →
      Tells f old rows → Tells f new (rows ++ rows_of q' home (map (named_by f) ns))
  unfolding Tells
  tells_all old new rows q' home ns change h q x =
      ap (found_by f) (change q x) ∙ by (same_name q q') refl
      ∙ sym (ap found_in (filter-append (is_written q x) rows (rows_of q' home (map (named_by f) ns))))
    where
      by : (b : Bool) → same_name q q' ≡ b →
          found_by f (if b then added_all (found_at old q x) x home ns else found_at old q x)
          ≡ found_in (filter (is_written q x) rows ++ filter (is_written q x) (rows_of q' home (map (named_by f) ns)))
      by true e =
          added_all_by (found_at old q x) x home ns
          ∙ ap (λ g. added_all g x home (map (named_by f) ns)) (h q x)
          ∙ sym (each_counts (filter (is_written q x) rows) q x q' home (map (named_by f) ns) e)
      by false e = h q x ∙ sym (others_pass (filter (is_written q x) rows) q x q' home (map (named_by f) ns) e)

  -- a look-up in one space
  pub tells_find : (space : Space M) (rows : List (Row N)) (found : Found M) (q x : Name) → found ≡ found_at space q x →
      Tells f space rows → found_by f found ≡ find rows q x
  unfolding Tells
  tells_find space rows found q x e h = ap (found_by f) e ∙ h q x

  own_or_by : (a b : Found M) → found_by f (own_or a b) ≡ own_or (found_by f a) (found_by f b)
  own_or_by Nothing b = refl
  own_or_by (One m) b = refl
  own_or_by Several b = refl

  -- a look-up in two
  pub tells_look : (own imported : Space M) (os is : List (Row N)) (found : Found M) (q x : Name) →
      found ≡ own_or (found_at own q x) (found_at imported q x) → Tells f own os → Tells f imported is →
      found_by f found ≡ look os is q x
  unfolding Tells
  tells_look own imported os is found q x e h i =
      ap (found_by f) e ∙ own_or_by (found_at own q x) (found_at imported q x)
      ∙ ap (λ a. own_or a (found_by f (found_at imported q x))) (h q x)
      ∙ ap (λ b. own_or (find os q x) b) (i q x)
