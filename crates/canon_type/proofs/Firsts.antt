-- What the names of one module mean, by the first of each.
use Rattle.std.proofs.Common.{◌≡◌, ℕ, ◌+◌, List, [], ◌∷◌, ◌++◌, Bool, true, false, ◌&&◌, ◌||◌, if◌then◌else◌, Option, Some, None}
use Rattle.std.proofs.Common.{map, filter, refl, sym, ap, ◌∙◌}
use Rattle.std.specs.List.{list_all}
use Rattle.std.proofs.lemmas.Cmp.{nat_list_eq_equiv}
use Rattle.elm_canon.specs.Names.{Name, same_name}
use Rattle.canon_env.specs.Found.{Row, Found, Nothing, One, Several, is_written, found_in, find, row_of, rows_of}
use Rattle.canon_env.specs.Exposing.{is_among}
use Rattle.canon_env.specs.declared.found.Named.{Named}
use Rattle.canon_env.proofs.Adding.{one_name}
use Rattle.canon_type.specs.CanonAliasesKept.{first}

module _ {M : Type 0} where
  abbrev pub of_module : Name → Option M → Found M
  of_module home None = Nothing
  of_module home (Some m) = One (record { home = home; meaning = m })

  one_home : (home q x : Name) (ns : List (Named M)) →
      list_all (λ (s : Row M). same_name home s.home) (filter (is_written q x) (rows_of [] home ns)) ≡ true
  one_home home q x [] = refl
  one_home home q x (n ∷ ns) = by (is_written q x (row_of [] home n)) (one_home home q x ns)
    where
      by : (b : Bool) →
          list_all (λ (s : Row M). same_name home s.home) (filter (is_written q x) (rows_of [] home ns)) ≡ true →
          list_all (λ (s : Row M). same_name home s.home)
          (if b then row_of [] home n ∷ filter (is_written q x) (rows_of [] home ns)
          else filter (is_written q x) (rows_of [] home ns)) ≡ true
      by false e = e
      by true e =
          ap (λ b. b && list_all (λ (s : Row M). same_name home s.home) (filter (is_written q x) (rows_of [] home ns)))
          (nat_list_eq_equiv.refl home) ∙ e

  -- without a qualifier
  pub found_first : (home x : Name) (ns : List (Named M)) → find (rows_of [] home ns) [] x ≡ of_module home (first x ns)
  found_first home x [] = refl
  found_first home x (n ∷ ns) = by (same_name x n.name) (found_first home x ns)
    where
      by : (b : Bool) → find (rows_of [] home ns) [] x ≡ of_module home (first x ns) →
          found_in (if b then row_of [] home n ∷ filter (is_written [] x) (rows_of [] home ns)
          else filter (is_written [] x) (rows_of [] home ns))
          ≡ of_module home (if b then Some n.meaning else first x ns)
      by false e = e
      by true e =
          ap (λ b. if b then One (record { home = home; meaning = n.meaning }) else Several) (one_home home [] x ns)

  -- with one
  pub none_found : (home q x : Name) (ns : List (Named M)) → same_name q [] ≡ false →
      find (rows_of [] home ns) q x ≡ Nothing
  none_found home q x [] e = refl
  none_found home q x (n ∷ ns) e =
      ap (λ b. found_in (if b && same_name x n.name then row_of [] home n ∷ filter (is_written q x) (rows_of [] home ns)
      else filter (is_written q x) (rows_of [] home ns))) e
      ∙ none_found home q x ns e

  -- names that mean the same
  pub finds_agree : (home q x : Name) (ns ms : List (Named M)) → (same_name q [] ≡ true → first x ns ≡ first x ms) →
      find (rows_of [] home ns) q x ≡ find (rows_of [] home ms) q x
  finds_agree home q x ns ms h = by (same_name q []) refl
    where
      by : (b : Bool) → same_name q [] ≡ b → find (rows_of [] home ns) q x ≡ find (rows_of [] home ms) q x
      by true e =
          ap (λ p. find (rows_of [] home ns) p x) (one_name q [] e)
          ∙ found_first home x ns ∙ ap (of_module home) (h e) ∙ sym (found_first home x ms)
          ∙ ap (λ p. find (rows_of [] home ms) p x) (sym (one_name q [] e))
      by false e = none_found home q x ns e ∙ sym (none_found home q x ms e)

  pub first-append : (x : Name) (ns ms : List (Named M)) →
      first x (ns ++ ms) ≡ (if is_among x (map (λ (n : Named M). n.name) ns) then first x ns else first x ms)
  first-append x [] ms = refl
  first-append x (n ∷ ns) ms = by (same_name x n.name) (first-append x ns ms)
    where
      by : (b : Bool) →
          first x (ns ++ ms) ≡ (if is_among x (map (λ (n : Named M). n.name) ns) then first x ns else first x ms) →
          (if b then Some n.meaning else first x (ns ++ ms))
          ≡ (if b || is_among x (map (λ (n : Named M). n.name) ns)
          then (if b then Some n.meaning else first x ns) else first x ms)
      by true e = refl
      by false e = e
