-- The operators of the language are those whose level is below 10.
use Rattle.std.proofs.Common.{◌≡◌, ℕ, List, [], ◌∷◌, Bool, true, false, ◌||◌, ◌&&◌, if◌then◌else◌, nat_lt, refl}
use Rattle.std.specs.List.{list_any, list_all}
use Rattle.std.specs.Str.{bytes_eq}
use Rattle.elm_tree.specs.Regroup.{Row, operator_rows, row_among, row_of}
use Rattle.canon_env.specs.Exposing.{is_operator}

both_left : (a b : Bool) → (a && b) ≡ true → a ≡ true
both_left true b h = refl
both_left false b h = h

both_right : (a b : Bool) → (a && b) ≡ true → b ≡ true
both_right true b h = h
both_right false b h = absurd cc

among : (op : List ℕ) (rows : List Row) → list_all (λ r. nat_lt r.level 10) rows ≡ true →
    nat_lt (row_among op rows).level 10 ≡ list_any (λ r. bytes_eq op r.text) rows
among op [] h = refl
among op (r ∷ rs) h =
    by (bytes_eq op r.text) (both_left (nat_lt r.level 10) (list_all (λ s. nat_lt s.level 10) rs) h)
    (among op rs (both_right (nat_lt r.level 10) (list_all (λ s. nat_lt s.level 10) rs) h))
  where
    by : (b : Bool) → nat_lt r.level 10 ≡ true →
        nat_lt (row_among op rs).level 10 ≡ list_any (λ s. bytes_eq op s.text) rs →
        nat_lt (if b then r else row_among op rs).level 10 ≡ (b || list_any (λ s. bytes_eq op s.text) rs)
    by true low more = low
    by false low more = more

pub level_tells : (op : List ℕ) → nat_lt (row_of op).level 10 ≡ is_operator op
unfolding row_of
level_tells op = among op operator_rows refl
