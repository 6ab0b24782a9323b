-- The missing row as a list is the list of the missing row.
use Rattle.std.proofs.Common.{◌≡◌, ℕ, zero, suc, List, [], ◌∷◌, ◌++◌, Bool, true, false, ◌||◌, if◌then◌else◌, Option}
use Rattle.std.proofs.Common.{Some, None, map, refl, sym, ap, ◌∙◌, append_assoc}
use Rattle.std.specs.Prelude.{option_map}
use Rattle.pattern_check.specs.Shapes.{Head, Open, Begins, Shapes, NoShape, MoreShape, same_head, arity_of}
use Rattle.pattern_check.specs.Missing.{joined, opens, front, back, rest_of, row_where, put_before, rows_where, heads}
use Rattle.pattern_check.specs.Missing.{candidates, or_else, first_of, built, missing_where, missing_by, missing_at}
use Rattle.pattern_check.specs.Missing.{is_open, some_open, missing_in}
use Rattle.pattern_check.specs.Flat.{Part, flat_one, flat, open_parts, list_where, put_list, lists_where, list_heads}
use Rattle.pattern_check.specs.Flat.{tail_of, or_list, first_list, Search, found_where, found_by, found_at, is_open_list}
use Rattle.pattern_check.specs.Flat.{some_open_list, found_in}
use Rattle.pattern_check.proofs.Rows.{joined_cut}

flat_joined : (a b : Shapes) → flat (joined a b) ≡ flat a ++ flat b
flat_joined NoShape b = refl
flat_joined (MoreShape s a) b =
    ap (λ z. flat_one s ++ z) (flat_joined a b) ∙ sym (append_assoc (flat_one s) (flat a) (flat b))

flat_opens : (n : ℕ) → flat (opens n) ≡ open_parts n
flat_opens zero = refl
flat_opens (suc n) = ap (λ z. None ∷ z) (flat_opens n)

flat_opened : (n : ℕ) (b : Shapes) → flat (joined (opens n) b) ≡ open_parts n ++ flat b
flat_opened n b = flat_joined (opens n) b ∙ ap (λ z. z ++ flat b) (flat_opens n)

flat_where : (h : Head) (r : Shapes) → option_map flat (row_where h r) ≡ list_where h (flat r)
flat_where h NoShape = refl
flat_where h (MoreShape Open r) = ap Some (flat_opened (arity_of h) r)
flat_where h (MoreShape (Begins g ps) r) = by (same_head g h)
  where
    by : (b : Bool) → option_map flat (if b then Some (joined ps r) else None) ≡ (if b then Some (flat ps ++ flat r) else None)
    by true = ap Some (flat_joined ps r)
    by false = refl

flat_put : (o : Option Shapes) (rows : List Shapes) → map flat (put_before o rows) ≡ put_list (option_map flat o) (map flat rows)
flat_put None rows = refl
flat_put (Some r) rows = refl

flat_rows : (h : Head) (rows : List Shapes) → map flat (rows_where h rows) ≡ lists_where h (map flat rows)
flat_rows h [] = refl
flat_rows h (r ∷ rows) =
    flat_put (row_where h r) (rows_where h rows)
    ∙ ap (λ o. put_list o (map flat (rows_where h rows))) (flat_where h r)
    ∙ ap (put_list (list_where h (flat r))) (flat_rows h rows)

flat_heads : (rows : List Shapes) → list_heads (map flat rows) ≡ heads rows
flat_heads [] = refl
flat_heads (NoShape ∷ rows) = flat_heads rows
flat_heads (MoreShape Open r ∷ rows) = flat_heads rows
flat_heads (MoreShape (Begins h ps) r ∷ rows) = ap (λ z. h ∷ z) (flat_heads rows)

flat_rests : (rows : List Shapes) → heads rows ≡ [] → map tail_of (map flat rows) ≡ map flat (map rest_of rows)
flat_rests [] e = refl
flat_rests (NoShape ∷ rows) e = ap (λ z. [] ∷ z) (flat_rests rows e)
flat_rests (MoreShape Open r ∷ rows) e = ap (λ z. flat r ∷ z) (flat_rests rows e)
flat_rests (MoreShape (Begins h ps) r ∷ rows) e = absurd cc

pub flat_built : (h : Head) (s : Shapes) → flat (built h s) ≡ Some h ∷ flat s
flat_built h s =
    ap (λ z. Some h ∷ z) (sym (flat_joined (front (arity_of h) s) (back (arity_of h) s)) ∙ ap flat (joined_cut (arity_of h) s))

flat_open : (r : Shapes) → is_open_list (flat r) ≡ is_open r
flat_open NoShape = refl
flat_open (MoreShape Open r) = flat_open r
flat_open (MoreShape (Begins h ps) r) = refl

flat_some_open : (rows : List Shapes) → some_open_list (map flat rows) ≡ some_open rows
flat_some_open [] = refl
flat_some_open (r ∷ rows) =
    ap (λ z. z || some_open_list (map flat rows)) (flat_open r) ∙ ap (λ z. is_open r || z) (flat_some_open rows)

flat_first : (try : Head → Option Shapes) (find : Head → Option (List Part)) →
    ((c : Head) → option_map flat (try c) ≡ find c) → (cs : List Head) →
    option_map flat (first_of try cs) ≡ first_list find cs
flat_first try find f [] = refl
flat_first try find f (c ∷ cs) = or_is (try c) ∙ ap (λ z. or_list z (option_map flat (first_of try cs))) (f c) ∙ ap (or_list (find c)) (flat_first try find f cs)
  where
    or_is : (o : Option Shapes) →
        option_map flat (or_else o (first_of try cs)) ≡ or_list (option_map flat o) (option_map flat (first_of try cs))
    or_is None = refl
    or_is (Some s) = refl

module _ (further : Shapes → List Shapes → Option Shapes) (search : Search)
    (same : (q : Shapes) (rows : List Shapes) → option_map flat (further q rows) ≡ search (flat q) (map flat rows)) where
  flat_missing : (c : Head) (q : Shapes) (rows : List Shapes) →
      option_map flat (missing_where further c q rows) ≡ found_where search c (flat q) (map flat rows)
  flat_missing c q rows =
      out (further q (rows_where c rows))
      ∙ ap (option_map (λ ps. Some c ∷ ps)) (same q (rows_where c rows) ∙ ap (search (flat q)) (flat_rows c rows))
    where
      out : (o : Option Shapes) →
          option_map flat (option_map (built c) o) ≡ option_map (λ ps. Some c ∷ ps) (option_map flat o)
      out None = refl
      out (Some s) = ap Some (flat_built c s)

  flat_by : (q : Shapes) (rows : List Shapes) (hs : List Head) (passed : Option Shapes) (list : Option (List Part)) →
      (hs ≡ [] → option_map flat passed ≡ list) →
      option_map flat (missing_by further q rows hs passed) ≡ found_by search (flat q) (map flat rows) hs list
  flat_by q rows [] None list e = ap (option_map (λ ps. None ∷ ps)) (e refl)
  flat_by q rows [] (Some s) list e = ap (option_map (λ ps. None ∷ ps)) (e refl)
  flat_by q rows (h ∷ hs) passed list e =
      flat_first (λ c. missing_where further c (joined (opens (arity_of c)) q) rows)
      (λ c. found_where search c (open_parts (arity_of c) ++ flat q) (map flat rows))
      (λ c. flat_missing c (joined (opens (arity_of c)) q) rows
      ∙ ap (λ z. found_where search c z (map flat rows)) (flat_opened (arity_of c) q)) (candidates h hs)

  flat_at : (q : Shapes) (rows : List Shapes) →
      option_map flat (missing_at further q rows) ≡ found_at search (flat q) (map flat rows)
  flat_at NoShape [] = refl
  flat_at NoShape (r ∷ rows) = refl
  flat_at (MoreShape Open q) rows =
      flat_by q rows (heads rows) (missing_at further q (map rest_of rows)) (found_at search (flat q) (map tail_of (map flat rows)))
      (λ e. flat_at q (map rest_of rows) ∙ ap (found_at search (flat q)) (sym (flat_rests rows e)))
      ∙ ap (λ z. found_by search (flat q) (map flat rows) z (found_at search (flat q) (map tail_of (map flat rows)))) (sym (flat_heads rows))
  flat_at (MoreShape (Begins h ps) q) rows =
      flat_missing h (joined ps q) rows ∙ ap (λ z. found_where search h z (map flat rows)) (flat_joined ps q)

pub flat_in : (n : ℕ) (q : Shapes) (rows : List Shapes) →
    option_map flat (missing_in n q rows) ≡ found_in n (flat q) (map flat rows)
flat_in zero q rows = refl
flat_in (suc n) q rows =
    by (flat_at (missing_in n) (found_in n) (flat_in n) q rows) (some_open rows)
    ∙ ap (λ b. if b then None else found_at (found_in n) (flat q) (map flat rows)) (sym (flat_some_open rows))
  where
    by : option_map flat (missing_at (missing_in n) q rows) ≡ found_at (found_in n) (flat q) (map flat rows) →
        (b : Bool) → option_map flat (if b then None else missing_at (missing_in n) q rows)
        ≡ (if b then None else found_at (found_in n) (flat q) (map flat rows))
    by e true = refl
    by e false = e
