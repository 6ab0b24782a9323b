-- What is found of lists is what is found of shapes.
use Rattle.std.proofs.Common.{◌≡◌, ℕ, zero, suc, ◌+◌, List, [], ◌∷◌, ◌++◌, Bool, true, false, Option, Some, None, map}
use Rattle.std.proofs.Common.{if◌then◌else◌, refl, sym, ap, ◌∙◌, arith}
use Rattle.std.specs.Prelude.{option_map, option_and_then, is_some}
use Rattle.elm_canon.specs.View.{pattern_view}
use Rattle.elm_canon.specs.declared.tree.Pattern.{Pattern}
use Rattle.pattern_check.specs.Shapes.{Head, Shape, Open, Begins, Shapes, NoShape, MoreShape, shape_of, written, arity_of}
use Rattle.pattern_check.specs.Missing.{joined, opens, rest_of, rows_where, heads, candidates, or_else, first_of, built}
use Rattle.pattern_check.specs.Missing.{missing_where, missing_by, missing_at, some_open, missing_in, size, sizes}
use Rattle.pattern_check.specs.Missing.{rows_size, alone, first_shape, left_out, redundant_from, redundant, missing}
use Rattle.pattern_check.specs.Flat.{Part, flat_one, flat, found_in}
use Rattle.pattern_check.specs.Counted.{count_of, total_of, patterns_parts, left_out_list, redundant_list}
use Rattle.pattern_check.proofs.Flattened.{flat_in}
use Rattle.pattern_check.proofs.Searching.{append_none}

-- ---- counts

count_joined : (a b : List Part) → count_of (a ++ b) ≡ count_of a + count_of b
count_joined [] b = omega arith
count_joined (None ∷ a) b = count_joined a b
count_joined (Some h ∷ a) b = omega (arith, count_joined a b)

mutual
  count_one : (s : Shape) → count_of (flat_one s) ≡ size s
  count_one Open = refl
  count_one (Begins h ss) = ap suc (count_flat ss)

  count_flat : (ss : Shapes) → count_of (flat ss) ≡ sizes ss
  count_flat NoShape = refl
  count_flat (MoreShape s ss) = omega (arith, count_joined (flat_one s) (flat ss), count_one s, count_flat ss)

total_flat : (rows : List Shapes) → total_of (map flat rows) ≡ rows_size rows
total_flat [] = refl
total_flat (r ∷ rows) = omega (arith, count_flat r, total_flat rows)

-- ---- a row of one column

flat_alone : (s : Shape) → flat (alone s) ≡ flat_one s
flat_alone s = append_none (flat_one s)

flats_alone : (ss : List Shape) → map flat (map alone ss) ≡ map flat_one ss
flats_alone [] = refl
flats_alone (s ∷ ss) = ap (λ z. z ∷ map flat (map alone ss)) (flat_alone s) ∙ ap (λ z. flat_one s ∷ z) (flats_alone ss)

-- what is found has a first part

abbrev Full : Option Shapes → Type 0
Full o = is_some (option_and_then first_shape o) ≡ is_some o

full_built : (c : Head) (o : Option Shapes) → Full (option_map (built c) o)
full_built c None = refl
full_built c (Some s) = refl

full_passed : (o : Option Shapes) → Full (option_map (MoreShape Open) o)
full_passed None = refl
full_passed (Some s) = refl

full_or : (a b : Option Shapes) → Full a → Full b → Full (or_else a b)
full_or None b f g = g
full_or (Some s) b f g = f

full_first : (try : Head → Option Shapes) → ((c : Head) → Full (try c)) → (cs : List Head) → Full (first_of try cs)
full_first try f [] = refl
full_first try f (c ∷ cs) = full_or (try c) (first_of try cs) (f c) (full_first try f cs)

full_by : (further : Shapes → List Shapes → Option Shapes) (q : Shapes) (rows : List Shapes) (hs : List Head) (o : Option Shapes) →
    Full (missing_by further q rows hs o)
full_by further q rows [] o = full_passed o
full_by further q rows (h ∷ hs) o =
    full_first (λ c. missing_where further c (joined (opens (arity_of c)) q) rows)
    (λ c. full_built c (further (joined (opens (arity_of c)) q) (rows_where c rows))) (candidates h hs)

full_at : (further : Shapes → List Shapes → Option Shapes) (s : Shape) (rows : List Shapes) →
    Full (missing_at further (alone s) rows)
full_at further Open rows = full_by further NoShape rows (heads rows) (missing_at further NoShape (map rest_of rows))
full_at further (Begins h ps) rows = full_built h (further (joined ps NoShape) (rows_where h rows))

full_in : (n : ℕ) (s : Shape) (rows : List Shapes) → Full (missing_in n (alone s) rows)
full_in zero s rows = refl
full_in (suc n) s rows = by (some_open rows)
  where
    by : (b : Bool) → Full (if b then None else missing_at (missing_in n) (alone s) rows)
    by true = refl
    by false = full_at (missing_in n) s rows

mapped_some : (o : Option Shapes) → is_some (option_map flat o) ≡ is_some o
mapped_some None = refl
mapped_some (Some s) = refl

-- ---- what is left out

pub left_row : (earlier : List Shape) (p : Shape) →
    left_out_list (flat_one p) (map flat_one earlier)
    ≡ option_map flat (missing_in (suc (sizes (alone p) + rows_size (map alone earlier))) (alone p) (map alone earlier))
left_row earlier p =
    let n = suc (sizes (alone p) + rows_size (map alone earlier)) in
    let k : suc (count_of (flat (alone p)) + total_of (map flat (map alone earlier))) ≡ n =
    omega (arith, count_flat (alone p), total_flat (map alone earlier)) in
    ap (λ z. left_out_list z (map flat_one earlier)) (sym (flat_alone p))
    ∙ ap (left_out_list (flat (alone p))) (sym (flats_alone earlier))
    ∙ ap (λ z. found_in z (flat (alone p)) (map flat (map alone earlier))) k
    ∙ sym (flat_in n (alone p) (map alone earlier))

pub left_is : (earlier : List Shape) (p : Shape) →
    is_some (left_out_list (flat_one p) (map flat_one earlier)) ≡ is_some (left_out earlier p)
left_is earlier p =
    let n = suc (sizes (alone p) + rows_size (map alone earlier)) in
    ap is_some (left_row earlier p) ∙ mapped_some (missing_in n (alone p) (map alone earlier))
    ∙ sym (full_in n p (map alone earlier))

flats_push : (ss : List Shape) (s : Shape) → map flat_one (ss ++ s ∷ []) ≡ map flat_one ss ++ flat_one s ∷ []
flats_push [] s = refl
flats_push (t ∷ ss) s = ap (λ z. flat_one t ∷ z) (flats_push ss s)

redundant_is : (i : ℕ) (earlier ps : List Shape) →
    redundant_list i (map flat_one earlier) (map flat_one ps) ≡ redundant_from i earlier ps
redundant_is i earlier [] = refl
redundant_is i earlier (p ∷ ps) =
    let more : redundant_list (suc i) (map flat_one earlier ++ flat_one p ∷ []) (map flat_one ps) ≡ redundant_from (suc i) (earlier ++ p ∷ []) ps =
    ap (λ z. redundant_list (suc i) z (map flat_one ps)) (sym (flats_push earlier p)) ∙ redundant_is (suc i) (earlier ++ p ∷ []) ps in
    ap (λ b. if b then redundant_list (suc i) (map flat_one earlier ++ flat_one p ∷ []) (map flat_one ps) else i ∷ redundant_list (suc i) (map flat_one earlier ++ flat_one p ∷ []) (map flat_one ps)) (left_is earlier p)
    ∙ ap (λ z. if is_some (left_out earlier p) then z else i ∷ z) more

pub parts_are : (ps : List Pattern) → patterns_parts ps ≡ map flat_one (map shape_of (map pattern_view ps))
parts_are [] = refl
parts_are (p ∷ ps) = ap (λ z. flat_one (shape_of (pattern_view p)) ∷ z) (parts_are ps)

pub redundant_patterns : (ps : List Pattern) → redundant_list 0 [] (patterns_parts ps) ≡ redundant (map pattern_view ps)
redundant_patterns ps = ap (redundant_list 0 []) (parts_are ps) ∙ redundant_is 0 [] (map shape_of (map pattern_view ps))

written_some : (o : Option Shape) → is_some (option_map written o) ≡ is_some o
written_some None = refl
written_some (Some s) = refl

pub missing_patterns : (ps : List Pattern) →
    is_some (left_out_list (None ∷ []) (patterns_parts ps)) ≡ is_some (missing (map pattern_view ps))
missing_patterns ps =
    ap (λ z. is_some (left_out_list (None ∷ []) z)) (parts_are ps) ∙ left_is (map shape_of (map pattern_view ps)) Open
    ∙ sym (written_some (left_out (map shape_of (map pattern_view ps)) Open))

pub found_some : {T : Type 0} (f : T → List Part) (r : Option T) (o : Option (List Part)) → option_map f r ≡ o → is_some r ≡ is_some o
found_some f None o e = ap is_some e
found_some f (Some x) o e = ap is_some e
