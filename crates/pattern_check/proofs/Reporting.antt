-- The pattern that is made of the parts of the missing row is the missing pattern.
use Rattle.std.proofs.Common.{◌≡◌, ℕ, zero, suc, ◌+◌, List, [], ◌∷◌, ◌++◌, Bool, true, false, Option, Some, None, map, take}
use Rattle.std.proofs.Common.{drop, if◌then◌else◌, refl, sym, ap, ◌∙◌}
use Rattle.std.specs.Prelude.{⊤, option_map, option_and_then, option_to_list}
use Rattle.std.specs.Option.{MatchOption}
use Rattle.elm_canon.specs.Tree as plain
use Rattle.elm_canon.specs.Tree.{patterns_of}
use Rattle.elm_canon.specs.View.{pattern_view}
use Rattle.elm_canon.specs.declared.tree.Pattern.{Pattern}
use Rattle.pattern_check.specs.Shapes.{Head, Literally, OtherLiteral, Constructor, Open, Begins, Shapes, NoShape}
use Rattle.pattern_check.specs.Shapes.{MoreShape, shape_of, written, written_all, arity_of}
use Rattle.pattern_check.specs.Missing.{joined, opens, front, back, rest_of, rows_where, heads, candidates, or_else, first_of}
use Rattle.pattern_check.specs.Missing.{built, missing_where, missing_by, missing_at, some_open, missing_in, sizes, rows_size}
use Rattle.pattern_check.specs.Missing.{alone, first_shape, missing}
use Rattle.pattern_check.specs.Flat.{Part, flat}
use Rattle.pattern_check.specs.Built.{head_pattern, made, unlisted, stack_view}
use Rattle.pattern_check.specs.Counted.{patterns_parts, left_out_list, missing_list}
use Rattle.pattern_check.proofs.Flattened.{flat_built}
use Rattle.pattern_check.proofs.Checked.{left_row, parts_are}
use Rattle.pattern_check.proofs.Building.{stack_push}

-- the patterns of a row
abbrev pub written_list : Shapes → List plain.Pattern
written_list NoShape = []
written_list (MoreShape s ss) = written s ∷ written_list ss

written_front : (n : ℕ) (ss : Shapes) → take n (written_list ss) ≡ written_list (front n ss)
written_front zero ss = refl
written_front (suc n) NoShape = refl
written_front (suc n) (MoreShape s ss) = ap (λ z. written s ∷ z) (written_front n ss)

written_back : (n : ℕ) (ss : Shapes) → drop n (written_list ss) ≡ written_list (back n ss)
written_back zero ss = refl
written_back (suc n) NoShape = refl
written_back (suc n) (MoreShape s ss) = written_back n ss

written_are : (ss : Shapes) → patterns_of (written_list ss) ≡ written_all ss
written_are NoShape = refl
written_are (MoreShape s ss) = ap (plain.MorePattern (written s)) (written_are ss)

head_written : (h : Head) (ss : Shapes) → head_pattern h (written_list ss) ≡ written (Begins h ss)
head_written (Literally l) ss = refl
head_written OtherLiteral ss = refl
head_written (Constructor u a) ss = ap (plain.Construct u a) (written_are ss)

-- the parts of the row make its patterns
abbrev Makes : Shapes → Type 0
Makes ss = unlisted (flat ss) [] ≡ written_list ss

makes_built : (h : Head) (ss : Shapes) → Makes ss → Makes (built h ss)
makes_built h ss e =
    ap (λ z. unlisted z []) (flat_built h ss) ∙ ap (made (Some h)) e
    ∙ ap (λ z. head_pattern h z ∷ drop (arity_of h) (written_list ss)) (written_front (arity_of h) ss)
    ∙ ap (λ z. z ∷ drop (arity_of h) (written_list ss)) (head_written h (front (arity_of h) ss))
    ∙ ap (λ z. written (Begins h (front (arity_of h) ss)) ∷ z) (written_back (arity_of h) ss)

-- what is found does, if anything is
abbrev FoundMakes : Option Shapes → Type 0
FoundMakes None = ⊤
FoundMakes (Some ss) = Makes ss

found_built : (c : Head) (o : Option Shapes) → FoundMakes o → FoundMakes (option_map (built c) o)
found_built c None m = tt
found_built c (Some s) m = makes_built c s m

found_passed : (o : Option Shapes) → FoundMakes o → FoundMakes (option_map (MoreShape Open) o)
found_passed None m = tt
found_passed (Some s) m = ap (λ z. plain.Anything ∷ z) m

found_or : (a b : Option Shapes) → FoundMakes a → FoundMakes b → FoundMakes (or_else a b)
found_or None b f g = g
found_or (Some s) b f g = f

found_first : (try : Head → Option Shapes) → ((c : Head) → FoundMakes (try c)) → (cs : List Head) → FoundMakes (first_of try cs)
found_first try f [] = tt
found_first try f (c ∷ cs) = found_or (try c) (first_of try cs) (f c) (found_first try f cs)

module _ (further : Shapes → List Shapes → Option Shapes)
    (good : (q : Shapes) (rows : List Shapes) → FoundMakes (further q rows)) where
  makes_by : (q : Shapes) (rows : List Shapes) (hs : List Head) (o : Option Shapes) → FoundMakes o →
      FoundMakes (missing_by further q rows hs o)
  makes_by q rows [] o m = found_passed o m
  makes_by q rows (h ∷ hs) o m =
      found_first (λ c. missing_where further c (joined (opens (arity_of c)) q) rows)
      (λ c. found_built c (further (joined (opens (arity_of c)) q) (rows_where c rows))
      (good (joined (opens (arity_of c)) q) (rows_where c rows))) (candidates h hs)

  makes_at : (q : Shapes) (rows : List Shapes) → FoundMakes (missing_at further q rows)
  makes_at NoShape [] = refl
  makes_at NoShape (r ∷ rows) = tt
  makes_at (MoreShape Open q) rows =
      makes_by q rows (heads rows) (missing_at further q (map rest_of rows)) (makes_at q (map rest_of rows))
  makes_at (MoreShape (Begins h ps) q) rows =
      found_built h (further (joined ps q) (rows_where h rows)) (good (joined ps q) (rows_where h rows))

makes_in : (n : ℕ) (q : Shapes) (rows : List Shapes) → FoundMakes (missing_in n q rows)
makes_in zero q rows = tt
makes_in (suc n) q rows = by (makes_at (missing_in n) (makes_in n) q rows) (some_open rows)
  where
    by : FoundMakes (missing_at (missing_in n) q rows) → (b : Bool) → FoundMakes (if b then None else missing_at (missing_in n) q rows)
    by m true = tt
    by m false = m

-- ---- the first pattern

abbrev pub first_pattern : List plain.Pattern → Option plain.Pattern
first_pattern [] = None
first_pattern (p ∷ ps) = Some p

-- what the parts make
abbrev pub reported : Option (List Part) → Option plain.Pattern
reported o = option_and_then (λ parts. first_pattern (unlisted parts [])) o

first_written : (ss : Shapes) → first_pattern (written_list ss) ≡ option_map written (first_shape ss)
first_written NoShape = refl
first_written (MoreShape s ss) = refl

reports : (o : Option Shapes) → FoundMakes o →
    reported (option_map flat o) ≡ option_map written (option_and_then first_shape o)
reports None m = refl
reports (Some ss) m = ap first_pattern m ∙ first_written ss

pub reported_missing : (ps : List Pattern) →
    reported (left_out_list (None ∷ []) (patterns_parts ps)) ≡ missing (map pattern_view ps)
reported_missing ps =
    let ss = map shape_of (map pattern_view ps) in
    let n = suc (sizes (alone Open) + rows_size (map alone ss)) in
    ap (λ z. reported (left_out_list (None ∷ []) z)) (parts_are ps) ∙ ap reported (left_row ss Open)
    ∙ reports (missing_in n (alone Open) (map alone ss)) (makes_in n (alone Open) (map alone ss))

pub none_left : {X : Type 0} (r : Option X) (N : Type 0) (S : X → Type 0) → MatchOption r N S → r ≡ None → N
none_left None N S m e = m
none_left (Some x) N S m e = absurd cc

-- the first is on the top
pub popped : (old new : List Pattern) (r : Option Pattern) → old ≡ new ++ option_to_list r → (r ≡ None → old ≡ []) →
    option_map pattern_view r ≡ first_pattern (stack_view old [])
popped old new None e n = sym (ap (λ z. first_pattern (stack_view z [])) (n refl))
popped old new (Some p) e n = sym (ap (λ z. first_pattern (stack_view z [])) e ∙ ap first_pattern (stack_push new p []))

-- what the parts that are found make
pub parts_missing : {T : Type 0} (f : T → List Part) (r : Option T) (ps : List Pattern) →
    option_map f r ≡ missing_list ps → reported (option_map f r) ≡ missing (map pattern_view ps)
parts_missing f r ps e = ap reported e ∙ reported_missing ps
