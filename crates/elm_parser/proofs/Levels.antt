-- What the program keeps of a level tells what the level tells.
use Rattle.std.proofs.Common.{◌≡◌, ℕ, zero, suc, ◌+◌, ◌-◌, ◌≤◌, List, [], ◌∷◌, ◌++◌, map, length, get_or, Bool, true}
use Rattle.std.proofs.Common.{false, ◌&&◌, if◌then◌else◌, nat_eq, nat_lt, nat_le, Option, Some, None, refl, sym, ap}
use Rattle.std.proofs.Common.{◌∙◌, arith}
use Rattle.std.proofs.lemmas.Bool.Decides.{nat_tests}
use Rattle.std.specs.Str.{bytes_eq}
use Rattle.elm_lexer.specs.Tokens.{Token}
use Rattle.elm_tree.specs.Tree.{Word}
use Rattle.elm_tree.specs.Words.{token_at, word_of}
use Rattle.elm_tree.specs.Regroup.{Row, row_among, row_of, operator_rows, level_of, side_of, clash_of, clashes_after}
use Rattle.elm_tree.specs.declared.operator.Side.{Side}
use Rattle.parse_machine.specs.declared.table.Token as machine
use Rattle.elm_grammar.specs.Classes as class
use Rattle.elm_parser.specs.declared.level.Level as declared
use Rattle.elm_base.specs.declared.fault.Code.TheVariants.{TooDeep, MixedOperators, TupleTooLarge}
use Rattle.elm_parser.specs.Faults.{Decided, is_one_of, is_of, begins_with, openers, operators, lists, Level, outermost}
use Rattle.elm_parser.specs.Faults.{below, read, fault_if, clashes, at_token}
use Rattle.elm_parser.specs.Scan as scan

-- ---- the nearest operators

abbrev pub nearest_at : ℕ → List Word → Option Side
nearest_at k [] = None
nearest_at k (p ∷ ps) =
    if nat_lt k (level_of p) then nearest_at k ps else (if nat_eq (level_of p) k then Some (side_of p) else None)

abbrev pub sides_of : List Word → List (Option Side)
sides_of ws =
    nearest_at 0 ws ∷ nearest_at 1 ws ∷ nearest_at 2 ws ∷ nearest_at 3 ws ∷ nearest_at 4 ws ∷ nearest_at 5 ws
    ∷ nearest_at 6 ws ∷ nearest_at 7 ws ∷ nearest_at 8 ws ∷ nearest_at 9 ws ∷ nearest_at 10 ws ∷ []

abbrev pub words : List Token → List machine.Token → List Word
words tokens ts = map (λ (t : machine.Token). word_of (token_at tokens t.index)) ts

abbrev pub kept : List Token → Level → declared.Level
kept tokens l = record {
  constructs_left = 257 - l.depth;
  operators_left = 1024 - length l.chain;
  commas_left = 2 - l.commas;
  sides = sides_of (words tokens l.chain);
  annotated = l.annotated;
}

-- the levels go up to ten
abbrev LowRows : List Row → Type 0
LowRows [] = Unit {0}
LowRows (r ∷ rs) = (r.level ≤ 10) × LowRows rs

low_among : (op : List ℕ) (rs : List Row) → LowRows rs → (row_among op rs).level ≤ 10
low_among op [] h = omega arith
low_among op (r ∷ rs) h = by (bytes_eq op r.text) (low_among op rs h.1)
  where
    by : (b : Bool) → (row_among op rs).level ≤ 10 → (if b then r else row_among op rs).level ≤ 10
    by true more = h.0
    by false more = more

low_rows : LowRows operator_rows
low_rows = (omega arith, (omega arith, (omega arith, (omega arith, (omega arith, (omega arith, (omega arith, (omega arith, (omega arith, (omega arith, (omega arith, (omega arith, (omega arith, (omega arith, (omega arith, (omega arith, (omega arith, (omega arith, (omega arith, tt)))))))))))))))))))

pub level_low : (op : Word) → level_of op ≤ 10
unfolding row_of
level_low op = low_among op.text operator_rows low_rows

-- an operator clashes with the nearest of its level
clash_nearest : (ws : List Word) (op : Word) →
    clashes_after ws op ≡ scan.clash_with (nearest_at (level_of op) ws) (side_of op)
clash_nearest [] op = refl
clash_nearest (p ∷ ps) op = by (nat_lt (level_of op) (level_of p)) (nat_eq (level_of p) (level_of op)) (clash_nearest ps op)
  where
    by : (a b : Bool) → clashes_after ps op ≡ scan.clash_with (nearest_at (level_of op) ps) (side_of op) →
        (if a then clashes_after ps op else (b && clash_of (side_of p) (side_of op)))
        ≡ scan.clash_with (if a then nearest_at (level_of op) ps else (if b then Some (side_of p) else None)) (side_of op)
    by true b more = more
    by false true more = refl
    by false false more = refl

-- one after the other up to ten
each : (P : ℕ → Type 0) → P 0 → P 1 → P 2 → P 3 → P 4 → P 5 → P 6 → P 7 → P 8 → P 9 → P 10 → (k : ℕ) → k ≤ 10 → P k
each P a b c d e f g h i j l zero m = a
each P a b c d e f g h i j l (suc zero) m = b
each P a b c d e f g h i j l (suc (suc zero)) m = c
each P a b c d e f g h i j l (suc (suc (suc zero))) m = d
each P a b c d e f g h i j l (suc (suc (suc (suc zero)))) m = e
each P a b c d e f g h i j l (suc (suc (suc (suc (suc zero))))) m = f
each P a b c d e f g h i j l (suc (suc (suc (suc (suc (suc zero)))))) m = g
each P a b c d e f g h i j l (suc (suc (suc (suc (suc (suc (suc zero))))))) m = h
each P a b c d e f g h i j l (suc (suc (suc (suc (suc (suc (suc (suc zero)))))))) m = i
each P a b c d e f g h i j l (suc (suc (suc (suc (suc (suc (suc (suc (suc zero))))))))) m = j
each P a b c d e f g h i j l (suc (suc (suc (suc (suc (suc (suc (suc (suc (suc zero)))))))))) m = l
each P a b c d e f g h i j l (suc (suc (suc (suc (suc (suc (suc (suc (suc (suc (suc k))))))))))) m = absurd (omega arith)

side_at : (ws : List Word) (k : ℕ) → k ≤ 10 → get_or (sides_of ws) k None ≡ nearest_at k ws
side_at ws = each (λ k. get_or (sides_of ws) k None ≡ nearest_at k ws) refl refl refl refl refl refl refl refl refl refl refl

-- of an operator of level k
sides_put : (ws : List Word) (op : Word) (k : ℕ) → k ≤ 10 → level_of op ≡ k →
    sides_of (op ∷ ws) ≡ scan.sides_after (sides_of ws) k (side_of op)
sides_put ws op =
    each (λ k. level_of op ≡ k → sides_of (op ∷ ws) ≡ scan.sides_after (sides_of ws) k (side_of op))
    (λ e. rw e refl) (λ e. rw e refl) (λ e. rw e refl) (λ e. rw e refl) (λ e. rw e refl) (λ e. rw e refl) (λ e. rw e refl) (λ e. rw e refl) (λ e. rw e refl) (λ e. rw e refl) (λ e. rw e refl)

-- ---- each step

outermost_kept : (tokens : List Token) (d : ℕ) → scan.outermost (257 - d) ≡ kept tokens (outermost d)
outermost_kept tokens d = refl

pub below_kept : (tokens : List Token) (l : Level) (p : ℕ) → scan.below (kept tokens l) p ≡ kept tokens (below l p)
below_kept tokens l p = by (begins_with openers p) (is_of lists p)
  where
    one_less : (257 - l.depth) - 1 ≡ 257 - (l.depth + 1)
    one_less = omega arith

    by : (a b : Bool) →
        (let left = (if a then (257 - l.depth) - 1 else 257 - l.depth) in
        if b then record (kept tokens l) { constructs_left = left } else scan.outermost left)
        ≡ kept tokens
        (let depth = (if a then l.depth + 1 else l.depth) in
        if b then record { depth = depth; chain = l.chain; commas = l.commas; annotated = l.annotated }
        else outermost depth)
    by true true = ap (λ z. record (kept tokens l) { constructs_left = z }) one_less
    by true false = ap scan.outermost one_less
    by false true = refl
    by false false = refl

abbrev made : Level → ℕ → ℕ → List (Option Side) → declared.Level
made l o c sides = record {
  constructs_left = 257 - l.depth;
  operators_left = o;
  commas_left = c;
  sides = sides;
  annotated = l.annotated;
}

pub read_kept : (tokens : List Token) (l : Level) (t : machine.Token) →
    scan.read tokens (kept tokens l) t ≡ kept tokens (read l t)
read_kept tokens l t = by (is_one_of operators t.class) (nat_eq t.class class.comma)
  where
    comma_less : (2 - l.commas) - 1 ≡ 2 - (l.commas + 1)
    comma_less = omega arith

    op_less : (1024 - length l.chain) - 1 ≡ 1024 - suc (length l.chain)
    op_less = omega arith

    sides_on : scan.sides_after (sides_of (words tokens l.chain)) (level_of (word_of (token_at tokens t.index)))
        (side_of (word_of (token_at tokens t.index)))
        ≡ sides_of (word_of (token_at tokens t.index) ∷ words tokens l.chain)
    sides_on =
        let op = word_of (token_at tokens t.index) in
        sym (sides_put (words tokens l.chain) op (level_of op) (level_low op) refl)

    by : (a b : Bool) →
        (let m = (if a then scan.with_operator tokens (kept tokens l) t else kept tokens l) in
        if b then record m { commas_left = m.commas_left - 1 } else m)
        ≡ kept tokens (record {
          depth = l.depth;
          chain = if a then t ∷ l.chain else l.chain;
          commas = if b then l.commas + 1 else l.commas;
          annotated = l.annotated;
        })
    by true true =
        ap (λ z. made l ((1024 - length l.chain) - 1) ((2 - l.commas) - 1) z) sides_on
        ∙ ap (λ z. made l z ((2 - l.commas) - 1) (sides_of (words tokens (t ∷ l.chain)))) op_less
        ∙ ap (λ z. made l (1024 - suc (length l.chain)) z (sides_of (words tokens (t ∷ l.chain)))) comma_less
    by true false =
        ap (λ z. made l ((1024 - length l.chain) - 1) (2 - l.commas) z) sides_on
        ∙ ap (λ z. made l z (2 - l.commas) (sides_of (words tokens (t ∷ l.chain)))) op_less
    by false true = ap (λ z. made l (1024 - length l.chain) z (sides_of (words tokens l.chain))) comma_less
    by false false = refl

abbrev faults_by : machine.Token → Bool → Bool → Bool → Bool → List Decided
faults_by t a b c d =
    fault_if (is_one_of openers t.class && a) t TooDeep ++ fault_if (is_one_of operators t.class && b) t TooDeep
    ++ fault_if (is_one_of operators t.class && c) t MixedOperators
    ++ fault_if (nat_eq t.class class.comma && d) t TupleTooLarge

pub token_kept : (tokens : List Token) (l : Level) (t : machine.Token) →
    scan.at_token tokens (kept tokens l) t ≡ at_token tokens l t
token_kept tokens l t =
    ap (λ z. faults_by t z (nat_eq (1024 - length l.chain) 0) (scan.clashes tokens (kept tokens l) t) (nat_eq (2 - l.commas) 0)) deep
    ∙ ap (λ z. faults_by t (nat_lt 256 l.depth) z (scan.clashes tokens (kept tokens l) t) (nat_eq (2 - l.commas) 0)) many
    ∙ ap (λ z. faults_by t (nat_lt 256 l.depth) (nat_le 1024 (length l.chain)) z (nat_eq (2 - l.commas) 0)) mixed
    ∙ ap (λ z. faults_by t (nat_lt 256 l.depth) (nat_le 1024 (length l.chain)) (clashes tokens l.chain t) z) large
  where
    deep : nat_eq (257 - l.depth) 0 ≡ nat_lt 256 l.depth
    deep = grind (arith, nat_tests)

    many : nat_eq (1024 - length l.chain) 0 ≡ nat_le 1024 (length l.chain)
    many = grind (arith, nat_tests)

    large : nat_eq (2 - l.commas) 0 ≡ nat_le 2 l.commas
    large = grind (arith, nat_tests)

    mixed : scan.clashes tokens (kept tokens l) t ≡ clashes tokens l.chain t
    mixed =
        let op = word_of (token_at tokens t.index) in
        ap (λ z. scan.clash_with z (side_of op)) (side_at (words tokens l.chain) (level_of op) (level_low op))
        ∙ sym (clash_nearest (words tokens l.chain) op)
