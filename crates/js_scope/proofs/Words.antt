-- The words in their tables.
use Rattle.std.proofs.Common.{◌≡◌, ℕ, ◌+◌, ◌<◌, ◌≤◌, List, [], ◌∷◌, Bool, true, false, ◌||◌, nat_eq, if◌then◌else◌, map}
use Rattle.std.proofs.Common.{drop, length, get_or, Bor, refl, sym, ap, ◌∙◌, arith}
use Rattle.std.proofs.lemmas.Bool.Decides.{nat_tests}
use Rattle.std.proofs.lemmas.List.{at_drop_more, at_drop_all}
use Rattle.std.specs.List.{list_any, starts_with}
use Rattle.std.specs.Str.{bytes_eq}
use Rattle.js_tree.specs.Automaton.{Word, word_text, words, begin_statement_words, find_word, begins_with, State}
use Rattle.js_scope.specs.Words.{word_view}
use Rattle.js_scope.specs.declared.word.Word as word

same : (c d : ℕ) → nat_eq c d ≡ nat_eq d c
same c d = grind (arith, nat_tests)

pub begins_like : (w cs : List ℕ) → starts_with nat_eq w cs ≡ begins_with w cs
begins_like w [] = refl
begins_like [] (c ∷ cs) = refl
begins_like (d ∷ ds) (c ∷ cs) = rw (same c d, begins_like ds cs) refl

-- a row of the table
abbrev pub Entry : Type 0
Entry = Bor (List ℕ) × word.Word

abbrev pub row : Entry → List ℕ × Word
row e = (e.0.now, word_view e.1)

abbrev pub spelled : Word → List ℕ × Word
spelled w = (word_text w, w)

-- the first row with these bytes
pub find_entry : List Entry → List ℕ → State → (Word → State) → State
find_entry [] cs none found = none
find_entry (e ∷ es) cs none found = if bytes_eq e.0.now cs then found (word_view e.1) else find_entry es cs none found

find_row : List (List ℕ × Word) → List ℕ → State → (Word → State) → State
find_row [] cs none found = none
find_row (r ∷ rs) cs none found = if bytes_eq r.0 cs then found r.1 else find_row rs cs none found

find_in_rows : (es : List Entry) (cs : List ℕ) (none : State) (found : Word → State) → find_entry es cs none found
    ≡ find_row (map row es) cs none found
unfolding find_entry find_row
find_in_rows [] cs none found = refl
find_in_rows (e ∷ es) cs none found =
    ap (λ s. if bytes_eq e.0.now cs then found (word_view e.1) else s) (find_in_rows es cs none found)

find_spelled : (ws : List Word) (cs : List ℕ) (none : State) (found : Word → State)
    → find_row (map spelled ws) cs none found ≡ find_word ws cs none found
unfolding find_row
find_spelled [] cs none found = refl
find_spelled (w ∷ ws) cs none found =
    ap (λ s. if bytes_eq (word_text w) cs then found w else s) (find_spelled ws cs none found)

pub find_words : (es : List Entry) → map row es ≡ map spelled words
    → (cs : List ℕ) (none : State) (found : Word → State) → find_entry es cs none found ≡ find_word words cs none found
find_words es table cs none found =
    find_in_rows es cs none found
    ∙ (ap (λ (rs : List (List ℕ × Word)). find_row rs cs none found) table ∙ find_spelled words cs none found)

pub find_none : (es : List Entry) (i : ℕ) (cs : List ℕ) (none : State) (found : Word → State) → length es ≤ i
    → find_entry (drop i es) cs none found ≡ none
unfolding find_entry
find_none es i cs none found h = at_drop_all (λ (xs : List Entry). find_entry xs cs none found) es i h

-- the row is not the one, or is
pub find_later : (es : List Entry) (i : ℕ) (d : Entry) (cs : List ℕ) (none : State) (found : Word → State)
    → i < length es → bytes_eq (get_or es i d).0.now cs ≡ false
    → find_entry (drop (i + 1) es) cs none found ≡ find_entry (drop i es) cs none found
unfolding find_entry
find_later es i d cs none found h differs =
    sym (at_drop_more (λ (xs : List Entry). find_entry xs cs none found) es i d h
    ∙ ap (λ (b : Bool). if b then found (word_view (get_or es i d).1) else find_entry (drop (i + 1) es) cs none found) differs)

pub find_here : (es : List Entry) (i : ℕ) (d : Entry) (cs : List ℕ) (none : State) (found : Word → State)
    → i < length es → bytes_eq (get_or es i d).0.now cs ≡ true
    → find_entry (drop i es) cs none found ≡ found (word_view (get_or es i d).1)
unfolding find_entry
find_here es i d cs none found h is =
    at_drop_more (λ (xs : List Entry). find_entry xs cs none found) es i d h
    ∙ ap (λ (b : Bool). if b then found (word_view (get_or es i d).1) else find_entry (drop (i + 1) es) cs none found) is

any_map : {A B : Type 0} (p : B → Bool) (f : A → B) (xs : List A) → list_any (λ x. p (f x)) xs ≡ list_any p (map f xs)
any_map p f [] = refl
any_map p f (x ∷ xs) = ap (λ b. p (f x) || b) (any_map p f xs)

-- some row begins so
pub begun_entry : List Entry → List ℕ → Bool
begun_entry es cs = list_any (λ (e : Entry). begins_with e.0.now cs) es

pub begun_words : (es : List Entry) → map row es ≡ map spelled words → (cs : List ℕ) → begun_entry es cs
    ≡ list_any (λ w. begins_with (word_text w) cs) words
unfolding begun_entry
begun_words es table cs =
    let p : List ℕ × Word → Bool = λ r. begins_with r.0 cs in
    any_map p row es ∙ (ap (list_any p) table ∙ sym (any_map p spelled words))

-- an element passes the test, or none does that is left
any_here : {A : Type 0} (p : A → Bool) (xs : List A) (i : ℕ) (d : A) → i < length xs → p (get_or xs i d) ≡ true
    → list_any p (drop i xs) ≡ true
any_here p xs i d h passes =
    at_drop_more (λ ys. list_any p ys) xs i d h ∙ ap (λ b. b || list_any p (drop (i + 1) xs)) passes

any_later : {A : Type 0} (p : A → Bool) (xs : List A) (i : ℕ) (d : A) → i < length xs → p (get_or xs i d) ≡ false
    → list_any p (drop (i + 1) xs) ≡ list_any p (drop i xs)
any_later p xs i d h fails =
    sym (at_drop_more (λ ys. list_any p ys) xs i d h ∙ ap (λ b. b || list_any p (drop (i + 1) xs)) fails)

any_none : {A : Type 0} (p : A → Bool) (xs : List A) (i : ℕ) → length xs ≤ i → list_any p (drop i xs) ≡ false
any_none p xs i h = at_drop_all (λ ys. list_any p ys) xs i h

pub begun_here : (es : List Entry) (i : ℕ) (d : Entry) (cs : List ℕ) → i < length es
    → begins_with (get_or es i d).0.now cs ≡ true → begun_entry (drop i es) cs ≡ true
unfolding begun_entry
begun_here es i d cs = any_here (λ (e : Entry). begins_with e.0.now cs) es i d

pub begun_later : (es : List Entry) (i : ℕ) (d : Entry) (cs : List ℕ) → i < length es
    → begins_with (get_or es i d).0.now cs ≡ false → begun_entry (drop (i + 1) es) cs ≡ begun_entry (drop i es) cs
unfolding begun_entry
begun_later es i d cs = any_later (λ (e : Entry). begins_with e.0.now cs) es i d

pub begun_none : (es : List Entry) (i : ℕ) (cs : List ℕ) → length es ≤ i → begun_entry (drop i es) cs ≡ false
unfolding begun_entry
begun_none es i cs = any_none (λ (e : Entry). begins_with e.0.now cs) es i

-- the same of the words of statements
abbrev pub Keyword : Type 0
Keyword = Bor (List ℕ)

pub begun_keyword : List Keyword → List ℕ → Bool
begun_keyword ks cs = list_any (λ (k : Keyword). begins_with k.now cs) ks

pub begun_keywords : (ks : List Keyword) → map (λ (k : Keyword). k.now) ks ≡ begin_statement_words → (cs : List ℕ)
    → begun_keyword ks cs ≡ list_any (λ w. begins_with w cs) begin_statement_words
unfolding begun_keyword
begun_keywords ks table cs =
    let p : List ℕ → Bool = λ w. begins_with w cs in
    any_map p (λ (k : Keyword). k.now) ks ∙ ap (list_any p) table

pub keyword_here : (ks : List Keyword) (i : ℕ) (d : Keyword) (cs : List ℕ) → i < length ks
    → begins_with (get_or ks i d).now cs ≡ true → begun_keyword (drop i ks) cs ≡ true
unfolding begun_keyword
keyword_here ks i d cs = any_here (λ (k : Keyword). begins_with k.now cs) ks i d

pub keyword_later : (ks : List Keyword) (i : ℕ) (d : Keyword) (cs : List ℕ) → i < length ks
    → begins_with (get_or ks i d).now cs ≡ false → begun_keyword (drop (i + 1) ks) cs ≡ begun_keyword (drop i ks) cs
unfolding begun_keyword
keyword_later ks i d cs = any_later (λ (k : Keyword). begins_with k.now cs) ks i d

pub keyword_none : (ks : List Keyword) (i : ℕ) (cs : List ℕ) → length ks ≤ i → begun_keyword (drop i ks) cs ≡ false
unfolding begun_keyword
keyword_none ks i cs = any_none (λ (k : Keyword). begins_with k.now cs) ks i
