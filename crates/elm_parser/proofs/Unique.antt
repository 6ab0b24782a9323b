-- Tokens have at most one derivation from a nonterminal: the next token chooses each production.
use Rattle.std.proofs.Common.{◌≡◌, ℕ, ◌<◌, List, [], ◌∷◌, length, Some, true, refl, sym, ◌∙◌, ap, subst}
use Rattle.parse_machine.specs.declared.table.Symbol.TheVariants.{Part}
use Rattle.parse_machine.specs.declared.table.Row.{Row}
use Rattle.parse_machine.specs.declared.table.Token.{Token}
use Rattle.parse_machine.specs.Grammar.{Production, Is, inside, Tree, leaf, word, node, Spells}
use Rattle.parse_machine.specs.Plan.{Plan, IsPlanned, choice, select}
use Rattle.parse_machine.specs.Planned.{planned}
use Rattle.parse_machine.specs.Rows.{plan_of}
use Rattle.parse_machine.proofs.Stack.{Frame, frame, Reads, finished, closed, a_word, a_node, reads_of}
use Rattle.parse_machine.proofs.Opening.{Good, good_call}
use Rattle.parse_machine.proofs.Planning.{planned-is}
use Rattle.parse_machine.proofs.Selection.{selects, same_production}
use Rattle.elm_grammar.specs.Table.{elm}
use Rattle.elm_parser.proofs.Agreeing.{second, second_word, second_closed, same_choice}
use Rattle.elm_parser.proofs.Standings.{ready}

none_read : (g : List Production) (ys : List Tree) (us : List Token) → Reads g [] ys us → [] ≡ ys
none_read g _ _ finished = refl

words : (t u : Token) (x y : Tree) (xs ys : List Tree) → t ≡ u → x ∷ xs ≡ y ∷ ys → word t x ∷ xs ≡ word u y ∷ ys
words t u x y xs ys e f =
    let g : x ≡ y = cc in
    let h : xs ≡ ys = cc in
    ap (λ z. word z x ∷ xs) e ∙ ap (λ z. word u z ∷ xs) g ∙ ap (λ z. word u y ∷ z) h

nodes : (p q : ℕ) (x y v w : Tree) (xs ys : List Tree) → p ≡ q → x ∷ v ∷ xs ≡ y ∷ w ∷ ys →
    node p x v ∷ xs ≡ node q y w ∷ ys
nodes p q x y v w xs ys e f =
    let g : x ≡ y = cc in
    let h : v ≡ w = cc in
    let i : xs ≡ ys = cc in
    ap (λ z. node z x v ∷ xs) e ∙ ap (λ z. node q z v ∷ xs) g ∙ ap (λ z. node q y z ∷ xs) h ∙ ap (λ z. node q y w ∷ z) i

unique : (g : List Production) (P : Plan) → IsPlanned g P → {S : List Frame} {xs : List Tree} (ys : List Tree)
    {ts us : List Token} → Reads g S xs ts → Reads g S ys us → Good g P S → ts ≡ us → xs ≡ ys
unique g P C ys {us = us} finished e h q = none_read g ys us e
unique g P C ys (closed {xs = xs} d) e h q =
    let k = second_closed g ys e in
    ap (λ z. leaf ∷ z) (unique g P C k.others d k.reads h.2 q) ∙ sym k.trees
unique g P C ys (a_word {t = t} {x = x} {xs = xs} {ts = ts} e st d) f h q =
    let k = second_word g ys f in
    let same : t ≡ k.token = let v : t ∷ ts ≡ k.token ∷ k.rest = q ∙ k.tokens in cc in
    let rest : ts ≡ k.rest = let v : t ∷ ts ≡ k.token ∷ k.rest = q ∙ k.tokens in cc in
    words t k.token x k.x xs k.others same (unique g P C (k.x ∷ k.others) d k.reads (tt, h.1.2, h.2) rest) ∙ sym k.trees
unique g P C ys {ts = ts} {us = us} (a_node {m = m} {l = l} {c = c} {b = col} {n = n} {p = pr} {s = s} {r = r} {ss = ss} {S = S} {x = x} {y = y} {xs = xs} k i d) f h q =
    let o = second g ys k f in
    let one : select P s m c ts ≡ Some (choice pr l col) = selects g P C pr r ss S x y xs ts h k i d in
    let two : select P s m c us ≡ Some (choice o.taken o.place o.column) =
    selects g P C o.taken o.right ss S o.x o.y o.others us h o.calls o.is o.reads in
    let w = same_choice pr o.taken l o.place col o.column (sym one ∙ ap (select P s m c) q ∙ two) in
    let j : Is g pr o.asked o.right = subst (λ z. Is g z o.asked o.right) (sym w.0) o.is in
    let e = same_production g pr o.asked n o.right r j i in
    let reads : Reads g (frame r col l ∷ frame ss c inside ∷ S) (o.x ∷ o.y ∷ o.others) us =
    subst (λ z. Reads g (frame r col z ∷ frame ss c inside ∷ S) (o.x ∷ o.y ∷ o.others) us) (sym w.1)
    (subst (λ z. Reads g (frame r z o.place ∷ frame ss c inside ∷ S) (o.x ∷ o.y ∷ o.others) us) (sym w.2)
    (subst (λ z. Reads g (frame z o.column o.place ∷ frame ss c inside ∷ S) (o.x ∷ o.y ∷ o.others) us) e.1 o.reads)) in
    nodes pr o.taken x o.x y o.y xs o.others w.0
    (unique g P C (o.x ∷ o.y ∷ o.others) d reads (good_call g P C pr r ss S k i h) q) ∙ sym o.trees

pub one_derivation : (rows : List Row) → planned elm rows ≡ true → (n c : ℕ) → n < length rows → (ts : List Token)
    (x y : Tree) → Spells elm (Part n ∷ []) c x ts → Spells elm (Part n ∷ []) c y ts → x ≡ y
one_derivation rows e n c l ts x y d f =
    let w : x ∷ [] ≡ y ∷ [] = unique elm (plan_of rows) (planned-is elm rows e) (y ∷ []) (reads_of d) (reads_of f)
    (ready rows e n c l) refl in
    cc
