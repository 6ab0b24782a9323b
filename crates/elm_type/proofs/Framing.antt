-- Frames: what is left to write of types.
use Rattle.std.proofs.Common.{◌≡◌, ℕ, zero, suc, ◌+◌, ◌≤◌, List, [], ◌∷◌, ◌++◌, length, take, drop, reverse, true}
use Rattle.std.proofs.Common.{false, cond, codes, refl, sym, ◌∙◌, ap, subst, arith, append_assoc, append-nil, ◌-◌}
use Rattle.std.proofs.Common.{length-drop, length-take-le}
use Rattle.std.proofs.lemmas.List.{reverse-append}
use Rattle.std.proofs.Math.Dec.{eqb-suc-zero}
use Rattle.std.proofs.lemmas.Bool.{false≢true}
use Rattle.elm_type.specs.Types.{Name, ElmType, Closed, Over, Made, Record, MoreType, NoField, Leaf}
use Rattle.elm_type.specs.Spelling.{Read, read_types, read_fields, with_name, read_node, leaf_of}
use Rattle.elm_type.specs.declared.head.Head.TheVariants as head
use Rattle.elm_type.specs.declared.node.Node.{Node}
use Rattle.elm_type.specs.declared.node.Node.TheVariants as node
use Rattle.elm_type.specs.Text.{is_core, type_name, function_text, applied_text, text_in, arguments_text}
use Rattle.elm_type.specs.Text.{parameters_text, fields_text, more_fields_text}
use Rattle.elm_type.specs.Frames.{closing_text, arrows_text, frame_text, pending, wanted, separator_of, colon_of}
use Rattle.elm_type.specs.Frames.{last_parameter, around_of, next_of, has_fields, frame, function_closing}
use Rattle.elm_type.specs.Frames.{applied_closing, bracket, opening_text, frame_of, parts_of, Wrote}
use Rattle.elm_type.specs.declared.frame.Around.{Around}
use Rattle.elm_type.specs.declared.frame.Around.TheVariants.{Alone, Parameter, Argument}
use Rattle.elm_type.specs.declared.frame.Kind.{Kind}
use Rattle.elm_type.specs.declared.frame.Kind.TheVariants.{Single, Arguments, Parameters, Arrows, Parts, MoreParts}
use Rattle.elm_type.specs.declared.frame.Kind.TheVariants.{Fields, MoreFields}
use Rattle.elm_type.specs.declared.frame.Closing.TheVariants.{Nothing}
use Rattle.elm_type.specs.declared.frame.Frame.{Frame}

pub reverse_push : (fs : List Frame) (f : Frame) → reverse (fs ++ f ∷ []) ≡ f ∷ reverse fs
reverse_push fs f = reverse-append fs (f ∷ [])

-- ---- frames without parts

empty_frame : (name : Leaf ℕ → Name) (k : Kind) → frame_text name k [] ≡ []
unfolding text_in
empty_frame name Single = refl
empty_frame name Arguments = refl
empty_frame name Parameters = refl
empty_frame name Arrows = refl
empty_frame name Parts = refl
empty_frame name MoreParts = refl
empty_frame name Fields = refl
empty_frame name MoreFields = refl

pending_closed : (name : Leaf ℕ → Name) (f : Frame) (fs : List Frame) (rs : Read) → f.left ≡ 0 → pending name (f ∷ fs) rs ≡ closing_text f.closing ++ pending name fs rs
unfolding pending
pending_closed name f fs rs e =
    ap (λ n. frame_text name f.kind (take n rs) ++ (closing_text f.closing ++ pending name fs (drop n rs))) e
    ∙ ap (λ t. t ++ (closing_text f.closing ++ pending name fs rs)) (empty_frame name f.kind)

-- a frame without parts is closed
pub close_text : (name : Leaf ℕ → Name) (rs : Read) (old new : List Frame) (f : Frame) (p q : Name) → reverse old ≡ f ∷ reverse new → f.left ≡ 0 → q ≡ p ++ closing_text f.closing →
    q ++ pending name (reverse new) rs ≡ p ++ pending name (reverse old) rs
close_text name rs old new f p q e z h =
    ap (λ t. t ++ pending name (reverse new) rs) h
    ∙ (append_assoc p (closing_text f.closing) (pending name (reverse new) rs)
    ∙ (ap (λ t. p ++ t) (sym (pending_closed name f (reverse new) rs z)) ∙ ap (λ fs. p ++ pending name fs rs) (sym e)))

pub close_wanted : (old new : List Frame) (f : Frame) → reverse old ≡ f ∷ reverse new → f.left ≡ 0 → wanted (reverse new) ≡ wanted (reverse old)
close_wanted old new f e z =
    let h : wanted (reverse old) ≡ f.left + wanted (reverse new) = ap wanted e in
    omega arith

take_none : {A : Type 0} (n : ℕ) → take {A = A} n [] ≡ []
take_none zero = refl
take_none (suc n) = refl

drop_none : {A : Type 0} (n : ℕ) → drop {A = A} n [] ≡ []
drop_none zero = refl
drop_none (suc n) = refl

-- nothing is left after the last node
pending_end : (name : Leaf ℕ → Name) (f : Frame) (fs : List Frame) → pending name (f ∷ fs) [] ≡ closing_text f.closing ++ pending name fs []
unfolding pending
pending_end name f fs =
    ap (λ rs. frame_text name f.kind rs ++ (closing_text f.closing ++ pending name fs (drop f.left []))) (take_none f.left)
    ∙ (ap (λ t. t ++ (closing_text f.closing ++ pending name fs (drop f.left []))) (empty_frame name f.kind)
    ∙ ap (λ rs. closing_text f.closing ++ pending name fs rs) (drop_none f.left))

pub end_text : (name : Leaf ℕ → Name) (old new : List Frame) (f : Frame) (p q : Name) → reverse old ≡ f ∷ reverse new → q ≡ p ++ closing_text f.closing →
    q ++ pending name (reverse new) [] ≡ p ++ pending name (reverse old) []
end_text name old new f p q e h =
    ap (λ t. t ++ pending name (reverse new) []) h
    ∙ (append_assoc p (closing_text f.closing) (pending name (reverse new) [])
    ∙ (ap (λ t. p ++ t) (sym (pending_end name f (reverse new))) ∙ ap (λ fs. p ++ pending name fs []) (sym e)))

-- ---- one part

field_of : Kind → Name → Name
field_of k x = cond (has_fields k) x []

parameter_text : (name : Leaf ℕ → Name) (t : ElmType (Leaf ℕ)) (rs : Read) →
    parameters_text name (MoreType t (read_types rs)) ≡ text_in name (last_parameter (length rs)) t ++ arrows_text name (read_types rs)
unfolding text_in
parameter_text name t [] = sym (append-nil (text_in name Alone t))
parameter_text name t (r ∷ rs) =
    append_assoc (text_in name Parameter t) (codes " -> ") (parameters_text name (MoreType r.1 (read_types rs)))
    ∙ ap (λ b. text_in name (cond b Alone Parameter) t ++ (codes " -> " ++ parameters_text name (MoreType r.1 (read_types rs)))) (sym (eqb-suc-zero (length rs)))

-- what a frame writes of its first part
part_text : (name : Leaf ℕ → Name) (k : Kind) (x : Name) (t : ElmType (Leaf ℕ)) (rs : Read) →
    frame_text name k ((x, t) ∷ rs)
    ≡ separator_of k ++ (field_of k x ++ (colon_of k ++ (text_in name (around_of k (length rs)) t ++ frame_text name (next_of k) rs)))
unfolding text_in field_of
part_text name Single x t rs = refl
part_text name Arguments x t rs = refl
part_text name Parameters x t rs = parameter_text name t rs
part_text name Arrows x t rs = ap (λ u. codes " -> " ++ u) (parameter_text name t rs)
part_text name Parts x t rs = refl
part_text name MoreParts x t rs = refl
part_text name Fields x t rs =
    append_assoc (x ++ codes " : ") (text_in name Alone t) (more_fields_text name (read_fields rs))
    ∙ append_assoc x (codes " : ") (text_in name Alone t ++ more_fields_text name (read_fields rs))
part_text name MoreFields x t rs =
    ap (λ u. codes ", " ++ u)
    (append_assoc (x ++ codes " : ") (text_in name Alone t) (more_fields_text name (read_fields rs))
    ∙ append_assoc x (codes " : ") (text_in name Alone t ++ more_fields_text name (read_fields rs)))

-- ---- the node of a type

pub IsType : Node → Type 0
IsType (node.Made h n) = Unit {0}
IsType (node.Record n) = Unit {0}
IsType (node.Open x n) = Unit {0}
IsType (node.Field k) = ⊥

pub is_type : (n : Node) → ((k : Name) → n ≡ node.Field k → ⊥) → IsType n
unfolding IsType
is_type (node.Made h n) f = tt
is_type (node.Record n) f = tt
is_type (node.Open x n) f = tt
is_type (node.Field k) f = f k refl

-- the type that it begins
typed : Node → Read → ElmType (Leaf ℕ)
typed (node.Made h n) rs = Made h (read_types (take n rs))
typed (node.Record n) rs = Record (read_fields (take n rs)) Closed
typed (node.Open x n) rs = Record (read_fields (take n rs)) (Over (leaf_of x))
typed (node.Field k) rs = Record NoField Closed

typed_read : (n : Node) (rs : Read) → IsType n → read_node n rs ≡ ([], typed n rs) ∷ drop (parts_of n) rs
unfolding IsType typed
typed_read (node.Made h n) rs i = refl
typed_read (node.Record n) rs i = refl
typed_read (node.Open x n) rs i = refl
typed_read (node.Field k) rs i = absurd i

frame_left : (around : Around) (n : Node) → IsType n → (frame_of around n).left ≡ parts_of n
unfolding IsType
frame_left around (node.Made (head.Named m x) n) i = refl
frame_left around (node.Made head.Function n) i = refl
frame_left around (node.Made head.Tuple n) i = refl
frame_left around (node.Record n) i = refl
frame_left around (node.Open x n) i = refl
frame_left around (node.Field k) i = absurd i

applied_wrapped : (around : Around) (t u : Name) → applied_text around (t ++ u) ≡ (bracket (applied_closing around) ++ t) ++ (u ++ closing_text (applied_closing around))
applied_wrapped Alone t u = ap (λ v. t ++ v) (sym (append-nil u))
applied_wrapped Parameter t u = ap (λ v. t ++ v) (sym (append-nil u))
applied_wrapped Argument t u = ap (λ v. codes "(" ++ v) (append_assoc t u (codes ")"))

function_wrapped : (around : Around) (t : Name) → function_text around t ≡ bracket (function_closing around) ++ (t ++ closing_text (function_closing around))
function_wrapped Alone t = sym (append-nil t)
function_wrapped Parameter t = refl
function_wrapped Argument t = refl

-- what is written of a node: before its parts, of them, and after them
opened : (name : Leaf ℕ → Name) (around : Around) (n : Node) (rs : Read) → IsType n → parts_of n ≤ length rs →
    text_in name around (typed n rs)
    ≡ opening_text name around n ++ (frame_text name (frame_of around n).kind (take (parts_of n) rs) ++ closing_text (frame_of around n).closing)
unfolding text_in IsType typed
opened name around (node.Made (head.Named m x) zero) rs i less = sym (append-nil (type_name m x))
opened name around (node.Made (head.Named m x) (suc n)) [] i less = absurd (omega arith)
opened name around (node.Made (head.Named m x) (suc n)) (r ∷ rs) i less =
    rw (eqb-suc-zero n) (applied_wrapped around (type_name m x) (arguments_text name (read_types (r ∷ take n rs))))
opened name around (node.Made head.Function n) rs i less = function_wrapped around (parameters_text name (read_types (take n rs)))
opened name around (node.Made head.Tuple zero) rs i less = refl
opened name around (node.Made head.Tuple (suc n)) [] i less = absurd (omega arith)
opened name around (node.Made head.Tuple (suc n)) (r ∷ rs) i less = rw (eqb-suc-zero n) refl
opened name around (node.Record zero) rs i less = refl
opened name around (node.Record (suc n)) [] i less = absurd (omega arith)
opened name around (node.Record (suc n)) (r ∷ rs) i less = rw (eqb-suc-zero n) refl
opened name around (node.Open x zero) rs i less = sym (append-nil (name (leaf_of x)))
opened name around (node.Open x (suc n)) [] i less = absurd (omega arith)
opened name around (node.Open x (suc n)) (r ∷ rs) i less =
    rw (eqb-suc-zero n) (ap (λ v. codes "{ " ++ v) (append_assoc (name (leaf_of x) ++ codes " | ") (fields_text name (read_fields (r ∷ take n rs))) (codes " }")))
opened name around (node.Field k) rs i less = absurd i

-- ---- a node is written

-- what is written of a part, from the bracket on, and what is to be written after it
regrouped : (p s l a b c d e : Name) → (((p ++ s) ++ l) ++ a) ++ (b ++ (c ++ (d ++ e))) ≡ p ++ ((s ++ (l ++ ((a ++ (b ++ c)) ++ d))) ++ e)
regrouped p s l a b c d e = simp append_assoc

pub record Begun (name : Leaf ℕ → Name) (n : Node) (f : Frame) (j : ℕ) (p q : Name) (fs gs : List Frame) : Type 0 where
  pub left : f.left ≡ suc j
  pub text : q ≡ ((p ++ separator_of f.kind) ++ colon_of f.kind) ++ opening_text name (around_of f.kind j) n
  pub frames : gs ≡ frame_of (around_of f.kind j) n ∷ frame (next_of f.kind) j f.closing ∷ fs

no_field : (k : Kind) → field_of k [] ≡ []
unfolding field_of
no_field Single = refl
no_field Arguments = refl
no_field Parameters = refl
no_field Arrows = refl
no_field Parts = refl
no_field MoreParts = refl
no_field Fields = refl
no_field MoreFields = refl

type_written : (name : Leaf ℕ → Name) (n : Node) (f : Frame) (j : ℕ) (p q : Name) (fs gs : List Frame) → IsType n → Begun name n f j p q fs gs →
    (rs : Read) → parts_of n ≤ length rs → wanted (f ∷ fs) ≤ length (read_node n rs) → q ++ pending name gs rs ≡ p ++ pending name (f ∷ fs) (read_node n rs)
unfolding pending
type_written name n f j p q fs gs i b rs less room =
    let R = drop (parts_of n) rs in
    let a = around_of f.kind j in
    let T = typed n rs in
    let S = separator_of f.kind in
    let L = colon_of f.kind in
    let A = opening_text name a n in
    let B = frame_text name (frame_of a n).kind (take (parts_of n) rs) in
    let C = closing_text (frame_of a n).closing in
    let D = frame_text name (next_of f.kind) (take j R) in
    let E = closing_text f.closing ++ pending name fs (drop j R) in
    let e = typed_read n rs i in
    let h : length (read_node n rs) ≡ suc (length R) = ap length e in
    let k : j ≤ length R = omega (arith, room, h, b.left) in
    let m : length (take j R) ≡ j = length-take-le j R k in
    let left : q ++ pending name gs rs ≡ (((p ++ S) ++ L) ++ A) ++ (B ++ (C ++ (D ++ E))) =
    ap (λ t. t ++ pending name gs rs) b.text
    ∙ (ap (λ hs. (((p ++ S) ++ L) ++ A) ++ pending name hs rs) b.frames
    ∙ ap (λ v. (((p ++ S) ++ L) ++ A) ++ (frame_text name (frame_of a n).kind (take v rs) ++ (C ++ (frame_text name (next_of f.kind) (take j (drop v rs)) ++ (closing_text f.closing ++ pending name fs (drop j (drop v rs)))))))
    (frame_left a n i)) in
    let right : p ++ pending name (f ∷ fs) (read_node n rs) ≡ p ++ ((S ++ (L ++ ((A ++ (B ++ C)) ++ D))) ++ E) =
    ap (λ X. p ++ pending name (f ∷ fs) X) e
    ∙ (ap (λ v. p ++ (frame_text name f.kind (take v (([], T) ∷ R)) ++ (closing_text f.closing ++ pending name fs (drop v (([], T) ∷ R))))) b.left
    ∙ (ap (λ t. p ++ (t ++ E)) (part_text name f.kind [] T (take j R))
    ∙ (ap (λ x. p ++ ((S ++ (x ++ (L ++ (text_in name (around_of f.kind (length (take j R))) T ++ D)))) ++ E)) (no_field f.kind)
    ∙ (ap (λ v. p ++ ((S ++ (L ++ (text_in name (around_of f.kind v) T ++ D))) ++ E)) m
    ∙ ap (λ t. p ++ ((S ++ (L ++ (t ++ D))) ++ E)) (opened name a n rs i less))))) in
    left ∙ (regrouped p S L A B C D E ∙ sym right)

type_room : (name : Leaf ℕ → Name) (n : Node) (f : Frame) (j : ℕ) (p q : Name) (fs gs : List Frame) → IsType n → Begun name n f j p q fs gs →
    (rs : Read) → parts_of n ≤ length rs → wanted (f ∷ fs) ≤ length (read_node n rs) → wanted gs ≤ length rs
type_room name n f j p q fs gs i b rs less room =
    let h : length (read_node n rs) ≡ suc (length (drop (parts_of n) rs)) = ap length (typed_read n rs i) in
    let w : wanted gs ≡ (frame_of (around_of f.kind j) n).left + (j + wanted fs) = ap wanted b.frames in
    let d : length (drop (parts_of n) rs) ≡ length rs - parts_of n = length-drop (parts_of n) rs in
    omega (arith, h, w, d, room, less, b.left, frame_left (around_of f.kind j) n i)

pub wrote_type : (name : Leaf ℕ → Name) (n : Node) (f : Frame) (j : ℕ) (p q : Name) (fs gs : List Frame) → IsType n → Begun name n f j p q fs gs → Wrote name n p q (f ∷ fs) gs
wrote_type name n f j p q fs gs i b = record {
  text = type_written name n f j p q fs gs i b;
  room = type_room name n f j p q fs gs i b;
}

-- ---- the name of a field is written

field_regrouped : (p s k l a d e : Name) → (((p ++ s) ++ k) ++ l) ++ (a ++ (d ++ e)) ≡ p ++ ((s ++ (k ++ (l ++ (a ++ d)))) ++ e)
field_regrouped p s k l a d e = simp append_assoc

has_field_text : (k : Kind) (x : Name) → has_fields k ≡ true → field_of k x ≡ x
unfolding field_of
has_field_text k x e = ap (λ b. cond b x []) e

alone_field : (k : Kind) (n : ℕ) → has_fields k ≡ true → around_of k n ≡ Alone
alone_field Single n e = refl
alone_field Arguments n e = absurd (false≢true e)
alone_field Parameters n e = absurd (false≢true e)
alone_field Arrows n e = absurd (false≢true e)
alone_field Parts n e = refl
alone_field MoreParts n e = refl
alone_field Fields n e = refl
alone_field MoreFields n e = refl

pub record Named (x : Name) (f : Frame) (j : ℕ) (p q : Name) (fs gs : List Frame) : Type 0 where
  pub left : f.left ≡ suc j
  pub fields : has_fields f.kind ≡ true
  pub text : q ≡ ((p ++ separator_of f.kind) ++ x) ++ colon_of f.kind
  pub frames : gs ≡ frame Single 1 Nothing ∷ frame (next_of f.kind) j f.closing ∷ fs

field_written : (name : Leaf ℕ → Name) (x : Name) (f : Frame) (j : ℕ) (p q : Name) (fs gs : List Frame) → Named x f j p q fs gs →
    (rs : Read) → 1 ≤ length rs → wanted (f ∷ fs) ≤ length (with_name x rs) → q ++ pending name gs rs ≡ p ++ pending name (f ∷ fs) (with_name x rs)
unfolding pending
field_written name x f j p q fs gs b [] less room = absurd (omega arith)
field_written name x f j p q fs gs b (r ∷ rs) less room =
    let S = separator_of f.kind in
    let L = colon_of f.kind in
    let A = text_in name Alone r.1 in
    let D = frame_text name (next_of f.kind) (take j rs) in
    let E = closing_text f.closing ++ pending name fs (drop j rs) in
    let left : q ++ pending name gs (r ∷ rs) ≡ (((p ++ S) ++ x) ++ L) ++ (A ++ (D ++ E)) =
    ap (λ t. t ++ pending name gs (r ∷ rs)) b.text
    ∙ (ap (λ hs. (((p ++ S) ++ x) ++ L) ++ pending name hs (r ∷ rs)) b.frames
    ∙ ap (λ t. (((p ++ S) ++ x) ++ L) ++ (t ++ (D ++ E))) (append-nil A)) in
    let right : p ++ pending name (f ∷ fs) ((x, r.1) ∷ rs) ≡ p ++ ((S ++ (x ++ (L ++ (A ++ D)))) ++ E) =
    ap (λ v. p ++ (frame_text name f.kind (take v ((x, r.1) ∷ rs)) ++ (closing_text f.closing ++ pending name fs (drop v ((x, r.1) ∷ rs))))) b.left
    ∙ (ap (λ t. p ++ (t ++ E)) (part_text name f.kind x r.1 (take j rs))
    ∙ (ap (λ y. p ++ ((S ++ (y ++ (L ++ (text_in name (around_of f.kind (length (take j rs))) r.1 ++ D)))) ++ E)) (has_field_text f.kind x b.fields)
    ∙ ap (λ u. p ++ ((S ++ (x ++ (L ++ (text_in name u r.1 ++ D)))) ++ E)) (alone_field f.kind (length (take j rs)) b.fields))) in
    left ∙ (field_regrouped p S x L A D E ∙ sym right)

field_room : (x : Name) (f : Frame) (j : ℕ) (p q : Name) (fs gs : List Frame) → Named x f j p q fs gs →
    (rs : Read) → 1 ≤ length rs → wanted (f ∷ fs) ≤ length (with_name x rs) → wanted gs ≤ length rs
field_room x f j p q fs gs b [] less room = absurd (omega arith)
field_room x f j p q fs gs b (r ∷ rs) less room =
    let w : wanted gs ≡ 1 + (j + wanted fs) = ap wanted b.frames in
    omega (arith, w, room, b.left)

pub wrote_field : (name : Leaf ℕ → Name) (x : Name) (f : Frame) (j : ℕ) (p q : Name) (fs gs : List Frame) → Named x f j p q fs gs → Wrote name (node.Field x) p q (f ∷ fs) gs
wrote_field name x f j p q fs gs b = record {
  text = field_written name x f j p q fs gs b;
  room = field_room x f j p q fs gs b;
}

-- where no fields are written, names are passed over

unnamed_text : (name : Leaf ℕ → Name) (k : Kind) (x : Name) (r : Name × ElmType (Leaf ℕ)) (rs : Read) → has_fields k ≡ false →
    frame_text name k (r ∷ rs) ≡ frame_text name k ((x, r.1) ∷ rs)
unnamed_text name Single x r rs e = refl
unnamed_text name Arguments x r rs e = refl
unnamed_text name Parameters x r rs e = refl
unnamed_text name Arrows x r rs e = refl
unnamed_text name Parts x r rs e = refl
unnamed_text name MoreParts x r rs e = refl
unnamed_text name Fields x r rs e = absurd (false≢true (sym e))
unnamed_text name MoreFields x r rs e = absurd (false≢true (sym e))

passed_written : (name : Leaf ℕ → Name) (x : Name) (f : Frame) (j : ℕ) (p : Name) (fs : List Frame) → has_fields f.kind ≡ false → f.left ≡ suc j →
    (rs : Read) → p ++ pending name (f ∷ fs) rs ≡ p ++ pending name (f ∷ fs) (with_name x rs)
unfolding pending
passed_written name x f j p fs e h [] = refl
passed_written name x f j p fs e h (r ∷ rs) =
    ap (λ v. p ++ (frame_text name f.kind (take v (r ∷ rs)) ++ (closing_text f.closing ++ pending name fs (drop v (r ∷ rs))))) h
    ∙ (ap (λ t. p ++ (t ++ (closing_text f.closing ++ pending name fs (drop j rs)))) (unnamed_text name f.kind x r (take j rs) e)
    ∙ ap (λ v. p ++ (frame_text name f.kind (take v ((x, r.1) ∷ rs)) ++ (closing_text f.closing ++ pending name fs (drop v ((x, r.1) ∷ rs))))) (sym h))

length_named : (x : Name) (rs : Read) → length (with_name x rs) ≡ length rs
length_named x [] = refl
length_named x (r ∷ rs) = refl

pub wrote_passed : (name : Leaf ℕ → Name) (x : Name) (f : Frame) (j : ℕ) (p : Name) (fs : List Frame) → has_fields f.kind ≡ false → f.left ≡ suc j →
    Wrote name (node.Field x) p p (f ∷ fs) (f ∷ fs)
wrote_passed name x f j p fs e h = record {
  text = λ rs less room. passed_written name x f j p fs e h rs;
  room = λ rs less room. subst (λ (v : ℕ). wanted (f ∷ fs) ≤ v) (length_named x rs) room;
}

-- ---- after the frames that are closed

wrote_nothing : (name : Leaf ℕ → Name) (n : Node) (p : Name) → Wrote name n p p [] []
unfolding pending
wrote_nothing name n p = record {
  text = λ rs less room. refl;
  room = λ rs less room. omega arith;
}

pub wrote_then : (name : Leaf ℕ → Name) (n : Node) (p o q : Name) (fs hs gs : List Frame) →
    ((rs : Read) → o ++ pending name hs rs ≡ p ++ pending name fs rs) → wanted hs ≡ wanted fs → Wrote name n o q hs gs → Wrote name n p q fs gs
wrote_then name n p o q fs hs gs h w k = record {
  text = λ rs less room. k.text rs less (omega (arith, room, w)) ∙ h (read_node n rs);
  room = λ rs less room. k.room rs less (omega (arith, room, w));
}

pub wrote_none : (name : Leaf ℕ → Name) (n : Node) (p q : Name) (fs gs : List Frame) →
    ((rs : Read) → q ++ pending name gs rs ≡ p ++ pending name fs rs) → wanted gs ≡ wanted fs → gs ≡ [] → Wrote name n p q fs gs
wrote_none name n p q fs gs h w e =
    wrote_then name n p q q fs gs gs h w (subst (λ hs. Wrote name n q q hs hs) (sym e) (wrote_nothing name n q))

-- ---- names of types

pub core_name : (m x : Name) → is_core m ≡ true → x ≡ type_name m x
unfolding type_name
core_name m x e = ap (λ b. cond b x (m ++ codes "." ++ x)) (sym e)

pub other_name : (m x : Name) → is_core m ≡ false → m ++ codes "." ++ x ≡ type_name m x
unfolding type_name
other_name m x e = ap (λ b. cond b x (m ++ codes "." ++ x)) (sym e)
