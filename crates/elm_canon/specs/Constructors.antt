-- Constructors that values can tell apart: those of a union have tags of one kind, each its own.
use Rattle.std.specs.Prelude.{ℤ, pos, negsuc, List, [], ◌∷◌, Bool, true, false, not, ◌&&◌, ◌||◌, ◌==◌, nat_eq, nat_lt}
use Rattle.std.specs.List.{list_all}
use Rattle.elm_canon.specs.Unions.{Union, alternatives}
use Rattle.elm_canon.specs.declared.unions.Tag.{Tag}
use Rattle.elm_canon.specs.declared.unions.Tag.TheVariants as tag
use Rattle.elm_canon.specs.declared.unions.Alternative.{Alternative}
use Rattle.elm_canon.specs.Spelled.{is_exact}

abbrev pub same_int : ℤ → ℤ → Bool
same_int (pos m) (pos n) = nat_eq m n
same_int (negsuc m) (negsuc n) = nat_eq m n
same_int _ _ = false

abbrev pub same_truth : Bool → Bool → Bool
same_truth true b = b
same_truth false b = not b

abbrev pub same_tag : Tag → Tag → Bool
same_tag (tag.Number m) (tag.Number n) = same_int m n
same_tag (tag.Truth a) (tag.Truth b) = same_truth a b
same_tag tag.Blank tag.Blank = true
same_tag _ _ = false

abbrev pub same_kind : Tag → Tag → Bool
same_kind (tag.Number m) (tag.Number n) = true
same_kind (tag.Truth a) (tag.Truth b) = true
same_kind tag.Blank tag.Blank = true
same_kind _ _ = false

abbrev pub is_exact_tag : Tag → Bool
is_exact_tag (tag.Number k) = is_exact k
is_exact_tag _ = true

-- True, False and () have no fields
abbrev pub is_exact_alternative : Alternative → Bool
is_exact_alternative a = is_exact_tag a.tag && (same_kind a.tag (tag.Number (pos 0)) || a.arity == 0)

abbrev pub has_tag : Tag → List Alternative → Bool
has_tag t [] = false
has_tag t (a ∷ others) = same_tag t a.tag || has_tag t others

-- exact tags, each once
abbrev pub are_apart : List Alternative → Bool
are_apart [] = true
are_apart (a ∷ others) = is_exact_alternative a && (not (has_tag a.tag others) && are_apart others)

abbrev pub is_one_of : Alternative → List Alternative → Bool
is_one_of a [] = false
is_one_of a (b ∷ others) = (same_tag a.tag b.tag && (a.arity == b.arity)) || is_one_of a others

-- one of its union, whose constructors have their own tags, all of one kind; with fewer than 2 ^ 32 fields
abbrev pub is_constructor : Union → Alternative → Bool
is_constructor u a =
    (are_apart (alternatives u) && list_all (λ b. same_kind a.tag b.tag) (alternatives u))
    && (is_one_of a (alternatives u) && nat_lt a.arity 4294967296)
