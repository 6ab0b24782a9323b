-- The names of functions that no text can say, with their rows in the table: `named_row`.
use Rattle.std.proofs.Common.{◌≡◌, List, [], ◌∷◌, Bool, true, false, Some, inl, inr, refl, sym}
use Rattle.std.proofs.Common.{subst}
use Rattle.std.specs.Prelude.{if◌then◌else◌, codes}
use Rattle.std.specs.List.{AllByRecursion}
use Rattle.elm_canon.specs.Names.{Name, same_name}
use Rattle.elm_canon.specs.declared.reference.Ref.{Ref}
use Rattle.elm_canon.specs.declared.reference.Ref.TheVariants.{Local, Top}
use Rattle.elm_canon.specs.Tree.{Variable}
use Rattle.elm_meaning.specs.Functions.{Primitive}
use Rattle.elm_type.specs.Schemes.{rename}
use Rattle.canon_env.proofs.Adding.{one_name}
use Rattle.elm_type.specs.Order.{scheme_in_order}
use Rattle.link.specs.Cores.{Row, basics_rows, bitwise_rows, char_rows, debug_rows, string_rows, rows_of}
use Rattle.link.specs.Cores.{look}
use Rattle.link.specs.Cores.{primitive_of}
use Rattle.type_items.specs.Annotations.{annotation_scheme}
use Rattle.typed_values.specs.World.{Among}
use Rattle.program_safety.specs.Primitives.{types_of_primitive}
use Rattle.core_modules.specs.Table.{FunctionRow, function_rows, row, int, char, text, ◌→→◌}

-- a row of the table for the function x of a module, whose type is one of the primitive's, in its one form
pub record IsRow (home x : Name) (p : Primitive) : Type 0 where
  pub row_ : FunctionRow
  pub among : Among row_ function_rows
  pub home_is : row_.home ≡ home
  pub name_is : row_.name ≡ x
  pub typed : Among (annotation_scheme row_.type) (types_of_primitive p)
  pub renamed : rename (annotation_scheme row_.type) ≡ annotation_scheme row_.type
  pub ordered : scheme_in_order (annotation_scheme row_.type) ≡ annotation_scheme row_.type

abbrev IsRowOf : Name → Row → Type 0
IsRowOf home r = IsRow home r.0 r.1

basics_are : AllByRecursion (IsRowOf (codes "Basics")) basics_rows
basics_are = (
  record {
    row_ = row (codes "Basics") (codes "modBy") (int →→ int →→ int);
    among = inl refl;
    home_is = refl;
    name_is = refl;
    typed = inl refl;
    renamed = refl;
    ordered = refl;
  },
  (
    record {
      row_ = row (codes "Basics") (codes "remainderBy") (int →→ int →→ int);
      among = inr (inl refl);
      home_is = refl;
      name_is = refl;
      typed = inl refl;
      renamed = refl;
      ordered = refl;
    },
    tt,
  ),
)

bitwise_are : AllByRecursion (IsRowOf (codes "Bitwise")) bitwise_rows
bitwise_are = (
  record {
    row_ = row (codes "Bitwise") (codes "and") (int →→ int →→ int);
    among = inr (inr (inl refl));
    home_is = refl;
    name_is = refl;
    typed = inl refl;
    renamed = refl;
    ordered = refl;
  },
  (
    record {
      row_ = row (codes "Bitwise") (codes "or") (int →→ int →→ int);
      among = inr (inr (inr (inl refl)));
      home_is = refl;
      name_is = refl;
      typed = inl refl;
      renamed = refl;
      ordered = refl;
    },
    (
      record {
        row_ = row (codes "Bitwise") (codes "xor") (int →→ int →→ int);
        among = inr (inr (inr (inr (inl refl))));
        home_is = refl;
        name_is = refl;
        typed = inl refl;
        renamed = refl;
        ordered = refl;
      },
      (
        record {
          row_ = row (codes "Bitwise") (codes "complement") (int →→ int);
          among = inr (inr (inr (inr (inr (inl refl)))));
          home_is = refl;
          name_is = refl;
          typed = inl refl;
          renamed = refl;
          ordered = refl;
        },
        (
          record {
            row_ = row (codes "Bitwise") (codes "shiftLeftBy") (int →→ int →→ int);
            among = inr (inr (inr (inr (inr (inr (inl refl))))));
            home_is = refl;
            name_is = refl;
            typed = inl refl;
            renamed = refl;
            ordered = refl;
          },
          (
            record {
              row_ = row (codes "Bitwise") (codes "shiftRightBy") (int →→ int →→ int);
              among = inr (inr (inr (inr (inr (inr (inr (inl refl)))))));
              home_is = refl;
              name_is = refl;
              typed = inl refl;
              renamed = refl;
              ordered = refl;
            },
            (
              record {
                row_ = row (codes "Bitwise") (codes "shiftRightZfBy") (int →→ int →→ int);
                among = inr (inr (inr (inr (inr (inr (inr (inr (inl refl))))))));
                home_is = refl;
                name_is = refl;
                typed = inl refl;
                renamed = refl;
                ordered = refl;
              },
              tt,
            ),
          ),
        ),
      ),
    ),
  ),
)

char_are : AllByRecursion (IsRowOf (codes "Char")) char_rows
char_are = (
  record {
    row_ = row (codes "Char") (codes "unitAt") (int →→ char →→ int);
    among = inr (inr (inr (inr (inr (inr (inr (inr (inr (inl refl)))))))));
    home_is = refl;
    name_is = refl;
    typed = inr (inl refl);
    renamed = refl;
    ordered = refl;
  },
  (
    record {
      row_ = row (codes "Char") (codes "fromUnit") (int →→ text);
      among = inr (inr (inr (inr (inr (inr (inr (inr (inr (inr (inl refl))))))))));
      home_is = refl;
      name_is = refl;
      typed = inl refl;
      renamed = refl;
      ordered = refl;
    },
    (
      record {
        row_ = row (codes "Char") (codes "fromText") (text →→ char);
        among = inr (inr (inr (inr (inr (inr (inr (inr (inr (inr (inr (inl refl)))))))))));
        home_is = refl;
        name_is = refl;
        typed = inr (inl refl);
        renamed = refl;
        ordered = refl;
      },
      tt,
    ),
  ),
)

debug_are : AllByRecursion (IsRowOf (codes "Debug")) debug_rows
debug_are = (
  record {
    row_ = row (codes "Debug") (codes "todo") (text →→ Variable (codes "a"));
    among = inr (inr (inr (inr (inr (inr (inr (inr (inr (inr (inr (inr (inl refl))))))))))));
    home_is = refl;
    name_is = refl;
    typed = inl refl;
    renamed = refl;
    ordered = refl;
  },
  tt,
)

string_are : AllByRecursion (IsRowOf (codes "String")) string_rows
string_are = (
  record {
    row_ = row (codes "String") (codes "length") (text →→ int);
    among = inr (inr (inr (inr (inr (inr (inr (inr (inr (inr (inr (inr (inr (inl refl)))))))))))));
    home_is = refl;
    name_is = refl;
    typed = inl refl;
    renamed = refl;
    ordered = refl;
  },
  (
    record {
      row_ = row (codes "String") (codes "slice") (int →→ int →→ text →→ text);
      among = inr (inr (inr (inr (inr (inr (inr (inr (inr (inr (inr (inr (inr (inr (inl refl))))))))))))));
      home_is = refl;
      name_is = refl;
      typed = inl refl;
      renamed = refl;
      ordered = refl;
    },
    (
      record {
        row_ = row (codes "String") (codes "fromInt") (int →→ text);
        among = inr (inr (inr (inr (inr (inr (inr (inr (inr (inr (inr (inr (inr (inr (inr (inl refl)))))))))))))));
        home_is = refl;
        name_is = refl;
        typed = inl refl;
        renamed = refl;
        ordered = refl;
      },
      (
        record {
          row_ = row (codes "String") (codes "fromChar") (char →→ text);
          among =
              inr (inr (inr (inr (inr (inr (inr (inr (
              inr (inr (inr (inr (inr (inr (inr (inr (inl refl))))))))))))))));
          home_is = refl;
          name_is = refl;
          typed = inl refl;
          renamed = refl;
          ordered = refl;
        },
        (
          record {
            row_ = row (codes "String") (codes "unitAt") (int →→ text →→ int);
            among =
                inr (inr (inr (inr (inr (inr (inr (inr (
                inr (inr (inr (inr (inr (inr (inr (inr (inr (inl refl)))))))))))))))));
            home_is = refl;
            name_is = refl;
            typed = inl refl;
            renamed = refl;
            ordered = refl;
          },
          (
            record {
              row_ = row (codes "String") (codes "find") (text →→ int →→ text →→ int);
              among =
                  inr (inr (inr (inr (inr (inr (inr (inr (
                  inr (inr (inr (inr (inr (inr (inr (inr (inr (inr (inl refl))))))))))))))))));
              home_is = refl;
              name_is = refl;
              typed = inl refl;
              renamed = refl;
              ordered = refl;
            },
            tt,
          ),
        ),
      ),
    ),
  ),
)

looked : (home : Name) (rows : List Row) → AllByRecursion (IsRowOf home) rows → (x : Name) (p : Primitive) →
    look rows x ≡ Some p → IsRow home x p
looked home [] h x p e = absurd cc
looked home (r ∷ rows) h x p e = by (same_name x r.0) refl e (looked home rows h.1 x p)
  where
    by : (b : Bool) → same_name x r.0 ≡ b → (if b then Some r.1 else look rows x) ≡ Some p →
        (look rows x ≡ Some p → IsRow home x p) → IsRow home x p
    by true s f rest =
        let k : r.1 ≡ p = cc in
        subst (λ z. IsRow home z p) (sym (one_name x r.0 s)) (subst (IsRow home r.0) k h.0)
    by false s f rest = rest f

-- the rows of a module
abbrev Looks : Name → List Row → Type 0
Looks home rows = (x : Name) (p : Primitive) → look rows x ≡ Some p → IsRow home x p

chosen : (home known : Name) (rows others : List Row) → AllByRecursion (IsRowOf known) rows → Looks home others →
    Looks home (if same_name home known then rows else others)
chosen home known rows others h rest = by (same_name home known) refl
  where
    by : (b : Bool) → same_name home known ≡ b → Looks home (if b then rows else others)
    by true s x p e = subst (λ z. IsRow z x p) (sym (one_name home known s)) (looked known rows h x p e)
    by false s x p e = rest x p e

rows_are : (home : Name) → Looks home (rows_of home)
rows_are home =
    chosen home (codes "Basics") basics_rows _ basics_are
    (chosen home (codes "Bitwise") bitwise_rows _ bitwise_are
    (chosen home (codes "Char") char_rows _ char_are
    (chosen home (codes "Debug") debug_rows _ debug_are
    (chosen home (codes "String") string_rows [] string_are (λ x p e. absurd cc)))))

pub record IsNamed (r : Ref) (p : Primitive) : Type 0 where
  pub home : Name
  pub name : Name
  pub is : r ≡ Top home name
  pub found : IsRow home name p

pub named_row : (r : Ref) (p : Primitive) → primitive_of r ≡ Some p → IsNamed r p
named_row (Local x) p e = absurd cc
named_row (Top home x) p e = record { home = home; name = x; is = refl; found = rows_are home x p e }
