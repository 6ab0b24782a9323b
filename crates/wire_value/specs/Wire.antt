-- Wire values: what crosses between a program and its host, as plain data. (JSON, RFC 8259, without fractions; texts as
-- in ECMA-262, 6.1.4.)
use Rattle.std.specs.Prelude.{ℤ, List, ℕ, Bool}

mutual
  pub data Wire : Type 0 where
    null : Wire
    bool : Bool → Wire
    -- a whole number
    int : ℤ → Wire
    -- a text, by its UTF-16 units
    text : List ℕ → Wire
    list : Wires → Wire
    -- an object, with its members in the order of their names' units, each name once
    object : Members → Wire

  pub data Wires : Type 0 where
    no_wire : Wires
    more_wires : Wire → Wires → Wires

  pub data Members : Type 0 where
    no_member : Members
    more_members : List ℕ → Wire → Members → Members
