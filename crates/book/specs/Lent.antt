-- The book as a call is lent it: one thing in every definition. Only what tests or reads a part of it takes it apart.
-- Assumes nothing.
use Rattle.std.specs.Prelude.{List, ℤ}

-- Document 01, "The book": b marks, the tolerance t, and the slices of held entries and of lines; request 04: "Each call is told the
-- version"
pub record Lent : Type 0 where
  pub version : ℤ
  pub b : ℤ
  pub t : ℤ
  pub held : List ℤ
  pub lines : List ℤ

abbrev pub lent : ℤ → ℤ → ℤ → List ℤ → List ℤ → Lent
lent version b t held lines = record { version = version; b = b; t = t; held = held; lines = lines }

-- the book with other lines, "and nothing else in the book changes"
abbrev pub with_lines : Lent → List ℤ → Lent
with_lines book new = record { version = book.version; b = book.b; t = book.t; held = book.held; lines = new }
