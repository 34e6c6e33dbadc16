-- What a line asks for, and what follows a call's name, by numbers.
use Rattle.std.specs.Prelude.{ℕ, List}

-- a call's number, PASSED or BAD, and how many fields follow the name
pub record Line : Type 0 where
  pub call : ℕ
  pub count : ℕ

-- a call's number, the least and the most number of fields, and the kinds of the first four, of which the fourth is that of every later field
pub record Call : Type 0 where
  pub number : ℕ
  pub least : ℕ
  pub most : ℕ
  pub kinds : List ℕ
