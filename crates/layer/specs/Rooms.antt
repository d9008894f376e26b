-- Room for the most rows that a table may have: its rows, and behind them blank ones.
use Rattle.std.specs.Prelude.{◌≡◌, ℕ, ◌-◌, true, List, ◌++◌, length, take, replicate, pos}
use Rattle.calendar.specs.declared.rows.Row.{Row}
use Rattle.layer.specs.Tables.{most_rows, rows_fit}

abbrev pub blank : Row
blank = record { first = pos 0; number = 0 }

-- the room that rows take up
abbrev pub in_room : List Row → List Row
in_room rows = rows ++ replicate (most_rows - length rows) blank

-- the first rows of the room, so many, are those of a table: they fit, and the rest is blank
pub record Holds (room : List Row) (len : ℕ) : Type 0 where
  pub blank_behind : in_room (take len room) ≡ room
  pub filled : length (take len room) ≡ len
  pub fit : rows_fit (take len room) ≡ true
