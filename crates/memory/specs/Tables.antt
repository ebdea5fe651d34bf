-- The tables of memory rows as plain data.
--   tables_of m   the lists and numbers that the tables hold, by which all else is said
use Rattle.memory_layout.specs.View.{View}
use Rattle.memory.specs.declared.tables.Memory.TheInside.{Inside}

abbrev pub tables_of : Inside → View
tables_of m = record { records = m.records.now; bytes = m.bytes.now; heads = m.heads; slots = m.slots; rows = m.rows; limit = m.limit; width = m.width; area = m.area; floor = m.floor }
