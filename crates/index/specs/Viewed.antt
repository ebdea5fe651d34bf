-- What a section of the code stands for, and what a slot does.
--   viewed s      the section as the archive sees it
--   slot_view o   a slot that holds a section, or none
use Rattle.std.specs.Prelude.{true, Some, None, Option}
use Rattle.index_layout.specs.Views.{View, free_view}
use Rattle.index.specs.Rows.{held, offsets_of, codes_of, buckets_of}
use Rattle.index.specs.declared.section.Section.{Section}

abbrev pub viewed : Section → View
viewed s = record {
  used = true;
  start = s.start;
  offsets = offsets_of (held s.rows);
  codes = codes_of (held s.rows);
  buckets = buckets_of (held s.rows);
}

abbrev pub slot_view : Option Section → View
slot_view None = free_view
slot_view (Some s) = viewed s
