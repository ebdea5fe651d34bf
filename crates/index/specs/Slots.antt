-- What the index of the code stands for.
--   views x     its slots
--   no_views    slots that are all free
use Rattle.std.specs.Prelude.{List, map, replicate}
use Rattle.index_layout.specs.Views.{View, free_view, slot_count}
use Rattle.index.specs.Viewed.{slot_view}
use Rattle.index.specs.declared.index.Index.{Index}

abbrev pub views : Index → List View
views x = map slot_view x.slots

abbrev pub no_views : List View
no_views = replicate slot_count free_view
