-- What a page is: sound, erased, or neither.
use Rattle.std.specs.Prelude.{Bool, true, false, Option, Some, None}
use Rattle.page_layout.specs.declared.record.Record.{Record}
use Rattle.page_layout.specs.Page.{Page}
use Rattle.page_layout.specs.Sound.{record_of, is_erased_page}
use Rattle.page_layout.specs.declared.look.PageLook.{PageLook}
use Rattle.page_layout.specs.declared.look.PageLook.TheVariants.{Sound, Erased, Unsound}

-- by the page's record, if it has one, and whether it is erased
abbrev pub look_by : Option Record → Bool → PageLook
look_by (Some r) erased = Sound r
look_by None true = Erased
look_by None false = Unsound

-- what a page is: sound with its record, else as an erase leaves it, else neither
unfoldable pub look_of : Page → PageLook
look_of p = look_by (record_of p) (is_erased_page p)
