-- What one look at a page keeps of it.
use Rattle.std.specs.Prelude.{Bool, not, is_some, if◌then◌else◌}
use Rattle.page_layout.specs.Page.{Page}
use Rattle.page_layout.specs.Sound.{record_of, is_erased_page}
use Rattle.page_layout.specs.Bytes.{has_zero}
use Rattle.mount.specs.declared.format_survey.FreshLook.{FreshLook}

abbrev pub fresh_look_of : Page → FreshLook
fresh_look_of p = record { has_zero = has_zero p.spare; is_erased = is_erased_page p; is_sound = is_some (record_of p) }

abbrev pub is_look_used : Bool → FreshLook → Bool
is_look_used marked look = if marked then look.is_sound else not look.is_erased
