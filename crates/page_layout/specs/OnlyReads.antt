-- What a call on a source of pages leaves as it was, where it does nothing but read.
use Rattle.std.specs.Prelude.{◌≡◌, ◌≤◌, ℕ}
use Rattle.page_layout.specs.View.{View}

-- A CALL THAT ONLY READS, over any source: it programmed and erased nothing, the count of faults did not fall, and the source is as honest
-- and as calm as before
pub record OnlyReads {S : Type 0} (view : View S) (old new : S) : Type 0 where
  pub geometry_is : (view.flash new).geometry ≡ (view.flash old).geometry
  pub honest_is : view.honest new ≡ view.honest old
  pub calm_is : view.calm new ≡ view.calm old
  pub programs_are : view.programs new ≡ view.programs old
  pub erases_are : view.erases new ≡ view.erases old
  pub failed_is : view.failed old ≤ view.failed new
